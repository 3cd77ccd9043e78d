-- Request 6 of document 02, "Nanoseconds of a second": the words for what it says. The request's Timestamp is document 01's "nanoseconds 1-4". The range itself is `nanos_ok` (Ranges), and
-- stands beside its field (Faults).
use Rattle.std.specs.Prelude.{ℕ, ◌<◌, ◌≡◌, Bool, true, false, List, length, get_or, drop}
use Rattle.facts.specs.Limits.{most_nanos}
use Rattle.wire.specs.Le.{field}
use Rattle.kinds.specs.Table.{kind_of}
use Rattle.kinds.specs.declared.Kind.{Kind}
use Rattle.body.specs.Read.{framed}

-- "every message that carries the field": all but System Time, whose seconds are no nanoseconds
abbrev pub carries_stamp : Kind → Bool
carries_stamp Kind.SystemTime = false
carries_stamp Kind.SymbolUpdate = true
carries_stamp Kind.SystemState = true
carries_stamp Kind.TradingStatus = true
carries_stamp Kind.SymbolClear = true
carries_stamp Kind.Add = true
carries_stamp Kind.Modify = true
carries_stamp Kind.Delete = true
carries_stamp Kind.Execution = true
carries_stamp Kind.Trade = true
carries_stamp Kind.TradeCancel = true
carries_stamp Kind.Unknown = false

abbrev pub stamped : List ℕ → Bool
stamped b = carries_stamp (kind_of (get_or b 0 0))

-- the Timestamp of such a body
abbrev pub stamp_of : List ℕ → ℕ
stamp_of b = field b 1 4

-- "A tap fault gave us 1,000,000,000 in a Timestamp": a whole message that carries the field, with more in it than the largest good value
pub record PastSecond (b : List ℕ) : Type 0 where
  pub whole : framed b ≡ true
  pub carries : stamped b ≡ true
  pub larger : most_nanos < stamp_of b

-- b with another Timestamp: the type byte, the length and all behind the field are the same
pub record Restamped (b c : List ℕ) : Type 0 where
  pub type_kept : get_or c 0 0 ≡ get_or b 0 0
  pub length_kept : length c ≡ length b
  pub behind_kept : drop 5 c ≡ drop 5 b
