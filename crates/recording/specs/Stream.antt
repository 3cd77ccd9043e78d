-- A recording that is heard by a receiver, in chunks of any size: its packets one after another, and what is counted of them (document 01, "The sheet").
use Rattle.std.specs.Prelude.{ℕ, ◌+◌, ◌-◌, min, Bool, List, [], ◌∷◌, ◌++◌, length, take, replicate, leb, ltb, Result, Ok, Err}
use Rattle.facts.specs.Pick.{pick, both, either}
use Rattle.fields.specs.Fields.{refusal, bad_at}
use Rattle.fields.specs.declared.Fault.{Fault}
use Rattle.facts.specs.Limits.{packet_most, hold_least}
use Rattle.arbitration.specs.declared.Counts.{Counts}
use Rattle.arbitration.specs.Receive.{no_counts}
use Rattle.arbitration.specs.Stream.{each}
use Rattle.receiver.specs.Receiver.{next_ok}
use Rattle.receiver.specs.Lent.{Lent, lent, orders_of, symbols_of, shelf_of, index_of, state_of, received, sizes_ok}
use Rattle.receiver.specs.declared.State.{State}
use Rattle.packet.specs.declared.Why.{Why}
use Rattle.fields.specs.declared.Refusal.{Refusal}
use Rattle.receiver.specs.declared.Account.{Account}
use Rattle.recording.specs.Carve.{Hearer, Carved, carved, carve}
use Rattle.recording.specs.declared.Stream.{Stream}

-- a count of 64 bits: one that would pass 2^64 - 1 stays there
unfoldable pub more : ℕ → ℕ → ℕ
more a b = min (a + b) 18446744073709551615

-- "the totals of each record answer"
unfoldable pub added : Counts → Counts → Counts
added t n = record { taken = more n.taken t.taken; old = more n.old t.old; far = more n.far t.far; repeated = more n.repeated t.repeated; differing = more n.differing t.differing }

-- what packets change: the counts, why the last refused packet was, and the receiver with what it is lent
pub record Standing : Type 0 where
  pub bad : ℕ
  pub last : Fault
  pub totals : Counts
  pub lent : Lent

abbrev pub standing : ℕ → Fault → Counts → Lent → Standing
standing b f n k = record { bad = b; last = f; totals = n; lent = k }

-- "A refused packet is counted as bad and passed over"
abbrev pub refused_for : Fault → Lent → Standing → Standing
refused_for f after k = standing (more k.bad 1) f k.totals after

-- by number and offset (request 5), and with offset 0 where the number stands alone
abbrev pub placed : Why → Fault
placed (Why.Alone r) = bad_at r.number 0
placed (Why.Placed f) = f

unfoldable pub noted : Result Account Why → Lent → Standing → Standing
noted (Ok a) after k = standing k.bad k.last (added a.counts k.totals) after
noted (Err w) after k = refused_for (placed w) after k

-- "A packet is 1 to 1,500 bytes": a longer one is refused by 1, unread
abbrev pub too_long : Standing → Standing
too_long k = refused_for (bad_at 1 0) k.lent k

unfoldable pub heard : List ℕ → Standing → Standing
heard p k = pick (ltb packet_most (length p)) (too_long k) (noted (received k.lent p).answer (received k.lent p).after k)

-- packet after packet
unfoldable pub hears : List (List ℕ) → Standing → Standing
hears [] k = k
hears (p ∷ ps) k = hears ps (heard p k)

-- an over-long packet is passed over, and is bad when its last byte has come
abbrev pub hearer : Hearer Standing
hearer = record { over = λ n. ltb packet_most n; give = heard; long = too_long }

abbrev pub Hearing : Type 0
Hearing = Carved Standing

abbrev pub hearing : List ℕ → ℕ → Standing → Hearing
hearing u n k = carved u n k

-- what one byte does
abbrev pub byte : ℕ → Hearing → Hearing
byte = carve hearer

-- ---- the stream of the code: its state by value, the tables and the lent buffer
abbrev pub standing_of : Stream → List ℕ → List ℕ → List ℕ → List ℕ → Standing
standing_of k o s h ix = standing k.bad k.last k.totals (lent o s h ix k.receiver)

abbrev pub hearing_of : Stream → List ℕ → List ℕ → List ℕ → List ℕ → List ℕ → Hearing
hearing_of k o s h ix w = hearing (take k.held w) k.skip (standing_of k o s h ix)

-- nothing held, nothing to pass over, nothing refused, nothing counted
abbrev pub opened : State → Stream
opened q = record { receiver = q; held = 0; skip = 0; bad = 0; last = bad_at 0 0; totals = no_counts }

-- "a recording that ends inside a length or packet gives `recording=cut`"
unfoldable pub cut : Stream → Bool
cut k = either (ltb 0 k.held) (ltb 0 k.skip)

-- "a lent buffer of 1,502 bytes or more for the unfinished packet (else 6, as also when the state claims more bytes held than the buffer has)"; 6 also where a receiver is refused by 6
unfoldable pub feedable : Stream → ℕ → ℕ → ℕ → ℕ → ℕ → Bool
feedable k o s h i w = both (both (sizes_ok o s h i) (next_ok k.receiver.next)) (both (leb hold_least w) (leb k.held w))

-- an answer, and what was lent after it
pub record Feeding : Type 0 where
  pub answer : Result Stream Refusal
  pub orders : List ℕ
  pub symbols : List ℕ
  pub shelf : List ℕ
  pub index : List ℕ
  pub hold : List ℕ

abbrev pub feeding : Result Stream Refusal → List ℕ → List ℕ → List ℕ → List ℕ → List ℕ → Feeding
feeding a o s h ix w = record { answer = a; orders = o; symbols = s; shelf = h; index = ix; hold = w }

-- document 01's number of each answer, 0 where nothing is refused
unfoldable pub fed_number : Result Stream Refusal → ℕ
fed_number (Ok k) = 0
fed_number (Err r) = r.number

abbrev pub stream_in : Hearing → Stream
stream_in x = record { receiver = state_of x.kept.lent; held = length x.unfinished; skip = x.skip; bad = x.kept.bad; last = x.kept.last; totals = x.kept.totals }

-- the stream after a chunk: in a buffer of w bytes the unfinished ones, and zeros behind them
unfoldable pub took : ℕ → Hearing → Feeding
took w x =
    feeding (Ok (stream_in x))
    (orders_of x.kept.lent) (symbols_of x.kept.lent) (shelf_of x.kept.lent) (index_of x.kept.lent)
    (x.unfinished ++ replicate (w - length x.unfinished) 0)

-- a chunk of any size, and a stream of any state with anything lent
unfoldable pub fed : Stream → List ℕ → List ℕ → List ℕ → List ℕ → List ℕ → List ℕ → Feeding
fed k o s h ix w chunk =
    pick (feedable k (length o) (length s) (length h) (length ix) (length w))
    (took (length w) (each byte chunk (hearing_of k o s h ix w)))
    (feeding (Err (refusal 6)) o s h ix w)
