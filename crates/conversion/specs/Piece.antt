-- A recording of one edition as a recording of another, a piece at a time: packets, each behind its length in two bytes.
use Rattle.std.specs.Prelude.{ℕ, zero, suc, ◌+◌, ◌^◌, ◌<◌, Bool, List, ◌++◌, length, take, drop, set, leb, Result, Ok, Err}
use Rattle.facts.specs.Pick.{pick, both}
use Rattle.editions.specs.declared.Edition.{Edition}
use Rattle.wire.specs.Le.{field}
use Rattle.wire.specs.Records.{bad, records}
use Rattle.fields.specs.Fields.{refusal}
use Rattle.packet.specs.Packet.{Framing, framing}
use Rattle.retype.specs.Retyped.{Asked}
use Rattle.conversion.specs.Packet.{rewritten, updates_in, judged_first}
use Rattle.conversion.specs.declared.Tally.{Tally}
use Rattle.conversion.specs.declared.Passed.{Passed}
use Rattle.packet.specs.declared.Why.{Why}
use Rattle.fields.specs.declared.Refusal.{Refusal}

-- ---- a packet of a recording
-- A packet that is refused is passed on as it is: the other edition's reader refuses it too. One reader refuses what the other takes: that of 1.3 a Symbol Update without a letter, by 4 at byte 20.
-- Passed on as it is, a receiver of 1.3.b would take records that the receiver of 1.3 never had; so its test indicator, the byte behind that one, is made 0, and it is refused with 4 there.
unfoldable pub barred : Why → List ℕ → List ℕ
barred (Why.Alone r) p = p
barred (Why.Placed f) p = set p (f.at + 1) 0

-- what became of it, and its bytes
pub record Passing : Type 0 where
  pub outcome : Passed
  pub packet : List ℕ

abbrev pub passing : Passed → List ℕ → Passing
passing o p = record { outcome = o; packet = p }

-- by what the reader of its own edition says to it, and that of the edition asked for
unfoldable pub passed_by : Asked → Framing → Framing → List ℕ → Passing
passed_by a (records cs) y p = passing (Passed.Rewritten (updates_in cs)) (rewritten a p)
passed_by a (bad w) (bad v) p = passing Passed.Unread p
passed_by a (bad w) (records cs) p = passing Passed.Barred (barred w p)

unfoldable pub passed : Edition → Asked → List ℕ → Passing
passed from a p = passed_by a (framing from p) (framing a.to p) p

-- ---- a piece
-- Symbol Updates that were rewritten, packets that were passed on unread, and packets that were barred
abbrev pub tally : ℕ → ℕ → ℕ → Tally
tally u n s = record { updates = u; unread = n; barred = s }

abbrev pub tally_of : Passed → Tally
tally_of (Passed.Rewritten n) = tally n 0 0
tally_of Passed.Unread = tally 0 1 0
tally_of Passed.Barred = tally 0 0 1

abbrev pub plus : Tally → Tally → Tally
plus t u = tally (t.updates + u.updates) (t.unread + u.unread) (t.barred + u.barred)

-- how many of its bytes are whole packets, each behind its length; what was counted; and all of its bytes
pub record Piece : Type 0 where
  pub done : ℕ
  pub counts : Tally
  pub bytes : List ℕ

abbrev pub piece : ℕ → Tally → List ℕ → Piece
piece n t b = record { done = n; counts = t; bytes = b }

-- a whole packet in front
unfoldable pub whole_front : List ℕ → Bool
whole_front t = both (leb 2 (length t)) (leb (2 + field t 0 2) (length t))

abbrev pub packet_in_front : List ℕ → List ℕ
packet_in_front t = take (field t 0 2) (drop 2 t)

-- its length as it is, the packet, and what follows
abbrev pub ahead : List ℕ → Passing → Piece → Piece
ahead t x y = piece (2 + (field t 0 2 + y.done)) (plus (tally_of x.outcome) y.counts) (take 2 t ++ (x.packet ++ y.bytes))

-- packet by packet from the front, at most so many; what is no whole packet stays as it is
unfoldable pub piece_from : Edition → Asked → ℕ → List ℕ → Piece
piece_from from a zero t = piece 0 (tally 0 0 0) t
piece_from from a (suc n) t = pick (whole_front t) (ahead t (passed from a (packet_in_front t)) (piece_from from a n (drop (2 + field t 0 2) t))) (piece 0 (tally 0 0 0) t)

-- (no piece has more packets than bytes)
unfoldable pub piece_of : Edition → Asked → List ℕ → Piece
piece_of from a t = piece_from from a (length t) t

-- an answer, and the piece after it
pub record Turned : Type 0 where
  pub answer : Result (ℕ × Tally) Refusal
  pub bytes : List ℕ

abbrev pub turned : Result (ℕ × Tally) Refusal → List ℕ → Turned
turned c b = record { answer = c; bytes = b }

abbrev pub pieced : Piece → Turned
pieced x = turned (Ok (x.done, x.counts)) x.bytes

-- what is asked for is judged first, as for a packet
unfoldable pub turned_to : Edition → Asked → List ℕ → Turned
turned_to from a t =
    judged_first a (λ n. turned (Err (refusal n)) t) (pieced (piece_of from a t))

-- document 01's number of each answer, 0 for a piece that was turned
abbrev pub pieced_number : Result (ℕ × Tally) Refusal → ℕ
pieced_number (Ok (n, t)) = 0
pieced_number (Err r) = r.number

-- ---- inside: no sum passes the largest number
abbrev pub Countable : Tally → Type 0
Countable t = (t.updates < 2 ^ 64) × (t.unread < 2 ^ 64) × (t.barred < 2 ^ 64)
