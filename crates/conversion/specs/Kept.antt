-- What a conversion keeps: the words of theorems about it. No contract uses them.
use Rattle.std.specs.Prelude.{ℕ, ◌+◌, ◌≡◌, true, List, [], ◌∷◌, ◌++◌, map, get_or}
use Rattle.editions.specs.declared.Edition.{Edition}
use Rattle.wire.specs.Records.{Rec, rec, bad, records}
use Rattle.fields.specs.Fields.{bad_at}
use Rattle.packet.specs.Packet.{framing}
use Rattle.retype.specs.Retyped.{Asked, is_update, new_byte, retyped}
use Rattle.conversion.specs.Piece.{barred, passed, plus, Piece, piece}
use Rattle.conversion.specs.declared.Tally.{Tally}
use Rattle.packet.specs.declared.Why.{Why}

-- the same record in the edition asked for: its number as it is, its body with byte 20 of a Symbol Update as that edition has it
abbrev pub rec_to : Asked → Rec → Rec
rec_to a c = rec c.number (retyped a c.body)

abbrev pub recs_to : Asked → List Rec → List Rec
recs_to a cs = map (rec_to a) cs

-- "the types asked for are those it had, or its reserved bytes were 0": each Symbol Update has in byte 20 what is asked for
abbrev pub HasTypes : Asked → List Rec → Type 0
HasTypes a [] = Unit {0}
HasTypes a (c ∷ cs) = (is_update c.body ≡ true → get_or c.body 20 0 ≡ new_byte a c.body) × HasTypes a cs

-- n bytes of a piece that are done, what was counted of them, and then what becomes of the rest
abbrev pub after : List ℕ → ℕ → Tally → Piece → Piece
after front n t x = piece (n + x.done) (plus t x.counts) (front ++ x.bytes)

-- "the same packets are refused": a packet of a recording, and what it is passed on as
pub data Becomes (from : Edition) (a : Asked) (p : List ℕ) : Type 0 where
  taken : (cs : List Rec) → framing from p ≡ records cs → framing a.to (passed from a p).packet ≡ records (recs_to a cs) → Becomes from a p
  refused : (w v : Why) → framing from p ≡ bad w → framing a.to (passed from a p).packet ≡ bad v → Becomes from a p

-- "The last happens from 1.3 to 1.3.b alone": a packet p that its own edition refuses by w and the one asked for takes; 1.3 has refused it with 4 at a byte 20, and barred it is refused with 4 at the byte behind
pub record Barring (from : Edition) (a : Asked) (w : Why) (p : List ℕ) : Type 0 where
  pub from_13 : from ≡ Edition.V13
  pub to_13b : a.to ≡ Edition.V13b
  pub at : ℕ
  pub why_is : w ≡ Why.Placed (bad_at 4 at)
  pub barred_so : framing a.to (barred w p) ≡ bad (Why.Placed (bad_at 4 (at + 1)))
