-- Request 10 in a packet: what a 1.3 reader makes of a packet that is good in 1.3.b.
use Rattle.std.specs.Prelude.{ℕ, ◌+◌, ◌≡◌, List, [], ◌∷◌, drop}
use Rattle.editions.specs.declared.Edition.{Edition}
use Rattle.wire.specs.Records.{Rec, bad}
use Rattle.fields.specs.Fields.{bad_at}
use Rattle.body.specs.Editions.{IsUpdate, Lettered, Unlettered}
use Rattle.packet.specs.Record.{body_of}
use Rattle.packet.specs.Packet.{framing}
use Rattle.packet.specs.Front.{Reached}
use Rattle.packet.specs.declared.Why.{Why}

-- "if no reserved byte 20 is `E` or `F`", of a packet's records
abbrev pub NoLetters : List Rec → Type 0
NoLetters [] = Unit {0}
NoLetters (c ∷ cs) = (Lettered c.body → ⊥) × NoLetters cs

-- no Symbol Update among them
abbrev pub NoUpdates : List Rec → Type 0
NoUpdates [] = Unit {0}
NoUpdates (c ∷ cs) = (IsUpdate c.body → ⊥) × NoUpdates cs

-- "or refuses": behind records that are good in 1.3 there is a Symbol Update without a letter, and the packet is refused with 4 at its byte 20, which lies 30 bytes into its record
pub record TypeRefused (p : List ℕ) : Type 0 where
  pub at : ℕ
  pub reached : Reached Edition.V13 p at
  pub unlettered : Unlettered (body_of (drop at p))
  pub refused : framing Edition.V13 p ≡ bad (Why.Placed (bad_at 4 (at + 30)))
