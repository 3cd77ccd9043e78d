-- What a receiver is made of. Its definitions (Receiver, Demand3) and their laws are over any such parts; the real ones are put in once, in Lent.
use Rattle.std.specs.Prelude.{ℕ, Bool, List, eqb}
use Rattle.facts.specs.Pick.{pick}
use Rattle.wire.specs.Records.{Frames}
use Rattle.arbitration.specs.Engine.{ok, broke, Engine, Store}
use Rattle.packet.specs.declared.Why.{Why}

-- a book with its rules: the rule that a message (its number, its body) breaks, 0 for none; the book after it; and which bodies are good
pub record Rules : Type 1 where
  pub Book : Type 0
  pub rule : ℕ → List ℕ → Book → ℕ
  pub after : ℕ → List ℕ → Book → Book
  pub good : List ℕ → Bool

-- the engine of the theory that they are
abbrev pub engine_of : Rules → Engine
engine_of R = record { Book = R.Book; apply = λ n b k. pick (eqb (R.rule n b k) 0) (ok (R.after n b k)) (broke (R.rule n b k)); good = R.good }

pub record Parts : Type 1 where
  -- where 64 slots lie
  pub store : Store
  pub rules : Rules
  -- how a packet is read
  pub frame : List ℕ → Frames Why
  -- no "table size outside these limits or not in whole rows" (6)
  pub sized : rules.Book → store.Shelf → Bool
