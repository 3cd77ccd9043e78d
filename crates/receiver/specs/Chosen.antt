-- "Demands 2 and 3 are read per edition, for a run that keeps the one chosen" (request 10): the calls of `receive` that a caller makes, each by the edition that its state has. And of
-- both engines (request 9): the demand speaks of document 01's tables, and the index that a caller lends, if any, is the one that a start makes. Demand 3 is said of them by Demand3.
use Rattle.std.specs.Prelude.{◌≡◌, true, ℕ, List, length}
use Rattle.editions.specs.declared.Edition.{Edition}
use Rattle.engines.specs.Engines.{good_index}
use Rattle.receiver.specs.Demand3.{Calls, Demand3}
use Rattle.receiver.specs.Lent.{plain, Lent, orders_of, index_of, plain_of, start_index, received, received_all, zero_book}

-- a receiver of the edition ed, with no index or with the one that a start made
pub record Begins (ed : Edition) (k : Lent) : Type 0 where
  pub edition_is : k.edition ≡ ed
  pub index_good : good_index (length (index_of k)) ≡ true
  pub index_made : index_of k ≡ start_index (length (index_of k)) (length (orders_of k))

abbrev pub calls_in : (ed : Edition) → Calls (plain ed)
calls_in ed = record { Kept = Lent; seen = plain_of; begins = Begins ed; answers = λ k p. (received k p).answer; leaves = λ k p. (received k p).after; calls = received_all }

-- demand 3 of them, on the list ms, with tables of o numbers and s bytes; two receivers of which one has an index and the other none are two such receivers
-- What was answered is asked of the run without an index; the receiver's own answers are the same (`answered_same`, proofs/Engines.antt)
abbrev pub Chosen : Edition → List (List ℕ) → ℕ → ℕ → Type 0
Chosen ed ms o s = Demand3 (plain ed) (calls_in ed) ms (zero_book o s)
