-- "Both give the same answers and the same tables on every run from a start that leaves tables and index to them, refreshes included" (request 9): of `start` and of runs of calls.
use Rattle.std.specs.Prelude.{◌≡◌, ℕ, List, [], ◌∷◌}
use Rattle.receiver.specs.Lent.{Lent, plain_of, Handled, received, Begun}

-- ---- a start
-- two starts, refused or not: all but the index
pub record SameStarts (x x' : Begun) : Type 0 where
  pub answer : x.answer ≡ x'.answer
  pub orders : x.orders ≡ x'.orders
  pub symbols : x.symbols ≡ x'.symbols
  pub shelf : x.shelf ≡ x'.shelf

-- ---- a run
-- a call that it makes; the taking of a refresh (request 8) is one more case here and one more of `done`, and what is said of runs stays
pub data Call : Type 0 where
  packet : List ℕ → Call

-- what it answers and leaves
unfoldable pub done : Call → Lent → Handled
done (packet p) k = received k p

-- call after call; of packets alone it is `received_all` (`packets_done`, proofs/Engines.antt)
unfoldable pub done_all : List Call → Lent → Lent
done_all [] k = k
done_all (c ∷ cs) k = done_all cs (done c k).after

-- after any calls, the next one is answered alike by both; and both have the same tables, shelf and state, all but the index
pub record SameRuns (k k' : Lent) : Type 0 where
  pub answers : (cs : List Call) (c : Call) → (done c (done_all cs k)).answer ≡ (done c (done_all cs k')).answer
  pub tables : (cs : List Call) → plain_of (done_all cs k) ≡ plain_of (done_all cs k')
