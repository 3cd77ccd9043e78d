-- What the walk from here on ends at, over the slots that are left, is what the whole walk ends at.
-- Assumes nothing.
use Rattle.std.proofs.Common.{ℕ, ◌≡◌, ◌+◌, ◌-◌, ◌%◌}
use Rattle.std.specs.Prelude.{Option}
use Rattle.index.specs.Index.{slots, hash, WalkEnds}
use Rattle.index.proofs.first_slot.Given as goal

abbrev pub invariant-loop-n : goal.invariant-loop-n
invariant-loop-n g l = record {
  start : l.start ≡ hash l.id;
  rest : (found : Option ℕ) → WalkEnds (goal.F-post g l.passes) (slots - l.n) l.ix ((l.start + l.n) % 32768) found → WalkEnds (goal.F-post g l.passes) slots l.ix (hash l.id) found;
}
