-- The count so far and the live rows among those left make the whole count; each turn takes one row off.
-- Assumes nothing.
use Rattle.std.proofs.Common.{◌≡◌, ◌≤◌, ◌+◌, drop, map}
use Rattle.facts.specs.Sums.{count_by}
use Rattle.rows.specs.Rows.{row_of, live}
use Rattle.rows.specs.Find.{count_live}
use Rattle.rows.proofs.count_live.Given as goal

abbrev pub invariant-loop-x : goal.invariant-loop-x
invariant-loop-x l = record {
  few : l.count ≤ l.x-index;
  counted : count_live (map row_of l.x-items) ≡ l.count + count_by live (drop l.x-index (map row_of l.x-items));
}
