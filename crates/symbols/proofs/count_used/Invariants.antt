-- The count so far and the used entries among those left make the whole count; each turn takes one entry off.
-- Assumes nothing.
use Rattle.std.proofs.Common.{◌≡◌, ◌≤◌, ◌+◌, drop}
use Rattle.facts.specs.Sums.{count_by}
use Rattle.symbols.specs.Entries.{used}
use Rattle.symbols.specs.Find.{count_used}
use Rattle.symbols.proofs.count_used.Given as goal

abbrev pub invariant-loop-e : goal.invariant-loop-e
invariant-loop-e l = record {
  few : l.count ≤ l.e-index;
  counted : count_used l.e-items ≡ l.count + count_by used (drop l.e-index l.e-items);
}
