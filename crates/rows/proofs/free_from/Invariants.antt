-- The search from row i on, over the rows left, gives what the search from row s on gives.
-- Assumes nothing.
use Rattle.std.proofs.Common.{◌≡◌, drop}
use Rattle.facts.specs.Search.{first}
use Rattle.rows.specs.Rows.{rows, row_count, free}
use Rattle.rows.proofs.free_from.Given as goal

abbrev pub invariant-loop-i : goal.invariant-loop-i
invariant-loop-i l = record {
  end : l.i-end ≡ row_count l.t;
  rest : first free l.s (drop l.s (rows l.t)) ≡ first free l.i (drop l.i (rows l.t));
}
