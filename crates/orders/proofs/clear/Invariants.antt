-- The loop keeps: the first i rows are wiped, the others and the rest as they were; a table is its rows and the rest.
-- Assumes nothing.
use mathlib.Core.Path.{◌≡◌}
use lib.ListN.{length}
use Rattle.facts.proofs.Lists.{map_to}
use Rattle.rows.specs.Rows.{rows, row_count, rest}
use Rattle.orders.specs.Work.{wiped}
use Rattle.orders.proofs.clear.Given as goal

abbrev pub invariant-loop-i : goal.invariant-loop-i
invariant-loop-i l = record {
  end : l.i-end ≡ row_count l.initial.t;
  size : length l.t ≡ length l.initial.t;
  rest : rest l.t ≡ rest l.initial.t;
  rows : rows l.t ≡ map_to (wiped l.symbol) l.i (rows l.initial.t);
}
