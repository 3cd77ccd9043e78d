-- The least place so far and that of the rows left make the least of all; each turn takes one row off.
-- Assumes nothing.
use mathlib.Core.Path.{◌≡◌}
use Prim.Native.Nat.{min}
use lib.ListN.{drop}
use Rattle.rows.specs.Rows.{rows, row_count}
use Rattle.views.proofs.Laws.{least}
use Rattle.views.proofs.nearest.Given as goal

abbrev pub invariant-loop-i : goal.invariant-loop-i
invariant-loop-i l = record {
  all : l.i-end ≡ row_count l.t;
  left : min l.best (least l.key l.low (drop l.i (rows l.t))) ≡ least l.key l.low (rows l.t);
}
