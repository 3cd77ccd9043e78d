-- What is entered from row i on gives what all rows give.
-- Assumes nothing.
use Rattle.std.proofs.Common.{◌≡◌, drop}
use Rattle.rows.specs.Rows.{rows, row_count}
use Rattle.index.specs.Index.{entered, each_row}
use Rattle.index.proofs.enter_rows.Given as goal

abbrev pub invariant-loop-i : goal.invariant-loop-i
invariant-loop-i l = record {
  end : l.i-end ≡ row_count l.t;
  rest : each_row entered 0 (rows l.t) l.initial.ix ≡ each_row entered l.i (drop l.i (rows l.t)) l.ix;
}
