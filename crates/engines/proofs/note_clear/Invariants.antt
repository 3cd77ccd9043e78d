-- What row i on leaves of the index is what all rows leave.
-- Assumes nothing.
use Rattle.std.proofs.Common.{◌≡◌, drop}
use Rattle.rows.specs.Rows.{rows, row_count}
use Rattle.index.specs.Index.{each_row}
use Rattle.engines.specs.Engines.{left}
use Rattle.engines.proofs.note_clear.Given as goal

abbrev pub invariant-loop-i : goal.invariant-loop-i
invariant-loop-i l = record {
  end : l.i-end ≡ row_count l.t;
  rest : each_row (left l.symbol) 0 (rows l.t) l.initial.ix ≡ each_row (left l.symbol) l.i (drop l.i (rows l.t)) l.ix;
}
