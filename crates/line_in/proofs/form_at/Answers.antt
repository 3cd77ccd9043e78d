-- A row of the message is the definition's field, which lies inside the longest body.
-- Assumes nothing.
use Rattle.std.proofs.Common.{arith}
use Rattle.keys.proofs.RowLaws.{rows_many, row_inside}
use Rattle.line_in.proofs.form_at.Goals as goal

pub returns-clause-inside : goal.returns-clause-inside
returns-clause-inside c =
    let rows = c.rows in
    let many = rows_many c.args.e c.args.k rows.result.now rows.ensures in
    row_inside c.args.e c.args.k rows.result.now rows.ensures _ c.args.i (omega arith)
