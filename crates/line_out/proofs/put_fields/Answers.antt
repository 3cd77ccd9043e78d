-- Each row is the definition's field at its place, so the texts are those of all fields.
-- Assumes nothing.
use Rattle.std.proofs.Common.{arith, rules}
use Rattle.text.proofs.Laws.{texts_none, texts_more, texts_all, wrote_as}
use Rattle.line_out.specs.Lines.{field_text}
use Rattle.keys.proofs.RowLaws.{row_inside, rows_many}
use Rattle.line_out.proofs.Laws.{text_is}
use Rattle.line_out.proofs.put_fields.Goals as goal

pub loop-row-init : goal.loop-row-init
loop-row-init c = texts_none (field_text c.args.e c.args.k c.args.b.now) (search rules)

pub put_field-o-requires : goal.put_field-o-requires
put_field-o-requires c =
    let a = c.args in
    let rows = c.rows-row-items in
    row_inside a.e a.k rows.result.now rows.ensures _ c.loop-row.row-index c.loop-row-test.true

pub loop-row-preserved : goal.loop-row-preserved
loop-row-preserved c =
    let a = c.args in
    let rows = c.rows-row-items in
    texts_more (field_text a.e a.k a.b.now) c.loop-row.invariant
    (wrote_as (text_is a.e a.k rows.result.now rows.ensures _ c.loop-row.row-index c.loop-row-test.true a.b.now _ c.blank_body-blank.ensures) c.put_field-o.ensures)

pub returns : goal.returns
returns c =
    let a = c.args in
    let rows = c.rows-row-items in
    let many = rows_many a.e a.k rows.result.now rows.ensures in
    texts_all (field_text a.e a.k a.b.now) (omega arith) (omega arith) c.loop-row.invariant
