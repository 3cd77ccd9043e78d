-- The head, the lines of the tables with the counts that were handed in, and the entries.
-- Assumes nothing.
use Rattle.answer_sheet.specs.Sheet.{lines_of, sheet_of}
use Rattle.answer_sheet.proofs.Exits.{sizes_lines}
use Rattle.answer_sheet.proofs.Lines.{lines_then}
use Rattle.answer_sheet.proofs.Pages.{printed_as}
use Rattle.answer_sheet.proofs.Page.all_lines.Goals as goal

pub returns : goal.returns
unfolding sheet_of lines_of
returns c =
    let a = c.args in
    let e = sizes_lines a.t.now.orders.now a.t.now.symbols.now _ a.t.now.sizes a.t.now.counted in
    (lines_then _ _ c.head.ensures.0 (lines_then _ _ (printed_as e c.table_lines.ensures.0) c.all_entries.ensures), c.head.ensures.1, c.table_lines.ensures.1)
