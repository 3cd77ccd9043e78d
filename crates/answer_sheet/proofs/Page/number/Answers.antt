-- A number, and a byte behind it.
-- Assumes nothing.
use Rattle.answer_sheet.specs.Sheet.{marked_of}
use Rattle.answer_sheet.proofs.Pages.{printed_then}
use Rattle.answer_sheet.proofs.Page.number.Goals as goal

pub returns : goal.returns
unfolding marked_of
returns c = printed_then c.decimal.ensures c.byte.ensures
