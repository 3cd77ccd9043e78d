-- The key, and three numbers.
-- Assumes nothing.
use Rattle.answer_sheet.proofs.Lines.{level_text}
use Rattle.answer_sheet.proofs.Pages.{printed_then, printed_as}
use Rattle.answer_sheet.proofs.Page.level_line.Goals as goal

pub returns : goal.returns
returns c = printed_as (level_text _ _) (printed_then c.bytes.ensures (printed_then c.number.ensures (printed_then c.number-2.ensures c.number-3.ensures)))
