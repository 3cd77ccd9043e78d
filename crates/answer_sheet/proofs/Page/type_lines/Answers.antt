-- A line in 1.3; later nothing is printed.
-- Assumes nothing.
use borrow.Author.Rules.{rules}
use Rattle.facts.specs.Pieces.{join}
use Rattle.text.specs.Text.{line_of}
use Rattle.answer_sheet.specs.Keys.{type_key}
use Rattle.answer_sheet.specs.Lines.{plain, line_text, text_of}
use Rattle.answer_sheet.specs.Sheet.{type_lines}
use Rattle.answer_sheet.proofs.Pages.{printed_none, printed_then, printed_last}
use Rattle.answer_sheet.proofs.Page.type_lines.Goals as goal

pub returns-in-Some : goal.returns-in-Some
unfolding type_lines text_of line_text plain line_of join type_key
returns-in-Some c = rw (c.in-Some.is, ← c.shown.ensures) (printed_last (printed_then c.bytes.ensures (printed_then c.byte.ensures c.byte-in-Some.ensures)))

pub returns-in_default : goal.returns-in_default
unfolding type_lines text_of join
returns-in_default c = rw c.in_default.is (printed_none (search rules))
