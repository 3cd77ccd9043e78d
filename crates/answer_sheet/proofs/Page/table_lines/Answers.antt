-- Three lines; the second is an argument of 32 bits.
-- Assumes nothing.
use borrow.Author.Rules.{rules}
use Rattle.facts.specs.Pieces.{join}
use Rattle.answer_sheet.specs.Keys.{second_key, symbols_key, orders_key}
use Rattle.answer_sheet.specs.Lines.{plain, line_text, text_of}
use Rattle.answer_sheet.specs.Sheet.{table_lines}
use Rattle.answer_sheet.proofs.Pages.{printed_then, printed_last}
use Rattle.answer_sheet.proofs.Page.table_lines.Goals as goal

pub returns : goal.returns
unfolding table_lines text_of line_text plain join second_key symbols_key orders_key
returns c = (printed_then c.line.ensures (printed_then c.line-2.ensures (printed_last c.line-3.ensures)), search rules)
