-- Four lines; the stop is a field of eight bits.
-- Assumes nothing.
use borrow.Author.Rules.{rules}
use Rattle.facts.specs.Pieces.{join}
use Rattle.answer_sheet.specs.Keys.{bad_key, next_key, stop_key}
use Rattle.answer_sheet.specs.Lines.{plain, line_text, text_of}
use Rattle.answer_sheet.specs.Sheet.{head_lines}
use Rattle.answer_sheet.proofs.Pages.{printed_then, printed_last}
use Rattle.answer_sheet.proofs.Page.head.Goals as goal

pub returns : goal.returns
unfolding head_lines text_of line_text plain join bad_key next_key stop_key
returns c = (printed_then c.recording_line.ensures (printed_then c.line.ensures (printed_then c.line-2.ensures (printed_last c.line-3.ensures))), search rules)
