-- The key, the word and a line feed.
-- Assumes nothing.
use Rattle.text.specs.Text.{line_of}
use Rattle.answer_sheet.specs.Keys.{spread_key}
use Rattle.answer_sheet.proofs.Pages.{printed_then}
use Rattle.answer_sheet.proofs.Page.spread_line.Goals as goal

pub returns : goal.returns
unfolding line_of spread_key
returns c = printed_then c.bytes.ensures (printed_then c.spread_word.ensures c.byte.ensures)
