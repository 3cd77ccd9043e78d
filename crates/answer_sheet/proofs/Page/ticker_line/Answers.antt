-- The key, the ticker and a line feed.
-- Assumes nothing.
use Rattle.text.specs.Text.{line_of}
use Rattle.answer_sheet.specs.Keys.{ticker_key}
use Rattle.answer_sheet.proofs.Pages.{printed_then}
use Rattle.answer_sheet.proofs.Page.ticker_line.Goals as goal

pub returns : goal.returns
unfolding line_of ticker_key
returns c = printed_then c.bytes.ensures (printed_then c.ticker.ensures c.byte.ensures)
