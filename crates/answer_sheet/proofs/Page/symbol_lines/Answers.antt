-- Four lines, or three where there is no Security Type.
-- Assumes nothing.
use Rattle.text.specs.Text.{decimal_of, ticker_of}
use Rattle.answer_sheet.specs.Keys.{symbol_key, ticker_key, lot_key}
use Rattle.answer_sheet.specs.Lines.{plain, line_text}
use Rattle.answer_sheet.specs.Sheet.{type_lines, symbol_lines}
use Rattle.answer_sheet.proofs.Lines.{lines_between}
use Rattle.answer_sheet.proofs.Pages.{printed_as, printed_then}
use Rattle.answer_sheet.proofs.Page.symbol_lines.Goals as goal

pub returns : goal.returns
unfolding symbol_lines line_text plain symbol_key lot_key
returns c =
    let s = c.args.s in
    printed_as (lines_between (plain symbol_key (decimal_of s.id)) (plain ticker_key (ticker_of s.ticker)) (plain lot_key (decimal_of s.lot)) (type_lines c.args.y))
    (printed_then c.line.ensures (printed_then c.ticker_line.ensures (printed_then c.type_lines.ensures c.line-2.ensures)))
