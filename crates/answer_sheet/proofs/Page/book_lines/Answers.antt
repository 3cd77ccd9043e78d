-- A spread without a fault is that of the rows; its line, then the bids, then the offers.
-- Assumes nothing.
use mathlib.Core.Path.{◌≡◌, sym, ap, ◌∙◌}
use mathlib.Core.List.{◌++◌}
use lib.IntN.{ℤ}
use borrow.Author.Rules.{rules}
use Rattle.std.specs.Prelude.{Option}
use Rattle.rows.specs.Rows.{rows}
use Rattle.views.specs.Spread.{spread_of}
use Rattle.views.specs.declared.Side.{Side}
use Rattle.views.proofs.ViewLaws.{spread_shown}
use Rattle.text.specs.Text.{line_of}
use Rattle.answer_sheet.specs.Keys.{spread_key}
use Rattle.answer_sheet.specs.Lines.{plain, line_text}
use Rattle.answer_sheet.specs.Sheet.{side_lines, spread_word, book_lines}
use Rattle.answer_sheet.proofs.Lines.{lines_first, lines_then}
use Rattle.answer_sheet.proofs.Pages.{printed_as}
use Rattle.answer_sheet.proofs.Page.book_lines.Goals as goal

pub unwrap-requires : goal.unwrap-requires
unwrap-requires c =
    let a = c.args in
    rw (c.spread.ensures, ← spread_shown a.id a.t.now.orders.now a.t.now.symbols.now c.requires) (search rules)

pub returns : goal.returns
unfolding book_lines line_text plain
returns c =
    let a = c.args in
    let rs = rows a.t.now.orders.now in
    let e : c.unwrap.result ≡ spread_of a.id rs = (let w = sym c.unwrap.ensures ∙ c.spread.ensures ∙ sym (spread_shown a.id a.t.now.orders.now a.t.now.symbols.now c.requires) in cc) in
    lines_first (plain spread_key (spread_word (spread_of a.id rs))) (side_lines Side.Buy a.id rs ++ side_lines Side.Sell a.id rs)
    (printed_as (ap (λ (x : Option ℤ). line_of spread_key (spread_word x)) e) c.spread_line.ensures)
    (lines_then (side_lines Side.Buy a.id rs) (side_lines Side.Sell a.id rs) c.side_lines.ensures c.side_lines-2.ensures)
