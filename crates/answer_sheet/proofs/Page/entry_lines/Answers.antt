-- A used entry's symbol is known, so no view of it is refused; an entry not in use has no lines.
-- Assumes nothing.
use mathlib.Core.Path.{sym, ap, ◌∙◌}
use mathlib.Core.List.{[], ◌++◌}
use lib.ListN.{get_or}
use borrow.Author.Rules.{rules}
use Rattle.fields.specs.declared.Symbol.{Symbol}
use Rattle.rows.specs.Rows.{rows}
use Rattle.symbols.specs.Entries.{entries}
use Rattle.views.specs.Views.{view_fault}
use Rattle.answer_sheet.specs.Lines.{text_of}
use Rattle.answer_sheet.specs.Sheet.{symbol_lines, book_lines}
use Rattle.answer_sheet.proofs.Exits.{sizes_good}
use Rattle.answer_sheet.proofs.Lines.{lines_then}
use Rattle.answer_sheet.proofs.Pages.{printed_as, printed_none}
use Rattle.answer_sheet.proofs.Views.{used_shown, unused_lines, used_lines}
use Rattle.answer_sheet.proofs.Page.entry_lines.Goals as goal

pub book_lines-requires : goal.book_lines-requires
book_lines-requires c =
    let u = sym c.is_used_at.ensures ∙ c.if-is_used_at.true in
    ap (λ (s : Symbol). view_fault s.id c.args.t.now.orders.now c.args.t.now.symbols.now) c.entry_at-s.ensures ∙ used_shown c.args.t.now.orders.now c.args.t.now.symbols.now c.args.i (sizes_good _ _ _ c.args.t.now.counted) u

pub returns-then-is_used_at : goal.returns-then-is_used_at
returns-then-is_used_at c =
    let u = sym c.is_used_at.ensures ∙ c.if-is_used_at.true in
    let rs = rows c.args.t.now.orders.now in
    let e = get_or (entries c.args.t.now.symbols.now) c.args.i [] in
    printed_as ((λ j. text_of (symbol_lines (c.security_at.ensures j) (c.entry_at-s.ensures j) ++ book_lines (c.entry_at-s.ensures j).id rs)) ∙ used_lines c.args.e rs e u)
    (lines_then _ _ c.symbol_lines.ensures c.book_lines.ensures)

pub returns-else-is_used_at : goal.returns-else-is_used_at
returns-else-is_used_at c =
    printed_as (unused_lines c.args.e (rows c.args.t.now.orders.now) (get_or (entries c.args.t.now.symbols.now) c.args.i []) (sym c.is_used_at.ensures ∙ c.if-is_used_at.false)) (printed_none (search rules))
