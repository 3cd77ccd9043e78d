-- A ladder without a fault is told; the run holds its first ten levels, and their lines are those of the side.
-- Assumes nothing.
use mathlib.Core.Path.{refl}
use native.Mathlib.Omega.{arith}
use borrow.Author.Rules.{rules}
use Rattle.answer_sheet.specs.Sheet.{levels_shown}
use Rattle.answer_sheet.proofs.Pages.{printed_as}
use Rattle.answer_sheet.proofs.Views.{ladder_told, ladder_lines}
use Rattle.answer_sheet.proofs.Page.side_lines.Goals as goal

pub unwrap-n-requires : goal.unwrap-n-requires
unwrap-n-requires c =
    let a = c.args in
    rw (ladder_told a.side a.id a.t.now.orders.now a.t.now.symbols.now _ c.requires _ _ c.ladder.ensures) (search rules)

pub returns : goal.returns
unfolding levels_shown
returns c =
    let a = c.args in
    printed_as (ladder_lines a.side a.id a.t.now.orders.now a.t.now.symbols.now _ c.requires _ _ c.ladder.ensures _ c.side_key.ensures _ _ c.unwrap-n.ensures refl (omega arith)) c.levels.ensures
