-- The loop keeps: the first i entries are printed; each turn prints one more.
-- Assumes nothing.
use mathlib.Core.Path.{◌≡◌}
use lib.ListN.{length}
use native.Mathlib.Omega.{arith}
use borrow.Author.Rules.{rules}
use Rattle.symbols.specs.Entries.{entries}
use Rattle.answer_sheet.proofs.Pages.{printed_as, printed_no_texts, printed_more}
use Rattle.answer_sheet.proofs.Views.{entries_are}
use Rattle.answer_sheet.proofs.Page.all_entries.Goals as goal

pub loop-i-init : goal.loop-i-init
loop-i-init c = printed_no_texts _ (search rules)

pub loop-i-preserved : goal.loop-i-preserved
loop-i-preserved c = printed_more _ c.loop-i.invariant c.entry_lines.ensures

pub returns : goal.returns
returns c =
    let a = c.args in
    let n : c.loop-i.i ≡ length (entries a.t.now.symbols.now) = omega arith in
    printed_as (entries_are a.e a.t.now.orders.now a.t.now.symbols.now _ n) c.loop-i.invariant
