-- Where the symbol can be shown the ladder of its key is laid out; else the run stays.
-- Assumes nothing.
use mathlib.Core.Path.{sym, ◌∙◌}
use borrow.Author.Rules.{rules}
use Rattle.views.proofs.ViewLaws.{ladder_err, ladder_ok}
use Rattle.views.proofs.ladder.Goals as goal

pub returns-in_err-viewable : goal.returns-in_err-viewable
returns-in_err-viewable c = search (rules, ladder_err)

pub returns : goal.returns
returns c = let a = c.args in ladder_ok a.symbol a.orders.now a.symbols.now a.side a.out.now _ (sym c.viewable.ensures ∙ c.in_ok-viewable.was) _ _ (rw c.key_of.ensures at c.ladder_of.ensures)
