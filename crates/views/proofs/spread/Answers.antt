-- Where the symbol can be shown the spread is its own.
-- Assumes nothing.
use borrow.Author.Rules.{rules}
use Rattle.views.proofs.ViewLaws.{spread_err, spread_ok}
use Rattle.views.proofs.spread.Goals as goal

pub returns-in_err-viewable : goal.returns-in_err-viewable
returns-in_err-viewable c = search (rules, spread_err)

pub returns : goal.returns
returns c = search (rules, spread_ok)
