-- The search from the end finds the last byte that is no space, or none where all are spaces.
-- Assumes nothing.
use borrow.Author.Rules.{rules}
use mathlib.Core.Path.{sym}
use Rattle.text.proofs.TickerLaws.{trim_last, trim_blank}
use Rattle.text.proofs.trimmed.Goals as goal

pub returns-in-Some : goal.returns-in-Some
returns-in-Some c = (search rules, trim_last _ _ (search rules) (search rules) (search rules))

pub returns-in-None : goal.returns-in-None
returns-in-None c = (search rules, sym (trim_blank c.args.s.now (search rules)))
