-- Each call stores one text behind the one before, so that what stands there is all of them.
-- Assumes nothing.
use Rattle.numbers.proofs.Texts.{laid_is}
use borrow.Author.Rules.{rules}
use Rattle.numbers.proofs.laid.Goals as goal

pub returns : goal.returns
returns c = rw (c.put.ensures, c.put_at-3.ensures, c.put_at-2.ensures, c.put_at.ensures) (laid_is c.args.ticker c.args.opening c.args.closing c.args.last (search rules) (search rules) (search rules))
