-- Three appends, each where the one before ended.
-- Assumes nothing.
use borrow.Author.Rules.{rules}
use Rattle.text.specs.Text.{line_of}
use Rattle.text.proofs.Laws.{wrote_then}
use Rattle.text.proofs.line.Goals as goal

pub returns : goal.returns
unfolding line_of
returns c = search (rules, wrote_then)
