-- The number n of the digits before i, at most the most, goes on as all the digits do; each turn takes one digit or finds that none of it is a number.
-- Assumes nothing.
use Rattle.figures.proofs.NumberLaws.{Read}
use Rattle.figures.proofs.number_in.Given as goal

abbrev pub invariant-loop-x : goal.invariant-loop-x
invariant-loop-x l = Read l.most l.s l.n l.x-index
