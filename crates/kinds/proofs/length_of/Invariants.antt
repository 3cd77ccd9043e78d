-- The walk of the pairs that are left, with the length found so far, finds what the walk of all finds.
-- Assumes nothing.
use mathlib.Core.Path.{◌≡◌}
use lib.ListN.{drop}
use Rattle.kinds.specs.Table.{table}
use Rattle.kinds.proofs.Laws.{walked}
use Rattle.kinds.proofs.length_of.Given as goal

abbrev pub invariant-loop-m : goal.invariant-loop-m
invariant-loop-m l = walked l.t l.n (drop l.m-index table) ≡ walked l.t 0 table
