-- What the digits from here on say behind n is what all of them say.
-- Assumes nothing.
use mathlib.Core.Path.{◌≡◌}
use Prim.Native.Nat.{◌≤◌}
use lib.ListN.{drop}
use Rattle.words.specs.Types.{decimal_from}
use Rattle.words.proofs.decimal_of.Given as goal

abbrev pub invariant-loop-x : goal.invariant-loop-x
invariant-loop-x l = (l.n ≤ 4294967295) × (decimal_from 0 l.s ≡ decimal_from l.n (drop l.x-index l.s))
