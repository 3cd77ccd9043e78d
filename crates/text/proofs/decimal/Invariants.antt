-- The loop keeps: the digits of `rest`, then those in d from place i on, are the digits of n; each turn moves the lowest digit of `rest` over.
-- Assumes nothing.
use Prim.Native.Nat.{◌≤◌}
use mathlib.Core.Path.{◌≡◌}
use mathlib.Core.List.{◌++◌}
use lib.ListN.{length, drop}
use Rattle.text.specs.Text.{decimal_of}
use Rattle.text.proofs.decimal.Given as goal

abbrev pub invariant-loop-i : goal.invariant-loop-i
invariant-loop-i l = (l.buf ≡ l.fn.buf) × (length l.d ≡ 20) × (length (decimal_of l.rest) ≤ l.i) × (decimal_of l.rest ++ drop l.i l.d ≡ decimal_of l.n)
