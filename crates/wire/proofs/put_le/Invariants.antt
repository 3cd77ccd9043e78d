-- The loop keeps: what is left of the number, stored from here on, gives as many of its bytes as are reached, stored.
-- Assumes nothing.
use mathlib.Core.Path.{◌≡◌}
use Prim.Native.Nat.{◌-◌}
use lib.ListN.{length}
use lib.Seq.{sets}
use Rattle.wire.specs.Le.{to_le}
use Rattle.wire.proofs.put_le.Given as goal

abbrev pub invariant-loop-x : goal.invariant-loop-x
invariant-loop-x l = sets l.x-items l.x-index (to_le (length l.x-items - l.x-index) l.v) ≡ sets l.initial.x-items 0 (to_le (length l.initial.x-items) l.n)
