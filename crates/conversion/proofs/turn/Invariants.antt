-- The loop keeps: the packets before `at` are passed on, what follows is as it was, and both together come to the whole (Went); no count is above `at` (Few).
-- Assumes nothing.
use Prim.Native.Nat.{◌-◌, ◌≤◌}
use mathlib.Core.Path.{◌≡◌}
use lib.ListN.{length}
use Rattle.retype.specs.Retyped.{asked_of}
use Rattle.conversion.proofs.Pieces.{Few, Went}
use Rattle.conversion.proofs.turn.Given as goal

abbrev pub invariant-loop-b : goal.invariant-loop-b
invariant-loop-b l = (l.at ≤ length l.b) × (length l.b ≡ length l.initial.b) × Few l.t l.at × Went l.from (asked_of l.a) l.initial.b l.b l.at l.t

abbrev pub decreases-loop-b : goal.decreases-loop-b
decreases-loop-b l = length l.b - l.at
