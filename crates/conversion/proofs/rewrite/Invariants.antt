-- The loop keeps: what lies before `at` is rewritten and what follows is as it was (Walked), and so many Symbol Updates were met as the records before `at` have (Counted).
-- Assumes nothing.
use Prim.Native.Nat.{◌≤◌, ◌-◌}
use mathlib.Core.Path.{◌≡◌}
use Rattle.conversion.proofs.Turns.{Walked, Counted}
use lib.ListN.{length}
use Rattle.retype.specs.Retyped.{asked_of}
use Rattle.conversion.proofs.rewrite.Given as goal

abbrev pub invariant-loop-at : goal.invariant-loop-at
invariant-loop-at l = (l.at ≤ length l.p) × (length l.p ≡ length l.initial.p) × (l.updates ≤ l.at) × Walked (asked_of l.a) l.initial.p l.p l.at × Counted l.initial.p l.at l.updates

abbrev pub decreases-loop-at : goal.decreases-loop-at
decreases-loop-at l = length l.p - l.at
