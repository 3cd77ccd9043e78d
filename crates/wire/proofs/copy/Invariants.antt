-- The loop keeps: each place below i holds the byte of the other there.
-- Assumes nothing.
use Rattle.std.proofs.Common.{ℕ, ◌≡◌, ◌<◌, length, get_or}
use Rattle.wire.proofs.copy.Given as goal

abbrev pub invariant-loop-i : goal.invariant-loop-i
invariant-loop-i l = (length l.out ≡ length l.s) × ((k : ℕ) → k < l.i → get_or l.out k 0 ≡ get_or l.s k 0)
