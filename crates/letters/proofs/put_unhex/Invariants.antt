-- Each byte so far is what its two digits say.
-- Assumes nothing.
use Rattle.std.proofs.Common.{◌≡◌, ℕ, ◌<◌, get_or}
use Rattle.letters.proofs.HexLaws.{byte_at}
use Rattle.letters.proofs.put_unhex.Given as goal

abbrev pub invariant-loop-i : goal.invariant-loop-i
invariant-loop-i l = (k : ℕ) → k < l.i → get_or l.out k 0 ≡ byte_at l.digits k
