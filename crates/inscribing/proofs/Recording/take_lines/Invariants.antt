-- Each turn passes a whole line with its line feed.
use Rattle.std.proofs.Common.{◌≤◌, length}
use Rattle.inscribing.proofs.Recording.take_lines.Given as goal

abbrev pub invariant-loop-n : goal.invariant-loop-n
invariant-loop-n g l = length l.rest ≤ length l.piece

abbrev pub decreases-loop-n : goal.decreases-loop-n
decreases-loop-n g l = length l.rest
