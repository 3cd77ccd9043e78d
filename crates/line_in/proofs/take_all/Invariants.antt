-- What is left of the words comes to what all of them come to, and each turn leaves fewer.
-- Assumes nothing.
use Rattle.std.proofs.Common.{◌≡◌, Ok, length}
use Rattle.spans.specs.Spans.{uncommented}
use Rattle.spans.specs.Left.{words_left}
use Rattle.line_in.specs.Lines.{take_all}
use Rattle.line_in.proofs.take_all.Given as goal

abbrev pub invariant-loop-left : goal.invariant-loop-left
invariant-loop-left l = take_all (uncommented (words_left l.left)) (Ok l.draft) ≡ take_all (uncommented (words_left l.fn.words)) (Ok l.fn.start)

abbrev pub decreases-loop-left : goal.decreases-loop-left
decreases-loop-left l = length (words_left l.left)
