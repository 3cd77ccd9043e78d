-- The levels left from low on, put from place j on, give what all levels put from the front give; each turn takes the nearest level off.
-- Assumes nothing.
use mathlib.Core.Path.{◌≡◌}
use Prim.Native.Nat.{◌+◌}
use lib.ListN.{length}
use Rattle.rows.specs.Rows.{rows}
use Rattle.views.specs.Ladder.{ladder}
use Rattle.views.proofs.Laws.{ladder_from}
use Rattle.views.proofs.Runs.{laid}
use Rattle.views.proofs.ladder_of.Given as goal

abbrev pub invariant-loop-d : goal.invariant-loop-d
invariant-loop-d l = (laid 0 (ladder l.key (rows l.orders)) l.initial.out ≡ laid l.j (ladder_from l.key (rows l.orders) l.low) l.out) × (length (ladder l.key (rows l.orders)) ≡ l.j + length (ladder_from l.key (rows l.orders) l.low))

abbrev pub decreases-loop-d : goal.decreases-loop-d
decreases-loop-d l = length (ladder_from l.key (rows l.orders) l.low)
