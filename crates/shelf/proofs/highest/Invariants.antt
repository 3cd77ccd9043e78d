-- The loop keeps: top is the largest number of the first i slots.
-- Assumes nothing.
use Rattle.std.proofs.Common.{◌≡◌}
use Rattle.arbitration.specs.Receive.{highest as highest_number}
use Rattle.shelf.specs.Store.{shelf_store}
use Rattle.shelf.proofs.highest.Given as goal

abbrev pub invariant-loop-i : goal.invariant-loop-i
invariant-loop-i l = l.top ≡ highest_number shelf_store l.i l.s
