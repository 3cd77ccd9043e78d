-- A byte below 32 or above 126 is shown as a full stop, and any other as it is.
-- Assumes nothing.
use native.Mathlib.Omega.{arith}
use Rattle.text.proofs.TickerLaws.{shown_same, shown_below, shown_above}
use Rattle.text.proofs.shown.Goals as goal

pub returns-in-32-to-126 : goal.returns-in-32-to-126
returns-in-32-to-126 c = shown_same c.args.x (omega arith) (omega arith)

pub returns-in_default : goal.returns-in_default
returns-in_default c = shown_below c.args.x (omega arith)

pub returns-in_default-2 : goal.returns-in_default-2
returns-in_default-2 c = shown_above c.args.x (omega arith)
