-- The test chooses as the definition does.
-- Assumes nothing.
use Rattle.text.proofs.Laws.{wrote_as}
use Rattle.figures.proofs.FormLaws.{clock_day, clock_past}
use Rattle.figures.proofs.put_clock.Goals as goal

pub returns-then-n-lt-DAY : goal.returns-then-n-lt-DAY
returns-then-n-lt-DAY c = wrote_as (clock_day _ c.if-n-lt-DAY.true) c.put_hours.ensures

pub returns-else-n-lt-DAY : goal.returns-else-n-lt-DAY
returns-else-n-lt-DAY c = wrote_as (clock_past _ c.if-n-lt-DAY.false) c.decimal.ensures
