-- The three numbers stand at 3i, 3i + 1 and 3i + 2.
-- Assumes nothing.
use Rattle.answer_sheet.specs.Sheet.{level_at}
use mathlib.Core.Path.{refl}
use Rattle.answer_sheet.proofs.level_in.Goals as goal

pub returns : goal.returns
unfolding level_at
returns c = refl
