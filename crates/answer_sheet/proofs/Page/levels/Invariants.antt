-- The loop keeps: the first i levels are printed; each turn prints one more.
-- Assumes nothing.
use Rattle.text.specs.Text.{line_of, first_texts}
use Rattle.answer_sheet.specs.Page.{Printed}
use Rattle.answer_sheet.specs.Sheet.{level_value, level_at}
use Rattle.answer_sheet.proofs.Page.levels.Given as goal

abbrev pub invariant-loop-i : goal.invariant-loop-i
invariant-loop-i l = Printed l.initial.self (first_texts (λ j. line_of l.key (level_value (level_at l.run j))) l.i) l.self
