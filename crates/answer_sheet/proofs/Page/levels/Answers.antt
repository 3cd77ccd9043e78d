-- The loop keeps: the first i levels are printed; each turn prints one more.
-- Assumes nothing.
use mathlib.Core.Path.{ap}
use native.Mathlib.Omega.{arith}
use borrow.Author.Rules.{rules}
use Rattle.views.specs.declared.Level.{Level}
use Rattle.text.specs.Text.{line_of, first_texts}
use Rattle.answer_sheet.specs.Sheet.{level_value}
use Rattle.answer_sheet.proofs.Pages.{printed_as, printed_no_texts, printed_more}
use Rattle.answer_sheet.proofs.Page.levels.Goals as goal

pub loop-i-init : goal.loop-i-init
loop-i-init c = printed_no_texts _ (search rules)

pub loop-i-preserved : goal.loop-i-preserved
loop-i-preserved c = printed_more _ c.loop-i.invariant (printed_as (ap (λ (l : Level). line_of c.args.key.now (level_value l)) c.level_in.ensures) c.level_line.ensures)

pub returns : goal.returns
returns c = printed_as (ap (first_texts _) (omega arith)) c.loop-i.invariant
