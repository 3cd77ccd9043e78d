-- Each case of the definition; a signed number is its own bits read back.
-- Assumes nothing.
use mathlib.Core.Path.{ap}
use mir.Syntax.{w64}
use mir.ValLaws.{to_z-of_z}
use borrow.Author.Rules.{rules}
use Rattle.text.specs.Text.{signed_of}
use Rattle.answer_sheet.specs.Keys.{none_word}
use Rattle.answer_sheet.specs.Sheet.{spread_word}
use Rattle.answer_sheet.proofs.Pages.{printed_as}
use Rattle.answer_sheet.proofs.Page.spread_word.Goals as goal

pub returns-in-Some : goal.returns-in-Some
unfolding spread_word
returns-in-Some c = rw c.in-Some.is (printed_as (ap signed_of (to_z-of_z w64 c.in-Some.z (search rules))) c.signed.ensures)

pub returns-in-None : goal.returns-in-None
unfolding spread_word none_word
returns-in-None c = rw c.in-None.is c.bytes.ensures
