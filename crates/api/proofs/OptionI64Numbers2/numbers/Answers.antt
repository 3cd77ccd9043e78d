-- A spread is held by its bits.
-- Assumes nothing.
use borrow.Author.Rules.{rules}
use mir.Syntax.{w64}
use mir.ValLaws.{to_z-of_z}
use Rattle.api.proofs.Bits.{bits_are}
use Rattle.api.proofs.OptionI64Numbers2.numbers.Goals as goal

pub returns-in-Some : goal.returns-in-Some
returns-in-Some c = rw (c.in-Some.is, c.cast_unsigned.ensures, to_z-of_z w64 c.in-Some.z (search rules), bits_are)
