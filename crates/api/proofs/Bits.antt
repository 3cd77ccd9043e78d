-- The bits of a number are 2^64 less its magnitude where it is below 0, else its magnitude.
-- Assumes nothing.
use mathlib.Core.Path.{◌≡◌, refl}
use native.Mathlib.Omega.{arith}
use lib.IntN.{ℤ, pos, negsuc}
use borrow.Author.Tests.{le-ltb}
use mir.Syntax.{w64}
use mir.Val.{of_z}
use Rattle.facts.specs.Pick.{pick}
use Rattle.api.specs.Calls.{bits_of}

pub bits_are : (z : ℤ) → of_z w64 z ≡ bits_of z
unfolding bits_of pick
bits_are (pos n) = rw (le-ltb n 0 (omega arith))
bits_are (negsuc k) = refl
