-- An edition comes back from its number as it went in.
-- Assumes nothing.
use mathlib.Core.Path.{◌≡◌, refl}
use Rattle.facts.specs.Pick.{pick}
use Rattle.editions.specs.declared.Edition.{Edition}
use Rattle.editions.specs.Editions.{number_of, edition_of}

pub edition_back : (v : Edition) → edition_of (number_of v) ≡ v
unfolding edition_of pick
edition_back Edition.V13 = refl
edition_back Edition.V13b = refl
