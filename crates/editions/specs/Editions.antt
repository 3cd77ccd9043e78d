-- The editions of the feed's specification (document 02, No. 10): "Our older recordings are version 1.3", and what came "from 1.3.a" on, 1.3.b included, which is one edition for reading.
use Rattle.std.specs.Prelude.{ℕ, eqb}
use Rattle.facts.specs.Pick.{pick}
use Rattle.editions.specs.declared.Edition.{Edition}

-- in lent memory an edition is a number
abbrev pub number_of : Edition → ℕ
number_of Edition.V13 = 1
number_of Edition.V13b = 0

-- and any number an edition: all but 1 mean the later one
unfoldable pub edition_of : ℕ → Edition
edition_of n = pick (eqb n 1) Edition.V13 Edition.V13b
