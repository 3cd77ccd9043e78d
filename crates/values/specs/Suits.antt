-- Which bytes of a field its form can say (docs/TEXT.md, "Forms"): numbers stand in one, two, four or eight bytes, prices in eight, times in four, and text in any.
use Rattle.std.specs.Prelude.{ℕ, ◌≤◌, ◌≡◌, true, List, length}
use Rattle.wire.specs.Le.{field}
use Rattle.styles.specs.Widths.{suited}
use Rattle.styles.specs.declared.Style.{Style}

-- a price is at most "1,000,000,000" dollars, in millionths
abbrev pub Suits : Style → List ℕ → Type 0
Suits Style.Number v = suited (length v) ≡ true
Suits Style.Price v = (length v ≡ 8) × (field v 0 8 ≤ 1000000000000000)
Suits Style.Clock v = length v ≡ 4
Suits Style.Text v = Unit {0}
