-- How many bytes the field of a form has (docs/TEXT.md, "Forms").
use Rattle.std.specs.Prelude.{ℕ, Bool, ◌||◌, ◌==◌, leb}
use Rattle.styles.specs.declared.Style.{Style}

-- "255 in one byte, 65,535 in two, 4,294,967,295 in four, 18,446,744,073,709,551,615 in eight"
unfoldable pub suited : ℕ → Bool
suited w = (w == 1) || ((w == 2) || ((w == 4) || (w == 8)))

-- a price has eight bytes, a clock four, a text at least one
unfoldable pub wide : Style → ℕ → Bool
wide Style.Number w = suited w
wide Style.Price w = w == 8
wide Style.Clock w = w == 4
wide Style.Text w = leb 1 w
