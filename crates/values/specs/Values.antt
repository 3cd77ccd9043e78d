-- The value of a field as a line has it, by its form (docs/TEXT.md, "Forms").
use Rattle.std.specs.Prelude.{ℕ, List, eqb, Option, option_map}
use Rattle.facts.specs.Pick.{pick}
use Rattle.wire.specs.Le.{to_le, field}
use Rattle.text.specs.Text.{decimal_of}
use Rattle.figures.specs.Figures.{number_in, price_in, price_text, clock_in, clock_text}
use Rattle.letters.specs.Letters.{text_in, text_of}
use Rattle.styles.specs.declared.Style.{Style}

-- "at most 255 in one byte, 65,535 in two, 4,294,967,295 in four, 18,446,744,073,709,551,615 in eight"
unfoldable pub most_of : ℕ → ℕ
most_of w = pick (eqb w 1) 255 (pick (eqb w 2) 65535 (pick (eqb w 4) 4294967295 18446744073709551615))

-- a number in the w bytes of its field
abbrev pub in_bytes : ℕ → Option ℕ → Option (List ℕ)
in_bytes w n = option_map (to_le w) n

-- the w bytes that a value of a form says, or none
unfoldable pub value_in : Style → ℕ → List ℕ → Option (List ℕ)
value_in Style.Number w s = in_bytes w (number_in (most_of w) s)
value_in Style.Price w s = in_bytes w (price_in s)
value_in Style.Clock w s = in_bytes w (clock_in s)
value_in Style.Text w s = text_in w s

-- the value that the bytes v of a field are written as; a number has at most eight of them
unfoldable pub value_text : Style → List ℕ → List ℕ
value_text Style.Number v = decimal_of (field v 0 8)
value_text Style.Price v = price_text (field v 0 8)
value_text Style.Clock v = clock_text (field v 0 8)
value_text Style.Text v = text_of v
