-- Text of a line, and bytes that are no text in hex (docs/TEXT.md, "Forms").
use Rattle.std.specs.Prelude.{ℕ, ◌+◌, ◌-◌, ◌*◌, ◌/◌, ◌%◌, Bool, List, [], ◌∷◌, ◌++◌, length, drop, get_or, replicate, eqb, leb, Option, Some, None}
use Rattle.std.specs.Char.{digit_value, digit_char, is_digit}
use Rattle.std.specs.List.{list_all}
use Rattle.facts.specs.Pick.{pick, both}
use Rattle.words.specs.Types.{all_from}
use Rattle.text.specs.Text.{trim_of}

-- ---- hex
-- "two hexadecimal digits .., of any letter case"
abbrev pub all_hex : List ℕ → Bool
all_hex s = list_all (λ x. is_digit x 16) s

-- two digits a byte, the high one first
unfoldable pub unhex : List ℕ → List ℕ
unhex [] = []
unhex (x ∷ []) = []
unhex (x ∷ y ∷ s) = (16 * digit_value x + digit_value y) ∷ unhex s

-- "digits of lower case"
unfoldable pub hex_of : List ℕ → List ℕ
hex_of [] = []
hex_of (x ∷ v) = digit_char (x / 16) ∷ digit_char (x % 16) ∷ hex_of v

-- `0x`
abbrev pub hex_mark : List ℕ
hex_mark = 48 ∷ 120 ∷ []

abbrev pub is_marked : List ℕ → Bool
is_marked s = both (eqb (get_or s 0 0) 48) (eqb (get_or s 1 0) 120)

-- "one byte or more and each from 33 to 126"
unfoldable pub is_plain : List ℕ → Bool
is_plain s = both (leb 1 (length s)) (all_from 33 126 s)

-- "`0x` and exactly two hexadecimal digits for each of the w bytes"
unfoldable pub is_hex : ℕ → List ℕ → Bool
is_hex w s = both (eqb (length s) (2 + 2 * w)) (both (is_marked s) (all_hex (drop 2 s)))

-- the digits behind the mark
unfoldable pub digits_in : ℕ → List ℕ → Option (List ℕ)
digits_in w s = pick (is_hex w s) (Some (drop 2 s)) None

-- ---- reading: the bytes that a value says, or none
-- "one to w bytes, each from 33 to 126, with spaces (32) behind them"; that they are at most w, `text_in` asks
unfoldable pub plain_in : ℕ → List ℕ → Option (List ℕ)
plain_in w s = pick (is_plain s) (Some (s ++ replicate (w - length s) 32)) None

unfoldable pub hex_in : ℕ → List ℕ → Option (List ℕ)
hex_in w s = pick (is_hex w s) (Some (unhex (drop 2 s))) None

-- "The two cannot be taken for each other: `0x` and its digits are longer than the field"
unfoldable pub text_in : ℕ → List ℕ → Option (List ℕ)
text_in w s = pick (leb (length s) w) (plain_in w s) (hex_in w s)

-- ---- writing
-- "It is written as text where the field's bytes, without the spaces at their end, are one byte or more and each from 33 to 126; else as `0x` and 2 w digits"
unfoldable pub text_of : List ℕ → List ℕ
text_of v = pick (is_plain (trim_of v)) (trim_of v) (hex_mark ++ hex_of v)
