-- Worked examples, each computed from its definition: the numbers of document 01's sheet, the largest number, and tickers.
-- Assumes nothing.
use mathlib.Core.Path.{◌≡◌, refl}
use mathlib.Core.List.{[], ◌∷◌}
use lib.IntN.{negsuc}
use Rattle.facts.specs.Pick.{pick, both}
use Rattle.text.specs.Text.{digits_of, decimal_of, signed_of, trim_cons, trim_of, shown_of, ticker_of}

pub zero_is : decimal_of 0 ≡ 48 ∷ []
unfolding decimal_of digits_of pick
zero_is = refl

-- "second=34200"
pub second_is : decimal_of 34200 ≡ 51 ∷ 52 ∷ 50 ∷ 48 ∷ 48 ∷ []
unfolding decimal_of digits_of pick
second_is = refl

-- 2^64 - 1, all twenty digits
pub largest_is : decimal_of 18446744073709551615 ≡ 49 ∷ 56 ∷ 52 ∷ 52 ∷ 54 ∷ 55 ∷ 52 ∷ 52 ∷ 48 ∷ 55 ∷ 51 ∷ 55 ∷ 48 ∷ 57 ∷ 53 ∷ 53 ∷ 49 ∷ 54 ∷ 49 ∷ 53 ∷ []
unfolding decimal_of digits_of pick
largest_is = refl

-- P9: "spread -20000"
pub negative_is : signed_of (negsuc 19999) ≡ 45 ∷ 50 ∷ 48 ∷ 48 ∷ 48 ∷ 48 ∷ []
unfolding signed_of decimal_of digits_of pick
negative_is = refl

-- "ticker=ABC", from eleven bytes
pub ticker_is : ticker_of (65 ∷ 66 ∷ 67 ∷ 32 ∷ 32 ∷ 32 ∷ 32 ∷ 32 ∷ 32 ∷ 32 ∷ 32 ∷ []) ≡ 65 ∷ 66 ∷ 67 ∷ []
unfolding ticker_of trim_of trim_cons shown_of pick both
ticker_is = refl

-- a zero byte at the end is no space: it is shown, and so are the spaces before it
pub zero_byte_is : ticker_of (65 ∷ 66 ∷ 32 ∷ 32 ∷ 32 ∷ 32 ∷ 32 ∷ 32 ∷ 32 ∷ 32 ∷ 0 ∷ []) ≡ 65 ∷ 66 ∷ 32 ∷ 32 ∷ 32 ∷ 32 ∷ 32 ∷ 32 ∷ 32 ∷ 32 ∷ 46 ∷ []
unfolding ticker_of trim_of trim_cons shown_of pick both
zero_byte_is = refl
