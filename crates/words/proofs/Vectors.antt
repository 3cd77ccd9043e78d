-- Words behind `--type`, each computed from the definition: those of docs/CONVERT.md, and those at the edges of what it says.
-- Assumes nothing.
use mathlib.Core.Path.{◌≡◌, refl}
use mathlib.Core.List.{[], ◌∷◌}
use Rattle.std.specs.Prelude.{Some, None}
use Rattle.facts.specs.Pick.{pick, both}
use Rattle.wire.specs.Le.{to_le}
use Rattle.words.specs.Types.{all_from, decimal_from, by_id, by_ticker, id_asked, exception_asked, type_asked}
use Rattle.words.specs.declared.TypeWord.{TypeWord}

-- "--type E"
pub letter_is : type_asked (69 ∷ []) ≡ Some (TypeWord.All 69)
unfolding type_asked pick
letter_is = refl

-- "--type 7=F"
pub id_is : type_asked (55 ∷ 61 ∷ 70 ∷ []) ≡ Some (TypeWord.Exception (0 ∷ 7 ∷ 0 ∷ 0 ∷ 0 ∷ 0 ∷ 0 ∷ 0 ∷ 0 ∷ 0 ∷ 0 ∷ 0 ∷ 70 ∷ []))
unfolding type_asked exception_asked id_asked all_from decimal_from by_id to_le pick both
id_is = refl

-- "--type ABC=F"
pub ticker_is : type_asked (65 ∷ 66 ∷ 67 ∷ 61 ∷ 70 ∷ []) ≡ Some (TypeWord.Exception (1 ∷ 65 ∷ 66 ∷ 67 ∷ 32 ∷ 32 ∷ 32 ∷ 32 ∷ 32 ∷ 32 ∷ 32 ∷ 32 ∷ 70 ∷ []))
unfolding type_asked exception_asked all_from by_ticker pick both
ticker_is = refl

-- 04294967295=E: the largest ID, behind a zero
pub largest_is : type_asked (48 ∷ 52 ∷ 50 ∷ 57 ∷ 52 ∷ 57 ∷ 54 ∷ 55 ∷ 50 ∷ 57 ∷ 53 ∷ 61 ∷ 69 ∷ []) ≡ Some (TypeWord.Exception (0 ∷ 255 ∷ 255 ∷ 255 ∷ 255 ∷ 0 ∷ 0 ∷ 0 ∷ 0 ∷ 0 ∷ 0 ∷ 0 ∷ 69 ∷ []))
unfolding type_asked exception_asked id_asked all_from decimal_from by_id to_le pick both
largest_is = refl

-- 4294967296=E: one more, and no ticker either, though it has ten bytes
pub too_large_is : type_asked (52 ∷ 50 ∷ 57 ∷ 52 ∷ 57 ∷ 54 ∷ 55 ∷ 50 ∷ 57 ∷ 54 ∷ 61 ∷ 69 ∷ []) ≡ None
unfolding type_asked exception_asked id_asked all_from decimal_from pick both
too_large_is = refl

-- ABCDEFGHIJK=E: eleven bytes, and no space
pub eleven_is : type_asked (65 ∷ 66 ∷ 67 ∷ 68 ∷ 69 ∷ 70 ∷ 71 ∷ 72 ∷ 73 ∷ 74 ∷ 75 ∷ 61 ∷ 69 ∷ []) ≡ Some (TypeWord.Exception (1 ∷ 65 ∷ 66 ∷ 67 ∷ 68 ∷ 69 ∷ 70 ∷ 71 ∷ 72 ∷ 73 ∷ 74 ∷ 75 ∷ 69 ∷ []))
unfolding type_asked exception_asked all_from by_ticker pick both
eleven_is = refl

-- ABCDEFGHIJKL=E: twelve
pub twelve_is : type_asked (65 ∷ 66 ∷ 67 ∷ 68 ∷ 69 ∷ 70 ∷ 71 ∷ 72 ∷ 73 ∷ 74 ∷ 75 ∷ 76 ∷ 61 ∷ 69 ∷ []) ≡ None
unfolding type_asked exception_asked all_from pick both
twelve_is = refl

-- "A B=E": a space is no byte of a ticker
pub space_is : type_asked (65 ∷ 32 ∷ 66 ∷ 61 ∷ 69 ∷ []) ≡ None
unfolding type_asked exception_asked all_from pick both
space_is = refl

-- "=E" has no name, "A7=" no type behind its sign, and a word of no byte has neither
pub no_name_is : type_asked (61 ∷ 69 ∷ []) ≡ None
unfolding type_asked pick both
no_name_is = refl

pub no_type_is : type_asked (65 ∷ 55 ∷ 61 ∷ []) ≡ None
unfolding type_asked pick both
no_type_is = refl

pub none_is : type_asked [] ≡ None
unfolding type_asked pick both
none_is = refl
