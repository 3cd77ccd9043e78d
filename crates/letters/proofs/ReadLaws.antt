-- What the tests of a value say of its answer: whether its bytes are text, whether they are marked digits of the right count, and what is then stored or written.
-- Assumes nothing.
use mathlib.Core.Bool.{true, false}
use mathlib.Core.List.{List, ◌++◌}
use mathlib.Core.Path.{◌≡◌, refl}
use Prim.Native.Nat.{ℕ}
use lib.ListN.{take}
use Rattle.facts.specs.Pick.{pick}
use Rattle.text.specs.Text.{trim_of}
use Rattle.letters.specs.Letters.{hex_of, hex_mark, is_plain, text_of}

-- ---- a field v whose first n bytes are those before the spaces at its end
module _ (v : List ℕ) (n : ℕ) (trim : take n v ≡ trim_of v) where
  pub as_text : is_plain (take n v) ≡ true → take n v ≡ text_of v
  unfolding text_of pick
  as_text e = rw (← trim, e) refl

  pub as_digits : is_plain (take n v) ≡ false → hex_mark ++ hex_of v ≡ text_of v
  unfolding text_of pick
  as_digits e = rw (← trim, e) refl
