-- How a number of 64 bits is shown, in how many bytes, and that no two are shown alike.
-- Assumes nothing.
use Prim.Native.Nat.{ℕ, suc, ◌^◌, ◌≤◌, ◌<◌}
use mathlib.Core.Path.{◌≡◌, sym, ap, ◌∙◌, subst}
use mathlib.Core.Bool.{Bool, true, false, cond}
use mathlib.Core.List.{List, [], ◌∷◌, ◌++◌}
use native.Mathlib.Omega.{arith}
use lib.ListN.{length, get_or, length-append}
use lib.IntN.{ℤ, pos, negsuc, nat_abs}
use lib.Signed.{lt_z}
use borrow.Author.Tests.{ltb-true}
use mir.Syntax.{w64}
use mir.Val.{SFits, to_z, of_z}
use mir.ValLaws.{to_z-of_z}
use Rattle.facts.specs.Limits.{most_price}
use Rattle.text.specs.Text.{decimal_of, signed_of}
use Rattle.text.proofs.DecimalLaws.{decimal_length, decimal_digits, decimal_some, decimal_same}

-- ---- a number as its bits hold it
abbrev pub back : ℤ → ℤ
back z = to_z w64 (of_z w64 z)

not_below : (n : ℕ) → SFits w64 (pos n) → lt_z (back (pos n)) (pos 0) ≡ true → ⊥
not_below n s t = omega (arith, ltb-true n 0 (subst (λ (z : ℤ). lt_z z (pos 0) ≡ true) (to_z-of_z w64 (pos n) s) t))

below : (k : ℕ) → SFits w64 (negsuc k) → lt_z (back (negsuc k)) (pos 0) ≡ false → ⊥
below k s t = omega (arith, ap {B = ℕ} (λ (b : Bool). cond b 1 0) (sym (ap (λ (z : ℤ). lt_z z (pos 0)) (to_z-of_z w64 (negsuc k) s)) ∙ t))

-- ---- how a sheet shows it, m being what a call answered for the magnitude
pub shows_neg : (z : ℤ) (m : ℕ) → SFits w64 z → m ≡ nat_abs (back z) → lt_z (back z) (pos 0) ≡ true → (45 ∷ []) ++ decimal_of m ≡ signed_of z
unfolding signed_of
shows_neg (pos n) m s e t = absurd (not_below n s t)
shows_neg (negsuc k) m s e t = ap (λ (n : ℕ). (45 ∷ []) ++ decimal_of n) (e ∙ ap nat_abs (to_z-of_z w64 (negsuc k) s))

pub shows_pos : (z : ℤ) (m : ℕ) → SFits w64 z → m ≡ nat_abs (back z) → lt_z (back z) (pos 0) ≡ false → decimal_of m ≡ signed_of z
unfolding signed_of
shows_pos (pos n) m s e t = ap decimal_of (e ∙ ap nat_abs (to_z-of_z w64 (pos n) s))
shows_pos (negsuc k) m s e t = absurd (below k s t)

-- ---- how long
-- a sign, and the digits of a number below 10^(k + 1)
pub signed_length : (k : ℕ) (z : ℤ) → nat_abs z < 10 ^ suc k → length (signed_of z) ≤ suc (suc k)
unfolding signed_of
signed_length k (pos n) h = omega (arith, decimal_length k n h)
signed_length k (negsuc n) h = omega (arith, length-append (45 ∷ []) (decimal_of (suc n)), decimal_length k (suc n) h)

-- a spread: the difference of two prices
pub spread_le : (z : ℤ) → nat_abs z ≤ most_price → length (signed_of z) ≤ 17
spread_le z h = signed_length 15 z (omega arith)

-- ---- no two numbers are shown alike
-- a decimal starts with no minus sign
unsigned : (m k : ℕ) → decimal_of m ≡ (45 ∷ []) ++ decimal_of k → ⊥
unsigned m k e = omega (arith, ap (λ (l : List ℕ). get_or l 0 0) e, (decimal_digits m 0 (decimal_some m)).0)

pub signed_same : (y z : ℤ) → signed_of y ≡ signed_of z → y ≡ z
unfolding signed_of
signed_same (pos m) (pos n) e = ap pos (decimal_same m n e)
signed_same (pos m) (negsuc k) e = absurd (unsigned m (suc k) e)
signed_same (negsuc j) (pos n) e = absurd (unsigned n (suc j) (sym e))
signed_same (negsuc j) (negsuc k) e = ap negsuc (let w : suc j ≡ suc k = decimal_same (suc j) (suc k) (cc) in omega arith)
