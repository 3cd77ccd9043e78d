-- Two prices are far below 2^63, so their signed difference loses nothing; its sign is that of the comparison.
-- Assumes nothing.
use mathlib.Core.Path.{◌≡◌, refl}
use mathlib.Core.Bool.{Bool, true, false, cond}
use Prim.Native.Nat.{max, ◌+◌, ℕ, zero, suc, ◌-◌, ◌≤◌}
use native.Mathlib.Nat.{add-zero}
use native.Mathlib.Omega.{arith}
use lib.Dec.{ltb}
use lib.IntN.{ℤ, nat_abs, +ℤ_invr, pos, negsuc, ◌-ℤ◌}
use lib.Signed.{mag, lt_z}
use mir.Syntax.{w64}
use mir.Val.{SFits, to_z}
use mir.ValLaws.{to_z_pos}
use borrow.Author.Tests.{ltb-true, ltb-false, le-ltb}
use Rattle.facts.specs.Limits.{most_price}

-- ---- its size
-- at most the larger of the two
pub minus_size : (a b : ℕ) → nat_abs (pos a -ℤ pos b) ≤ max a b
minus_size a zero = omega arith
minus_size a (suc b) = go (ltb a (suc b)) refl
  where
    go : (t : Bool) → ltb a (suc b) ≡ t → nat_abs (cond t (negsuc (suc b - suc a)) (pos (a - suc b))) ≤ max a (suc b)
    go true e = omega (arith, ltb-true a (suc b) e)
    go false e = omega arith

pub minus_top : (a b : ℕ) → a ≤ most_price → b ≤ most_price → nat_abs (pos a -ℤ pos b) ≤ most_price
minus_top a b h l = omega (arith, minus_size a b)

mag_abs : (z : ℤ) → mag z ≤ nat_abs z
mag_abs (pos n) = omega arith
mag_abs (negsuc n) = omega arith

pub minus_fits : (a b : ℕ) → a ≤ most_price → b ≤ most_price → SFits w64 (pos a -ℤ pos b)
minus_fits a b h l = record { sfits = omega (arith, minus_top a b h l, mag_abs (pos a -ℤ pos b)) }

pub price_signed : (a : ℕ) → a ≤ most_price → to_z w64 a ≡ pos a
price_signed a h = to_z_pos w64 a (omega arith)

-- ---- its sign
pub minus_below : (a b : ℕ) → lt_z (pos a -ℤ pos b) (pos 0) ≡ ltb a b
minus_below a zero = rw (add-zero a)
minus_below a (suc b) = go (ltb a (suc b))
  where
    go : (t : Bool) → lt_z (cond t (negsuc (suc b - suc a)) (pos (a - suc b))) (pos 0) ≡ t
    go true = refl
    go false = le-ltb (a - suc b) 0 (omega arith)

pub minus_same : (a b : ℕ) → a ≡ b → pos a -ℤ pos b ≡ pos 0
minus_same a b e = rw e (+ℤ_invr (pos b))

pub minus_zero : (a b : ℕ) → pos a -ℤ pos b ≡ pos 0 → a ≡ b
minus_zero a zero e = let z : a + 0 ≡ 0 = cc in omega arith
minus_zero a (suc b) e = go (ltb a (suc b)) refl e
  where
    go : (t : Bool) → ltb a (suc b) ≡ t → cond t (negsuc (suc b - suc a)) (pos (a - suc b)) ≡ pos 0 → a ≡ suc b
    go true l e = cc
    go false l e = let z : a - suc b ≡ 0 = cc in omega (arith, ltb-false a (suc b) l)
