-- Comparing bytes, by the list's own recursion: the test holds of the same bytes and of no others.
-- Assumes nothing.
use Prim.Native.Nat.{ℕ, zero, suc, ◌<◌}
use mathlib.Core.Path.{◌≡◌, refl, sym, ap, ◌∙◌}
use mathlib.Core.Logic.{◌≢◌}
use mathlib.Core.Bool.{Bool, true, false, false≢true}
use mathlib.Core.List.{List, [], ◌∷◌}
use native.Mathlib.Nat.{le_of_suc-le-suc, not-suc-le-zero}
use lib.ListN.{length, get_or}
use lib.Dec.{eqb}
use borrow.Author.Tests.{eqb-true, eq-eqb, ne_eqb}
use Rattle.facts.specs.Pick.{both}
use Rattle.facts.specs.Same.{same_bytes}
use Rattle.facts.proofs.Picks.{both_true}

pub same_bytes_refl : (l : List ℕ) → same_bytes l l ≡ true
unfolding same_bytes both
same_bytes_refl [] = refl
same_bytes_refl (x ∷ xs) = rw (eq-eqb x x refl) (same_bytes_refl xs)

both_none : (b : Bool) → both b false ≡ false
unfolding both
both_none true = refl
both_none false = refl

-- one place that differs
pub bytes_differ : (xs ys : List ℕ) (k : ℕ) → k < length xs → k < length ys → get_or xs k 0 ≢ get_or ys k 0 → same_bytes xs ys ≡ false
unfolding same_bytes both
bytes_differ [] ys k h l n = absurd (not-suc-le-zero h)
bytes_differ (x ∷ xs) [] k h l n = absurd (not-suc-le-zero l)
bytes_differ (x ∷ xs) (y ∷ ys) zero h l n = rw (ne_eqb x y n)
bytes_differ (x ∷ xs) (y ∷ ys) (suc k) h l n = rw (bytes_differ xs ys k (le_of_suc-le-suc h) (le_of_suc-le-suc l) n) (both_none (eqb x y))

pub same_bytes_eq : (xs ys : List ℕ) → same_bytes xs ys ≡ true → xs ≡ ys
unfolding same_bytes
same_bytes_eq [] [] e = refl
same_bytes_eq [] (y ∷ ys) e = absurd (false≢true e)
same_bytes_eq (x ∷ xs) [] e = absurd (false≢true e)
same_bytes_eq (x ∷ xs) (y ∷ ys) e =
    let b = both_true {a = eqb x y} {b = same_bytes xs ys} e in
    let h : x ≡ y = eqb-true x y b.0 in
    let t : xs ≡ ys = same_bytes_eq xs ys b.1 in
    λ i. h i ∷ t i

-- what a comparison answers that holds just where they are the same
pub same_told : (b : Bool) (xs ys : List ℕ) → (b ≡ true → xs ≡ ys) → (xs ≡ ys → b ≡ true) → same_bytes xs ys ≡ b
same_told true xs ys f g = ap (same_bytes xs) (sym (f refl)) ∙ same_bytes_refl xs
same_told false xs ys f g = go (same_bytes xs ys) refl
  where
    go : (t : Bool) → same_bytes xs ys ≡ t → same_bytes xs ys ≡ false
    go true h = absurd (false≢true (g (same_bytes_eq xs ys h)))
    go false h = h
