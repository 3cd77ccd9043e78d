-- Counts are sums of ones, so a walk and a store change them by what one element counts.
-- Assumes nothing.
use mathlib.Core.Path.{◌≡◌, refl}
use mathlib.Core.List.{List, [], ◌∷◌}
use mathlib.Core.Bool.{Bool, true, false}
use Prim.Native.Nat.{ℕ, zero, suc, ◌+◌, ◌≤◌, ◌<◌}
use native.Mathlib.Omega.{arith}
use lib.ListN.{length, get_or, set, drop}
use Rattle.facts.specs.Sums.{sum_by, only_if, count_by}
use Rattle.facts.proofs.SumLaws.{sum_step, sum_end, sum_set, only_yes, only_no}

module _ {A : Type 0} (p : A → Bool) where
  -- ---- a walk: the count from i on, at the element i
  pub count_yes : (xs : List A) (i : ℕ) (d : A) → i < length xs → p (get_or xs i d) ≡ true → count_by p (drop i xs) ≡ 1 + count_by p (drop (i + 1) xs)
  unfolding count_by
  count_yes xs i d h e = rw (sum_step (only_if p (λ x. 1)) xs i d h, only_yes p (λ x. 1) (get_or xs i d) e)

  pub count_no : (xs : List A) (i : ℕ) (d : A) → i < length xs → p (get_or xs i d) ≡ false → count_by p (drop i xs) ≡ count_by p (drop (i + 1) xs)
  unfolding count_by
  count_no xs i d h e = rw (sum_step (only_if p (λ x. 1)) xs i d h, only_no p (λ x. 1) (get_or xs i d) e) (omega arith)

  pub count_end : (xs : List A) (i : ℕ) → length xs ≤ i → count_by p (drop i xs) ≡ 0
  unfolding count_by
  count_end xs i h = sum_end (only_if p (λ x. 1)) xs i h

  -- ---- one element set: where the test says the same of the old and the new one
  pub count_set_same : (xs : List A) (i : ℕ) (x d : A) → p (get_or xs i d) ≡ p x → count_by p (set xs i x) ≡ count_by p xs
  unfolding count_by sum_by only_if
  count_set_same [] i x d e = refl
  count_set_same (y ∷ xs) zero x d e = rw e
  count_set_same (y ∷ xs) (suc i) x d e = rw (count_set_same xs i x d e)

  -- where the new one alone passes
  pub count_set_new : (xs : List A) (i : ℕ) (x d : A) → i < length xs → p (get_or xs i d) ≡ false → p x ≡ true → count_by p (set xs i x) ≡ count_by p xs + 1
  unfolding count_by
  count_set_new xs i x d h n e =
      omega (arith, sum_set (only_if p (λ x. 1)) xs i x d h, only_no p (λ x. 1) (get_or xs i d) n, only_yes p (λ x. 1) x e)

  -- ---- none passes
  pub count_none : (xs : List A) (d : A) → ((i : ℕ) → i < length xs → p (get_or xs i d) ≡ false) → count_by p xs ≡ 0
  unfolding count_by sum_by
  count_none [] d h = refl
  count_none (x ∷ xs) d h = omega (arith, only_no p (λ x. 1) x (h 0 (omega arith)), count_none xs d (λ i l. h (suc i) (omega arith)))
