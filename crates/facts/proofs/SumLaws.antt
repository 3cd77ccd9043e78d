-- Sums by the list's own recursion: a walk from the front, one store, and a bound.
-- Assumes nothing.
use mathlib.Core.Path.{◌≡◌, refl}
use mathlib.Core.List.{List, [], ◌∷◌, map}
use mathlib.Core.Bool.{Bool, true, false}
use Prim.Native.Nat.{ℕ, zero, suc, ◌+◌, ◌*◌, ◌≤◌, ◌<◌}
use native.Mathlib.Numerals.{add-one}
use native.Mathlib.Nat.{mul-suc, le_of_suc-le-suc, not-suc-le-zero}
use native.Mathlib.Omega.{arith}
use lib.ListN.{length, get_or, set, drop, drop_of_length-le}
use lib.Seq.{drop-cons}
use Rattle.facts.specs.Pick.{pick}
use Rattle.facts.proofs.Picks.{pick_ind}
use Rattle.facts.specs.Sums.{sum_by, only_if, count_by}

module _ {A : Type 0} where
  -- ---- a walk
  pub sum_step : (f : A → ℕ) (xs : List A) (i : ℕ) (d : A) → i < length xs → sum_by f (drop i xs) ≡ f (get_or xs i d) + sum_by f (drop (i + 1) xs)
  unfolding sum_by
  sum_step f xs i d h = rw (drop-cons xs i d h, add-one i)

  pub sum_end : (f : A → ℕ) (xs : List A) (i : ℕ) → length xs ≤ i → sum_by f (drop i xs) ≡ 0
  unfolding sum_by
  sum_end f xs i h = rw (drop_of_length-le xs h)

  -- ---- one element set
  pub sum_set : (f : A → ℕ) (xs : List A) (i : ℕ) (x d : A) → i < length xs → sum_by f (set xs i x) + f (get_or xs i d) ≡ sum_by f xs + f x
  unfolding sum_by
  sum_set f [] i x d h = absurd (not-suc-le-zero h)
  sum_set f (y ∷ xs) zero x d h = omega arith
  sum_set f (y ∷ xs) (suc i) x d h = omega (arith, sum_set f xs i x d (le_of_suc-le-suc h))

  -- ---- bounds
  pub sum_bound : (f : A → ℕ) (b : ℕ) → ((x : A) → f x ≤ b) → (xs : List A) → sum_by f xs ≤ b * length xs
  unfolding sum_by
  sum_bound f b h [] = omega arith
  sum_bound f b h (x ∷ xs) = omega (arith, h x, sum_bound f b h xs, mul-suc b (length xs))

  pub only_bound : (p : A → Bool) (f : A → ℕ) (b : ℕ) → ((x : A) → p x ≡ true → f x ≤ b) → (x : A) → only_if p f x ≤ b
  unfolding only_if
  only_bound p f b h x = pick_ind (λ n. n ≤ b) (p x) (f x) 0 (h x) (λ e. omega arith)

  pub count_bound : (p : A → Bool) (xs : List A) → count_by p xs ≤ length xs
  unfolding count_by
  count_bound p xs = omega (arith, sum_bound (only_if p (λ x. 1)) 1 (only_bound p (λ x. 1) 1 (λ x e. omega arith)) xs)

  -- what the test lets through, and what not
  pub only_yes : (p : A → Bool) (f : A → ℕ) (x : A) → p x ≡ true → only_if p f x ≡ f x
  unfolding only_if pick
  only_yes p f x e = rw e

  pub only_no : (p : A → Bool) (f : A → ℕ) (x : A) → p x ≡ false → only_if p f x ≡ 0
  unfolding only_if pick
  only_no p f x e = rw e

  -- ---- sums of sums
  pub sum_zero : (xs : List A) → sum_by (λ (x : A). 0) xs ≡ 0
  unfolding sum_by
  sum_zero [] = refl
  sum_zero (x ∷ xs) = omega (arith, sum_zero xs)

  pub sum_add : (f g : A → ℕ) (xs : List A) → sum_by (λ x. f x + g x) xs ≡ sum_by f xs + sum_by g xs
  unfolding sum_by
  sum_add f g [] = refl
  sum_add f g (x ∷ xs) = omega (arith, sum_add f g xs)

-- ---- a list mapped: what each element counts afterwards
pub sum_map_as : {A B : Type 0} (f : B → ℕ) (g : A → B) (h : A → ℕ) → ((x : A) → f (g x) ≡ h x) → (xs : List A) → sum_by f (map g xs) ≡ sum_by h xs
unfolding sum_by
sum_map_as f g h e [] = refl
sum_map_as f g h e (x ∷ xs) = rw (e x, sum_map_as f g h e xs)

pub sum_map : {A B : Type 0} (f : B → ℕ) (g : A → B) (xs : List A) → sum_by f (map g xs) ≡ sum_by (λ x. f (g x)) xs
sum_map f g xs = sum_map_as f g (λ x. f (g x)) (λ x. refl) xs
