-- Lists that a loop fills from the front.
-- Assumes nothing.
use mathlib.Core.Path.{◌≡◌, ◌∙◌, refl, ap}
use mathlib.Core.List.{List, [], ◌∷◌, map}
use Prim.Native.Nat.{ℕ, ◌+◌, ◌<◌, zero, suc, ◌≤◌}
use native.Mathlib.Numerals.{add-one}
use native.Mathlib.Nat.{le_of_suc-le-suc, not-suc-le-zero}
use native.Mathlib.Omega.{arith}
use lib.ListN.{length, get_or, set}
use lib.Seq.{get_or-set_same, get_or-set_other}
use borrow.Author.Count.{below_more}

-- what holds below i holds below i + 1 after the store at i
pub write_more : (l : List ℕ) (f : ℕ → ℕ) (i v : ℕ) → i < length l → v ≡ f i → ((k : ℕ) → k < i → get_or l k 0 ≡ f k) → (k : ℕ) → k < i + 1 → get_or (set l i v) k 0 ≡ f k
write_more l f i v h e below =
    below_more (λ (k : ℕ). get_or (set l i v) k 0 ≡ f k) i
    (λ k lt. get_or-set_other l i k v 0 (λ p. absurd_lt lt p) ∙ below k lt)
    (get_or-set_same l i v 0 h ∙ e)
  where
    absurd_lt : {k : ℕ} → k < i → k ≡ i → ⊥
    absurd_lt lt p = omega arith

-- ---- a map that a loop makes in place: the first i elements are mapped, the others as they were
module _ {A : Type 0} (f : A → A) where
  unfoldable pub map_to : ℕ → List A → List A
  map_to zero l = l
  map_to (suc i) [] = []
  map_to (suc i) (x ∷ l) = f x ∷ map_to i l

  pub map_none : (l : List A) → map_to 0 l ≡ l
  unfolding map_to
  map_none l = refl

  map_next : (l : List A) (i : ℕ) (d : A) → i < length l → set (map_to i l) i (f (get_or (map_to i l) i d)) ≡ map_to (suc i) l
  unfolding map_to
  map_next [] i d h = absurd (not-suc-le-zero h)
  map_next (x ∷ l) zero d h = refl
  map_next (x ∷ l) (suc i) d h = ap (λ (m : List A). f x ∷ m) (map_next l i d (le_of_suc-le-suc h))

  pub map_more : (l : List A) (i : ℕ) (d : A) → i < length l → set (map_to i l) i (f (get_or (map_to i l) i d)) ≡ map_to (i + 1) l
  map_more l i d h = rw (add-one i) (map_next l i d h)

  pub map_all : (l : List A) (i : ℕ) → length l ≤ i → map_to i l ≡ map f l
  unfolding map_to
  map_all [] zero h = refl
  map_all [] (suc i) h = refl
  map_all (x ∷ l) zero h = absurd (not-suc-le-zero h)
  map_all (x ∷ l) (suc i) h = ap (λ (m : List A). f x ∷ m) (map_all l i (le_of_suc-le-suc h))
