-- What holds of each element, by the list's own recursion: weakened, joined, mapped, of a front, of lists back to back, and what an ascending list says of each place.
-- Assumes nothing.
use mathlib.Core.Path.{◌≡◌, refl}
use mathlib.Core.List.{List, [], ◌∷◌, ◌++◌, map}
use mathlib.Core.Bool.{Bool, true, false}
use mathlib.Core.Logic.{⊎_elim}
use Prim.Native.Nat.{ℕ, zero, suc, ◌+◌, ◌≤◌, ◌<◌}
use native.Mathlib.Omega.{arith}
use lib.ListN.{take}
use lib.Dec.{eqb}
use borrow.Author.Tests.{eq-eqb}
use Rattle.facts.specs.Pick.{either}
use Rattle.facts.specs.Pieces.{join}
use Rattle.facts.specs.Sums.{sum_by, only_if}
use Rattle.facts.proofs.Picks.{either_true}
use Rattle.facts.proofs.SumLaws.{only_yes, only_no}
use Rattle.ascend.specs.Ascend.{has, any_by}
use Rattle.ascend.proofs.Laws.{Rising}
use Rattle.ascend.proofs.Places.{All}

pub all_weaken : {A : Type 0} {P Q : A → Type 0} → ((x : A) → P x → Q x) → (xs : List A) → All P xs → All Q xs
all_weaken h [] a = tt
all_weaken h (x ∷ xs) a = (h x a.0, all_weaken h xs a.1)

pub all_and : {A : Type 0} (P Q : A → Type 0) (xs : List A) → All P xs → All Q xs → All (λ x. P x × Q x) xs
all_and P Q [] a b = tt
all_and P Q (x ∷ xs) a b = ((a.0, b.0), all_and P Q xs a.1 b.1)

pub all_map : {A B : Type 0} (P : B → Type 0) (h : A → B) (xs : List A) → All (λ x. P (h x)) xs → All P (map h xs)
all_map P h [] a = tt
all_map P h (x ∷ xs) a = (a.0, all_map P h xs a.1)

pub all_take : {A : Type 0} (P : A → Type 0) (n : ℕ) (xs : List A) → All P xs → All P (take n xs)
all_take P zero xs a = tt
all_take P (suc n) [] a = tt
all_take P (suc n) (x ∷ xs) a = (a.0, all_take P n xs a.1)

pub all_append : {A : Type 0} (P : A → Type 0) (xs ys : List A) → All P xs → All P ys → All P (xs ++ ys)
all_append P [] ys a b = b
all_append P (x ∷ xs) ys a b = (a.0, all_append P xs ys a.1 b)

pub all_join : {A : Type 0} (P : A → Type 0) (xss : List (List A)) → All (All P) xss → All P (join xss)
unfolding join
all_join P [] a = tt
all_join P (xs ∷ xss) a = all_append P xs (join xss) a.0 (all_join P xss a.1)

-- a list has each of its elements
pub all_has : (xs : List ℕ) → All (λ x. has x xs ≡ true) xs
unfolding has either
all_has [] = tt
all_has (x ∷ xs) = (rw (eq-eqb x x refl), all_weaken (λ d e. more d (eqb x d) e) xs (all_has xs))
  where
    more : (d : ℕ) (b : Bool) → has d xs ≡ true → either b (has d xs) ≡ true
    more d true e = refl
    more d false e = e

-- a rising list lies below its bound
pub rising_below : (T b : ℕ) (ds : List ℕ) → Rising T b ds → (b ≤ T) × All (λ d. d < T) ds
rising_below T b [] r = (r, tt)
rising_below T b (d ∷ ds) r = let w = rising_below T (suc d) ds r.1 in (omega (arith, r.0, w.0), (w.0, w.1))

-- one element that passes leaves no empty sum
pub any_sum : {A : Type 0} (q : A → Bool) (f : A → ℕ) → ((x : A) → q x ≡ true → 1 ≤ f x) → (xs : List A) → any_by q xs ≡ true → 1 ≤ sum_by (only_if q f) xs
unfolding any_by sum_by
any_sum q f h [] e = let z : ◌≡◌ {A = ℕ} 0 1 = cc in absurd (omega arith)
any_sum q f h (x ∷ xs) e = ⊎_elim (λ w. omega (arith, only_yes q f x w, h x w)) (λ w. omega (arith, any_sum q f h xs w)) (either_true e)

-- and none that passes an empty one
pub none_sum : {A : Type 0} (q : A → Bool) (f : A → ℕ) (xs : List A) → any_by q xs ≡ false → sum_by (only_if q f) xs ≡ 0
unfolding any_by sum_by either
none_sum q f [] e = refl
none_sum q f (x ∷ xs) e = go (none_sum q f xs) (q x) refl e
  where
    go : (any_by q xs ≡ false → sum_by (only_if q f) xs ≡ 0) → (b : Bool) → q x ≡ b → either b (any_by q xs) ≡ false → only_if q f x + sum_by (only_if q f) xs ≡ 0
    go rec true w n = let z : ◌≡◌ {A = ℕ} 0 1 = cc in absurd (omega arith)
    go rec false w n = omega (arith, only_no q f x w, rec n)
