-- Searches, each by the list's own recursion: how a walk from the front finds the lowest element, where it lies, and what a store changes.
-- Assumes nothing.
use mathlib.Core.Path.{◌≡◌, refl, sym, ap}
use mathlib.Core.List.{List, [], ◌∷◌}
use mathlib.Core.Bool.{Bool, true, false}
use mathlib.Core.Logic.{⊎_elim}
use Prim.Native.Nat.{ℕ, zero, suc, ◌+◌, ◌-◌, ◌≤◌, ◌<◌}
use native.Mathlib.Numerals.{add-one}
use native.Mathlib.Nat.{le_of_suc-le-suc, not-suc-le-zero}
use native.Mathlib.Omega.{arith}
use lib.ListN.{length, get_or, set, drop, drop_of_length-le}
use lib.Seq.{drop-cons}
use Rattle.facts.specs.Pick.{pick}
use Rattle.facts.specs.Search.{first}
use Rattle.facts.proofs.Picks.{pick_cases}
use Rattle.std.specs.Prelude.{Some, None}

-- ---- a walk: the search from i on, at the element i
module _ {A : Type 0} (p : A → Bool) (xs : List A) (i : ℕ) where
  pub first_hit : (d : A) → i < length xs → p (get_or xs i d) ≡ true → first p i (drop i xs) ≡ Some i
  unfolding first pick
  first_hit d h e = rw (drop-cons xs i d h, e)

  pub first_miss : (d : A) → i < length xs → p (get_or xs i d) ≡ false → first p i (drop i xs) ≡ first p (i + 1) (drop (i + 1) xs)
  unfolding first pick
  first_miss d h e = rw (drop-cons xs i d h, e, add-one i)

  pub first_end : length xs ≤ i → first p i (drop i xs) ≡ None
  unfolding first
  first_end h = rw (drop_of_length-le xs h)

-- ---- where a search ends
never : {B : Type 0} {i : ℕ} → Some i ≡ None → B
never e = let z : ◌≡◌ {A = ℕ} 0 1 = cc in absurd (omega arith)

pub first_at : {A : Type 0} (p : A → Bool) (k : ℕ) (xs : List A) (i : ℕ) (d : A) → first p k xs ≡ Some i → (k ≤ i) × (i < k + length xs) × (p (get_or xs (i - k) d) ≡ true)
unfolding first
first_at p k [] i d e = never (sym e)
first_at p k (x ∷ xs) i d e =
    ⊎_elim
    (λ w.
    let ki : k ≡ i = cc w.1 in
    let z : i - k ≡ 0 = omega arith in
    (omega arith, omega arith, rw z w.0))
    (λ w.
    let ih = first_at p (suc k) xs i d w.1 in
    let z : i - k ≡ suc (i - suc k) = omega (arith, ih.0) in
    (omega (arith, ih.0), omega (arith, ih.1), rw z ih.2))
    (pick_cases e)

-- every element before it fails
pub first_lowest : {A : Type 0} (p : A → Bool) (k : ℕ) (xs : List A) (i j : ℕ) (d : A) → first p k xs ≡ Some i → k + j < i → p (get_or xs j d) ≡ false
unfolding first
first_lowest p k [] i j d e h = never (sym e)
first_lowest p k (x ∷ xs) i zero d e h = ⊎_elim (λ w. let ki : k ≡ i = cc w.1 in absurd (omega arith)) (λ w. w.0) (pick_cases e)
first_lowest p k (x ∷ xs) i (suc j) d e h =
    ⊎_elim (λ w. let ki : k ≡ i = cc w.1 in absurd (omega arith)) (λ w. first_lowest p (suc k) xs i j d w.1 (omega arith)) (pick_cases e)

-- a search that found nothing: every element fails
pub first_none : {A : Type 0} (p : A → Bool) (k : ℕ) (xs : List A) → first p k xs ≡ None → (j : ℕ) (d : A) → j < length xs → p (get_or xs j d) ≡ false
unfolding first
first_none p k [] e j d h = absurd (not-suc-le-zero h)
first_none p k (x ∷ xs) e zero d h = ⊎_elim (λ w. never w.1) (λ w. w.0) (pick_cases e)
first_none p k (x ∷ xs) e (suc j) d h = ⊎_elim (λ w. never w.1) (λ w. first_none p (suc k) xs w.1 j d (le_of_suc-le-suc h)) (pick_cases e)

-- and the other way round
pub none_first : {A : Type 0} (p : A → Bool) (k : ℕ) (xs : List A) (d : A) → ((j : ℕ) → j < length xs → p (get_or xs j d) ≡ false) → first p k xs ≡ None
unfolding first pick
none_first p k [] d h = refl
none_first p k (x ∷ xs) d h = rw (h 0 (omega arith)) (none_first p (suc k) xs d (λ j l. h (suc j) (omega arith)))

-- ---- a search after one element is set: where the test says the same of the old and the new one
pub first_set_same : {A : Type 0} (p : A → Bool) (k : ℕ) (xs : List A) (i : ℕ) (x d : A) → p (get_or xs i d) ≡ p x → first p k (set xs i x) ≡ first p k xs
unfolding first
first_set_same p k [] i x d e = refl
first_set_same p k (y ∷ xs) zero x d e = rw e
first_set_same p k (y ∷ xs) (suc i) x d e = rw (first_set_same p (suc k) xs i x d e)

-- where it found nothing, and the new element passes
pub first_set_new : {A : Type 0} (p : A → Bool) (k : ℕ) (xs : List A) (i : ℕ) (x : A) → i < length xs → first p k xs ≡ None → p x ≡ true → first p k (set xs i x) ≡ Some (k + i)
unfolding first pick
first_set_new p k [] i x h n e = absurd (not-suc-le-zero h)
first_set_new p k (y ∷ xs) zero x h n e = rw e (ap Some (omega arith))
first_set_new p k (y ∷ xs) (suc i) x h n e =
    ⊎_elim
    (λ w. never w.1)
    (λ w. rw (w.0, first_set_new p (suc k) xs i x (le_of_suc-le-suc h) w.1 e) (ap Some (omega arith)))
    (pick_cases {t = p y} {x = Some k} {y = first p (suc k) xs} n)

-- where the element i alone could pass, and the new one does not
pub first_set_gone : {A : Type 0} (p : A → Bool) (k : ℕ) (xs : List A) (i : ℕ) (x d : A) → ((j : ℕ) → j < length xs → p (get_or xs j d) ≡ true → j ≡ i) → p x ≡ false → first p k (set xs i x) ≡ None
unfolding first pick
first_set_gone p k [] i x d u e = refl
first_set_gone p k (y ∷ xs) zero x d u e = rw e (none_first p (suc k) xs d (λ j l. go (p (get_or xs j d)) refl l))
  where
    go : {j : ℕ} → (b : Bool) → p (get_or xs j d) ≡ b → j < length xs → b ≡ false
    go {j} true q l = let z : suc j ≡ 0 = u (suc j) (omega arith) q in absurd (omega arith)
    go false q l = refl
first_set_gone p k (y ∷ xs) (suc i) x d u e =
    go (first_set_gone p (suc k) xs i x d (λ j l b. let z : suc j ≡ suc i = u (suc j) (omega arith) b in omega arith) e) (p y) refl
  where
    go : first p (suc k) (set xs i x) ≡ None → (b : Bool) → p y ≡ b → pick b (Some k) (first p (suc k) (set xs i x)) ≡ None
    go rec true q = let z : 0 ≡ suc i = u 0 (omega arith) q in absurd (omega arith)
    go rec false q = rec
