-- Each element that is mine lies in exactly one place of an ascending list that has its place, so sums over places add up to the sum over elements.
-- Assumes nothing.
use mathlib.Core.Path.{◌≡◌, refl, sym, ◌∙◌}
use mathlib.Core.List.{List, [], ◌∷◌}
use mathlib.Core.Bool.{Bool, true, false}
use Prim.Native.Nat.{ℕ, suc, ◌+◌, ◌≤◌, ◌<◌}
use native.Mathlib.Omega.{arith}
use lib.ListN.{length}
use lib.Dec.{eqb}
use borrow.Author.Tests.{eq-eqb, ne_eqb, eqb-true, eqb-false}
use Rattle.facts.specs.Pick.{pick, both, either}
use Rattle.facts.specs.Sums.{sum_by, only_if}
use Rattle.facts.proofs.Picks.{pick_ind}
use Rattle.facts.proofs.SumLaws.{sum_zero, sum_add}
use Rattle.ascend.specs.Ascend.{ins, has, any_by, places, in_place}
use Rattle.ascend.proofs.Laws.{Ascends, Rising, ins_ascends, ins_rising, ins_has, ins_length, below_has}

-- P of every element
abbrev pub All : {A : Type 0} → (A → Type 0) → List A → Type 0
All P [] = Unit {0}
All P (x ∷ xs) = P x × All P xs

pub all_of : {A : Type 0} {P : A → Type 0} → ((x : A) → P x) → (xs : List A) → All P xs
all_of h [] = tt
all_of h (x ∷ xs) = (h x, all_of h xs)

-- a weight that one place alone has, over an ascending list
once : (p w b : ℕ) (ds : List ℕ) → Ascends b ds → sum_by (λ d. pick (eqb p d) w 0) ds ≡ pick (has p ds) w 0
unfolding sum_by has either pick
once p w b [] r = refl
once p w b (d ∷ ds) r = go (once p w (suc d) ds r.1) (eqb p d) refl
  where
    go : sum_by (λ d. pick (eqb p d) w 0) ds ≡ pick (has p ds) w 0 → (q : Bool) → eqb p d ≡ q
        → pick q w 0 + sum_by (λ d. pick (eqb p d) w 0) ds ≡ pick (either (eqb d p) (has p ds)) w 0
    go rec true e =
        let n : p ≡ d = eqb-true p d e in
        let f : has p ds ≡ false = below_has p (suc d) ds (omega arith) r.1 in
        rw (eq-eqb d p (sym n), rec, f) (omega arith)
    go rec false e = rw (ne_eqb d p (λ n. eqb-false p d e (sym n)), rec) (omega arith)

module _ {A : Type 0} (mine : A → Bool) (place : A → ℕ) where
  -- every element that is mine has its place among ds
  abbrev pub Covered : List ℕ → List A → Type 0
  Covered ds = All (λ x. mine x ≡ true → has (place x) ds ≡ true)

  one_place : (f : A → ℕ) (b : ℕ) (ds : List ℕ) → Ascends b ds → (x : A) → (mine x ≡ true → has (place x) ds ≡ true)
      → sum_by (λ d. only_if (in_place mine place d) f x) ds ≡ only_if mine f x
  unfolding only_if in_place both pick
  one_place f b ds r x h = go (mine x) refl
    where
      go : (m : Bool) → mine x ≡ m → sum_by (λ d. pick (both m (eqb (place x) d)) (f x) 0) ds ≡ pick m (f x) 0
      go true e = once (place x) (f x) b ds r ∙ rw (h e)
      go false e = sum_zero ds

  -- the sum over places of what lies in each is the sum over all that is mine
  pub sum_covered : (f : A → ℕ) (b : ℕ) (ds : List ℕ) → Ascends b ds → (xs : List A) → Covered ds xs
      → sum_by (λ d. sum_by (only_if (in_place mine place d) f) xs) ds ≡ sum_by (only_if mine f) xs
  unfolding sum_by
  sum_covered f b ds r [] h = sum_zero ds
  sum_covered f b ds r (x ∷ xs) h =
      sum_add (λ d. only_if (in_place mine place d) f x) (λ d. sum_by (only_if (in_place mine place d) f) xs) ds
      ∙ rw (one_place f b ds r x h.0, sum_covered f b ds r xs h.1)

  -- ---- the places themselves
  pub places_ascend : (xs : List A) → Ascends 0 (places mine place xs)
  unfolding places
  places_ascend [] = tt
  places_ascend (x ∷ xs) =
      let r = places_ascend xs in
      pick_ind (Ascends 0) (mine x) _ _ (λ e. ins_ascends (place x) 0 (places mine place xs) (omega arith) r) (λ e. r)

  pub places_rising : (T : ℕ) (xs : List A) → All (λ x. mine x ≡ true → place x < T) xs → Rising T 0 (places mine place xs)
  unfolding places
  places_rising T [] h = omega arith
  places_rising T (x ∷ xs) h =
      let r = places_rising T xs h.1 in
      pick_ind (Rising T 0) (mine x) _ _ (λ e. ins_rising T (place x) 0 (places mine place xs) (h.0 e) (omega arith) r) (λ e. r)

  -- d is a place exactly if something of mine lies there
  pub places_has : (d : ℕ) (xs : List A) → has d (places mine place xs) ≡ any_by (in_place mine place d) xs
  unfolding places has any_by in_place either both pick
  places_has d [] = refl
  places_has d (x ∷ xs) = go (mine x) (places_has d xs)
    where
      go : (m : Bool) → has d (places mine place xs) ≡ any_by (in_place mine place d) xs
          → has d (pick m (ins (place x) (places mine place xs)) (places mine place xs)) ≡ either (both m (eqb (place x) d)) (any_by (in_place mine place d) xs)
      go true e = ins_has d (place x) (places mine place xs) ∙ rw e
      go false e = e

  pub places_length : (xs : List A) → length (places mine place xs) ≤ length xs
  unfolding places
  places_length [] = omega arith
  places_length (x ∷ xs) =
      let r = places_length xs in
      pick_ind (λ (l : List ℕ). length l ≤ suc (length xs)) (mine x) _ _ (λ e. omega (arith, ins_length (place x) (places mine place xs))) (λ e. omega arith)

  covered_ins : (d : ℕ) (ds : List ℕ) (xs : List A) → Covered ds xs → Covered (ins d ds) xs
  unfolding either
  covered_ins d ds [] h = tt
  covered_ins d ds (x ∷ xs) h = (λ m. ins_has (place x) d ds ∙ rw (h.0 m) (either_last (eqb d (place x))), covered_ins d ds xs h.1)
    where
      either_last : (b : Bool) → either b true ≡ true
      either_last true = refl
      either_last false = refl

  pub places_covered : (xs : List A) → Covered (places mine place xs) xs
  unfolding places either
  places_covered [] = tt
  places_covered (x ∷ xs) =
      let r = places_covered xs in
      pick_ind (λ ds. Covered ds (x ∷ xs)) (mine x) _ _
      (λ e. (λ m. ins_has (place x) (place x) (places mine place xs) ∙ rw (eq-eqb (place x) (place x) refl), covered_ins (place x) (places mine place xs) xs r))
      (λ e. (λ m. (cc), r))

  -- what lies in each place, added up over the places, is all that is mine
  pub sum_places : (f : A → ℕ) (xs : List A)
      → sum_by (λ d. sum_by (only_if (in_place mine place d) f) xs) (places mine place xs) ≡ sum_by (only_if mine f) xs
  sum_places f xs = sum_covered f 0 (places mine place xs) (places_ascend xs) xs (places_covered xs)
