-- Ascending lists by their own recursion: what an insertion, the least from d on and the rest from d on do to one that ascends.
-- Assumes nothing.
use mathlib.Core.Path.{◌≡◌, refl}
use mathlib.Core.List.{List, [], ◌∷◌}
use mathlib.Core.Bool.{Bool, true, false}
use Prim.Native.Nat.{ℕ, suc, ◌+◌, ◌≤◌, ◌<◌, min}
use native.Mathlib.Omega.{arith}
use lib.ListN.{length}
use lib.Dec.{ltb, leb, eqb}
use borrow.Author.Tests.{le-leb, lt-leb, ltb-true, ltb-false, leb-true, leb-false, eqb-true, eqb-false, ne_eqb}
use Rattle.facts.specs.Pick.{pick, either}
use Rattle.facts.proofs.Picks.{pick_ind}
use Rattle.ascend.specs.Ascend.{ins, least_from, from_on, has}

-- ascending from b on; E holds of what follows the last
abbrev pub Run : (ℕ → Type 0) → ℕ → List ℕ → Type 0
Run E b [] = E b
Run E b (x ∷ xs) = (b ≤ x) × Run E (suc x) xs

abbrev pub Ascends : ℕ → List ℕ → Type 0
Ascends = Run (λ e. Unit {0})

-- ascending from b on, below T
abbrev pub Rising : ℕ → ℕ → List ℕ → Type 0
Rising T = Run (λ e. e ≤ T)

pub rising_ascends : (T b : ℕ) (xs : List ℕ) → Rising T b xs → Ascends b xs
rising_ascends T b [] r = tt
rising_ascends T b (x ∷ xs) r = (r.0, rising_ascends T (suc x) xs r.1)

-- ---- an insertion
ins_run : (E : ℕ → Type 0) (d b : ℕ) (xs : List ℕ) → E (suc d) → b ≤ d → Run E b xs → Run E b (ins d xs)
unfolding ins
ins_run E d b [] t h r = (h, t)
ins_run E d b (x ∷ xs) t h r =
    pick_ind (Run E b) (ltb d x) _ _
    (λ e. (h, (ltb-true d x e, r.1)))
    (λ e.
    pick_ind (Run E b) (eqb d x) _ _
    (λ f. r)
    (λ f. (r.0, ins_run E d (suc x) xs t (omega (arith, ltb-false d x e, eqb-false d x f)) r.1)))

pub ins_ascends : (d b : ℕ) (xs : List ℕ) → b ≤ d → Ascends b xs → Ascends b (ins d xs)
ins_ascends d b xs h r = ins_run (λ e. Unit {0}) d b xs tt h r

pub ins_rising : (T d b : ℕ) (xs : List ℕ) → d < T → b ≤ d → Rising T b xs → Rising T b (ins d xs)
ins_rising T d b xs t h r = ins_run (λ e. e ≤ T) d b xs t h r

pub ins_length : (d : ℕ) (xs : List ℕ) → length (ins d xs) ≤ suc (length xs)
unfolding ins
ins_length d [] = omega arith
ins_length d (x ∷ xs) =
    pick_ind (λ (l : List ℕ). length l ≤ suc (suc (length xs))) (ltb d x) _ _
    (λ e. omega arith)
    (λ e. pick_ind (λ (l : List ℕ). length l ≤ suc (suc (length xs))) (eqb d x) _ _ (λ f. omega arith) (λ f. omega (arith, ins_length d xs)))

-- ---- the least from d on, and the list from d on
pub least_bound : (T d b : ℕ) (xs : List ℕ) → Rising T b xs → b ≤ least_from T d xs
unfolding least_from
least_bound T d b [] r = r
least_bound T d b (x ∷ xs) r = pick_ind (λ n. b ≤ n) (leb d x) _ _ (λ e. r.0) (λ e. omega (arith, r.0, least_bound T d (suc x) xs r.1))

lt_case : (u : Bool) (x w : ℕ) → x ≤ w → pick u x w ≡ pick u (min x w) w
unfolding pick
lt_case true x w h = omega arith
lt_case false x w h = refl

eq_case : (u : Bool) (y l : ℕ) → pick u y l ≡ pick u (min y (pick u y l)) (pick u y l)
unfolding pick
eq_case true y l = omega arith
eq_case false y l = refl

gt_case : (d x y l : ℕ) → y < x → (v u : Bool) → leb d y ≡ v → leb d x ≡ u → pick v y (pick u (min x l) l) ≡ pick u (min x (pick v y l)) (pick v y l)
unfolding pick
gt_case d x y l h true true e f = omega arith
gt_case d x y l h true false e f = absurd (omega (arith, leb-true d y e, leb-false d x f))
gt_case d x y l h false true e f = refl
gt_case d x y l h false false e f = refl

pub ins_least : (T d x b : ℕ) (xs : List ℕ) → x < T → Rising T b xs → least_from T d (ins x xs) ≡ pick (leb d x) (min x (least_from T d xs)) (least_from T d xs)
unfolding ins least_from pick
ins_least T d x b [] t r = lt_case (leb d x) x T (omega arith)
ins_least T d x b (y ∷ ys) t r = go (ins_least T d x (suc y) ys t r.1) (ltb x y) refl (eqb x y) refl
  where
    go : least_from T d (ins x ys) ≡ pick (leb d x) (min x (least_from T d ys)) (least_from T d ys) → (p : Bool) → ltb x y ≡ p → (q : Bool) → eqb x y ≡ q
        → least_from T d (pick p (x ∷ y ∷ ys) (pick q (y ∷ ys) (y ∷ ins x ys))) ≡ pick (leb d x) (min x (least_from T d (y ∷ ys))) (least_from T d (y ∷ ys))
    go rec true e q f =
        let w : y ≤ least_from T d (y ∷ ys) = least_bound T d y (y ∷ ys) (omega arith, r.1) in
        lt_case (leb d x) x (least_from T d (y ∷ ys)) (omega (arith, ltb-true x y e, w))
    go rec false e true f = rw (eqb-true x y f) (eq_case (leb d y) y (least_from T d ys))
    go rec false e false f = rw rec (gt_case d x y (least_from T d ys) (omega (arith, ltb-false x y e, eqb-false x y f)) (leb d y) (leb d x) refl refl)

pub least_top : (T d b : ℕ) (xs : List ℕ) → Rising T b xs → least_from T d xs ≤ T
unfolding least_from
least_top T d b [] r = omega arith
least_top T d b (x ∷ xs) r =
    let rec = least_top T d (suc x) xs r.1 in
    pick_ind (λ n. n ≤ T) (leb d x) _ _ (λ e. omega (arith, rec, least_bound T d (suc x) xs r.1)) (λ e. rec)

pub from_all : (T d b : ℕ) (xs : List ℕ) → Rising T b xs → d ≤ b → from_on d xs ≡ xs
unfolding from_on pick
from_all T d b [] r h = refl
from_all T d b (x ∷ xs) r h = rw (le-leb d x (omega (arith, r.0)))

pub from_none : (T d b : ℕ) (xs : List ℕ) → Rising T b xs → T ≤ least_from T d xs → from_on d xs ≡ []
unfolding least_from from_on pick
from_none T d b [] r h = refl
from_none T d b (x ∷ xs) r h = go (from_none T d (suc x) xs r.1) (leb d x) h
  where
    go : (T ≤ least_from T d xs → from_on d xs ≡ []) → (u : Bool) → T ≤ pick u x (least_from T d xs) → pick u (x ∷ xs) (from_on d xs) ≡ []
    go rec true l = absurd (omega (arith, l, least_bound T d (suc x) xs r.1, least_top T d (suc x) xs r.1))
    go rec false l = rec l

pub from_some : (T d b : ℕ) (xs : List ℕ) → Rising T b xs → least_from T d xs < T → from_on d xs ≡ least_from T d xs ∷ from_on (least_from T d xs + 1) xs
unfolding least_from from_on pick
from_some T d b [] r h = absurd (omega arith)
from_some T d b (x ∷ xs) r h = go (from_some T d (suc x) xs r.1) (leb d x) h
  where
    go : (least_from T d xs < T → from_on d xs ≡ least_from T d xs ∷ from_on (least_from T d xs + 1) xs) → (u : Bool) → pick u x (least_from T d xs) < T
        → pick u (x ∷ xs) (from_on d xs) ≡ pick u x (least_from T d xs) ∷ from_on (pick u x (least_from T d xs) + 1) (x ∷ xs)
    go rec true l = rw (lt-leb (x + 1) x (omega arith), from_all T (x + 1) (suc x) xs r.1 (omega arith))
    go rec false l = rw (lt-leb (least_from T d xs + 1) x (omega (arith, least_bound T d (suc x) xs r.1))) (rec l)

-- ---- membership
either_same : (a b : Bool) → either a b ≡ either a (either a b)
unfolding either
either_same true b = refl
either_same false b = refl

either_swap : (a b c : Bool) → either a (either b c) ≡ either b (either a c)
unfolding either
either_swap true true c = refl
either_swap true false c = refl
either_swap false b c = refl

-- x is in the list after d is put in exactly if it is d or was there
pub ins_has : (x d : ℕ) (xs : List ℕ) → has x (ins d xs) ≡ either (eqb d x) (has x xs)
unfolding ins has pick
ins_has x d [] = refl
ins_has x d (y ∷ ys) = go (ins_has x d ys) (ltb d y) (eqb d y) refl
  where
    go : has x (ins d ys) ≡ either (eqb d x) (has x ys) → (p q : Bool) → eqb d y ≡ q
        → has x (pick p (d ∷ y ∷ ys) (pick q (y ∷ ys) (y ∷ ins d ys))) ≡ either (eqb d x) (either (eqb y x) (has x ys))
    go rec true q f = refl
    go rec false true f = rw (eqb-true d y f) (either_same (eqb y x) (has x ys))
    go rec false false f = rw rec (either_swap (eqb y x) (eqb d x) (has x ys))

pub below_has : (d b : ℕ) (xs : List ℕ) → d < b → Ascends b xs → has d xs ≡ false
unfolding has either
below_has d b [] h r = refl
below_has d b (x ∷ xs) h r = rw (ne_eqb x d (λ e. omega (arith, r.0))) (below_has d (suc x) xs (omega (arith, r.0)) r.1)
