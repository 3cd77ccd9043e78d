-- Trimming looks at the last byte: a space goes, any other stays with all before it.
-- Assumes nothing.
use Prim.Native.Nat.{ℕ, zero, suc, ◌+◌, ◌≤◌, ◌<◌}
use mathlib.Core.Path.{◌≡◌, refl, sym, ap, ◌∙◌}
use mathlib.Core.List.{List, [], ◌∷◌, ◌++◌, map}
use native.Mathlib.Nat.{not-suc-le-zero, le_of_suc-le-suc}
use native.Mathlib.Omega.{arith}
use native.Mathlib.Numerals.{add-one}
use lib.ListN.{length, get_or, take, length-map}
use lib.Dec.{eqb, leb}
use borrow.Author.Tests.{ne_eqb, le-leb, lt-leb, leb-true}
use Rattle.facts.specs.Pick.{pick, both}
use Rattle.facts.proofs.Picks.{pick_ind, both_true}
use Rattle.text.specs.Text.{trim_cons, trim_of, shown_of, ticker_of}

-- ---- trailing spaces
pub trim_space : (s : List ℕ) → trim_of (s ++ (32 ∷ [])) ≡ trim_of s
unfolding trim_of trim_cons pick
trim_space [] = refl
trim_space (y ∷ s) = ap (trim_cons y) (trim_space s)

cons_end : (y x : ℕ) (s : List ℕ) → trim_cons y (s ++ (x ∷ [])) ≡ y ∷ (s ++ (x ∷ []))
unfolding trim_cons
cons_end y x [] = refl
cons_end y x (z ∷ s) = refl

pub trim_other : (s : List ℕ) (x : ℕ) → (x ≡ 32 → ⊥) → trim_of (s ++ (x ∷ [])) ≡ s ++ (x ∷ [])
unfolding trim_of trim_cons pick
trim_other [] x h = rw (ne_eqb x 32 h)
trim_other (y ∷ s) x h = ap (trim_cons y) (trim_other s x h) ∙ cons_end y x s

-- ---- a search from the end
-- spaces alone
pub trim_blank : (s : List ℕ) → ((k : ℕ) → k < length s → get_or s k 0 ≡ 32) → trim_of s ≡ []
unfolding trim_of trim_cons pick
trim_blank [] h = refl
trim_blank (x ∷ s) h = ap (trim_cons x) (trim_blank s (λ k l. h (suc k) (omega arith))) ∙ rw (h 0 (omega arith)) refl

-- the last byte that is no space is at i
pub trim_last : (s : List ℕ) (i : ℕ) → i < length s → (get_or s i 0 ≡ 32 → ⊥) → ((k : ℕ) → i < k → k < length s → get_or s k 0 ≡ 32) → take (i + 1) s ≡ trim_of s
unfolding trim_of trim_cons pick
trim_last [] i h e b = absurd (not-suc-le-zero h)
trim_last (x ∷ s) zero h e b = sym (ap (trim_cons x) (trim_blank s (λ k l. b (suc k) (omega arith) (omega arith))) ∙ rw (ne_eqb x 32 e) refl)
trim_last (x ∷ []) (suc i) h e b = absurd (not-suc-le-zero (le_of_suc-le-suc h))
trim_last (x ∷ y ∷ s) (suc i) h e b =
    rw add-one (ap (trim_cons x) (rw add-one at (trim_last (y ∷ s) i (le_of_suc-le-suc h) e (λ k l u. b (suc k) (omega arith) (omega arith)))))

-- ---- bytes outside 32 to 126
pub shown_same : (x : ℕ) → 32 ≤ x → x ≤ 126 → x ≡ shown_of x
unfolding shown_of pick both
shown_same x l u = simp (le-leb 32 x l, le-leb x 126 u)

pub shown_below : (x : ℕ) → x < 32 → 46 ≡ shown_of x
unfolding shown_of pick both
shown_below x h = simp (lt-leb 32 x h)

pub shown_above : (x : ℕ) → 126 < x → 46 ≡ shown_of x
unfolding shown_of pick both
shown_above x h = simp (le-leb 32 x (omega arith), lt-leb x 126 h)

pub shown_range : (x : ℕ) → (32 ≤ shown_of x) × (shown_of x ≤ 126)
unfolding shown_of
shown_range x =
    pick_ind (λ y. (32 ≤ y) × (y ≤ 126)) (both (leb 32 x) (leb x 126)) x 46
    (λ e. let w = both_true {a = leb 32 x} {b = leb x 126} e in (leb-true 32 x w.0, leb-true x 126 w.1))
    (λ e. (omega arith, omega arith))

map_range : (s : List ℕ) (i : ℕ) → i < length (map shown_of s) → (32 ≤ get_or (map shown_of s) i 0) × (get_or (map shown_of s) i 0 ≤ 126)
map_range [] i h = absurd (not-suc-le-zero h)
map_range (x ∷ s) zero h = shown_range x
map_range (x ∷ s) (suc i) h = map_range s i (le_of_suc-le-suc h)

-- so no line feed lies in a ticker
pub ticker_shown : (t : List ℕ) (i : ℕ) → i < length (ticker_of t) → (32 ≤ get_or (ticker_of t) i 0) × (get_or (ticker_of t) i 0 ≤ 126)
unfolding ticker_of
ticker_shown t i h = map_range (trim_of t) i h

-- ---- how long
cons_length : (x : ℕ) (s : List ℕ) → length (trim_cons x s) ≤ suc (length s)
unfolding trim_cons
cons_length x [] = pick_ind (λ l. length l ≤ 1) (eqb x 32) [] (x ∷ []) (λ e. omega arith) (λ e. omega arith)
cons_length x (y ∷ s) = omega arith

trim_length : (s : List ℕ) → length (trim_of s) ≤ length s
unfolding trim_of
trim_length [] = omega arith
trim_length (x ∷ s) = omega (arith, cons_length x (trim_of s), trim_length s)

-- a ticker is shown in no more bytes than it has, and those of the feed have eleven
pub ticker_length : (t : List ℕ) → length (ticker_of t) ≤ length t
unfolding ticker_of
ticker_length t = omega (arith, length-map (trim_of t) shown_of, trim_length t)
