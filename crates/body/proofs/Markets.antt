-- Four ranges of letters that give the definition's answer at each of the 256 bytes, in one test, give it for every byte.
-- Assumes nothing.
use mathlib.Core.Path.{◌≡◌, refl}
use mathlib.Core.Bool.{Bool, true, false, ◌||◌, beq}
use Prim.Native.Nat.{ℕ, ◌≤◌, ◌<◌}
use native.Mathlib.Omega.{arith}
use native.Mathlib.Decide.{dec_le}
use lib.Dec.{leb}
use borrow.Author.Tests.{le-leb, lt-leb}
use Rattle.facts.specs.Pick.{both, either}
use Rattle.facts.proofs.Runs.{run, in_run}
use Rattle.body.specs.Ranges.{one_of, market_ok}

abbrev in_range : ℕ → ℕ → ℕ → Bool
in_range first last x = both (leb first x) (leb x last)

inside : (first last x : ℕ) → first ≤ x → x ≤ last → true ≡ in_range first last x
unfolding both
inside first last x f l = rw (le-leb first x f, le-leb x last l) refl

outside : (first last x : ℕ) → (first ≤ x → x ≤ last → ⊥) → false ≡ in_range first last x
unfolding both
outside first last x h = go (dec_le first x)
  where
    go : Dec (first ≤ x) → false ≡ in_range first last x
    go (yes f) = let l : last < x = omega (arith, h f) in rw (le-leb first x f, lt-leb x last l) refl
    go (no f) = rw (lt-leb first x (omega (arith, f))) refl

told_alike : (s t : Bool) → beq s t ≡ true → s ≡ t
told_alike true true q = refl
told_alike true false q = cc
told_alike false true q = cc
told_alike false false q = refl

-- the ranges from a to b, c to d, e to f and g to h
module _ (a b c d e f g h : ℕ) where
  abbrev by_ranges : ℕ → Bool
  by_ranges x = in_range a b x || in_range c d x || in_range e f x || in_range g h x

  abbrev alike : ℕ → Bool
  alike x = beq (by_ranges x) (market_ok x)

  -- "The same answer for all 256 bytes": the test is what the checker computes
  pub same_answer : (x : ℕ) {p q r s : Bool} → p ≡ in_range a b x → q ≡ in_range c d x → r ≡ in_range e f x → s ≡ in_range g h x → x < 256 → run alike 0 256 ≡ true → p || q || r || s ≡ market_ok x
  same_answer x i j k l small all = rw (i, j, k, l) (told_alike (by_ranges x) (market_ok x) (in_run alike 0 256 all x (omega arith) small))

-- those that stand in the code
letters : (x : ℕ) {p q r s : Bool} → p ≡ in_range 65 67 x → q ≡ in_range 72 78 x → r ≡ in_range 80 81 x → s ≡ in_range 85 90 x → x < 256 → p || q || r || s ≡ market_ok x
unfolding run both either market_ok one_of
letters x i j k l small = same_answer 65 67 72 78 80 81 85 90 x i j k l small refl

pub a_to_c : (x : ℕ) → 65 ≤ x → x ≤ 67 → true ≡ market_ok x
a_to_c x f l = letters x (inside 65 67 x f l) (outside 72 78 x (λ a b. omega arith)) (outside 80 81 x (λ a b. omega arith)) (outside 85 90 x (λ a b. omega arith)) (omega arith)

pub h_to_n : (x : ℕ) → 72 ≤ x → x ≤ 78 → true ≡ market_ok x
h_to_n x f l = letters x (outside 65 67 x (λ a b. omega arith)) (inside 72 78 x f l) (outside 80 81 x (λ a b. omega arith)) (outside 85 90 x (λ a b. omega arith)) (omega arith)

pub p_to_q : (x : ℕ) → 80 ≤ x → x ≤ 81 → true ≡ market_ok x
p_to_q x f l = letters x (outside 65 67 x (λ a b. omega arith)) (outside 72 78 x (λ a b. omega arith)) (inside 80 81 x f l) (outside 85 90 x (λ a b. omega arith)) (omega arith)

pub u_to_z : (x : ℕ) → 85 ≤ x → x ≤ 90 → true ≡ market_ok x
u_to_z x f l = letters x (outside 65 67 x (λ a b. omega arith)) (outside 72 78 x (λ a b. omega arith)) (outside 80 81 x (λ a b. omega arith)) (inside 85 90 x f l) (omega arith)

pub no_letter : (x : ℕ) → x < 256 → (65 ≤ x → x ≤ 67 → ⊥) → (72 ≤ x → x ≤ 78 → ⊥) → (80 ≤ x → x ≤ 81 → ⊥) → (85 ≤ x → x ≤ 90 → ⊥) → false ≡ market_ok x
no_letter x small c n q z = letters x (outside 65 67 x c) (outside 72 78 x n) (outside 80 81 x q) (outside 85 90 x z) small
