-- What the loops of `--type` keep, each law by one byte off the front: bytes of a range, digits, and a name stored over spaces.
-- Assumes nothing.
use mathlib.Core.Path.{◌≡◌, refl, ap, ◌∙◌}
use Rattle.std.proofs.Common.{Bool, true, false, leb, ◌&&◌}
use Rattle.std.specs.List.{list_all}
use mathlib.Core.List.{List, [], ◌∷◌, ◌++◌}
use Prim.Native.Nat.{ℕ, ◌+◌, ◌-◌, ◌*◌, ◌≤◌, ◌<◌}
use native.Mathlib.Numerals.{add-one}
use native.Mathlib.Omega.{arith}
use lib.ListN.{length, get_or, drop, replicate, drop_of_length-le}
use lib.Seq.{drop-cons, drop-append-le}
use borrow.Author.Tests.{le-leb, lt-leb}
use Rattle.facts.specs.Pick.{both}
use Rattle.facts.proofs.PieceLaws.{same_left}
use Rattle.words.specs.Types.{all_from, decimal_from}

-- ---- bytes of a range
pub all_is : (lo hi : ℕ) (s : List ℕ) → all_from lo hi s ≡ list_all (λ x. leb lo x && leb x hi) s
unfolding all_from both
all_is lo hi [] = refl
all_is lo hi (x ∷ s) = rw (all_is lo hi s) (go (leb lo x) (leb x hi))
  where
    go : (a b : Bool) → both (both a b) (list_all (λ x. leb lo x && leb x hi) s) ≡ ((a && b) && list_all (λ x. leb lo x && leb x hi) s)
    go true true = refl
    go true false = refl
    go false b = refl

-- at the byte i
module _ (lo hi : ℕ) (s : List ℕ) (i : ℕ) where
  pub range_below : i < length s → get_or s i 0 < lo → all_from lo hi (drop i s) ≡ false
  unfolding all_from both
  range_below h l = rw (drop-cons s i 0 h, lt-leb lo (get_or s i 0) l) refl

  pub range_above : i < length s → lo ≤ get_or s i 0 → hi < get_or s i 0 → all_from lo hi (drop i s) ≡ false
  unfolding all_from both
  range_above h l u = rw (drop-cons s i 0 h, le-leb lo (get_or s i 0) l, lt-leb (get_or s i 0) hi u) refl

  pub range_more : i < length s → lo ≤ get_or s i 0 → get_or s i 0 ≤ hi → all_from lo hi (drop i s) ≡ all_from lo hi (drop (i + 1) s)
  unfolding all_from both
  range_more h l u = rw (drop-cons s i 0 h, le-leb lo (get_or s i 0) l, le-leb (get_or s i 0) hi u, add-one i) refl

  pub range_end : length s ≤ i → all_from lo hi (drop i s) ≡ true
  unfolding all_from
  range_end h = rw (drop_of_length-le s h) refl

-- ---- digits
module _ (n : ℕ) (s : List ℕ) (i : ℕ) where
  pub decimal_more : i < length s → decimal_from n (drop i s) ≡ decimal_from (10 * n + (get_or s i 0 - 48)) (drop (i + 1) s)
  unfolding decimal_from
  decimal_more h = rw (drop-cons s i 0 h, add-one i) refl

  pub decimal_end : length s ≤ i → decimal_from n (drop i s) ≡ n
  unfolding decimal_from
  decimal_end h = rw (drop_of_length-le s h) refl

-- more digits only make it larger
pub decimal_grows : (n : ℕ) (s : List ℕ) → n ≤ decimal_from n s
unfolding decimal_from
decimal_grows n [] = omega arith
decimal_grows n (x ∷ s) = omega (arith, decimal_grows (10 * n + (x - 48)) s)

-- ---- a name over spaces: what is left of them behind it, and the type
spaces_left : (n k : ℕ) → drop {A = ℕ} k (replicate n 32) ≡ replicate (n - k) 32
spaces_left n k = same_left n k 32

pub type_behind : (n t : ℕ) → n ≤ 11 → drop n (replicate 11 32 ++ (t ∷ [])) ≡ replicate (11 - n) 32 ++ (t ∷ [])
type_behind n t h = drop-append-le n (replicate 11 32) (t ∷ []) h ∙ ap (λ (l : List ℕ). l ++ (t ∷ [])) (spaces_left 11 n)
