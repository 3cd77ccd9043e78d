-- The last k digits are those of the tenth part, one fewer, and one digit more, so each law of places goes by their number.
-- Assumes nothing.
use Prim.Native.Nat.{ℕ, zero, suc, ◌+◌, ◌-◌, ◌*◌, ◌/◌, ◌%◌, ◌≤◌, ◌<◌}
use mathlib.Core.Path.{◌≡◌, refl, sym, ◌∙◌}
use mathlib.Core.List.{List, [], ◌∷◌, ◌++◌}
use native.Mathlib.Omega.{arith}
use mathlib.Core.Bool.{true}
use lib.ListN.{length, length-append}
use lib.Dec.{leb}
use borrow.Author.Tests.{le-leb, leb-true}
use Rattle.facts.specs.Pick.{both}
use Rattle.facts.proofs.Picks.{both_true}
use Rattle.words.specs.Types.{all_from, decimal_from}
use Rattle.text.specs.Text.{last_place, Wrote}
use Rattle.text.proofs.Laws.{wrote_none, wrote_then}
use Rattle.figures.specs.Figures.{number_in, places_of}
use Rattle.std.specs.Prelude.{Some}
use Rattle.figures.proofs.NumberLaws.{number_is}

-- ---- written
pub places_none : (k n : ℕ) {b : List ℕ} {at : ℕ} → k ≡ 0 → length b ≤ last_place → Wrote b at (places_of k n) b at
unfolding places_of
places_none k n e l = rw e (wrote_none l)

pub places_more : (k n : ℕ) {b b' b'' : List ℕ} {at r r' : ℕ} → (k ≡ 0 → ⊥) → Wrote b at (places_of (k - 1) (n / 10)) b' r → Wrote b' r ((48 + n % 10) ∷ []) b'' r' → Wrote b at (places_of k n) b'' r'
unfolding places_of
places_more zero n h p q = absurd (h refl)
places_more (suc k) n h p q = let e : suc k - 1 ≡ k = omega arith in wrote_then (rw e at p) q

-- ---- bytes of a range, and what digits say, one list behind another
module _ (lo hi : ℕ) where
  pub all_cons : (x : ℕ) (s : List ℕ) → lo ≤ x → x ≤ hi → all_from lo hi s ≡ true → all_from lo hi (x ∷ s) ≡ true
  unfolding all_from both
  all_cons x s l u a = rw (le-leb lo x l, le-leb x hi u) a

  pub all_join : (s t : List ℕ) → all_from lo hi s ≡ true → all_from lo hi t ≡ true → all_from lo hi (s ++ t) ≡ true
  unfolding all_from both
  all_join [] t a b = b
  all_join (x ∷ s) t a b =
      let w = both_true {a = both (leb lo x) (leb x hi)} {b = all_from lo hi s} a in
      rw (w.0, all_join s t w.1 b) refl

-- a wider range
pub all_wider : (lo hi lo' hi' : ℕ) → lo' ≤ lo → hi ≤ hi' → (s : List ℕ) → all_from lo hi s ≡ true → all_from lo' hi' s ≡ true
unfolding all_from
all_wider lo hi lo' hi' l u [] a = refl
all_wider lo hi lo' hi' l u (x ∷ s) a =
    let w = both_true {a = both (leb lo x) (leb x hi)} {b = all_from lo hi s} a in
    let v = both_true {a = leb lo x} {b = leb x hi} w.0 in
    all_cons lo' hi' x s (omega (arith, leb-true lo x v.0)) (omega (arith, leb-true x hi v.1)) (all_wider lo hi lo' hi' l u s w.1)

from_snoc : (a : ℕ) (s : List ℕ) (x : ℕ) → decimal_from a (s ++ (x ∷ [])) ≡ 10 * decimal_from a s + (x - 48)
unfolding decimal_from
from_snoc a [] x = refl
from_snoc a (y ∷ s) x = from_snoc (10 * a + (y - 48)) s x

-- ---- read back
pub places_length : (k n : ℕ) → length (places_of k n) ≡ k
unfolding places_of
places_length zero n = refl
places_length (suc k) n = length-append (places_of k (n / 10)) ((48 + n % 10) ∷ []) ∙ omega (arith, places_length k (n / 10))

pub places_digits : (k n : ℕ) → all_from 48 57 (places_of k n) ≡ true
unfolding places_of all_from
places_digits zero n = refl
places_digits (suc k) n = all_join 48 57 (places_of k (n / 10)) ((48 + n % 10) ∷ []) (places_digits k (n / 10)) (all_cons 48 57 (48 + n % 10) [] (omega arith) (omega arith) refl)

-- q with k zeros behind it
unfoldable scaled : ℕ → ℕ → ℕ
scaled zero q = q
scaled (suc k) q = 10 * scaled k q

-- the places of a number are what it leaves over a number with zeros at them
places_say : (k q n r : ℕ) → n ≡ scaled k q + r → r < scaled k 1 → decimal_from 0 (places_of k n) ≡ r
unfolding places_of scaled decimal_from
places_say zero q n r e h = omega arith
places_say (suc k) q n r e h =
    let p : decimal_from 0 (places_of k (n / 10)) ≡ r / 10 = places_say k q (n / 10) (r / 10) (omega arith) (omega arith) in
    from_snoc 0 (places_of k (n / 10)) (48 + n % 10) ∙ omega arith

pub two_back : (most n : ℕ) → n < 100 → n ≤ most → number_in most (places_of 2 n) ≡ Some n
unfolding scaled
two_back most n h l = sym (number_is most (places_of 2 n) n (omega (arith, places_length 2 n)) (places_digits 2 n) (places_say 2 0 n n (omega arith) h) l)

pub six_back : (n : ℕ) → number_in 999999 (places_of 6 n) ≡ Some (n % 1000000)
unfolding scaled
six_back n = sym (number_is 999999 (places_of 6 n) (n % 1000000) (omega (arith, places_length 6 n)) (places_digits 6 n) (places_say 6 (n / 1000000) n (n % 1000000) (omega arith) (omega arith)) (omega arith))
