-- A number is told by its three tests: it has a digit, it is digits alone, and it is at most the most; more digits only make it larger, so a reader may stop above that.
-- Assumes nothing.
use Prim.Native.Nat.{ℕ, ◌+◌, ◌-◌, ◌*◌, ◌≤◌, ◌<◌}
use mathlib.Core.Path.{◌≡◌, ap, ◌∙◌}
use mathlib.Core.Bool.{Bool, true, false}
use mathlib.Core.List.{List}
use native.Mathlib.Omega.{arith}
use lib.ListN.{length, get_or, drop}
use lib.Dec.{leb}
use borrow.Author.Tests.{le-leb, lt-leb, leb-true}
use Rattle.facts.specs.Pick.{pick, both}
use Rattle.facts.proofs.Picks.{pick_cases, both_true}
use mathlib.Core.Logic.{◌⊎◌, inl, inr, ⊎_elim}
use Rattle.std.specs.Char.{digit_value, IsDigitOf}
use Rattle.std.proofs.lemmas.Bool.{cases_lt}
use Rattle.words.specs.Types.{all_from, decimal_from}
use Rattle.words.proofs.TypeLaws.{range_below, range_above, range_more, range_end, decimal_more, decimal_end, decimal_grows}
use Rattle.figures.specs.Figures.{number_in}
use Rattle.std.specs.Prelude.{Some, None}

-- ---- what each test decides
module _ (most : ℕ) (s : List ℕ) where
  pub number_none : length s < 1 → None ≡ number_in most s
  unfolding number_in pick both
  number_none h = simp (lt-leb 1 (length s) h)

  number_other : 1 ≤ length s → all_from 48 57 s ≡ false → None ≡ number_in most s
  unfolding number_in pick both
  number_other h a = simp (le-leb 1 (length s) h, a)

  pub number_is : (n : ℕ) → 1 ≤ length s → all_from 48 57 s ≡ true → decimal_from 0 s ≡ n → n ≤ most → Some n ≡ number_in most s
  unfolding number_in pick both
  number_is n h a e l = simp (le-leb 1 (length s) h, a, e, le-leb n most l)

  number_past : 1 ≤ length s → most < decimal_from 0 s → None ≡ number_in most s
  unfolding number_in pick both
  number_past h l = go (all_from 48 57 s)
    where
      go : (a : Bool) → None ≡ pick (both (leb 1 (length s)) (both a (leb (decimal_from 0 s) most))) (Some (decimal_from 0 s)) None
      go true = simp (le-leb 1 (length s) h, lt-leb (decimal_from 0 s) most l)
      go false = simp (le-leb 1 (length s) h)

  -- what was read is at most the most
  pub number_most : (x : ℕ) → number_in most s ≡ Some x → x ≤ most
  unfolding number_in
  number_most x e =
      ⊎_elim
      (λ w.
      let same : decimal_from 0 s ≡ x = cc w.1 in
      omega (arith, leb-true (decimal_from 0 s) most (both_true {a = all_from 48 57 s} {b = leb (decimal_from 0 s) most} (both_true {a = leb 1 (length s)} {b = both (all_from 48 57 s) (leb (decimal_from 0 s) most)} w.0).1).1))
      (λ w. absurd (cc w.1))
      (pick_cases e)

-- ---- a digit, as `to_digit` tells it
pub a_digit : (x d : ℕ) → (digit_value x < 10) × (d ≡ digit_value x) → IsDigitOf x d → (48 ≤ x) × (x ≤ 57) × (d ≡ x - 48)
a_digit x d v (inl w) = (omega arith, omega arith, omega arith)
a_digit x d v (inr (inl w)) = let small : d < 10 = rw v.1 v.0 in absurd (omega arith)
a_digit x d v (inr (inr w)) = let small : d < 10 = rw v.1 v.0 in absurd (omega arith)

-- ---- the loop at the byte i, with n read before it
abbrev pub Read : ℕ → List ℕ → ℕ → ℕ → Type 0
Read most s n i = (i ≤ length s) × (n ≤ most) × (all_from 48 57 s ≡ all_from 48 57 (drop i s)) × (decimal_from 0 s ≡ decimal_from n (drop i s))

module _ (most : ℕ) (s : List ℕ) (n i : ℕ) (some : 1 ≤ length s) (r : Read most s n i) where
  pub read_other : i < length s → (48 ≤ get_or s i 0 → get_or s i 0 ≤ 57 → 58 ≤ get_or s i 0) → None ≡ number_in most s
  read_other h other = go (cases_lt (get_or s i 0) 48)
    where
      go : (get_or s i 0 < 48) ⊎ (48 ≤ get_or s i 0) → None ≡ number_in most s
      go (inl l) = number_other most s some (r.2 ∙ range_below 48 57 s i h l)
      go (inr l) = ⊎_elim (λ u. number_other most s some (r.2 ∙ range_above 48 57 s i h l u)) (λ u. absurd (omega (arith, other l u))) (cases_lt 57 (get_or s i 0))

  -- one digit d more, so that m is read
  module _ (d m : ℕ) (h : i < length s) (digit : (48 ≤ get_or s i 0) × (get_or s i 0 ≤ 57) × (d ≡ get_or s i 0 - 48)) (more : m ≡ n * 10 + d) where
    read_one : decimal_from 0 s ≡ decimal_from m (drop (i + 1) s)
    read_one =
        let same : 10 * n + (get_or s i 0 - 48) ≡ m = omega arith in
        r.3 ∙ decimal_more n s i h ∙ ap (λ (k : ℕ). decimal_from k (drop (i + 1) s)) same

    pub read_past : most < m → None ≡ number_in most s
    read_past l = number_past most s some (omega (arith, read_one, decimal_grows m (drop (i + 1) s)))

    pub read_more : m ≤ most → Read most s m (i + 1)
    read_more l = (omega arith, l, r.2 ∙ range_more 48 57 s i h digit.0 digit.1, read_one)

  pub read_end : length s ≤ i → Some n ≡ number_in most s
  read_end h = number_is most s n some (r.2 ∙ range_end 48 57 s i h) (r.3 ∙ decimal_end n s i h) r.1
