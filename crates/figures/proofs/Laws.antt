-- What is written of a number, a price or a time is read back as it: decimals and places say their number, and their bytes are digits, which neither the full stop nor a colon is.
-- Assumes nothing.
use Prim.Native.Nat.{ℕ, ◌+◌, ◌-◌, ◌*◌, ◌/◌, ◌%◌, ◌^◌, ◌≤◌, ◌<◌}
use mathlib.Core.Path.{◌≡◌, refl, sym, ap, ◌∙◌}
use mathlib.Core.Bool.{true, false}
use mathlib.Core.List.{List, [], ◌∷◌, append-nil}
use native.Mathlib.Decide.{dec_le}
use native.Mathlib.Omega.{arith}
use lib.ListN.{length, get_or, take, drop, length-append}
use lib.Seq.{take-append_seam, drop-append-add}
use lib.Dec.{eqb}
use borrow.Author.Tests.{eqb-true}
use Rattle.facts.specs.Pick.{pick, both}
use Rattle.facts.proofs.Picks.{both_true, refuted}
use Rattle.text.specs.Text.{decimal_of}
use Rattle.text.proofs.DecimalLaws.{read_on, decimal_ind, decimal_small, decimal_more, decimal_some, decimal_length, decimal_le, decimal_digits, decimal_reads}
use Rattle.words.specs.Types.{all_from, decimal_from}
use Rattle.spans.specs.Spans.{place_of}
use Rattle.spans.proofs.Laws.{place_front, place_below}
use Rattle.figures.specs.Figures.{number_in, places_of, most_dollars, millionths_in, priced, price_in, price_text, timed, coloned, hours_in, clock_in, hours_text, clock_text}
use Rattle.std.specs.Prelude.{Some}
use Rattle.figures.proofs.NumberLaws.{number_is}
use Rattle.figures.proofs.PlaceLaws.{all_cons, all_join, all_wider, places_length, places_digits, two_back, six_back}
use Rattle.figures.proofs.FormLaws.{price_split, clock_number, clock_day, clock_past}

-- ---- decimals
decimal_all : (n : ℕ) → all_from 48 57 (decimal_of n) ≡ true
unfolding all_from
decimal_all =
    decimal_ind (λ n. all_from 48 57 (decimal_of n) ≡ true)
    (λ n h. rw (decimal_small n h) (all_cons 48 57 (48 + n) [] (omega arith) (omega arith) refl))
    (λ n h p. rw (decimal_more n h) (all_join 48 57 (decimal_of (n / 10)) ((48 + n % 10) ∷ []) p (all_cons 48 57 (48 + n % 10) [] (omega arith) (omega arith) refl)))

read_same : (a : ℕ) (s : List ℕ) → decimal_from a s ≡ read_on a s
unfolding decimal_from read_on
read_same a [] = refl
read_same a (x ∷ s) = read_same (10 * a + (x - 48)) s

pub number_back : (most n : ℕ) → n ≤ most → number_in most (decimal_of n) ≡ Some n
number_back most n h = sym (number_is most (decimal_of n) n (decimal_some n) (decimal_all n) (read_same 0 (decimal_of n) ∙ decimal_reads n) h)

digits_solid : (s : List ℕ) → all_from 48 57 s ≡ true → all_from 33 126 s ≡ true
digits_solid s a = all_wider 48 57 33 126 (omega arith) (omega arith) s a

pub decimal_solid : (n : ℕ) → (1 ≤ length (decimal_of n)) × (all_from 33 126 (decimal_of n) ≡ true)
decimal_solid n = (decimal_some n, digits_solid (decimal_of n) (decimal_all n))

-- ---- prices
six_digits : (s : List ℕ) → length s ≡ 6 → millionths_in s ≡ number_in 999999 s
unfolding millionths_in pick both
six_digits s h = rw (h, append-nil s)

price_length : (n : ℕ) → length (price_text n) ≡ length (decimal_of (n / 1000000)) + 7
unfolding price_text
price_length n = length-append (decimal_of (n / 1000000)) (46 ∷ places_of 6 n) ∙ omega (arith, places_length 6 n)

module _ (n : ℕ) where
  price_place : place_of 46 (price_text n) ≡ length (decimal_of (n / 1000000))
  unfolding price_text
  price_place =
      let d = decimal_of (n / 1000000) in
      place_front 46 d (places_of 6 n) (place_below 46 48 57 d (decimal_all (n / 1000000)) (omega arith))

  price_dollars : n ≤ 1000000000000000 → number_in most_dollars (take (length (decimal_of (n / 1000000))) (price_text n)) ≡ Some (n / 1000000)
  unfolding price_text
  price_dollars h = rw (take-append_seam (decimal_of (n / 1000000)) (46 ∷ places_of 6 n)) (number_back most_dollars (n / 1000000) (omega arith))

  price_millionths : millionths_in (drop (length (decimal_of (n / 1000000)) + 1) (price_text n)) ≡ Some (n % 1000000)
  unfolding price_text
  price_millionths = rw (drop-append-add (decimal_of (n / 1000000)) (46 ∷ places_of 6 n) 1) (six_digits (places_of 6 n) (places_length 6 n) ∙ six_back n)

pub price_back : (n : ℕ) → n ≤ 1000000000000000 → price_in (price_text n) ≡ Some n
unfolding priced
price_back n h =
    price_split (price_text n) (length (decimal_of (n / 1000000))) (price_place n) (omega (arith, price_length n))
    ∙ rw (price_dollars n h, price_millionths n) (ap Some (omega arith))

pub price_solid : (n : ℕ) → (1 ≤ length (price_text n)) × (all_from 33 126 (price_text n) ≡ true)
unfolding price_text
price_solid n = (
  omega (arith, price_length n),
  all_join 33 126 (decimal_of (n / 1000000)) (46 ∷ places_of 6 n) (digits_solid _ (decimal_all (n / 1000000)))
      (all_cons 33 126 46 (places_of 6 n) (omega arith) (omega arith) (digits_solid _ (places_digits 6 n))),
)

pub price_short : (n : ℕ) → n < 2 ^ 64 → length (price_text n) ≤ 24
price_short n h = omega (arith, price_length n, decimal_length 13 (n / 1000000) (omega arith))

-- ---- times
-- what is so of the hours of a second of the day and of any other second's decimal is so of its text
clock_ind : (P : List ℕ → Type 0) (n : ℕ) → (n < 86400 → P (hours_text n)) → (86400 ≤ n → P (decimal_of n)) → P (clock_text n)
clock_ind P n a b = go (dec_le 86400 n)
  where
    go : Dec (86400 ≤ n) → P (clock_text n)
    go (yes h) = rw (← clock_past n h) (b h)
    go (no h) = let l : n < 86400 = omega arith in rw (← clock_day n l) (a l)

hours_parted : (n : ℕ) → clock_in (hours_text n) ≡ timed (number_in 23 (places_of 2 (n / 3600))) (number_in 59 (places_of 2 (n / 60 % 60))) (number_in 59 (places_of 2 (n % 60)))
unfolding clock_in hours_in coloned hours_text places_of pick both
hours_parted n = refl

hours_back : (n : ℕ) → n < 86400 → clock_in (hours_text n) ≡ Some n
unfolding timed
hours_back n h =
    rw (hours_parted n, two_back 23 (n / 3600) (omega arith) (omega arith), two_back 59 (n / 60 % 60) (omega arith) (omega arith), two_back 59 (n % 60) (omega arith) (omega arith))
    (ap Some (omega arith))

-- no digit is a colon
decimal_plain : (n : ℕ) → coloned (decimal_of n) ≡ false
unfolding coloned
decimal_plain n = sym (refuted (coloned (decimal_of n)) (λ e.
    let d = decimal_of n in
    let w = both_true {a = eqb (length d) 8} {b = both (eqb (get_or d 2 0) 58) (eqb (get_or d 5 0) 58)} e in
    let v = both_true {a = eqb (get_or d 2 0) 58} {b = eqb (get_or d 5 0) 58} w.1 in
    let l : length d ≡ 8 = eqb-true (length d) 8 w.0 in
    omega (arith, eqb-true (get_or d 2 0) 58 v.0, decimal_digits n 2 (omega arith))))

pub clock_back : (n : ℕ) → n ≤ 4294967295 → clock_in (clock_text n) ≡ Some n
clock_back n h =
    clock_ind (λ s. clock_in s ≡ Some n) n
    (λ l. hours_back n l)
    (λ l. clock_number (decimal_of n) (decimal_plain n) ∙ number_back 4294967295 n h)

hours_length : (n : ℕ) → length (hours_text n) ≡ 8
unfolding hours_text places_of
hours_length n = refl

hours_all : (n : ℕ) → all_from 33 126 (hours_text n) ≡ true
unfolding hours_text
hours_all n =
    let all : (k : ℕ) → all_from 33 126 (places_of 2 k) ≡ true = λ k. digits_solid (places_of 2 k) (places_digits 2 k) in
    all_join 33 126 (places_of 2 (n / 3600)) _ (all (n / 3600))
    (all_cons 33 126 58 _ (omega arith) (omega arith)
    (all_join 33 126 (places_of 2 (n / 60 % 60)) _ (all (n / 60 % 60)) (all_cons 33 126 58 _ (omega arith) (omega arith) (all (n % 60)))))

pub clock_solid : (n : ℕ) → (1 ≤ length (clock_text n)) × (all_from 33 126 (clock_text n) ≡ true)
clock_solid n = clock_ind (λ s. (1 ≤ length s) × (all_from 33 126 s ≡ true)) n (λ l. (omega (arith, hours_length n), hours_all n)) (λ l. decimal_solid n)

pub clock_short : (n : ℕ) → n < 2 ^ 64 → length (clock_text n) ≤ 24
clock_short n h = clock_ind (λ s. length s ≤ 24) n (λ l. omega (arith, hours_length n)) (λ l. omega (arith, decimal_le n h))
