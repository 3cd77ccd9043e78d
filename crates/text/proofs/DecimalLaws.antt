-- A number from ten on is its tenth part and one digit more, so each law of decimals goes by the number of digits.
-- Assumes nothing.
use Prim.Native.Nat.{ℕ, zero, suc, ◌+◌, ◌-◌, ◌*◌, ◌/◌, ◌%◌, ◌^◌, ◌≤◌, ◌<◌}
use mathlib.Core.Path.{◌≡◌, refl, sym, ap, ◌∙◌}
use mathlib.Core.List.{List, [], ◌∷◌, ◌++◌}
use native.Mathlib.Decide.{dec_le}
use native.Mathlib.Nat.{pow-suc, not-suc-le-zero, le_of_suc-le-suc}
use native.Mathlib.Omega.{arith}
use native.Mathlib.Numerals.{add-one}
use lib.ListN.{length, get_or, set, take, drop, length-append, length-drop, length-set, get_or-append}
use lib.Seq.{append_snoc, take_all}
use borrow.Author.Tests.{lt-ltb, le-ltb}
use Rattle.facts.specs.Pick.{pick}
use Rattle.text.specs.Text.{digits_of, decimal_of}

-- ---- the two cases of a decimal
digits_small : (f n : ℕ) → n < 10 → digits_of (suc f) n ≡ (48 + n) ∷ []
unfolding digits_of pick
digits_small f n h = rw (lt-ltb n 10 h)

digits_more : (f n : ℕ) → 10 ≤ n → digits_of (suc f) n ≡ digits_of f (n / 10) ++ ((48 + n % 10) ∷ [])
unfolding digits_of pick
digits_more f n h = rw (le-ltb n 10 h)

-- what holds below ten, and of a number where it holds of its tenth part, holds of each
pub decimal_ind : (P : ℕ → Type 0) → ((n : ℕ) → n < 10 → P n) → ((n : ℕ) → 10 ≤ n → P (n / 10) → P n) → (n : ℕ) → P n
decimal_ind P small more n = go (suc n) n (omega arith)
  where
    go : (f n : ℕ) → n < f → P n
    go zero n h = absurd (not-suc-le-zero h)
    go (suc f) n h = by (go f) (dec_le 10 n)
      where
        by : ((k : ℕ) → k < f → P k) → Dec (10 ≤ n) → P n
        by rec (yes l) = more n l (rec (n / 10) (omega arith))
        by rec (no l) = small n (omega arith)

-- as many digits as there are, or more, make no difference
enough : (f g n : ℕ) → n < f → n < g → digits_of f n ≡ digits_of g n
enough zero g n h k = absurd (not-suc-le-zero h)
enough (suc f) zero n h k = absurd (not-suc-le-zero k)
enough (suc f) (suc g) n h k = by (enough f g (n / 10)) (dec_le 10 n)
  where
    by : (n / 10 < f → n / 10 < g → digits_of f (n / 10) ≡ digits_of g (n / 10)) → Dec (10 ≤ n) → digits_of (suc f) n ≡ digits_of (suc g) n
    by rec (yes l) = digits_more f n l ∙ ap (λ (s : List ℕ). s ++ ((48 + n % 10) ∷ [])) (rec (omega arith) (omega arith)) ∙ sym (digits_more g n l)
    by rec (no l) = digits_small f n (omega arith) ∙ sym (digits_small g n (omega arith))

pub decimal_small : (n : ℕ) → n < 10 → decimal_of n ≡ (48 + n) ∷ []
unfolding decimal_of
decimal_small n h = digits_small n n h

pub decimal_more : (n : ℕ) → 10 ≤ n → decimal_of n ≡ decimal_of (n / 10) ++ ((48 + n % 10) ∷ [])
unfolding decimal_of
decimal_more n h = digits_more n n h ∙ ap (λ (s : List ℕ). s ++ ((48 + n % 10) ∷ [])) (enough n (suc (n / 10)) (n / 10) (omega arith) (omega arith))

-- ---- how many digits
-- one more than the tenth part has
pub decimal_longer : (n : ℕ) → 10 ≤ n → length (decimal_of n) ≡ length (decimal_of (n / 10)) + 1
decimal_longer n h = ap length (decimal_more n h) ∙ length-append (decimal_of (n / 10)) ((48 + n % 10) ∷ [])

pub decimal_some : (n : ℕ) → 0 < length (decimal_of n)
decimal_some = decimal_ind (λ n. 0 < length (decimal_of n)) (λ n h. omega (arith, ap length (decimal_small n h))) (λ n h p. omega (arith, decimal_longer n h))

pub decimal_length : (k n : ℕ) → n < 10 ^ suc k → length (decimal_of n) ≤ suc k
decimal_length zero n h = omega (arith, ap length (decimal_small n (omega arith)))
decimal_length (suc k) n h = go (decimal_length k (n / 10) (omega (arith, pow-suc 10 (suc k)))) (dec_le 10 n)
  where
    go : length (decimal_of (n / 10)) ≤ suc k → Dec (10 ≤ n) → length (decimal_of n) ≤ suc (suc k)
    go rec (yes l) = omega (arith, decimal_longer n l)
    go rec (no l) = omega (arith, ap length (decimal_small n (omega arith)))

-- a number of 64 bits
pub decimal_le : (n : ℕ) → n < 2 ^ 64 → length (decimal_of n) ≤ 20
decimal_le n h = decimal_length 19 n (omega arith)

-- ---- which digits
digits_snoc : (s : List ℕ) (x : ℕ) → ((i : ℕ) → i < length s → (48 ≤ get_or s i 0) × (get_or s i 0 < 58)) → 48 ≤ x → x < 58 → (i : ℕ) → i < length (s ++ (x ∷ [])) → (48 ≤ get_or (s ++ (x ∷ [])) i 0) × (get_or (s ++ (x ∷ [])) i 0 < 58)
digits_snoc [] x a l u zero h = (l, u)
digits_snoc [] x a l u (suc i) h = absurd (not-suc-le-zero (le_of_suc-le-suc h))
digits_snoc (y ∷ s) x a l u zero h = a 0 (omega arith)
digits_snoc (y ∷ s) x a l u (suc i) h = digits_snoc s x (λ j b. a (suc j) (omega arith)) l u i (le_of_suc-le-suc h)

-- every byte is `0` to `9`
pub decimal_digits : (n i : ℕ) → i < length (decimal_of n) → (48 ≤ get_or (decimal_of n) i 0) × (get_or (decimal_of n) i 0 < 58)
decimal_digits =
    decimal_ind (λ n. (i : ℕ) → i < length (decimal_of n) → (48 ≤ get_or (decimal_of n) i 0) × (get_or (decimal_of n) i 0 < 58))
    (λ n h. rw (decimal_small n h) (digits_snoc [] (48 + n) (λ i l. absurd (not-suc-le-zero l)) (omega arith) (omega arith)))
    (λ n h p. rw (decimal_more n h) (digits_snoc (decimal_of (n / 10)) (48 + n % 10) p (omega arith) (omega arith)))

-- and the first is no `0`, but in `0` alone (Vectors, zero-is)
pub decimal_lead : (n : ℕ) → 0 < n → 48 < get_or (decimal_of n) 0 0
decimal_lead =
    decimal_ind (λ n. 0 < n → 48 < get_or (decimal_of n) 0 0)
    (λ n h l. rw (decimal_small n h) (omega arith))
    (λ n h p l. rw (decimal_more n h, get_or-append (decimal_of (n / 10)) ((48 + n % 10) ∷ []) 0 0 (decimal_some (n / 10))) (p (omega arith)))

-- ---- a decimal read back
-- the number that the digits s are, behind the number a
unfoldable pub read_on : ℕ → List ℕ → ℕ
read_on a [] = a
read_on a (x ∷ s) = read_on (10 * a + (x - 48)) s

read_snoc : (a : ℕ) (s : List ℕ) (x : ℕ) → read_on a (s ++ (x ∷ [])) ≡ 10 * read_on a s + (x - 48)
unfolding read_on
read_snoc a [] x = refl
read_snoc a (y ∷ s) x = read_snoc (10 * a + (y - 48)) s x

pub decimal_reads : (n : ℕ) → read_on 0 (decimal_of n) ≡ n
unfolding read_on
decimal_reads =
    decimal_ind (λ n. read_on 0 (decimal_of n) ≡ n)
    (λ n h. rw (decimal_small n h) (omega arith))
    (λ n h p. rw (decimal_more n h, read_snoc 0 (decimal_of (n / 10)) (48 + n % 10), p) (omega arith))

-- numbers with one decimal are one number
pub decimal_same : (m n : ℕ) → decimal_of m ≡ decimal_of n → m ≡ n
decimal_same m n e = sym (decimal_reads m) ∙ ap (read_on 0) e ∙ decimal_reads n

-- ---- digits put into d from the back: those of `rest` are still to come
drop_set : (d : List ℕ) (i v : ℕ) → i < length d → drop i (set d i v) ≡ v ∷ drop (suc i) d
drop_set [] i v h = absurd (not-suc-le-zero h)
drop_set (x ∷ d) zero v h = refl
drop_set (x ∷ d) (suc i) v h = drop_set d i v (le_of_suc-le-suc h)

pub spell_more : (d : List ℕ) (i j n rest v : ℕ) → i ≡ j + 1 → j < length d → 10 ≤ rest → v ≡ 48 + rest % 10 → decimal_of rest ++ drop i d ≡ decimal_of n → decimal_of (rest / 10) ++ drop j (set d j v) ≡ decimal_of n
spell_more d i j n rest v e l h w p = rw (drop_set d j v l, ← append_snoc (decimal_of (rest / 10)) v (drop (suc j) d), w, ← decimal_more rest h, ← add-one j, ← e) p

pub spell_last : (d : List ℕ) (i j k n rest v : ℕ) → i ≡ j + 1 → j < length d → length d ≤ j + k → rest < 10 → v ≡ 48 + rest % 10 → decimal_of rest ++ drop i d ≡ decimal_of n → take k (drop j (set d j v)) ≡ decimal_of n
spell_last d i j k n rest v e l u h w p =
    let a : length (drop j (set d j v)) ≤ k = simp (length-drop, length-set) (omega arith) in
    let b : v ≡ 48 + rest = omega arith in
    rw (take_all k (drop j (set d j v)) a, drop_set d j v l, b, ← add-one j, ← e) (rw (decimal_small rest h) at p)
