-- What two digits say and how a byte is written in two; of many, two bytes of digits at a time.
-- Assumes nothing.
use Rattle.std.proofs.Common.{Bool, true, false, List, [], ◌∷◌, ◌++◌, ◌≡◌, refl, sym, ap, ◌∙◌, ℕ, zero, suc, ◌+◌, ◌*◌, ◌/◌, ◌%◌, ◌≤◌, ◌<◌, le_of_suc-le-suc, not-suc-le-zero, add-one, arith, eqb, leb, length, get_or, take, take-suc, take_all, ltb-true, eqb-true, lt-ltb, true≢false, ⊎_elim, drop, length-drop, Some}
use Rattle.std.specs.Char.{digit_value, digit_char, is_digit}
use Rattle.facts.specs.Pick.{both}
use Rattle.text.specs.Text.{Wrote, last_place}
use Rattle.wire.specs.Le.{Bytes}
use Rattle.words.specs.Types.{all_from}
use Rattle.facts.proofs.Picks.{both_true, pick_cases}
use Rattle.facts.proofs.Runs.{run, in_run}
use Rattle.text.proofs.Laws.{wrote_none, wrote_then, wrote_as}
use Rattle.letters.specs.Letters.{all_hex, unhex, hex_of, is_marked, is_hex, digits_in}

-- ---- each of many digits is one
pub hex_at : (s : List ℕ) (k : ℕ) → all_hex s ≡ true → k < length s → digit_value (get_or s k 0) < 16
hex_at [] k e h = absurd (not-suc-le-zero h)
hex_at (x ∷ s) k e h = go (is_digit x 16) refl k h (hex_at s)
  where
    go : (t : Bool) → is_digit x 16 ≡ t → (k : ℕ) → k < suc (length s) → ((k : ℕ) → all_hex s ≡ true → k < length s → digit_value (get_or s k 0) < 16) → digit_value (get_or (x ∷ s) k 0) < 16
    go true p zero l rest = ltb-true (digit_value x) 16 p
    go true p (suc k) l rest = rest k (rw p at e) (le_of_suc-le-suc l)
    go false p k l rest = absurd (true≢false (sym (rw p at e)))

-- the digits behind the mark are as many as they should be, and each is one
pub marked_digits : (w : ℕ) (s d : List ℕ) → digits_in w s ≡ Some d → (length d ≡ 2 * w) × (all_hex d ≡ true)
unfolding digits_in is_hex
marked_digits w s d e = ⊎_elim (λ c. told c.0 (cc c.1)) (λ c. absurd (cc c.1)) (pick_cases e)
  where
    told : both (eqb (length s) (2 + 2 * w)) (both (is_marked s) (all_hex (drop 2 s))) ≡ true → drop 2 s ≡ d → (length d ≡ 2 * w) × (all_hex d ≡ true)
    told t same =
        let b = both_true {a = eqb (length s) (2 + 2 * w)} {b = both (is_marked s) (all_hex (drop 2 s))} t in
        let count = eqb-true (length s) (2 + 2 * w) b.0 in
        rw (← same) (rw length-drop (omega arith), (both_true {a = is_marked s} {b = all_hex (drop 2 s)} b.1).1)

-- ---- the byte at place k of what digits say
unfoldable pub byte_at : List ℕ → ℕ → ℕ
byte_at s k = 16 * digit_value (get_or s (2 * k) 0) + digit_value (get_or s (2 * k + 1) 0)

byte_on : (x y : ℕ) (s : List ℕ) (k : ℕ) → byte_at (x ∷ y ∷ s) (suc k) ≡ byte_at s k
unfolding byte_at
byte_on x y s k =
    let e : 2 * suc k ≡ suc (suc (2 * k)) = omega arith in
    let f : suc (suc (2 * k)) + 1 ≡ suc (suc (2 * k + 1)) = omega arith in
    rw (e, f)

pub is_unhex : (s l : List ℕ) → length s ≡ 2 * length l → ((k : ℕ) → k < length l → get_or l k 0 ≡ byte_at s k) → l ≡ unhex s
unfolding unhex byte_at
is_unhex [] [] e h = refl
is_unhex (x ∷ []) [] e h = absurd (omega arith)
is_unhex (x ∷ y ∷ s) [] e h = absurd (omega arith)
is_unhex [] (z ∷ l) e h = absurd (omega arith)
is_unhex (x ∷ []) (z ∷ l) e h = absurd (omega arith)
is_unhex (x ∷ y ∷ s) (z ∷ l) e h =
    let front : z ≡ 16 * digit_value x + digit_value y = h 0 (omega arith) in
    let rest : l ≡ unhex s = is_unhex s l (omega arith) (λ k lt. h (suc k) (omega arith) ∙ byte_on x y s k) in
    λ i. front i ∷ rest i

-- ---- digits as they are written
hex_snoc : (s : List ℕ) (x : ℕ) → hex_of (s ++ (x ∷ [])) ≡ hex_of s ++ (digit_char (x / 16) ∷ digit_char (x % 16) ∷ [])
unfolding hex_of
hex_snoc [] x = refl
hex_snoc (y ∷ s) x = ap (λ (l : List ℕ). digit_char (y / 16) ∷ digit_char (y % 16) ∷ l) (hex_snoc s x)

pub digits_none : (s : List ℕ) {b : List ℕ} {at : ℕ} → length b ≤ last_place → Wrote b at (hex_of (take 0 s)) b at
unfolding hex_of
digits_none s l = wrote_none l

pub digits_more : (s : List ℕ) (i : ℕ) {b b' b'' : List ℕ} {at r r' : ℕ} → i < length s → Wrote b at (hex_of (take i s)) b' r → Wrote b' r (digit_char (get_or s i 0 / 16) ∷ digit_char (get_or s i 0 % 16) ∷ []) b'' r' → Wrote b at (hex_of (take (i + 1) s)) b'' r'
digits_more s i h p q = rw (add-one, take-suc s i 0, hex_snoc) (wrote_then p q)

pub digits_all : (s : List ℕ) (i : ℕ) {b b' : List ℕ} {at r : ℕ} → length s ≤ i → Wrote b at (hex_of (take i s)) b' r → Wrote b at (hex_of s) b' r
digits_all s i h p = wrote_as (ap hex_of (take_all i s h)) p

-- ---- there and back
back : ℕ → Bool
back d = eqb (digit_value (digit_char d)) d

solid : ℕ → Bool
solid d = both (leb 33 (digit_char d)) (leb (digit_char d) 126)

-- a digit that is written says what it was
pub digit_back : (d : ℕ) → d < 16 → digit_value (digit_char d) ≡ d
unfolding back run both
digit_back d h = eqb-true (digit_value (digit_char d)) d (in_run back 0 16 refl d (omega arith) (omega arith))

digit_solid : (d : ℕ) → d < 16 → both (leb 33 (digit_char d)) (leb (digit_char d) 126) ≡ true
unfolding solid run both
digit_solid d h = in_run solid 0 16 refl d (omega arith) (omega arith)

pub hex_length : (v : List ℕ) → length (hex_of v) ≡ 2 * length v
unfolding hex_of
hex_length [] = refl
hex_length (x ∷ v) = omega (arith, hex_length v)

pub hex_solid : (v : List ℕ) → Bytes v → all_from 33 126 (hex_of v) ≡ true
unfolding hex_of all_from both
hex_solid [] h = refl
hex_solid (x ∷ v) h =
    let lt : x < 256 = h 0 in
    rw (digit_solid (x / 16) (omega arith), digit_solid (x % 16) (omega arith), hex_solid v (λ i. h (suc i))) refl

pub hex_digits : (v : List ℕ) → Bytes v → all_hex (hex_of v) ≡ true
unfolding hex_of
hex_digits [] h = refl
hex_digits (x ∷ v) h =
    let lt : x < 256 = h 0 in
    let high : digit_value (digit_char (x / 16)) ≡ x / 16 = digit_back (x / 16) (omega arith) in
    let low : digit_value (digit_char (x % 16)) ≡ x % 16 = digit_back (x % 16) (omega arith) in
    rw (high, low, lt-ltb (x / 16) 16 (omega arith), lt-ltb (x % 16) 16 (omega arith)) (hex_digits v (λ i. h (suc i)))

pub hex_back : (v : List ℕ) → Bytes v → unhex (hex_of v) ≡ v
unfolding hex_of unhex
hex_back [] h = refl
hex_back (x ∷ v) h =
    let lt : x < 256 = h 0 in
    let high : digit_value (digit_char (x / 16)) ≡ x / 16 = digit_back (x / 16) (omega arith) in
    let low : digit_value (digit_char (x % 16)) ≡ x % 16 = digit_back (x % 16) (omega arith) in
    let both_of : 16 * (x / 16) + x % 16 ≡ x = omega arith in
    rw (high, low, both_of, hex_back v (λ i. h (suc i)))

pub unhex_length : (s : List ℕ) (n : ℕ) → length s ≡ 2 * n → length (unhex s) ≡ n
unfolding unhex
unhex_length [] n e = omega arith
unhex_length (x ∷ []) n e = absurd (omega arith)
unhex_length (x ∷ y ∷ s) zero e = absurd (omega arith)
unhex_length (x ∷ y ∷ s) (suc n) e = ap suc (unhex_length s n (omega arith))
