-- The shared law of little-endian reading, at every width, and what follows from it; and of writing, byte by byte. No law of reading asks that
-- the bytes are there: a byte past the end counts as 0, on both sides, and none is stored there.
-- Assumes nothing.
use mathlib.Core.Path.{◌≡◌, refl, sym, ap, ◌∙◌}
use mathlib.Core.List.{List, [], ◌∷◌, ◌++◌, append_assoc, append-nil}
use Prim.Native.Nat.{ℕ, zero, suc, ◌+◌, ◌-◌, ◌*◌, ◌/◌, ◌%◌, ◌^◌, ◌≤◌, ◌<◌, min}
use mathlib.Core.Bool.{Bool, true, false}
use mathlib.Core.Logic.{◌⊎◌, inl, inr}
use lib.Dec.{leb}
use borrow.Author.Tests.{leb-true, leb-false, le-leb, lt-leb}
use native.Mathlib.Nat.{pow-suc, pow-succ', pow-zero, zero-add, add-zero, suc-add, add-suc, mul_assoc, mul_comm, div-one, div-div-eq-div-mul, add-sub_cancel_left}
use native.Mathlib.Omega.{arith}
use lib.ListN.{length, take, drop, get_or, set, length-set, replicate, length-append, length-drop, length-replicate, drop_of_length-le, take-append-drop}
use lib.Seq.{sets, sets-eq, length-sets, take_at, drop_at, drop-drop, take-nil, take_all, drop-nil, length-take-le, take-append-le, get_or-take, get_or-drop, ext_get_or}
use Rattle.std.proofs.Common.{add-one}
use Rattle.std.specs.Int.{sum_through, byte_worth, bytes_low_first}
use Rattle.std.proofs.lemmas.Bool.{cases_lt}
use Rattle.facts.proofs.PieceLaws.{same_left}
use Rattle.facts.proofs.Stores.{sets_past, sets_append}
use Rattle.wire.specs.Le.{le, to_le, field, padded, Bytes}

-- what the test for bytes that are there says, where n of them can be
pub fits_test : (at n l : ℕ) → n ≤ l → leb at (l - n) ≡ leb (at + n) l
fits_test at n l h = go (leb at (l - n)) refl
  where
    go : (x : Bool) → leb at (l - n) ≡ x → leb at (l - n) ≡ leb (at + n) l
    go true e = e ∙ sym (le-leb (at + n) l (omega (arith, leb-true at (l - n) e)))
    go false e = e ∙ sym (lt-leb (at + n) l (omega (arith, leb-false at (l - n) e)))

-- the law: one more byte, at the front
pub field_more : (b : List ℕ) (at w : ℕ) → field b at (suc w) ≡ get_or b at 0 + 256 * field b (suc at) w
unfolding field le
field_more [] at w = rw (drop-nil at, take-nil w) refl
field_more (x ∷ xs) zero w = refl
field_more (x ∷ xs) (suc n) w = field_more xs n w

pub field_none : (b : List ℕ) (at : ℕ) → field b at 0 ≡ 0
unfolding field le
field_none b at = refl

-- a field in two parts, at any widths
pub field_split : (b : List ℕ) (at v w : ℕ) → field b at (v + w) ≡ field b at v + 256 ^ v * field b (at + v) w
field_split b at zero w = rw (zero-add, add-zero, field_none, pow-zero) (omega arith)
field_split b at (suc v) w =
    let ih = field_split b (suc at) v w in
    rw (suc-add, field_more, field_more b at v, pow-succ', mul_assoc, add-suc, ← suc-add) (omega (arith, ih))

pub field_one : (b : List ℕ) (at : ℕ) → field b at 1 ≡ get_or b at 0
field_one b at = rw (field_more, field_none) (omega arith)

pub field_past : (b : List ℕ) (at w : ℕ) → length b ≤ at → field b at w ≡ 0
unfolding field le
field_past b at w h = rw (drop_of_length-le, take-nil) refl

pub field_below : (b : List ℕ) → Bytes b → (at w : ℕ) → field b at w < 256 ^ w
field_below b h at zero = rw field_none (omega arith)
field_below b h at (suc w) = rw (field_more, pow-suc) (omega (arith, h at, field_below b h (suc at) w))

zeros : (n k : ℕ) → ◌≡◌ {A = ℕ} (get_or (replicate n 0) k 0) 0
zeros zero k = refl
zeros (suc n) zero = refl
zeros (suc n) (suc k) = zeros n k

get_or_zeros : (xs : List ℕ) (n k : ℕ) → get_or (xs ++ replicate n 0) k 0 ≡ get_or xs k 0
get_or_zeros [] n k = zeros n k
get_or_zeros (x ∷ xs) n zero = refl
get_or_zeros (x ∷ xs) n (suc k) = get_or_zeros xs n k

zeros_left : (n k : ℕ) → drop {A = ℕ} k (replicate n 0) ≡ replicate (n - k) 0
zeros_left n k = same_left n k 0

pub length_padded : (b : List ℕ) (at n : ℕ) → length (padded b at n) ≡ n
unfolding padded
length_padded b at n = length-take-le n (drop at b ++ replicate n 0) (rw (length-append, length-replicate) (omega arith))

pub get_or_padded : (b : List ℕ) (at n k : ℕ) → k < n → get_or (padded b at n) k 0 ≡ get_or b (at + k) 0
unfolding padded
get_or_padded b at n k h = rw (get_or-take, get_or_zeros, get_or-drop) refl

-- where the bytes are there, they are the part of b
pub padded_part : (b : List ℕ) (at n : ℕ) → at + n ≤ length b → padded b at n ≡ take n (drop at b)
unfolding padded
padded_part b at n h =
    let l : n ≤ length (drop at b) = rw length-drop (omega arith) in
    rw take-append-le refl

-- and so is what a range of b is
pub part_there : (b : List ℕ) (at n : ℕ) → at + n ≤ length b → take (at + n - at) (drop at b) ≡ padded b at n
part_there b at n h = rw (add-sub_cancel_left at n) (sym (padded_part b at n h))

-- a list that holds the right byte at each place is the padded part
pub is_padded : (b : List ℕ) (at : ℕ) (l : List ℕ) → ((k : ℕ) → k < length l → get_or l k 0 ≡ get_or b (at + k) 0) → l ≡ padded b at (length l)
is_padded b at l h =
    ext_get_or 0 l (padded b at (length l)) (sym (length_padded b at (length l)))
    (λ k lt. h k lt ∙ sym (get_or_padded b at (length l) k lt))

-- a field is decided by its own bytes, wherever they lie
pub field_alike : (a b : List ℕ) (i j w : ℕ) → ((k : ℕ) → k < w → get_or a (i + k) 0 ≡ get_or b (j + k) 0) → field a i w ≡ field b j w
field_alike a b i j zero h = field_none a i ∙ sym (field_none b j)
field_alike a b i j (suc w) h =
    let x : get_or a i 0 ≡ get_or b j 0 = rw (← add-zero i, ← add-zero j) (h 0 (omega arith)) in
    let xs : field a (suc i) w ≡ field b (suc j) w = field_alike a b (suc i) (suc j) w (λ k u. rw (suc-add, suc-add, ← add-suc, ← add-suc) (h (suc k) (omega arith))) in
    rw (field_more a i w, field_more b j w, x, xs)

pub field_same : (a b : List ℕ) (at w : ℕ) → ((k : ℕ) → at ≤ k → k < at + w → get_or a k 0 ≡ get_or b k 0) → field a at w ≡ field b at w
field_same a b at w h = field_alike a b at at w (λ k u. h (at + k) (omega arith) (omega arith))

-- a number of at most n bytes stands in a copy of n bytes from there
pub field_copied : (b : List ℕ) (at n w : ℕ) → w ≤ n → field (padded b at n) 0 w ≡ field b at w
field_copied b at n w h = field_alike (padded b at n) b 0 at w (λ k u. rw (zero-add k) (get_or_padded b at n k (omega arith)))

-- what the library reads of bytes, the low one first, is the field that they are
sum_field : (b : List ℕ) (n : ℕ) → sum_through (λ i. byte_worth i (get_or b i 0)) n ≡ field b 0 (suc n)
sum_field b zero = sym (field_one b 0)
sum_field b (suc n) =
    let split : field b 0 (suc (suc n)) ≡ field b 0 (suc n) + 256 ^ suc n * field b (suc n) 1 = rw (zero-add (suc n), add-one (suc n)) at (field_split b 0 (suc n) 1) in
    rw (sum_field b n, split, field_one b (suc n), mul_comm (256 ^ suc n) (get_or b (suc n) 0)) refl

-- and so of a padded copy it reads what stands there
pub number_copied : (b c : List ℕ) (at n : ℕ) → c ≡ padded b at (suc n) → sum_through (λ i. byte_worth i (get_or c i 0)) n ≡ field b at (suc n)
number_copied b c at n e = rw e (sum_field (padded b at (suc n)) n ∙ field_copied b at (suc n) (suc n) (omega arith))

-- byte by byte: each is worth 256 times as much as the one before it
pub two_copied : (b : List ℕ) (at : ℕ) → field b at 2 ≡ get_or (padded b at 2) 0 0 + 256 * get_or (padded b at 2) 1 0
two_copied b at = sym (number_copied b _ at 1 refl) ∙ omega arith

pub four_copied : (b : List ℕ) (at : ℕ) → field b at 4 ≡ get_or (padded b at 4) 0 0 + 256 * get_or (padded b at 4) 1 0 + 65536 * get_or (padded b at 4) 2 0 + 16777216 * get_or (padded b at 4) 3 0
four_copied b at = sym (number_copied b _ at 3 refl) ∙ omega arith

pub eight_copied : (b : List ℕ) (at : ℕ) → field b at 8 ≡ sum_through (λ i. byte_worth i (get_or (padded b at 8) i 0)) 7
eight_copied b at = sym (number_copied b _ at 7 refl)

-- and so it stands in a padded copy that reaches so far
pub field_padded : (b : List ℕ) (n at w : ℕ) → at + w ≤ n → field (padded b 0 n) at w ≡ field b at w
field_padded b n at w h = field_same (padded b 0 n) b at w (λ k l u. get_or_padded b 0 n k (omega arith) ∙ rw (zero-add k))

-- a list of that length is its own padded copy
pub padded_whole : (b : List ℕ) (n : ℕ) → length b ≡ n → padded b 0 n ≡ b
padded_whole b n h = padded_part b 0 n (omega arith) ∙ take_all n b (omega arith)

-- as many zeros as are asked for, where there are so many
pub zeros_room : (n k : ℕ) (w : List ℕ) → k ≤ n → w ≡ replicate n 0 → length (take k w) ≡ k
zeros_room n k w h e = length-take-le k w (rw (e, length-replicate) h)

-- what is there, and zeros behind it
pub front_and_zeros : (b : List ℕ) (at n : ℕ) (w z : List ℕ) → at ≤ length b → length b - at ≤ n → w ≡ replicate n 0 → z ≡ take (length b - at) (drop at b) → z ++ drop (length b - at) w ≡ padded b at n
front_and_zeros b at n w z h fits w_is z_is =
    let l : List ℕ = z ++ drop (length b - at) w in
    let whole : take (length b - at) (drop at b) ≡ drop at b = take_all (length b - at) (drop at b) (rw length-drop (omega arith)) in
    let zeros_behind : drop (length b - at) w ≡ replicate (n - (length b - at)) 0 = rw w_is (zeros_left n (length b - at)) in
    let parts : l ≡ drop at b ++ replicate (n - (length b - at)) 0 = rw (z_is, whole, zeros_behind) refl in
    let long : length l ≡ n = rw (parts, length-append, length-drop, length-replicate) (omega arith) in
    is_padded b at l (λ k lt. ap (λ (t : List ℕ). get_or t k 0) parts ∙ get_or_zeros (drop at b) (n - (length b - at)) k ∙ get_or-drop at b k 0)
    ∙ ap (padded b at) long

-- none where nothing is there
pub zeros_alone : (b : List ℕ) (at n : ℕ) → length b ≤ at → replicate n 0 ≡ padded b at n
zeros_alone b at n h =
    is_padded b at (replicate n 0) (λ k lt. zeros n k ∙ sym (field_past b (at + k) 1 (omega arith)) ∙ field_one b (at + k))
    ∙ ap (padded b at) (length-replicate n 0)

-- ---- writing a number
pub length_to_le : (w n : ℕ) → length (to_le w n) ≡ w
unfolding to_le
length_to_le zero n = refl
length_to_le (suc w) n = ap suc (length_to_le w (n / 256))

-- a number that fits comes back
pub le_to_le : (w n : ℕ) → n < 256 ^ w → le (to_le w n) ≡ n
unfolding to_le le
le_to_le zero n h = omega arith
le_to_le (suc w) n h =
    let ih : le (to_le w (n / 256)) ≡ n / 256 = le_to_le w (n / 256) (omega arith) in
    omega arith

-- bytes come back from the number that they are
pub to_le_le : (l : List ℕ) → Bytes l → to_le (length l) (le l) ≡ l
unfolding to_le le
to_le_le [] h = refl
to_le_le (x ∷ l) h =
    let lt : x < 256 = h 0 in
    let low : (x + 256 * le l) % 256 ≡ x = omega arith in
    let high : (x + 256 * le l) / 256 ≡ le l = omega arith in
    rw (low, high, to_le_le l (λ i. h (suc i)))

-- a number stored to the end of t: its first byte and what is left behind it, until it is there
pub le_more : (t : List ℕ) (i v : ℕ) → i < length t → sets (set t i (v % 256)) (i + 1) (to_le (length (set t i (v % 256)) - (i + 1)) (v / 256)) ≡ sets t i (to_le (length t - i) v)
unfolding to_le
le_more t i v h =
    let z : length t - i ≡ suc (length t - (i + 1)) = omega arith in
    let j : i + 1 ≡ suc i = omega arith in
    rw (length-set t i (v % 256), z, j)

pub le_done : (t x : List ℕ) (i n v : ℕ) → length x ≤ i → sets x i (to_le (length x - i) v) ≡ sets t 0 (to_le (length t) n) → x ≡ to_le (length t) n
unfolding to_le
le_done t x i n v h e =
    let z : length x - i ≡ 0 = omega arith in
    rw z at e
    ∙ rw (sets-eq (to_le (length t) n) t 0 (rw length_to_le (omega arith)), length_to_le (length t) n, drop_of_length-le t {i = 0 + length t} (omega arith), append-nil) refl

-- the low bytes of a number that are fewer
pub take_to_le : (m w n : ℕ) → m ≤ w → take m (to_le w n) ≡ to_le m n
unfolding to_le
take_to_le zero w n h = refl
take_to_le (suc m) zero n h = absurd (omega arith)
take_to_le (suc m) (suc w) n h = ap (λ (l : List ℕ). n % 256 ∷ l) (take_to_le m w (n / 256) (omega arith))

-- what the library writes of a number, the low byte first, is the number in so many bytes
low_first : (i k n : ℕ) → bytes_low_first i k n ≡ to_le k (n / 256 ^ i)
unfolding to_le
low_first i zero n = refl
low_first zero (suc k) n = rw (low_first 1 k n, pow-zero, div-one) refl
low_first (suc i) (suc k) n = rw (low_first (suc (suc i)) k n, pow-suc 256 (suc i), ← div-div-eq-div-mul n (256 ^ suc i) 256) refl

pub low_bytes : (k n : ℕ) → bytes_low_first 0 k n ≡ to_le k n
low_bytes k n = rw (low_first 0 k n, pow-zero, div-one) refl

-- as many bytes of s as are reached, stored from a place on, are s stored there
pub put_reached : (x s y : List ℕ) (at n : ℕ) → at ≤ length x → n ≡ min (length s) (length x - at) → y ≡ take n s → take at x ++ (y ++ drop n (drop at x)) ≡ sets x at s
put_reached x s y at n h reached y_is =
    let short : length (take n s) ≡ n = length-take-le n s (omega arith) in
    let front : sets x at (take n s) ≡ (take at x ++ take n s) ++ drop (at + n) x = rw short at (sets-eq (take n s) x at (omega arith)) in
    let whole : sets x at s ≡ sets (sets x at (take n s)) (at + length (take n s)) (drop n s) = rw (take-append-drop n s) at (sets_append (take n s) (drop n s) x at) in
    rw (y_is, drop-drop n at x, ← append_assoc (take at x) (take n s) (drop (at + n) x), ← front)
    (sym (rw short at whole ∙ rest (cases_lt (at + n) (length x))))
  where
    rest : ((at + n) < length x) ⊎ (length x ≤ at + n) → sets (sets x at (take n s)) (at + n) (drop n s) ≡ sets x at (take n s)
    rest (inl below) = rw (drop_of_length-le s {i = n} (omega arith)) refl
    rest (inr past) = sets_past (drop n s) (sets x at (take n s)) (at + n) (rw length-sets past)

-- bytes stored right behind p
pub stored_behind : (p q s : List ℕ) (n : ℕ) → length p ≡ n → length s ≤ length q → sets (p ++ q) n s ≡ (p ++ s) ++ drop (length s) q
stored_behind p q s n l h =
    sets-eq s (p ++ q) n (rw length-append (omega arith))
    ∙ rw (take_at p q n l, ← drop-drop (length s) n (p ++ q), drop_at p q n l)

-- over equal bytes, of which those behind stay
pub over_same : (x n : ℕ) (s : List ℕ) → length s ≤ n → sets (replicate n x) 0 s ≡ s ++ replicate (n - length s) x
over_same x n s h = stored_behind [] (replicate n x) s 0 refl (rw length-replicate h) ∙ ap (λ (l : List ℕ). s ++ l) (same_left n (length s) x)
