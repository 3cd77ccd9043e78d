-- A value of text comes back from the bytes that it is written of: as text, with its spaces behind it, or as digits, which are too many to be text.
-- Assumes nothing.
use mathlib.Core.Bool.{true}
use Rattle.std.specs.Prelude.{Option, Some, None}
use mathlib.Core.List.{List, [], ◌∷◌, ◌++◌}
use mathlib.Core.Path.{◌≡◌, refl, sym, ap, ◌∙◌}
use Prim.Native.Nat.{ℕ, suc, ◌+◌, ◌-◌, ◌*◌, ◌≤◌}
use native.Mathlib.Omega.{arith}
use lib.Dec.{eqb, leb}
use lib.ListN.{length, drop, replicate, length-append, length-drop, length-replicate}
use borrow.Author.Tests.{le-leb, lt-leb, leb-true, eq-eqb, eqb-true}
use Rattle.facts.specs.Pick.{pick, both}
use Rattle.text.specs.Text.{trim_cons, trim_of}
use Rattle.wire.specs.Le.{Bytes}
use Rattle.words.specs.Types.{all_from}
use Rattle.facts.proofs.Picks.{pick_ind, both_true}
use Rattle.letters.specs.Letters.{all_hex, unhex, hex_of, hex_mark, is_marked, is_plain, is_hex, plain_in, hex_in, text_in, text_of}
use Rattle.letters.proofs.HexLaws.{hex_length, hex_solid, hex_digits, hex_back, unhex_length}

-- ---- spaces at the end
cons_back : (x : ℕ) (t s : List ℕ) → (length t ≤ length s) × (t ++ replicate (length s - length t) 32 ≡ s) → (length (trim_cons x t) ≤ suc (length s)) × (trim_cons x t ++ replicate (suc (length s) - length (trim_cons x t)) 32 ≡ x ∷ s)
unfolding trim_cons
cons_back x [] s h =
    pick_ind (λ (l : List ℕ). (length l ≤ suc (length s)) × (l ++ replicate (suc (length s) - length l) 32 ≡ x ∷ s)) (eqb x 32) [] (x ∷ [])
    (λ e. (omega arith, gone (eqb-true x 32 e)))
    (λ e. (omega arith, kept))
  where
    behind : replicate (length s) 32 ≡ s
    behind = let n : length s - 0 ≡ length s = omega arith in rw n at h.1

    gone : x ≡ 32 → replicate (suc (length s) - 0) 32 ≡ x ∷ s
    gone e =
        let n : suc (length s) - 0 ≡ suc (length s) = omega arith in
        rw (n, e) (ap (λ (l : List ℕ). 32 ∷ l) behind)

    kept : x ∷ replicate (suc (length s) - 1) 32 ≡ x ∷ s
    kept =
        let n : suc (length s) - 1 ≡ length s = omega arith in
        rw n (ap (λ (l : List ℕ). x ∷ l) behind)
cons_back x (y ∷ t) s h =
    let n : suc (length s) - suc (suc (length t)) ≡ length s - suc (length t) = omega arith in
    (omega arith, rw n (ap (λ (l : List ℕ). x ∷ l) h.1))

-- what is trimmed comes back with spaces behind it
pub trim_back : (v : List ℕ) → (length (trim_of v) ≤ length v) × (trim_of v ++ replicate (length v - length (trim_of v)) 32 ≡ v)
unfolding trim_of
trim_back [] = (omega arith, refl)
trim_back (x ∷ v) = cons_back x (trim_of v) v (trim_back v)

-- ---- what is written
abbrev Back : List ℕ → List ℕ → Type 0
Back v t = text_in (length v) t ≡ Some v

plain_back : (v : List ℕ) → is_plain (trim_of v) ≡ true → Back v (trim_of v)
unfolding text_in plain_in pick
plain_back v e =
    let b = trim_back v in
    rw (le-leb (length (trim_of v)) (length v) b.0, e) (ap Some b.1)

marked_back : (v : List ℕ) → Bytes v → Back v (hex_mark ++ hex_of v)
unfolding text_in hex_in is_hex pick both
marked_back v h =
    let n : suc (suc (length (hex_of v))) ≡ 2 + 2 * length v = omega (arith, hex_length v) in
    rw (lt-leb (suc (suc (length (hex_of v)))) (length v) (omega arith), eq-eqb (suc (suc (length (hex_of v)))) (2 + 2 * length v) n, hex_digits v h) (ap Some (hex_back v h))

pub text_back : (v : List ℕ) → Bytes v → text_in (length v) (text_of v) ≡ Some v
unfolding text_of
text_back v h = pick_ind (Back v) (is_plain (trim_of v)) (trim_of v) (hex_mark ++ hex_of v) (plain_back v) (λ e. marked_back v h)

abbrev Solid : List ℕ → Type 0
Solid t = (1 ≤ length t) × (all_from 33 126 t ≡ true)

plain_solid : (t : List ℕ) → is_plain t ≡ true → Solid t
unfolding is_plain
plain_solid t e = let b = both_true {a = leb 1 (length t)} {b = all_from 33 126 t} e in (leb-true 1 (length t) b.0, b.1)

marked_solid : (v : List ℕ) → Bytes v → Solid (hex_mark ++ hex_of v)
unfolding all_from both
marked_solid v h = (omega arith, hex_solid v h)

pub text_solid : (v : List ℕ) → Bytes v → (1 ≤ length (text_of v)) × (all_from 33 126 (text_of v) ≡ true)
unfolding text_of
text_solid v h = pick_ind Solid (is_plain (trim_of v)) (trim_of v) (hex_mark ++ hex_of v) (plain_solid (trim_of v)) (λ e. marked_solid v h)

pub text_short : (v : List ℕ) → length (text_of v) ≤ 2 + 2 * length v
unfolding text_of
text_short v =
    pick_ind (λ (t : List ℕ). length t ≤ 2 + 2 * length v) (is_plain (trim_of v)) (trim_of v) (hex_mark ++ hex_of v)
    (λ e. omega (arith, (trim_back v).0))
    (λ e. omega (arith, hex_length v))

-- ---- what is read
abbrev Long : ℕ → Option (List ℕ) → Type 0
Long w g = (v : List ℕ) → g ≡ Some v → length v ≡ w

none_long : (w : ℕ) → Long w None
none_long w v e = cc

plain_long : (w : ℕ) (s : List ℕ) → length s ≤ w → Long w (plain_in w s)
unfolding plain_in
plain_long w s h =
    pick_ind (Long w) (is_plain s) (Some (s ++ replicate (w - length s) 32)) None
    (λ e v p.
    let same : s ++ replicate (w - length s) 32 ≡ v = cc in
    sym (ap length same) ∙ rw (length-append, length-replicate) (omega arith))
    (λ e. none_long w)

hex_long : (w : ℕ) (s : List ℕ) → Long w (hex_in w s)
unfolding hex_in is_hex
hex_long w s =
    pick_ind (Long w) (both (eqb (length s) (2 + 2 * w)) (both (is_marked s) (all_hex (drop 2 s)))) (Some (unhex (drop 2 s))) None
    (λ e v p.
    let l : length s ≡ 2 + 2 * w = eqb-true (length s) (2 + 2 * w) (both_true {a = eqb (length s) (2 + 2 * w)} {b = both (is_marked s) (all_hex (drop 2 s))} e).0 in
    let same : unhex (drop 2 s) ≡ v = cc in
    sym (ap length same) ∙ unhex_length (drop 2 s) w (rw length-drop (omega arith)))
    (λ e. none_long w)

pub text_length : (w : ℕ) (s v : List ℕ) → text_in w s ≡ Some v → length v ≡ w
unfolding text_in
text_length w s v p =
    pick_ind (Long w) (leb (length s) w) (plain_in w s) (hex_in w s)
    (λ e. plain_long w s (leb-true (length s) w e))
    (λ e. hex_long w s)
    v p
