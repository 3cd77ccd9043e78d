-- One text behind another is one text, since a store past the end of a buffer changes nothing: an append needs no room, and what it leaves and where the whole would end is decided all the same.
-- Assumes nothing.
use Prim.Native.Nat.{ℕ, ◌+◌, ◌-◌, ◌≤◌, min}
use mathlib.Core.Path.{◌≡◌, refl, sym, ap, ◌∙◌}
use mathlib.Core.List.{List, [], ◌∷◌, ◌++◌, append-nil, append_assoc}
use native.Mathlib.Decide.{dec_le}
use native.Mathlib.Nat.{zero-add}
use native.Mathlib.Omega.{arith}
use native.Mathlib.Numerals.{add-one}
use lib.ListN.{length, take, drop, length-append, length-take, take-append-drop, drop_of_length-le}
use lib.Seq.{sets, length-sets, sets-eq, take_all}
use Rattle.std.proofs.lemmas.List.{drop-drop}
use borrow.Rule.Slice.PartMut.{put_mid}
use Rattle.facts.proofs.Picks.{no_second}
use Rattle.facts.proofs.Stores.{sets_past, sets_append}
use Rattle.text.specs.Text.{last_place, Wrote, first_texts}

-- ---- stores
-- a place that stays at the highest lies behind the buffer, as the true one does
sets_clip : (b u : List ℕ) (i n : ℕ) → length b ≤ last_place → sets b (i + min n (last_place - i)) u ≡ sets b (i + n) u
sets_clip b u i n l = go (dec_le (i + n) last_place)
  where
    go : Dec (i + n ≤ last_place) → sets b (i + min n (last_place - i)) u ≡ sets b (i + n) u
    go (yes h) = ap (λ (k : ℕ). sets b k u) (omega arith)
    go (no h) = sets_past u b (i + min n (last_place - i)) (omega arith) ∙ sym (sets_past u b (i + n) (omega arith))

-- as much of s as the buffer reaches, put over its part from i on
pub sets_reach : (b s : List ℕ) (i n : ℕ) → i ≤ length b → n ≡ min (length s) (length b - i) → put_mid i n b (take n s) ≡ sets b i s
sets_reach b s i n h e =
    let t : length (take n s) ≡ n = length-take n s ∙ omega arith in
    let r : i + n ≤ length b = omega arith in
    let k : drop n (drop i b) ≡ drop (i + n) b = drop-drop n i b in
    rw (k, ← append_assoc) (
    ap (λ (m : ℕ). take i b ++ take n s ++ drop (i + m) b) (sym t)
    ∙ sym (sets-eq (take n s) b i (omega arith))
    ∙ rest (dec_le (length s) (length b - i))
    )
  where
    rest : Dec (length s ≤ length b - i) → sets b i (take n s) ≡ sets b i s
    rest (yes l) = ap (sets b i) (take_all n s (omega arith))
    rest (no l) =
        let t : length (take n s) ≡ n = length-take n s ∙ omega arith in
        sym (
        ap (sets b i) (sym (take-append-drop n s))
        ∙ sets_append (take n s) (drop n s) b i
        ∙ sets_past (drop n s) (sets b i (take n s)) (i + length (take n s)) (omega (arith, length-sets b i (take n s)))
        )

-- ---- one append, and one behind another
pub wrote_none : {b : List ℕ} {at : ℕ} → length b ≤ last_place → Wrote b at [] b at
wrote_none l = record { bytes = refl; end = omega arith; lent = l }

-- the buffer keeps its length
pub wrote_kept : {b b' t : List ℕ} {at r : ℕ} → Wrote b at t b' r → length b' ≡ length b
wrote_kept {b} {b'} {t} {at} p = ap length p.bytes ∙ length-sets b at t

pub wrote_then : {b b' b'' t u : List ℕ} {at r r' : ℕ} → Wrote b at t b' r → Wrote b' r u b'' r' → Wrote b at (t ++ u) b'' r'
wrote_then {b} {b'} {b''} {t} {u} {at} {r} p q = record {
  bytes = q.bytes ∙ ap (λ (l : List ℕ). sets l r u) p.bytes ∙ ap (λ (k : ℕ). sets (sets b at t) k u) p.end ∙ sets_clip (sets b at t) u at (length t) (omega (arith, length-sets b at t)) ∙ sym (sets_append t u b at);
  end = omega (arith, length-append t u);
  lent = p.lent;
}

-- the text under another name
pub wrote_as : {b b' t u : List ℕ} {at r : ℕ} → t ≡ u → Wrote b at t b' r → Wrote b at u b' r
wrote_as e p = rw e at p

-- behind the last text nothing comes
pub wrote_last : {b b' t : List ℕ} {at r : ℕ} → Wrote b at t b' r → Wrote b at (t ++ []) b' r
wrote_last {b} {b'} {t} p = rw (append-nil t) p

-- a byte that a call answered
pub wrote_byte : {x y : ℕ} {b b' : List ℕ} {at r : ℕ} → x ≡ y → Wrote b at (x ∷ []) b' r → Wrote b at (y ∷ []) b' r
wrote_byte e p = rw e at p

-- ---- loops: one text more
pub texts_none : (f : ℕ → List ℕ) {b : List ℕ} {at : ℕ} → length b ≤ last_place → Wrote b at (first_texts f 0) b at
unfolding first_texts
texts_none f l = wrote_none l

pub texts_more : (f : ℕ → List ℕ) {i : ℕ} {b b' b'' : List ℕ} {at r r' : ℕ} → Wrote b at (first_texts f i) b' r → Wrote b' r (f i) b'' r' → Wrote b at (first_texts f (i + 1)) b'' r'
unfolding first_texts
texts_more f {i} p q = rw add-one (wrote_then p q)

pub texts_all : (f : ℕ → List ℕ) {i n : ℕ} {b b' : List ℕ} {at r : ℕ} → i ≤ n → n ≤ i → Wrote b at (first_texts f i) b' r → Wrote b at (first_texts f n) b' r
texts_all f {i} {n} h h' p = let e : i ≡ n = omega arith in rw e at p

-- ---- what an append says
-- no second outcome fits
pub wrote_unique : {b t c d : List ℕ} {at r s : ℕ} → Wrote b at t c r → Wrote b at t d s → (c ≡ d) × (r ≡ s)
wrote_unique p q = (no_second p.bytes q.bytes, no_second p.end q.end)

-- stored from the start, as much of a text as the buffer reaches stands in front, and what lay behind the text stays
sets_front : (t b : List ℕ) → sets b 0 t ≡ take (length b) t ++ drop (length t) b
sets_front t b = go (dec_le (length t) (length b))
  where
    go : Dec (length t ≤ length b) → sets b 0 t ≡ take (length b) t ++ drop (length t) b
    go (yes h) = sets-eq t b 0 (omega arith) ∙ rw (take_all (length b) t h, zero-add (length t))
    go (no h) =
        let u = take (length b) t in
        let n : length u ≡ length b = length-take (length b) t ∙ omega arith in
        let a : length (sets b 0 u) ≤ 0 + length u = omega (arith, length-sets b 0 u) in
        ap (sets b 0) (sym (take-append-drop (length b) t))
        ∙ sets_append u (drop (length b) t) b 0
        ∙ sets_past (drop (length b) t) (sets b 0 u) (0 + length u) a
        ∙ sets-eq u b 0 (omega arith)
        ∙ rw (zero-add (length u), drop_of_length-le b {i = length u} (omega arith), drop_of_length-le b {i = length t} (omega arith))

pub wrote_front : {b b' t : List ℕ} {r : ℕ} → Wrote b 0 t b' r → b' ≡ take (length b) t ++ drop (length t) b
wrote_front {b} {b'} {t} p = p.bytes ∙ sets_front t b
