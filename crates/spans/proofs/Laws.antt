-- The words of a line, by the blanks in front and the word behind them, as the iterator takes them off; and where a byte stands.
-- Assumes nothing.
use Rattle.std.proofs.Common.{◌≡◌, ◌⊎◌, refl, sym, ap, ◌∙◌, Bool, true, false, not, true≢false, List, [], ◌∷◌, ◌++◌, ℕ, suc, ◌+◌, ◌-◌, ◌≤◌, ◌<◌, length, length-drop, take_all, get_or, take, drop, eqb, leb, arith, add-one, one-add, Some, None, drop_of_length-le, inl, inr, not-suc-le-zero, take_at, drop_at, ne_eqb, eq-eqb, leb-true, position, unwrap_or, lt-ltb, le-ltb}
use Rattle.std.proofs.lemmas.Bool.{cases_lt}
use Rattle.std.proofs.lemmas.List.{get_or-take, get_or-drop}
use Rattle.std.proofs.lemmas.List.Sums.{prefix_len-le-length}
use Rattle.facts.specs.Pick.{pick, both}
use Rattle.facts.proofs.Picks.{both_true}
use Rattle.words.specs.Types.{all_from}
use Rattle.spans.specs.Spans.{blank, blanks, filled, word, opens, grown, words_at, place_of, is_note, noted}

-- no byte from 33 to 126 is a blank
pub letter_no_blank : (x : ℕ) → 33 ≤ x → blank x ≡ false
unfolding blank
letter_no_blank x h = rw (ne_eqb x 32 (λ e. omega arith), ne_eqb x 9 (λ e. omega arith), ne_eqb x 13 (λ e. omega arith)) refl

-- ---- the words behind the blanks, and behind a word
later : (i n : ℕ) → suc i + n ≡ i + suc n
later i n = omega arith

pub words_start : (i : ℕ) (s : List ℕ) → words_at i s ≡ words_at (i + blanks s) (drop (blanks s) s)
unfolding words_at pick
words_start i [] = refl
words_start i (x ∷ s) = go (blank x) refl (words_start (suc i) s)
  where
    go : (t : Bool) → blank x ≡ t → words_at (suc i) s ≡ words_at (suc i + blanks s) (drop (blanks s) s) → words_at i (x ∷ s) ≡ words_at (i + blanks (x ∷ s)) (drop (blanks (x ∷ s)) (x ∷ s))
    go true e rest = rw (e, one-add) (rest ∙ ap (λ (n : ℕ). words_at n (drop (blanks s) s)) (later i (blanks s)))
    go false e rest =
        let none : blanks (x ∷ s) ≡ 0 = rw e refl in
        let here : i ≡ i + 0 = omega arith in
        ap (λ (n : ℕ). words_at n (x ∷ s)) here ∙ ap (λ (n : ℕ). words_at (i + n) (drop n (x ∷ s))) (sym none)

-- a line that a word opens has one byte or more in front that is no blank
opens_filled : (s : List ℕ) → opens s ≡ true → 0 < filled s
unfolding opens pick
opens_filled [] h = absurd (true≢false (sym h))
opens_filled (x ∷ s) h = go (blank x) refl
  where
    go : (t : Bool) → blank x ≡ t → 0 < filled (x ∷ s)
    go true e = absurd (true≢false (sym (rw e at h)))
    go false e = rw e (omega arith)

opens_not : (s : List ℕ) → opens s ≡ false → filled s ≡ 0
unfolding opens pick
opens_not [] h = refl
opens_not (x ∷ s) h = go (blank x) refl
  where
    go : (t : Bool) → blank x ≡ t → filled (x ∷ s) ≡ 0
    go true e = rw e refl
    go false e = absurd (true≢false (rw e at h))

pub start_fills : (s : List ℕ) → blanks s < length s → 0 < filled (drop (blanks s) s)
start_fills [] h = absurd (not-suc-le-zero h)
start_fills (x ∷ s) h = go (blank x) refl (start_fills s)
  where
    go : (t : Bool) → blank x ≡ t → (blanks s < length s → 0 < filled (drop (blanks s) s)) → 0 < filled (drop (blanks (x ∷ s)) (x ∷ s))
    go true e rest = rw (e, one-add) (rest (let l = rw e at h in omega arith))
    go false e rest = rw (e, e) (omega arith)

pub words_more : (i : ℕ) (s : List ℕ) → 0 < filled s → words_at i s ≡ word i (take (filled s) s) ∷ words_at (i + filled s) (drop (filled s) s)
unfolding words_at pick grown
words_more i [] h = absurd (not-suc-le-zero h)
words_more i (x ∷ s) h = go (blank x) (opens s) refl refl (words_more (suc i) s)
  where
    go :
        (t u : Bool) → blank x ≡ t → opens s ≡ u →
        (0 < filled s → words_at (suc i) s ≡ word (suc i) (take (filled s) s) ∷ words_at (suc i + filled s) (drop (filled s) s)) →
        words_at i (x ∷ s) ≡ word i (take (filled (x ∷ s)) (x ∷ s)) ∷ words_at (i + filled (x ∷ s)) (drop (filled (x ∷ s)) (x ∷ s))
    go true u e o rest = absurd (not-suc-le-zero (rw e at h))
    go false true e o rest =
        rw (e, o, one-add)
        (ap (grown i x) (rest (opens_filled s o))
        ∙ ap (λ (n : ℕ). word i (x ∷ take (filled s) s) ∷ words_at n (drop (filled s) s)) (later i (filled s)))
    go false false e o rest = rw (e, o, opens_not s o, one-add) (ap (λ (n : ℕ). word i (x ∷ []) ∷ words_at n s) (sym (add-one i)))

-- ---- what a search for a byte that is no blank tells
pub words_none : (i : ℕ) (s : List ℕ) → position (λ x. not (blank x)) s ≡ None → words_at i s ≡ []
unfolding words_at
words_none i s e = go (cases_lt (blanks s) (length s))
  where
    go : (blanks s < length s) ⊎ (length s ≤ blanks s) → words_at i s ≡ []
    go (inl l) = let z : Some (blanks s) ≡ None = rw (lt-ltb (blanks s) (length s) l) at e in cc
    go (inr g) = words_start i s ∙ ap (words_at (i + blanks s)) (drop_of_length-le s g)

-- where the word ends: at the first blank, or with the line
pub word_ends : (f : List ℕ) → unwrap_or (position blank f) (length f) ≡ filled f
word_ends f = go (cases_lt (filled f) (length f))
  where
    go : (filled f < length f) ⊎ (length f ≤ filled f) → unwrap_or (position blank f) (length f) ≡ filled f
    go (inl l) = rw (lt-ltb (filled f) (length f) l) refl
    go (inr g) = rw (le-ltb (filled f) (length f) g) (omega (arith, prefix_len-le-length (λ x. not (blank x)) f))

pub word_starts : (f : List ℕ) → unwrap_or (position (λ x. not (blank x)) f) (length f) ≡ blanks f
word_starts f = go (cases_lt (blanks f) (length f))
  where
    go : (blanks f < length f) ⊎ (length f ≤ blanks f) → unwrap_or (position (λ x. not (blank x)) f) (length f) ≡ blanks f
    go (inl l) = rw (lt-ltb (blanks f) (length f) l) refl
    go (inr g) = rw (le-ltb (blanks f) (length f) g) (omega (arith, prefix_len-le-length (λ x. not (not (blank x))) f))

pub words_first :
    (i n e : ℕ) (s f w r : List ℕ) →
    position (λ x. not (blank x)) s ≡ Some n →
    f ≡ drop n s →
    e ≡ unwrap_or (position blank f) (length f) →
    w ≡ take e f →
    r ≡ drop e f →
    words_at i s ≡ word (i + n) w ∷ words_at (i + n + e) r
words_first i n e s f w r p q t a b = go (cases_lt (blanks s) (length s))
  where
    ends : e ≡ filled f
    ends = t ∙ word_ends f

    go : (blanks s < length s) ⊎ (length s ≤ blanks s) → words_at i s ≡ word (i + n) w ∷ words_at (i + n + e) r
    go (inl l) =
        let z : Some (blanks s) ≡ Some n = rw (lt-ltb (blanks s) (length s) l) at p in
        let same : blanks s ≡ n = cc in
        let some : 0 < filled f = rw (q, ← same) (start_fills s l) in
        rw (a, b, ends) (words_start i s ∙ (rw (same, ← q) (words_more (i + n) f some)))
    go (inr g) = let z : None ≡ Some n = rw (le-ltb (blanks s) (length s) g) at p in cc

-- ---- a word in front of what opens no word
filled_front : (w s : List ℕ) → all_from 33 126 w ≡ true → opens s ≡ false → filled (w ++ s) ≡ length w
unfolding all_from
filled_front [] s a o = opens_not s o
filled_front (x ∷ w) s a o =
    let b = both_true {a = both (leb 33 x) (leb x 126)} {b = all_from 33 126 w} a in
    let l = both_true {a = leb 33 x} {b = leb x 126} b.0 in
    rw (letter_no_blank x (leb-true 33 x l.0)) (ap (λ (n : ℕ). 1 + n) (filled_front w s b.1 o) ∙ omega arith)

pub words_front : (i : ℕ) (w s : List ℕ) → 1 ≤ length w → all_from 33 126 w ≡ true → opens s ≡ false → words_at i (w ++ s) ≡ word i w ∷ words_at (i + length w) s
words_front i w s h a o =
    let f = filled_front w s a o in
    words_more i (w ++ s) (rw f h)
    ∙ rw (f, take_at w s (length w) refl, drop_at w s (length w) refl) refl

pub words_space : (i : ℕ) (s : List ℕ) → words_at i (32 ∷ s) ≡ words_at (suc i) s
unfolding words_at blank pick
words_space i s = refl

-- ---- where a byte stands
pub place_front : (x : ℕ) (a b : List ℕ) → place_of x a ≡ length a → place_of x (a ++ (x ∷ b)) ≡ length a
place_front x [] b h = rw (eq-eqb x x refl) refl
place_front x (y ∷ a) b h = go (eqb y x) refl (place_front x a b)
  where
    go : (t : Bool) → eqb y x ≡ t → (place_of x a ≡ length a → place_of x (a ++ (x ∷ b)) ≡ length a) → place_of x ((y ∷ a) ++ (x ∷ b)) ≡ suc (length a)
    go true e rest = rw e (rw e at h)
    go false e rest = rw e (ap (λ (n : ℕ). 1 + n) (rest (let g = rw e at h in omega arith)) ∙ omega arith)

pub place_below : (x lo hi : ℕ) (a : List ℕ) → all_from lo hi a ≡ true → x < lo → place_of x a ≡ length a
unfolding all_from
place_below x lo hi [] h l = refl
place_below x lo hi (y ∷ a) h l =
    let b = both_true {a = both (leb lo y) (leb y hi)} {b = all_from lo hi a} h in
    let t = both_true {a = leb lo y} {b = leb y hi} b.0 in
    let above : lo ≤ y = leb-true lo y t.0 in
    rw (ne_eqb y x (λ e. omega arith)) (ap (λ (n : ℕ). 1 + n) (place_below x lo hi a b.1 l) ∙ omega arith)

-- ---- stepping to the next word
pub blanks_le : (s : List ℕ) → blanks s ≤ length s
blanks_le s = prefix_len-le-length (λ x. not (not (blank x))) s

pub stepped : (i n : ℕ) (s r : List ℕ) → n ≡ blanks s → r ≡ take (length s - n) (drop n s) → words_at (i + n) r ≡ words_at i s
stepped i n s r e f =
    let whole : take (length s - n) (drop n s) ≡ drop n s = take_all _ _ (rw length-drop (omega arith)) in
    ap (words_at (i + n)) (f ∙ whole) ∙ ap (λ m. words_at (i + m) (drop m s)) e ∙ sym (words_start i s)

-- ---- a comment in front, told by its first byte
module _ (i : ℕ) (s : List ℕ) where
  pub noted_word : blanks s < length s → noted (words_at i s) ≡ eqb (get_or s (blanks s) 0) 35
  unfolding noted is_note
  noted_word l =
      let rest = drop (blanks s) s in
      let some = start_fills s l in
      let first : get_or (take (filled rest) rest) 0 0 ≡ get_or s (blanks s) 0 = get_or-take (filled rest) rest 0 0 some ∙ get_or-drop (blanks s) s 0 0 ∙ ap (λ n. get_or s n 0) (omega arith) in
      ap noted (words_start i s ∙ words_more (i + blanks s) rest some) ∙ ap (λ x. eqb x 35) first

  pub noted_none : length s ≤ blanks s → noted (words_at i s) ≡ false
  unfolding noted words_at
  noted_none h = rw (words_start i s, drop_of_length-le s h) refl
