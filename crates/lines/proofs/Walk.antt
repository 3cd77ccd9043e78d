-- Taking the words of a written line one by one: a field that is written stores its own part of the body, one that is not has the blank body's bytes there, so behind each field the body so far is the
-- record's up to there and blank behind it.
-- Assumes nothing.
use Prim.Native.Nat.{ℕ, zero, suc, ◌+◌, ◌≤◌, ◌<◌}
use mathlib.Core.Path.{◌≡◌, refl, sym, ap, ◌∙◌}
use mathlib.Core.Bool.{Bool, true, false}
use mathlib.Core.List.{List, [], ◌∷◌, ◌++◌, append_assoc}
use mathlib.Core.Logic.{◌≢◌}
use native.Mathlib.Decide.{ℕ_discrete}
use native.Mathlib.Omega.{arith}
use lib.ListN.{length, take, drop, get_or, set, length-append, length-set, length-drop, take-append-drop, drop_of_length-le, get_or-append}
use lib.Seq.{sets, take_at, drop-cons, drop-drop, take-add, length-take-le, get_or-set_same, get_or-set_other}
use lib.Dec.{eqb}
use borrow.Author.Tests.{lt-ltb}
use Rattle.facts.specs.Pick.{pick, both}
use Rattle.std.proofs.Common.{add-one, true≢false, not, ◌&&◌, ◌||◌, bytes_eq, Option, Some, None, is_some, is_none, Result, Ok, position, zip}
use Rattle.std.proofs.lemmas.Slice.Eq.{bytes_eq-Decides}
use Rattle.facts.proofs.Picks.{pick_ind}
use Rattle.editions.specs.declared.Edition.{Edition}
use Rattle.wire.specs.Le.{Bytes}
use Rattle.wire.proofs.Bytewise.{bytes_take, bytes_drop}
use Rattle.wire.proofs.Laws.{stored_behind}
use Rattle.kinds.specs.Table.{kind_length}
use Rattle.kinds.specs.declared.Kind.{Kind}
use Rattle.words.specs.Types.{all_from}
use Rattle.spans.specs.Spans.{Word, word, words_at, opens, is_note, uncommented, place_of, blank}
use Rattle.values.specs.Values.{value_in, value_text}
use Rattle.values.specs.Suits.{Suits}
use Rattle.keys.specs.Keys.{Entry, entries_of, no_entry, key_at, form_at, blank_body}
use Rattle.keys.specs.Laid.{Laid}
use Rattle.keys.specs.declared.Form.{Form}
use Rattle.line_out.specs.Lines.{part, is_shown, field_by, field_text}
use Rattle.line_in.specs.Lines.{take_value, take_field, take_keyed, take_parted, take_word, take_all, missing, judged, whole, finished, ended}
use Rattle.line_in.specs.declared.Draft.{Draft}
use Rattle.line_in.specs.declared.Line.{Line}
use Rattle.line_in.specs.declared.Slip.{Slip}
use Rattle.lines.proofs.Missing.{none_missing}
use Rattle.lines.proofs.Drafts.{draft}
use Rattle.spans.proofs.Laws.{words_front, words_space, place_front}
use Rattle.values.proofs.Laws.{value_back, value_solid}
use Rattle.keys.proofs.Laws.{key_back, key_solid, fields_inside, blank_length}
use Rattle.lines.proofs.Texts.{texts_from}
use Rattle.figures.proofs.PlaceLaws.{all_join}
use Rattle.lines.proofs.Entries.{key_unmarked, part_length}

-- ---- the body so far: c up to a, and z from there on
pub stored : (c z : List ℕ) (a w n : ℕ) → length c ≡ n → length z ≡ n → a + w ≤ n → sets (take a c ++ drop a z) a (take w (drop a c)) ≡ take (a + w) c ++ drop (a + w) z
stored c z a w n lc lz h =
    let v : List ℕ = take w (drop a c) in
    let lv : length v ≡ w = part_length c a w n lc h in
    stored_behind (take a c) (drop a z) v a (length-take-le a c (omega arith)) (rw (lv, length-drop a z) (omega arith))
    ∙ rw (lv, drop-drop w a z, take-add a w c)

pub kept : (c z : List ℕ) (a w : ℕ) → take w (drop a c) ≡ take w (drop a z) → take a c ++ drop a z ≡ take (a + w) c ++ drop (a + w) z
kept c z a w e =
    ap (λ (l : List ℕ). take a c ++ l) (sym (take-append-drop w (drop a z)) ∙ rw (← e, drop-drop w a z))
    ∙ (sym (append_assoc (take a c) (take w (drop a c)) (drop (a + w) z)) ∙ rw (take-add a w c))

-- ---- which columns are told: none of a field from i on, and one of each field before i that has to be written
pub record Told (es : List Entry) (i : ℕ) (g : List (Option ℕ)) : Type 0 where
  pub room : length es ≤ length g
  pub untold : (j : ℕ) → i ≤ j → get_or g j None ≡ None
  pub given : (j : ℕ) → j < i → (get_or es j no_entry).form.needed ≡ true → is_some (get_or g j None) ≡ true

told_next : (es : List Entry) (i v : ℕ) (g : List (Option ℕ)) → i < length es → Told es i g → Told es (suc i) (set g i (Some v))
told_next es i v g l t = record {
  room = rw (length-set g i (Some v)) t.room;
  untold = λ j h. get_or-set_other g i j (Some v) None (λ e. omega arith) ∙ t.untold j (omega arith);
  given = λ j h n. go j h n (ℕ_discrete j i);
}
  where
    go : (j : ℕ) → j < suc i → (get_or es j no_entry).form.needed ≡ true → Dec (j ≡ i) → is_some (get_or (set g i (Some v)) j None) ≡ true
    go j h n (yes e) = rw (e, get_or-set_same g i (Some v) None (omega (arith, t.room)))
    go j h n (no e) = rw (get_or-set_other g i j (Some v) None e) (t.given j (lt_of j h e) n)
      where
        lt_of : (j : ℕ) → j < suc i → j ≢ i → j < i
        lt_of j h e = omega arith

told_kept : (es : List Entry) (i : ℕ) (g : List (Option ℕ)) → (get_or es i no_entry).form.needed ≡ false → Told es i g → Told es (suc i) g
told_kept es i g f t = record {
  room = t.room;
  untold = λ j h. t.untold j (omega arith);
  given = λ j h n. go j h n (ℕ_discrete j i);
}
  where
    go : (j : ℕ) → j < suc i → (get_or es j no_entry).form.needed ≡ true → Dec (j ≡ i) → is_some (get_or g j None) ≡ true
    go j h n (yes e) = absurd (true≢false (sym n ∙ (ap (λ (m : ℕ). (get_or es m no_entry).form.needed) e ∙ f)))
    go j h n (no e) = t.given j (omega arith) n

-- then no field that has to be written is missing
pub told_all : (es : List Entry) (g : List (Option ℕ)) → Told es (length es) g → position (λ p. p.0.form.needed && is_none p.1) (zip es g) ≡ None
told_all es g t = none_missing es g t.room t.given

-- ---- a field's word: its key, `=` and its value
abbrev pub field_word : Edition → Kind → List ℕ → ℕ → List ℕ
field_word ed k c i = key_at ed k i ++ (61 ∷ value_text (form_at ed k i).style (part (form_at ed k i) c))

-- a field that is not written may be left out, and has the blank body's bytes
hidden_is : (f : Form) (c z : List ℕ) → is_shown f c z ≡ false → (f.needed ≡ false) × (part f c ≡ part f z)
unfolding is_shown
hidden_is f c z h = go f.needed (bytes_eq (part f c) (part f z)) refl refl h
  where
    go : (t u : Bool) → f.needed ≡ t → bytes_eq (part f c) (part f z) ≡ u → (t || not u) ≡ false → (f.needed ≡ false) × (part f c ≡ part f z)
    go true u p q e = absurd (true≢false e)
    go false true p q e = (p, (bytes_eq-Decides (part f c) (part f z)).0 q)
    go false false p q e = absurd (true≢false e)

module _ (ed : Edition) (k : Kind) (c : List ℕ) where
  shown_text : (i : ℕ) → is_shown (form_at ed k i) c (blank_body ed k) ≡ true → field_text ed k c i ≡ 32 ∷ field_word ed k c i
  unfolding field_by pick
  shown_text i e = rw e

  hidden_text : (i : ℕ) → is_shown (form_at ed k i) c (blank_body ed k) ≡ false → field_text ed k c i ≡ []
  unfolding field_by pick
  hidden_text i e = rw e

  -- no field's text goes on with a word before it
  pub texts_apart : (i m : ℕ) → opens (texts_from (field_text ed k c) i m) ≡ false
  unfolding texts_from opens field_by blank pick
  texts_apart i zero = refl
  texts_apart i (suc m) =
      let rest : List ℕ = texts_from (field_text ed k c) (suc i) m in
      pick_ind (λ (s : List ℕ). opens (s ++ rest) ≡ false) (is_shown (form_at ed k i) c (blank_body ed k)) (32 ∷ field_word ed k c i) []
      (λ e. refl)
      (λ e. texts_apart (suc i) m)

  module _ (bytes : Bytes c) (i : ℕ) (here : i < length (entries_of ed k)) where
    part_bytes : Bytes (part (form_at ed k i) c)
    part_bytes = bytes_take (form_at ed k i).width (drop (form_at ed k i).at c) (bytes_drop (form_at ed k i).at c bytes)

    pub word_solid : all_from 33 126 (field_word ed k c i) ≡ true
    unfolding all_from both
    word_solid = all_join 33 126 (key_at ed k i) (61 ∷ value_text (form_at ed k i).style (part (form_at ed k i) c)) (key_solid ed k i here).1 (value_solid (form_at ed k i).style (part (form_at ed k i) c) part_bytes).1

    word_long : 1 ≤ length (field_word ed k c i)
    word_long = rw length-append (omega (arith, (key_solid ed k i here).0))

    word_unmarked : eqb (get_or (field_word ed k c i) 0 0) 35 ≡ false
    word_unmarked = ap (λ (x : ℕ). eqb x 35) (get_or-append (key_at ed k i) (61 ∷ value_text (form_at ed k i).style (part (form_at ed k i) c)) 0 0 (key_solid ed k i here).0) ∙ key_unmarked ed k i

    -- the words of a written field and of what stands behind it
    words_shown : (p : ℕ) (s : List ℕ) → opens s ≡ false → uncommented (words_at p (32 ∷ (field_word ed k c i ++ s))) ≡ word (suc p) (field_word ed k c i) ∷ uncommented (words_at (suc p + length (field_word ed k c i)) s)
    unfolding uncommented is_note pick
    words_shown p s o =
        ap uncommented (words_space p (field_word ed k c i ++ s) ∙ words_front (suc p) (field_word ed k c i) s word_long word_solid o)
        ∙ rw word_unmarked

    -- such a word stores the field's bytes
    take_shown :
        length c ≡ 42 → Suits (form_at ed k i).style (part (form_at ed k i) c) → (p : ℕ) (b : List ℕ) (g : List (Option ℕ)) → get_or g i None ≡ None →
        take_word (word p (field_word ed k c i)) (draft ed k b g) ≡ Ok (draft ed k (sets b (form_at ed k i).at (part (form_at ed k i) c)) (set g i (Some (suc (p + length (key_at ed k i) + 1)))))
    unfolding take_word take_parted take_keyed take_field take_value pick
    take_shown long suits p b g untold =
        let key : List ℕ = key_at ed k i in
        let text : List ℕ = value_text (form_at ed k i).style (part (form_at ed k i) c) in
        let place : place_of 61 (key ++ (61 ∷ text)) ≡ length key = place_front 61 key text (key_solid ed k i here).2 in
        let inside : length key < length (key ++ (61 ∷ text)) = rw length-append (omega arith) in
        let front : take (length key) (key ++ (61 ∷ text)) ≡ key = take_at key (61 ∷ text) (length key) refl in
        let behind : drop (length key + 1) (key ++ (61 ∷ text)) ≡ text = rw (add-one (length key)) (drop_at_more key text) in
        let width : length (part (form_at ed k i) c) ≡ (form_at ed k i).width = part_length c (form_at ed k i).at (form_at ed k i).width 42 long (fields_inside ed k i) in
        let says : value_in (form_at ed k i).style (form_at ed k i).width text ≡ Some (part (form_at ed k i) c) = rw width at (value_back (form_at ed k i).style (part (form_at ed k i) c) part_bytes suits) in
        let w : Word = word p (field_word ed k c i) in
        let keyed : take_word w (draft ed k b g) ≡ take_keyed (Some i) (length key) w (draft ed k b g) =
        rw (place, lt-ltb (length key) (length (key ++ (61 ∷ text))) inside, front) (ap (λ o. take_keyed o (length key) w (draft ed k b g)) (key_back ed k i here)) in
        keyed ∙ rw (behind, untold, says)
      where
        drop_at_more : (a b : List ℕ) → drop (suc (length a)) (a ++ (61 ∷ b)) ≡ b
        drop_at_more [] b = refl
        drop_at_more (x ∷ a) b = drop_at_more a b

-- ---- all fields from field i on, whose first byte is at a
module _ (ed : Edition) (k : Kind) (c : List ℕ) (n end : ℕ) (r : Result Line Slip)
    (bytes : Bytes c) (long : length c ≡ 42)
    (suits : (i : ℕ) → i < length (entries_of ed k) → Suits (form_at ed k i).style (part (form_at ed k i) c))
    (ends : (g : List (Option ℕ)) → judged n end (draft ed k (take (kind_length k) c ++ drop (kind_length k) (blank_body ed k)) g) ≡ r) where
  abbrev So : ℕ → ℕ → ℕ → ℕ → List (Option ℕ) → Type 0
  So m i p a g = ended n end (take_all (uncommented (words_at p (texts_from (field_text ed k c) i m))) (Ok (draft ed k (take a c ++ drop a (blank_body ed k)) g))) ≡ r

  -- one field
  step : (m i p a : ℕ) (g : List (Option ℕ)) → i < length (entries_of ed k) → Laid a (drop i (entries_of ed k)) (kind_length k) → Told (entries_of ed k) i g → ((p a : ℕ) (g : List (Option ℕ)) → Laid a (drop (suc i) (entries_of ed k)) (kind_length k) → Told (entries_of ed k) (suc i) g → So m (suc i) p a g) → So (suc m) i p a g
  unfolding texts_from take_all
  step m i p a g here l t rec = go (is_shown (form_at ed k i) c (blank_body ed k)) refl
    where
      lies : ((form_at ed k i).at ≡ a) × Laid (a + (form_at ed k i).width) (drop (suc i) (entries_of ed k)) (kind_length k)
      lies = rw (drop-cons (entries_of ed k) i no_entry here) at l

      go : (s : Bool) → is_shown (form_at ed k i) c (blank_body ed k) ≡ s → ended n end (take_all (uncommented (words_at p (field_text ed k c i ++ texts_from (field_text ed k c) (suc i) m))) (Ok (draft ed k (take a c ++ drop a (blank_body ed k)) g))) ≡ r
      go true e =
          let w : ℕ = (form_at ed k i).width in
          let z : List ℕ = blank_body ed k in
          let texts : List ℕ = texts_from (field_text ed k c) (suc i) m in
          let q : ℕ = suc p + length (field_word ed k c i) in
          let v : ℕ = suc (suc p + length (key_at ed k i) + 1) in
          let words : uncommented (words_at p (field_text ed k c i ++ texts)) ≡ word (suc p) (field_word ed k c i) ∷ uncommented (words_at q texts) =
          ap (λ (s : List ℕ). uncommented (words_at p (s ++ texts))) (shown_text ed k c i e) ∙ words_shown ed k c bytes i here p texts (texts_apart ed k c (suc i) m) in
          let next : sets (take a c ++ drop a z) (form_at ed k i).at (part (form_at ed k i) c) ≡ take (a + w) c ++ drop (a + w) z =
          ap (λ (x : ℕ). sets (take a c ++ drop a z) x (take w (drop x c))) lies.0 ∙ stored c z a w 42 long (blank_length ed k) (omega (arith, fields_inside ed k i, lies.0)) in
          ap (λ (ws : List Word). ended n end (take_all ws (Ok (draft ed k (take a c ++ drop a z) g)))) words
          ∙ (ap (λ (x : Result Draft Slip). ended n end (take_all (uncommented (words_at q texts)) x))
          (take_shown ed k c bytes i here long (suits i here) (suc p) (take a c ++ drop a z) g (t.untold i (omega arith)) ∙ ap (λ (b : List ℕ). Ok (draft ed k b (set g i (Some v)))) next)
          ∙ rec q (a + w) (set g i (Some v)) lies.1 (told_next (entries_of ed k) i v g here t))
      go false e =
          let w : ℕ = (form_at ed k i).width in
          let z : List ℕ = blank_body ed k in
          let texts : List ℕ = texts_from (field_text ed k c) (suc i) m in
          let h = hidden_is (form_at ed k i) c z e in
          let same : take w (drop a c) ≡ take w (drop a z) = rw lies.0 at h.1 in
          ap (λ (s : List ℕ). ended n end (take_all (uncommented (words_at p (s ++ texts))) (Ok (draft ed k (take a c ++ drop a z) g)))) (hidden_text ed k c i e)
          ∙ (ap (λ (b : List ℕ). ended n end (take_all (uncommented (words_at p texts)) (Ok (draft ed k b g)))) (kept c z a w same)
          ∙ rec p (a + w) g lies.1 (told_kept (entries_of ed k) i g h.0 t))

  pub walk : (m i p a : ℕ) (g : List (Option ℕ)) → i + m ≡ length (entries_of ed k) → Laid a (drop i (entries_of ed k)) (kind_length k) → Told (entries_of ed k) i g → So m i p a g
  unfolding texts_from take_all ended finished whole missing words_at uncommented
  walk zero i p a g e l t =
      let at_end : a ≡ kind_length k = rw (drop_of_length-le (entries_of ed k) {i = i} (omega arith)) at l in
      let all : i ≡ length (entries_of ed k) = omega arith in
      rw (told_all (entries_of ed k) g (rw all at t), at_end) (ends g)
  walk (suc m) i p a g e l t = step m i p a g (omega arith) l t (λ p a g l t. walk m (suc i) p a g (omega arith) l t)
