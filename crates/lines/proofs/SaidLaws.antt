-- What each word of a line does that is read as a record: it stores the part of its own field, which lies apart from all others, and marks that field, so that no second word names it.
-- Assumes nothing.
use Prim.Native.Nat.{ℕ, zero, suc, ◌+◌, ◌-◌, ◌≤◌, ◌<◌}
use mathlib.Core.Path.{◌≡◌, refl, sym, ap, subst, ◌∙◌}
use mathlib.Core.Bool.{Bool, true, false}
use mathlib.Core.Logic.{◌⊎◌, inl, inr, ◌≢◌, ⊎_elim}
use mathlib.Core.List.{List, [], ◌∷◌, ◌++◌, append_assoc}
use native.Mathlib.Nat.{le_of_suc-le-suc, not-suc-le-zero}
use native.Mathlib.Decide.{dec_le}
use native.Mathlib.Omega.{arith}
use lib.ListN.{length, take, drop, get_or, set, length-set}
use lib.Seq.{sets, sets-eq, length-sets, take_at, drop_at, length-take-le, take-set-le, drop-set-lt, drop-set-add, get_or-set_same, get_or-set_other}
use lib.Dec.{eqb, ltb}
use borrow.Author.Tests.{eqb-true}
use Rattle.facts.specs.Pick.{pick, both}
use Rattle.facts.specs.Sums.{sum_by, only_if, count_by}
use Rattle.std.proofs.Common.{Option, Some, None, is_some, not, ◌||◌, Result, Ok, Err, bytes_eq, ◌==◌, add-one, true≢false, if◌then◌else◌, eq-eqb}
use Rattle.std.proofs.lemmas.Slice.Eq.{bytes_eq-Decides}
use Rattle.facts.proofs.Picks.{pick_ind, both_true, refuted}
use Rattle.editions.specs.declared.Edition.{Edition}
use Rattle.kinds.specs.Table.{type_of, kind_length}
use Rattle.kinds.specs.declared.Kind.{Kind}
use Rattle.spans.specs.Spans.{Word, place_of}
use Rattle.values.specs.Values.{value_in}
use Rattle.values.proofs.Laws.{value_length}
use Rattle.keys.specs.Keys.{Entry, entries_of, no_entry, key_at, form_at, key_named}
use Rattle.keys.specs.Laid.{Laid}
use Rattle.keys.proofs.Every.{of_any}
use Rattle.keys.proofs.Laws.{key_back, named_inside, named_key, fields_inside, laid}
use Rattle.line_out.specs.Lines.{part}
use Rattle.line_in.specs.Lines.{take_value, take_field, take_keyed, take_parted, take_word, take_all}
use Rattle.line_in.specs.Slips.{slip_at}
use Rattle.line_in.specs.declared.Draft.{Draft}
use Rattle.line_in.specs.declared.Expected.{Expected}
use Rattle.line_in.specs.declared.Slip.{Slip}
use Rattle.line_in.proofs.Laws.{taken_err}
use Rattle.lines.proofs.Drafts.{draft}
use Rattle.lines.specs.Said.{key_in, behind_key, names}

-- ---- bytes that are stored, and parts of the body
pub drop_stored : (n : ℕ) (t : List ℕ) (i : ℕ) (s : List ℕ) → i + length s ≤ n → drop n (sets t i s) ≡ drop n t
drop_stored n t i [] h = refl
drop_stored n t i (x ∷ s) h = drop_stored n (set t i x) (suc i) s (omega arith) ∙ drop-set-lt n t i x (omega arith)

pub first_stored : (t : List ℕ) (i : ℕ) (s : List ℕ) → 1 ≤ i → get_or (sets t i s) 0 0 ≡ get_or t 0 0
first_stored t i [] h = refl
first_stored t i (x ∷ s) h = first_stored (set t i x) (suc i) s (omega arith) ∙ get_or-set_other t i 0 x 0 (λ e. omega arith)

-- a part before what is stored
before_stored : (a w : ℕ) (t : List ℕ) (i : ℕ) (s : List ℕ) → a + w ≤ i → take w (drop a (sets t i s)) ≡ take w (drop a t)
before_stored a w t i [] h = refl
before_stored a w t i (x ∷ s) h =
    let e : i ≡ a + (i - a) = omega arith in
    before_stored a w (set t i x) (suc i) s (omega arith)
    ∙ (ap (λ (j : ℕ). take w (drop a (set t j x))) e ∙ (ap (take w) (drop-set-add a t (i - a) x) ∙ take-set-le w (drop a t) (i - a) x (omega arith)))

-- the part itself
own_stored : (t : List ℕ) (i : ℕ) (s : List ℕ) → i + length s ≤ length t → take (length s) (drop i (sets t i s)) ≡ s
own_stored t i s h =
    let e : sets t i s ≡ take i t ++ (s ++ drop (i + length s) t) = sets-eq s t i h ∙ append_assoc (take i t) s (drop (i + length s) t) in
    rw (e, drop_at (take i t) (s ++ drop (i + length s) t) i (length-take-le i t (omega arith))) (take_at s (drop (i + length s) t) (length s) refl)

-- ---- fields that lie back to back do not overlap
laid_from : (es : List Entry) (a end : ℕ) → Laid a es end → (i : ℕ) → i < length es → (a ≤ (get_or es i no_entry).form.at) × ((get_or es i no_entry).form.at + (get_or es i no_entry).form.width ≤ end)
laid_from [] a end l i h = absurd (not-suc-le-zero h)
laid_from (f ∷ fs) a end l zero h = (omega (arith, l.0), omega (arith, l.0, laid_end fs (a + f.form.width) end l.1))
  where
    laid_end : (es : List Entry) (a end : ℕ) → Laid a es end → a ≤ end
    laid_end [] a end l = omega (arith, l)
    laid_end (f ∷ fs) a end l = omega (arith, laid_end fs (a + f.form.width) end l.1)
laid_from (f ∷ fs) a end l (suc i) h = let r = laid_from fs (a + f.form.width) end l.1 i (le_of_suc-le-suc h) in (omega (arith, r.0), r.1)

laid_apart : (es : List Entry) (a end : ℕ) → Laid a es end → (i j : ℕ) → i < j → j < length es → (get_or es i no_entry).form.at + (get_or es i no_entry).form.width ≤ (get_or es j no_entry).form.at
laid_apart [] a end l i j h m = absurd (not-suc-le-zero m)
laid_apart (f ∷ fs) a end l i zero h m = absurd (not-suc-le-zero h)
laid_apart (f ∷ fs) a end l zero (suc j) h m = omega (arith, l.0, (laid_from fs (a + f.form.width) end l.1 j (le_of_suc-le-suc m)).0)
laid_apart (f ∷ fs) a end l (suc i) (suc j) h m = laid_apart fs (a + f.form.width) end l.1 i j (le_of_suc-le-suc h) (le_of_suc-le-suc m)

-- what has a field is a message
message_of : (ed : Edition) (k : Kind) (i : ℕ) → i < length (entries_of ed k) → type_of k ≡ 0 → ⊥
message_of ed k i h e =
    let none : length (entries_of ed k) ≡ 0 = go (eqb (type_of k) 0) (eq-eqb (type_of k) 0 e) (of_any (λ ed k. not (eqb (type_of k) 0) || (length (entries_of ed k) == 0)) refl ed k) in
    omega arith
  where
    go : (t : Bool) → t ≡ true → (not t || (length (entries_of ed k) == 0)) ≡ true → length (entries_of ed k) ≡ 0
    go true z q = eqb-true (length (entries_of ed k)) 0 q
    go false z q = absurd (true≢false (sym z))

pub field_within : (ed : Edition) (k : Kind) (i : ℕ) → i < length (entries_of ed k) → (1 ≤ (form_at ed k i).at) × ((form_at ed k i).at + (form_at ed k i).width ≤ kind_length k)
field_within ed k i h = laid_from (entries_of ed k) 1 (kind_length k) (laid ed k (message_of ed k i h)) i h

fields_apart : (ed : Edition) (k : Kind) (i j : ℕ) → i < length (entries_of ed k) → j < length (entries_of ed k) → i ≢ j → ((form_at ed k i).at + (form_at ed k i).width ≤ (form_at ed k j).at) ⊎ ((form_at ed k j).at + (form_at ed k j).width ≤ (form_at ed k i).at)
fields_apart ed k i j hi hj n = go (dec_le (suc i) j)
  where
    l : Laid 1 (entries_of ed k) (kind_length k)
    l = laid ed k (message_of ed k i hi)

    go : Dec (suc i ≤ j) → ((form_at ed k i).at + (form_at ed k i).width ≤ (form_at ed k j).at) ⊎ ((form_at ed k j).at + (form_at ed k j).width ≤ (form_at ed k i).at)
    go (yes q) = inl (laid_apart (entries_of ed k) 1 (kind_length k) l i j q hj)
    go (no q) = inr (laid_apart (entries_of ed k) 1 (kind_length k) l j i (omega arith) hi)

-- so what is stored of a field is its part, and the parts of all others stay
module _ (ed : Edition) (k : Kind) (j : ℕ) (here : j < length (entries_of ed k)) (b v : List ℕ) (long : length b ≡ 42) (fits : length v ≡ (form_at ed k j).width) where
  pub part_own : part (form_at ed k j) (sets b (form_at ed k j).at v) ≡ v
  part_own = rw (← fits) (own_stored b (form_at ed k j).at v (omega (arith, fields_inside ed k j)))

  pub part_other : (i : ℕ) → i < length (entries_of ed k) → i ≢ j → part (form_at ed k i) (sets b (form_at ed k j).at v) ≡ part (form_at ed k i) b
  part_other i h n =
      ⊎_elim
      (λ q. before_stored (form_at ed k i).at (form_at ed k i).width b (form_at ed k j).at v q)
      (λ q. ap (take (form_at ed k i).width) (drop_stored (form_at ed k i).at b (form_at ed k j).at v (omega arith)))
      (fields_apart ed k i j h here n)

-- ---- one word that is taken
pub record Step (ed : Edition) (k : Kind) (w : Word) (d e : Draft) : Type 0 where
  pub field : ℕ
  pub parted : ltb (place_of 61 w.bytes) (length w.bytes) ≡ true
  pub key : key_named ed k (key_in w.bytes) ≡ Some field
  pub fresh : is_some (get_or d.columns field None) ≡ false
  pub value : List ℕ
  pub says : value_in (form_at ed k field).style (form_at ed k field).width (behind_key w.bytes) ≡ Some value
  pub column : ℕ
  pub taken : e ≡ draft ed k (sets d.body (form_at ed k field).at value) (set d.columns field (Some column))

abbrev Stepped : Edition → Kind → Word → Draft → Result Draft Slip → Type 0
Stepped ed k w d (Ok e) = Step ed k w d e
Stepped ed k w d (Err x) = Unit {0}

module _ (ed : Edition) (k : Kind) (w : Word) (b : List ℕ) (g : List (Option ℕ)) where
  abbrev at_place : ℕ
  at_place = place_of 61 w.bytes

  abbrev So : Result Draft Slip → Type 0
  So = Stepped ed k w (draft ed k b g)

  value_step : (i v : ℕ) → ltb at_place (length w.bytes) ≡ true → key_named ed k (key_in w.bytes) ≡ Some i → is_some (get_or g i None) ≡ false → (t : Option (List ℕ)) → value_in (form_at ed k i).style (form_at ed k i).width (behind_key w.bytes) ≡ t → So (take_value t i (form_at ed k i).at v (draft ed k b g))
  unfolding take_value
  value_step i v p n z None q = tt
  value_step i v p n z (Some s) q = record { field = i; parted = p; key = n; fresh = z; value = s; says = q; column = suc v; taken = refl }

  key_step : ltb at_place (length w.bytes) ≡ true → (f : Option ℕ) → key_named ed k (key_in w.bytes) ≡ f → So (take_keyed f at_place w (draft ed k b g))
  unfolding take_keyed take_field behind_key
  key_step p None n = tt
  key_step p (Some i) n =
      let v : ℕ = w.at + at_place + 1 in
      let f = form_at ed k i in
      pick_ind So (is_some (get_or g i None)) (Err (slip_at w.at (Expected.Once k i)))
      (take_value (value_in f.style f.width (drop (at_place + 1) w.bytes)) i f.at v (draft ed k b g))
      (λ z. tt)
      (λ z. value_step i v p n z (value_in f.style f.width (drop (at_place + 1) w.bytes)) (rw (add-one at_place) refl))

  pub word_step : So (take_word w (draft ed k b g))
  unfolding take_word take_parted key_in
  word_step = go (ltb at_place (length w.bytes)) refl
    where
      go : (t : Bool) → ltb at_place (length w.bytes) ≡ t → So (take_parted (if t then Some at_place else None) w (draft ed k b g))
      go true p = key_step p (key_named ed k (key_in w.bytes)) refl
      go false p = tt

-- it names its own field and no other
module _ (ed : Edition) (k : Kind) (w : Word) (d e : Draft) (s : Step ed k w d e) where
  pub inside : s.field < length (entries_of ed k)
  inside = named_inside ed k (key_in w.bytes) s.field s.key

  pub names_own : names ed k s.field w ≡ true
  unfolding names both
  names_own = rw s.parted ((bytes_eq-Decides (key_at ed k s.field) (key_in w.bytes)).1 (named_key ed k (key_in w.bytes) s.field s.key))

  pub names_other : (i : ℕ) → i < length (entries_of ed k) → i ≢ s.field → names ed k i w ≡ false
  unfolding names
  names_other i h n =
      sym (refuted (both (ltb (place_of 61 w.bytes) (length w.bytes)) (bytes_eq (key_at ed k i) (key_in w.bytes)))
      (λ q.
      let t = both_true {a = ltb (place_of 61 w.bytes) (length w.bytes)} {b = bytes_eq (key_at ed k i) (key_in w.bytes)} q in
      let same : key_at ed k i ≡ key_in w.bytes = (bytes_eq-Decides (key_at ed k i) (key_in w.bytes)).0 t.1 in
      let back : Some i ≡ Some s.field = sym (key_back ed k i h) ∙ (ap (key_named ed k) same ∙ s.key) in
      let r : i ≡ s.field = cc in
      n r))

  pub value_fits : length s.value ≡ (form_at ed k s.field).width
  value_fits = value_length (form_at ed k s.field).style (form_at ed k s.field).width (behind_key w.bytes) s.value s.says

  pub step_long : length d.body ≡ 42 → length e.body ≡ 42
  step_long l = rw (s.taken, length-sets d.body (form_at ed k s.field).at s.value) l

  pub step_room : (n : ℕ) → n ≤ length d.columns → n ≤ length e.columns
  step_room n h = rw (s.taken, length-set d.columns s.field (Some s.column)) h

  pub given_own : length (entries_of ed k) ≤ length d.columns → is_some (get_or e.columns s.field None) ≡ true
  given_own h = rw (s.taken, get_or-set_same d.columns s.field (Some s.column) None (omega (arith, inside))) refl

  pub given_other : (i : ℕ) → i ≢ s.field → get_or e.columns i None ≡ get_or d.columns i None
  given_other i n = rw s.taken (get_or-set_other d.columns s.field i (Some s.column) None n)

-- ---- all words
pub data Run (ed : Edition) (k : Kind) : List Word → Draft → Draft → Type 0 where
  done : {d : Draft} → Run ed k [] d d
  more : {w : Word} {ws : List Word} {d e f : Draft} → Step ed k w d e → Run ed k ws e f → Run ed k (w ∷ ws) d f

pub run : (ed : Edition) (k : Kind) (ws : List Word) (b : List ℕ) (g : List (Option ℕ)) (e : Draft) → take_all ws (Ok (draft ed k b g)) ≡ Ok e → Run ed k ws (draft ed k b g) e
unfolding take_all
run ed k [] b g e h = let q : draft ed k b g ≡ e = cc in subst (λ (x : Draft). Run ed k [] (draft ed k b g) x) q done
run ed k (w ∷ ws) b g e h = go (take_word w (draft ed k b g)) (word_step ed k w b g) (λ b g q. run ed k ws b g e q) h
  where
    go :
        (t : Result Draft Slip) → Stepped ed k w (draft ed k b g) t → ((b : List ℕ) (g : List (Option ℕ)) → take_all ws (Ok (draft ed k b g)) ≡ Ok e → Run ed k ws (draft ed k b g) e) →
        take_all ws t ≡ Ok e → Run ed k (w ∷ ws) (draft ed k b g) e
    go (Ok x) s rec q = more s (rw s.taken (rec _ _ (rw s.taken at q)))
    go (Err x) s rec q = absurd (cc (sym (taken_err ws x) ∙ q))

-- ---- counting
module _ {A : Type 0} (p : A → Bool) (x : A) (xs : List A) where
  pub count_more : p x ≡ true → count_by p (x ∷ xs) ≡ suc (count_by p xs)
  unfolding count_by sum_by only_if pick
  count_more e = rw e (omega arith)

  pub count_same : p x ≡ false → count_by p (x ∷ xs) ≡ count_by p xs
  unfolding count_by sum_by only_if pick
  count_same e = rw e (omega arith)
