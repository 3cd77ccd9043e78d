-- A table's entries are retyped one by one: searches go by type byte and symbol ID, which stay, and an entry put is retyped as its body is.
-- Assumes nothing.
use Prim.Native.Nat.{ℕ, zero, suc, ◌+◌, ◌*◌, ◌/◌, ◌<◌}
use mathlib.Core.Path.{◌≡◌, refl, sym, ap, ap₂, ◌∙◌, subst}
use mathlib.Core.Bool.{Bool, true}
use mathlib.Core.List.{List, [], ◌∷◌, ◌++◌, map}
use native.Mathlib.Omega.{arith}
use native.Mathlib.Nat.{mod-lt, mod_def}
use lib.ListN.{length, set, drop, replicate, length-drop, length-map, length-append}
use lib.Seq.{drop_at}
use lib.Dec.{eqb}
use Rattle.facts.specs.Limits.{entry_size}
use Rattle.facts.specs.Pick.{pick, both}
use Rattle.facts.specs.Pieces.{join}
use Rattle.facts.specs.Search.{first, or_else}
use Rattle.facts.specs.Sums.{count_by, sum_by, only_if}
use Rattle.std.specs.Prelude.{Option, Some, None}
use Rattle.facts.proofs.PieceLaws.{Wide, length_join, length_pieces, pieces_rest, pieces_replicate, map_set}
use Rattle.wire.proofs.Laws.{get_or_padded}
use Rattle.editions.specs.declared.Edition.{Edition}
use Rattle.kinds.specs.declared.Kind.{Kind}
use Rattle.fields.specs.Fields.{symbol_of}
use Rattle.body.specs.Read.{good_body}
use Rattle.body.proofs.Laws.{Framed, framed_is, good_framed}
use Rattle.symbols.specs.Entries.{entries, entries_rest, entry_of, put_entry, used, free_entry}
use Rattle.symbols.specs.Find.{is_symbol, find_symbol, find_free_entry, place_for, count_used}
use Rattle.symbols.specs.Work.{entered}
use Rattle.symbols.proofs.EntryLaws.{size_some, wide_entries, entries_rest_lem, length_entry_of, whole_body, entries_put, put_bytes}
use Rattle.retype.specs.Retyped.{Asked, is_update, retyped}
use Rattle.retype.proofs.Laws.{symbol_same, retyped_length, retyped_same, retyped_no, update_kind, by_update}
use Rattle.mornings.specs.Tables.{entries_to}

-- ---- pieces and a rest
rest_short : (t : List ℕ) → length (entries_rest t) < entry_size
unfolding entries_rest
rest_short t = rw (length-drop, ← mod_def (length t) entry_size) (mod-lt (length t) size_some)

wide_to : (a : Asked) (es : List (List ℕ)) → Wide entry_size es → Wide entry_size (map (retyped a) es)
wide_to a [] h = tt
wide_to a (e ∷ es) h = (retyped_length a e ∙ h.0, wide_to a es h.1)

module _ (xs : List (List ℕ)) (y : List ℕ) (w : Wide entry_size xs) (l : length y < entry_size) where
  pub pieces_are : entries (join xs ++ y) ≡ xs
  unfolding entries
  pieces_are = pieces_rest entry_size xs y l w

  -- what lies behind as many entries
  rest_is : entries_rest (join xs ++ y) ≡ y
  unfolding entries_rest entries
  rest_is =
      let n : length (join xs ++ y) / entry_size ≡ length xs = sym (length_pieces entry_size (join xs ++ y)) ∙ ap length pieces_are in
      ap (λ (k : ℕ). drop (entry_size * k) (join xs ++ y)) n ∙ drop_at (join xs) y (entry_size * length xs) (length_join entry_size xs w)

-- ---- a table in the other edition
module _ (a : Asked) (t : List ℕ) where
  pub entries_to_lem : entries (entries_to a t) ≡ map (retyped a) (entries t)
  unfolding entries_to
  entries_to_lem = pieces_are (map (retyped a) (entries t)) (entries_rest t) (wide_to a (entries t) (wide_entries t)) (rest_short t)

  rest_to : entries_rest (entries_to a t) ≡ entries_rest t
  unfolding entries_to
  rest_to = rest_is (map (retyped a) (entries t)) (entries_rest t) (wide_to a (entries t) (wide_entries t)) (rest_short t)

  pub length_to : length (entries_to a t) ≡ length t
  unfolding entries_to
  length_to =
      let w = wide_entries t in
      length-append (join (map (retyped a) (entries t))) (entries_rest t)
      ∙ ap (λ (n : ℕ). n + length (entries_rest t)) (length_join entry_size (map (retyped a) (entries t)) (wide_to a (entries t) w) ∙ ap (λ (n : ℕ). entry_size * n) (length-map (entries t) (retyped a)) ∙ sym (length_join entry_size (entries t) w))
      ∙ sym (length-append (join (entries t)) (entries_rest t))
      ∙ ap length (entries_rest_lem t)

to_is : (a : Asked) (t : List ℕ) → entries_to a t ≡ join (map (retyped a) (entries t)) ++ entries_rest t
unfolding entries_to
to_is a t = refl

wide_set : (es : List (List ℕ)) (i : ℕ) (x : List ℕ) → Wide entry_size es → length x ≡ entry_size → Wide entry_size (set es i x)
wide_set [] i x h l = tt
wide_set (e ∷ es) zero x h l = (l, h.1)
wide_set (e ∷ es) (suc i) x h l = (h.0, wide_set es i x h.1 l)

rest_put : (t : List ℕ) (i : ℕ) (b : List ℕ) → entries_rest (put_entry t i b) ≡ entries_rest t
rest_put t i b = ap entries_rest (put_bytes t i b) ∙ rest_is (set (entries t) i (entry_of b)) (entries_rest t) (wide_set (entries t) i (entry_of b) (wide_entries t) (length_entry_of b)) (rest_short t)

-- a wiped table is the same in both
zeros_same : (a : Asked) (n : ℕ) → map (retyped a) (replicate n (replicate entry_size 0)) ≡ replicate n (replicate entry_size 0)
unfolding is_update
zeros_same a zero = refl
zeros_same a (suc n) = λ i. retyped_no a (replicate entry_size 0) refl i ∷ zeros_same a n i

pub wiped_to : (a : Asked) (n : ℕ) → entries_to a (replicate n 0) ≡ replicate n 0
unfolding entries_to entries
wiped_to a n =
    let e : entries (replicate n 0) ≡ replicate (n / entry_size) (replicate entry_size 0) = pieces_replicate entry_size n 0 in
    ap (λ (es : List (List ℕ)). join es ++ entries_rest (replicate n 0)) (ap (map (retyped a)) e ∙ zeros_same a (n / entry_size) ∙ sym e)
    ∙ entries_rest_lem (replicate n 0)

-- ---- searches
first_unmoved : {A : Type 0} (p : A → Bool) (f : A → A) → ((x : A) → p (f x) ≡ p x) → (k : ℕ) (xs : List A) → first p k (map f xs) ≡ first p k xs
unfolding first
first_unmoved p f h k [] = refl
first_unmoved p f h k (x ∷ xs) = λ i. pick (h x i) (Some k) (first_unmoved p f h (suc k) xs i)

count_unmoved : {A : Type 0} (p : A → Bool) (f : A → A) → ((x : A) → p (f x) ≡ p x) → (xs : List A) → count_by p (map f xs) ≡ count_by p xs
unfolding count_by sum_by only_if
count_unmoved p f h [] = refl
count_unmoved p f h (x ∷ xs) = λ i. pick (h x i) 1 0 + count_unmoved p f h xs i

module _ (a : Asked) where
  pub used_to : (e : List ℕ) → used (retyped a e) ≡ used e
  unfolding used
  used_to e = ap (λ (t : ℕ). eqb t 1) (retyped_same a e 0 (λ z. omega arith))

  free_to : (e : List ℕ) → free_entry (retyped a e) ≡ free_entry e
  unfolding free_entry
  free_to e = ap (λ (t : ℕ). eqb t 0) (retyped_same a e 0 (λ z. omega arith))

  pub symbol_to : (e : List ℕ) → symbol_of (retyped a e) ≡ symbol_of e
  symbol_to e = symbol_same e (retyped a e) (retyped_same a e)

  is_symbol_to : (id : ℕ) (e : List ℕ) → is_symbol id (retyped a e) ≡ is_symbol id e
  unfolding is_symbol
  is_symbol_to id e = λ i. both (used_to e i) (eqb (symbol_to e i).id id)

  pub find_to : (id : ℕ) (t : List ℕ) → find_symbol id (entries (entries_to a t)) ≡ find_symbol id (entries t)
  unfolding find_symbol
  find_to id t = ap (first (is_symbol id) 0) (entries_to_lem a t) ∙ first_unmoved (is_symbol id) (retyped a) (is_symbol_to id) 0 (entries t)

  free_found_to : (t : List ℕ) → find_free_entry (entries (entries_to a t)) ≡ find_free_entry (entries t)
  unfolding find_free_entry
  free_found_to t = ap (first free_entry 0) (entries_to_lem a t) ∙ first_unmoved free_entry (retyped a) free_to 0 (entries t)

  pub place_to : (id : ℕ) (t : List ℕ) → place_for id (entries (entries_to a t)) ≡ place_for id (entries t)
  unfolding place_for
  place_to id t = ap₂ or_else (find_to id t) (free_found_to t)

  pub count_to : (t : List ℕ) → count_used (entries (entries_to a t)) ≡ count_used (entries t)
  unfolding count_used
  count_to t = ap (count_by used) (entries_to_lem a t) ∙ count_unmoved used (retyped a) used_to (entries t)

  -- ---- an entry put
  -- a good body as an entry: its own, or one that is no Symbol Update
  entry_of_to : (from : Edition) (b : List ℕ) → good_body from b ≡ true → entry_of (retyped a b) ≡ retyped a (entry_of b)
  unfolding entry_of is_update
  entry_of_to from b g =
      by_update b
      (λ u.
      let w : Framed Kind.SymbolUpdate b = subst (λ (k : Kind). Framed k b) (update_kind b u) (framed_is b (good_framed from b g)) in
      whole_body (retyped a b) (retyped_length a b ∙ w.length_is) ∙ ap (retyped a) (sym (whole_body b w.length_is)))
      (λ u. ap entry_of (retyped_no a b u) ∙ sym (retyped_no a (entry_of b) (ap (λ (t : ℕ). eqb t 1) (get_or_padded b 0 entry_size 0 size_some) ∙ u)))

  put_to : (from : Edition) (b : List ℕ) → good_body from b ≡ true → (t : List ℕ) (i : ℕ) → put_entry (entries_to a t) i (retyped a b) ≡ entries_to a (put_entry t i b)
  put_to from b g t i =
      let es = entries t in
      let e : entries (put_entry t i b) ≡ set es i (entry_of b) = entries_put t i b in
      let r : entries_rest (put_entry t i b) ≡ entries_rest t = rest_put t i b in
      put_bytes (entries_to a t) i (retyped a b)
      ∙ (λ j. join (set (entries_to_lem a t j) i (entry_of_to from b g j)) ++ rest_to a t j)
      ∙ (λ j. join (sym (map_set (retyped a) es i (entry_of b)) j) ++ entries_rest t)
      ∙ (λ j. join (map (retyped a) (sym e j)) ++ sym r j)
      ∙ sym (to_is a (put_entry t i b))

  pub entered_to : (from : Edition) (b : List ℕ) → good_body from b ≡ true → (w : Option ℕ) (t : List ℕ) → entered w (retyped a b) (entries_to a t) ≡ entries_to a (entered w b t)
  unfolding entered
  entered_to from b g None t = refl
  entered_to from b g (Some i) t = put_to from b g t i
