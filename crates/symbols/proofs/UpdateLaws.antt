-- An update sets one entry, its symbol's own or a free one, so a search for any other symbol passes or fails there as before.
-- Assumes nothing.
use mathlib.Core.Path.{◌≡◌, refl, sym, ap, ◌∙◌}
use mathlib.Core.List.{List, []}
use mathlib.Core.Bool.{Bool, true, false}
use Prim.Native.Nat.{ℕ, ◌+◌}
use native.Mathlib.Omega.{arith}
use lib.ListN.{length, get_or, set}
use lib.Seq.{get_or-set_same, get_or-set_other}
use lib.Dec.{eqb}
use borrow.Author.Tests.{eqb-true, eqb-false}
use Rattle.std.specs.Prelude.{Option, Some, None}
use Rattle.facts.proofs.Searches.{first_set_same, first_set_new}
use Rattle.facts.proofs.CountLaws.{count_set_same, count_set_new}
use Rattle.symbols.specs.Entries.{entry_of, used, id_of}
use Rattle.symbols.specs.Find.{is_symbol, find_symbol, known_symbol, place_for, count_used}
use Rattle.symbols.specs.Work.{entered}
use Rattle.symbols.proofs.EntryLaws.{id_entry_of, used_entry_of, free_not_used, length_put_entry}
use Rattle.symbols.proofs.FindLaws.{Place, own, fresh, entry_is, is_symbol_lem, other_entry, unused_symbol, entry_below, free_entry_below, known_found, found_known, unknown_nowhere, place_is, place_own, place_below}

pub entered_length : (w : Option ℕ) (b t : List ℕ) → length (entered w b t) ≡ length t
unfolding entered
entered_length None b t = refl
entered_length (Some i) b t = length_put_entry t i b

-- ---- what stood at the place: that symbol's entry or a free one, so no other symbol's
was_other : (b : List ℕ) (es : List (List ℕ)) (i : ℕ) → Place (id_of b) es i → (id : ℕ) → (id ≡ id_of b → ⊥) → is_symbol id (get_or es i []) ≡ false
was_other b es i (own e) id n =
    other_entry id (get_or es i []) (λ z. n (sym z ∙ (entry_is (id_of b) (get_or es i []) (entry_below es i (id_of b) e).1).1))
was_other b es i (fresh m e) id n = unused_symbol id (get_or es i []) (free_not_used (get_or es i []) (free_entry_below es i e).1)

now_other : (b : List ℕ) (id : ℕ) → (id ≡ id_of b → ⊥) → is_symbol id (entry_of b) ≡ false
now_other b id n = other_entry id (entry_of b) (λ z. n (sym z ∙ id_entry_of b))

now_own : (b : List ℕ) → used b ≡ true → is_symbol (id_of b) (entry_of b) ≡ true
now_own b u = is_symbol_lem (id_of b) (entry_of b) (used_entry_of b ∙ u) (id_entry_of b)

-- ---- the body of an update at the place found for it
module _ (b : List ℕ) (es : List (List ℕ)) (i : ℕ) (e : place_for (id_of b) es ≡ Some i) where
  abbrev after : List (List ℕ)
  after = set es i (entry_of b)

  pub others_kept : (j : ℕ) → (j ≡ i → ⊥) → get_or after j [] ≡ get_or es j []
  others_kept j n = get_or-set_other es i j (entry_of b) [] n

  pub own_is : get_or after i [] ≡ entry_of b
  own_is = get_or-set_same es i (entry_of b) [] (place_below (id_of b) es i e)

  -- searches afterwards
  pub find_others : (id : ℕ) → (id ≡ id_of b → ⊥) → find_symbol id after ≡ find_symbol id es
  unfolding find_symbol
  find_others id n = first_set_same (is_symbol id) 0 es i (entry_of b) [] (was_other b es i (place_is (id_of b) es i e) id n ∙ sym (now_other b id n))

  pub known_others : (id : ℕ) → (id ≡ id_of b → ⊥) → known_symbol id after ≡ known_symbol id es
  unfolding known_symbol
  known_others id n = rw (find_others id n)

  module _ (u : used b ≡ true) where
    pub find_own : find_symbol (id_of b) after ≡ Some i
    unfolding find_symbol
    find_own = at (place_is (id_of b) es i e)
      where
        at : Place (id_of b) es i → find_symbol (id_of b) (set es i (entry_of b)) ≡ Some i
        at (own f) = first_set_same (is_symbol (id_of b)) 0 es i (entry_of b) [] ((entry_below es i (id_of b) f).1 ∙ sym (now_own b u)) ∙ f
        at (fresh m f) = first_set_new (is_symbol (id_of b)) 0 es i (entry_of b) (free_entry_below es i f).0 m (now_own b u) ∙ ap Some (omega arith)

    -- its symbol is known afterwards, and what was known stays known
    pub known_after : known_symbol (id_of b) after ≡ true
    known_after = found_known (id_of b) after i find_own

    pub known_stays : (id : ℕ) → known_symbol id es ≡ true → known_symbol id after ≡ true
    known_stays id k = go (eqb id (id_of b)) refl
      where
        go : (t : Bool) → eqb id (id_of b) ≡ t → known_symbol id after ≡ true
        go true q = rw (eqb-true id (id_of b) q) known_after
        go false q = known_others id (eqb-false id (id_of b) q) ∙ k

    -- counts: one more for a new symbol, else the same
    pub count_known : known_symbol (id_of b) es ≡ true → count_used after ≡ count_used es
    unfolding count_used
    count_known k =
        let w = known_found (id_of b) es k in
        let o : Some w.place ≡ Some i = sym (place_own (id_of b) es w.place w.found) ∙ e in
        let j : w.place ≡ i = cc in
        let x : used (get_or es i []) ≡ true = rw (← j) (entry_is (id_of b) (get_or es w.place []) w.its).0 in
        count_set_same used es i (entry_of b) [] (x ∙ sym (used_entry_of b ∙ u))

    pub count_new : known_symbol (id_of b) es ≡ false → count_used after ≡ count_used es + 1
    unfolding count_used
    count_new k = go (place_is (id_of b) es i e)
      where
        go : Place (id_of b) es i → count_used (set es i (entry_of b)) ≡ count_used es + 1
        go (own f) = let n = unknown_nowhere (id_of b) es k in let z : ◌≡◌ {A = ℕ} 0 1 = cc in absurd (omega arith)
        go (fresh m f) =
            let w = free_entry_below es i f in
            count_set_new used es i (entry_of b) [] w.0 (free_not_used (get_or es i []) w.1) (used_entry_of b ∙ u)
