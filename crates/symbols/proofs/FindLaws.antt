-- Searches are those of any list; a symbol's entry is a used one with its ID, so a free one is never taken for it.
-- Assumes nothing.
use mathlib.Core.Path.{◌≡◌, refl, sym, ◌∙◌}
use mathlib.Core.List.{List, [], ◌∷◌}
use mathlib.Core.Bool.{Bool, true, false}
use Prim.Native.Nat.{ℕ, suc, ◌+◌, ◌<◌}
use native.Mathlib.Numerals.{add-one}
use native.Mathlib.Nat.{sub-zero}
use native.Mathlib.Omega.{arith}
use lib.ListN.{length, get_or, get_or-eq_default}
use lib.Dec.{eqb, ltb}
use borrow.Author.Tests.{eq-eqb, ne_eqb, eqb-true, ltb-true, ltb-false}
use Rattle.std.specs.Prelude.{cond, filter, position}
use Rattle.std.specs.List.{position_from}
use Rattle.std.proofs.lemmas.Iterator.Adapters.{position_from-zero}
use Rattle.facts.specs.Sums.{sum_by, only_if, count_by}
use Rattle.facts.specs.Pick.{pick, both}
use Rattle.facts.specs.Search.{first, is_found, or_else}
use Rattle.std.specs.Prelude.{Option, Some, None}
use Rattle.std.specs.Option.{is_some}
use Rattle.facts.proofs.Picks.{both_true}
use Rattle.facts.proofs.Searches.{first_at, first_none}
use Rattle.symbols.specs.Entries.{used, free_entry, id_of}
use Rattle.symbols.specs.Find.{is_symbol, find_symbol, find_free_entry, known_symbol, place_for, count_used}

-- ---- a symbol's entry
pub entry_is : (id : ℕ) (e : List ℕ) → is_symbol id e ≡ true → (used e ≡ true) × (id_of e ≡ id)
unfolding is_symbol
entry_is id e h = let w = both_true h in (w.0, eqb-true _ _ w.1)

pub is_symbol_lem : (id : ℕ) (e : List ℕ) → used e ≡ true → id_of e ≡ id → is_symbol id e ≡ true
unfolding is_symbol both
is_symbol_lem id e u h = simp (u, eq-eqb _ _ h)

-- the ID decides among used entries, and no other is a symbol's
pub used_symbol : (id : ℕ) (e : List ℕ) → used e ≡ true → is_symbol id e ≡ eqb (id_of e) id
unfolding is_symbol both
used_symbol id e u = rw u

pub unused_symbol : (id : ℕ) (e : List ℕ) → used e ≡ false → is_symbol id e ≡ false
unfolding is_symbol both
unused_symbol id e u = rw u

pub other_entry : (id : ℕ) (e : List ℕ) → (id_of e ≡ id → ⊥) → is_symbol id e ≡ false
other_entry id e n = go (used e) refl
  where
    go : (b : Bool) → used e ≡ b → is_symbol id e ≡ false
    go true u = used_symbol id e u ∙ ne_eqb _ _ n
    go false u = unused_symbol id e u

-- no entry is none's
pub no_symbol : (id : ℕ) → is_symbol id [] ≡ false
unfolding is_symbol used both
no_symbol id = refl

-- ---- searches and counts as std makes them
module _ {A : Type 0} (p : A → Bool) where
  from_position : (i : ℕ) (xs : List A) → first p i xs ≡ position_from p i xs
  unfolding first pick
  from_position i [] = refl
  from_position i (x ∷ xs) = go (p x) (rw add-one (from_position (suc i) xs))
    where
      go : (b : Bool) → first p (suc i) xs ≡ position_from p (i + 1) xs → pick b (Some i) (first p (suc i) xs) ≡ cond b (Some i) (position_from p (i + 1) xs)
      go true h = refl
      go false h = h

  pub first_position : (xs : List A) → first p 0 xs ≡ position p xs
  first_position xs = from_position 0 xs ∙ sym (position_from-zero p xs)

  counted : (xs : List A) → length (filter p xs) ≡ sum_by (only_if p (λ x. 1)) xs
  unfolding sum_by only_if pick
  counted [] = refl
  counted (x ∷ xs) = go (p x) (counted xs)
    where
      go : (b : Bool) → length (filter p xs) ≡ sum_by (only_if p (λ x. 1)) xs → length (cond b (x ∷ filter p xs) (filter p xs)) ≡ pick b 1 0 + sum_by (only_if p (λ x. 1)) xs
      go true h = omega arith
      go false h = omega arith

pub used_filtered : (es : List (List ℕ)) → length (filter used es) ≡ count_used es
unfolding count_used count_by
used_filtered es = counted used es

-- ---- where a search ends
module _ (es : List (List ℕ)) (i : ℕ) where
  below : (p : List ℕ → Bool) → first p 0 es ≡ Some i → (i < length es) × (p (get_or es i []) ≡ true)
  below p e = let w = first_at p 0 es i [] e in (omega (arith, w.1), rw (sub-zero i) at w.2)

  pub entry_below : (id : ℕ) → find_symbol id es ≡ Some i → (i < length es) × (is_symbol id (get_or es i []) ≡ true)
  unfolding find_symbol
  entry_below id e = below (is_symbol id) e

  pub free_entry_below : find_free_entry es ≡ Some i → (i < length es) × (free_entry (get_or es i []) ≡ true)
  unfolding find_free_entry
  free_entry_below e = below free_entry e

-- a symbol that is nowhere found has no entry
pub nowhere : (id : ℕ) (es : List (List ℕ)) → find_symbol id es ≡ None → (i : ℕ) → is_symbol id (get_or es i []) ≡ false
unfolding find_symbol
nowhere id es e i = go (ltb i (length es)) refl
  where
    go : (b : Bool) → ltb i (length es) ≡ b → is_symbol id (get_or es i []) ≡ false
    go true l = first_none (is_symbol id) 0 es e i [] (ltb-true i (length es) l)
    go false l = rw (get_or-eq_default es [] {n = i} (ltb-false i (length es) l)) (no_symbol id)

-- ---- known: exactly if a search finds an entry, and exactly if there is one
pub record Known (id : ℕ) (es : List (List ℕ)) : Type 0 where
  pub place : ℕ
  pub found : find_symbol id es ≡ Some place
  pub inside : place < length es
  pub its : is_symbol id (get_or es place []) ≡ true

pub known_some : (id : ℕ) (es : List (List ℕ)) → is_some (find_symbol id es) ≡ known_symbol id es
unfolding known_symbol
known_some id es = go (find_symbol id es)
  where
    go : (f : Option ℕ) → is_some f ≡ is_found f
    go (Some i) = refl
    go None = refl

pub found_known : (id : ℕ) (es : List (List ℕ)) (i : ℕ) → find_symbol id es ≡ Some i → known_symbol id es ≡ true
unfolding known_symbol
found_known id es i e = rw e

pub known_found : (id : ℕ) (es : List (List ℕ)) → known_symbol id es ≡ true → Known id es
unfolding known_symbol
known_found id es = go (find_symbol id es) refl
  where
    go : (f : Option ℕ) → find_symbol id es ≡ f → is_found f ≡ true → Known id es
    go (Some i) e h = let w = entry_below es i id e in record { place = i; found = e; inside = w.0; its = w.1 }
    go None e h = let z : ◌≡◌ {A = ℕ} 0 1 = cc in absurd (omega arith)

pub nowhere_unknown : (id : ℕ) (es : List (List ℕ)) → find_symbol id es ≡ None → known_symbol id es ≡ false
unfolding known_symbol
nowhere_unknown id es e = rw e

pub unknown_nowhere : (id : ℕ) (es : List (List ℕ)) → known_symbol id es ≡ false → find_symbol id es ≡ None
unfolding known_symbol
unknown_nowhere id es = go (find_symbol id es)
  where
    go : (f : Option ℕ) → is_found f ≡ false → f ≡ None
    go (Some i) h = let z : ◌≡◌ {A = ℕ} 0 1 = cc in absurd (omega arith)
    go None h = refl

pub some_known : (id : ℕ) (es : List (List ℕ)) (i : ℕ) → is_symbol id (get_or es i []) ≡ true → known_symbol id es ≡ true
some_known id es i h = go (find_symbol id es) refl
  where
    go : (f : Option ℕ) → find_symbol id es ≡ f → known_symbol id es ≡ true
    go (Some j) e = found_known id es j e
    go None e = let n = nowhere id es e i in let z : ◌≡◌ {A = ℕ} 0 1 = cc in absurd (omega arith)

-- ---- the place for a symbol: its own entry, or, where it has none, the lowest free one
pub data Place (id : ℕ) (es : List (List ℕ)) (i : ℕ) : Type 0 where
  own : find_symbol id es ≡ Some i → Place id es i
  fresh : find_symbol id es ≡ None → find_free_entry es ≡ Some i → Place id es i

pub place_is : (id : ℕ) (es : List (List ℕ)) (i : ℕ) → place_for id es ≡ Some i → Place id es i
unfolding place_for
place_is id es i = go (find_symbol id es) refl
  where
    go : (f : Option ℕ) → find_symbol id es ≡ f → or_else f (find_free_entry es) ≡ Some i → Place id es i
    go (Some j) e h = own (e ∙ h)
    go None e h = fresh e h

pub place_own : (id : ℕ) (es : List (List ℕ)) (i : ℕ) → find_symbol id es ≡ Some i → place_for id es ≡ Some i
unfolding place_for
place_own id es i e = rw e

-- the place lies in the table
pub place_below : (id : ℕ) (es : List (List ℕ)) (i : ℕ) → place_for id es ≡ Some i → i < length es
place_below id es i h = go (place_is id es i h)
  where
    go : Place id es i → i < length es
    go (own e) = (entry_below es i id e).0
    go (fresh n e) = (free_entry_below es i e).0

-- no place: an unknown symbol, and no free entry
pub no_place : (id : ℕ) (es : List (List ℕ)) → place_for id es ≡ None → (find_symbol id es ≡ None) × (find_free_entry es ≡ None)
unfolding place_for
no_place id es = go (find_symbol id es) refl
  where
    go : (f : Option ℕ) → find_symbol id es ≡ f → or_else f (find_free_entry es) ≡ None → (find_symbol id es ≡ None) × (find_free_entry es ≡ None)
    go (Some j) e h = let z : ◌≡◌ {A = ℕ} 0 1 = cc in absurd (omega arith)
    go None e h = (e, h)
