-- A search for an ID finds an entry exactly where the ID is among those of the table; an update of a known symbol leaves them as they are, and
-- one of a new symbol comes right behind the used entries, so its ID comes behind theirs.
-- Assumes nothing.
use mathlib.Core.Path.{◌≡◌, refl, sym, ap, ◌∙◌}
use mathlib.Core.List.{List, [], ◌∷◌, ◌++◌}
use mathlib.Core.Bool.{Bool, true, false}
use Prim.Native.Nat.{ℕ, zero, suc, ◌≤◌, ◌<◌}
use native.Mathlib.Nat.{le_of_suc-le-suc, not-suc-le-zero}
use native.Mathlib.Omega.{arith}
use lib.ListN.{length, get_or, set, replicate}
use lib.Dec.{eqb}
use Rattle.facts.specs.Pick.{pick, both}
use Rattle.facts.specs.Search.{first, is_found}
use Rattle.std.specs.Prelude.{Some}
use Rattle.symbols.specs.Entries.{entries, entry_of, used, id_of}
use Rattle.symbols.specs.Find.{is_symbol, find_symbol, known_symbol, place_for, count_used}
use Rattle.symbols.specs.Tidy.{Packed, ids_in, joined}
use Rattle.symbols.proofs.EntryLaws.{id_entry_of, used_entry_of, free_not_used, wiped_unused}
use Rattle.symbols.proofs.FindLaws.{entry_is, known_found, place_own, place_below}
use Rattle.symbols.proofs.StartLaws.{new_behind}

-- ---- known is: among the IDs of the table
listed : (id : ℕ) (es : List (List ℕ)) (k j : ℕ) → is_found (first (is_symbol id) k es) ≡ is_found (first (λ x. eqb x id) j (ids_in es))
unfolding first ids_in is_symbol both pick
listed id [] k j = refl
listed id (e ∷ es) k j = go (listed id es (suc k)) (used e) (eqb (id_of e) id) refl
  where
    go : ((j : ℕ) → is_found (first (is_symbol id) (suc k) es) ≡ is_found (first (λ x. eqb x id) j (ids_in es))) → (u t : Bool) → eqb (id_of e) id ≡ t
        → is_found (pick (both u t) (Some k) (first (is_symbol id) (suc k) es)) ≡ is_found (first (λ x. eqb x id) j (pick u (id_of e ∷ ids_in es) (ids_in es)))
    go rest true true q = rw q refl
    go rest true false q = rw q (rest (suc j))
    go rest false t q = rest j

pub known_listed : (id : ℕ) (es : List (List ℕ)) → known_symbol id es ≡ is_found (first (λ x. eqb x id) 0 (ids_in es))
unfolding known_symbol find_symbol
known_listed id es = listed id es 0 0

-- ---- no used entry, no ID
ids_none : (es : List (List ℕ)) → ((j : ℕ) → used (get_or es j []) ≡ false) → ids_in es ≡ []
unfolding ids_in pick
ids_none [] h = refl
ids_none (e ∷ es) h = rw (h 0) (ids_none es (λ j. h (suc j)))

pub ids_wiped : (n : ℕ) → ids_in (entries (replicate n 0)) ≡ []
ids_wiped n = ids_none (entries (replicate n 0)) (wiped_unused n)

-- ---- one entry set: of the same symbol, or the first behind the used ones
ids_same : (es : List (List ℕ)) (i : ℕ) (x : List ℕ) → used (get_or es i []) ≡ true → used x ≡ true → id_of (get_or es i []) ≡ id_of x → ids_in (set es i x) ≡ ids_in es
unfolding ids_in pick
ids_same [] i x u v q = refl
ids_same (e ∷ es) zero x u v q = rw (u, v) (ap (λ y. y ∷ ids_in es) (sym q))
ids_same (e ∷ es) (suc i) x u v q = ap (λ ys. pick (used e) (id_of e ∷ ys) ys) (ids_same es i x u v q)

ids_new : (es : List (List ℕ)) (i : ℕ) (x : List ℕ) → i < length es → ((j : ℕ) → i ≤ j → used (get_or es j []) ≡ false) → used x ≡ true → ids_in (set es i x) ≡ ids_in es ++ (id_of x ∷ [])
unfolding ids_in pick
ids_new [] i x h n v = absurd (not-suc-le-zero h)
ids_new (e ∷ es) zero x h n v = rw (v, n 0 (omega arith), ids_none es (λ j. n (suc j) (omega arith))) refl
ids_new (e ∷ es) (suc i) x h n v = ap (λ ys. pick (used e) (id_of e ∷ ys) ys) (ids_new es i x (le_of_suc-le-suc h) (λ j l. n (suc j) (omega arith)) v) ∙ split (used e)
  where
    split : (b : Bool) → pick b (id_of e ∷ (ids_in es ++ (id_of x ∷ []))) (ids_in es ++ (id_of x ∷ [])) ≡ pick b (id_of e ∷ ids_in es) (ids_in es) ++ (id_of x ∷ [])
    split true = refl
    split false = refl

-- ---- "in order of first use": an update of a new symbol puts it behind the others
pub ids_kept : (b : List ℕ) (es : List (List ℕ)) (i : ℕ) → place_for (id_of b) es ≡ Some i → used b ≡ true → Packed es → ids_in (set es i (entry_of b)) ≡ joined (id_of b) (ids_in es)
unfolding joined pick
ids_kept b es i e u p = go (known_symbol (id_of b) es) refl ∙ ap (λ t. pick t (ids_in es) (ids_in es ++ (id_of b ∷ []))) (known_listed (id_of b) es)
  where
    go : (t : Bool) → known_symbol (id_of b) es ≡ t → ids_in (set es i (entry_of b)) ≡ pick (known_symbol (id_of b) es) (ids_in es) (ids_in es ++ (id_of b ∷ []))
    go true k =
        let w = known_found (id_of b) es k in
        let o : Some w.place ≡ Some i = sym (place_own (id_of b) es w.place w.found) ∙ e in
        let y : w.place ≡ i = cc in
        let s : (used (get_or es i []) ≡ true) × (id_of (get_or es i []) ≡ id_of b) = rw (← y) (entry_is (id_of b) (get_or es w.place []) w.its) in
        rw k (ids_same es i (entry_of b) s.0 (used_entry_of b ∙ u) (s.1 ∙ sym (id_entry_of b)))
    go false k =
        let x : i ≡ count_used es = new_behind b es p k i e in
        rw (k, ← id_entry_of b) (ids_new es i (entry_of b) (place_below (id_of b) es i e) (λ j l. free_not_used (get_or es j []) (p.back j (omega arith))) (used_entry_of b ∙ u))
