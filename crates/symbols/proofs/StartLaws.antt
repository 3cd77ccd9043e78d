-- What a start and updates alone make of a table: one entry for each symbol, in order of first use. A wiped table has no used entry,
-- and an update takes the symbol's own entry, or the lowest free one, which lies right behind the used ones.
-- Assumes nothing.
use mathlib.Core.Path.{◌≡◌, refl, sym, ap, ◌∙◌}
use mathlib.Core.List.{List, []}
use mathlib.Core.Bool.{Bool, true, false}
use Prim.Native.Nat.{ℕ, ◌+◌, ◌<◌}
use native.Mathlib.Omega.{arith}
use lib.ListN.{get_or, set, replicate}
use lib.Dec.{eqb}
use borrow.Author.Tests.{eqb-true, eqb-false}
use Rattle.std.specs.Prelude.{Some}
use Rattle.facts.proofs.Searches.{first_lowest, none_first}
use Rattle.facts.proofs.CountLaws.{count_none}
use Rattle.symbols.specs.Entries.{entries, entry_of, used, free_entry, id_of}
use Rattle.symbols.specs.Find.{is_symbol, find_symbol, find_free_entry, known_symbol, place_for, count_used}
use Rattle.symbols.specs.Tidy.{Distinct, Packed}
use Rattle.symbols.proofs.EntryLaws.{id_entry_of, used_entry_of, used_not_free, wiped_free, wiped_unused}
use Rattle.symbols.proofs.FindLaws.{Known, Place, own, fresh, entry_is, is_symbol_lem, unused_symbol, free_entry_below, some_known, known_found, found_known, nowhere_unknown, place_is, place_own}
use Rattle.symbols.proofs.UpdateLaws.{others_kept, own_is, find_others, find_own, count_known, count_new}

-- ---- a wiped table
pub wiped_unknown : (n id : ℕ) → known_symbol id (entries (replicate n 0)) ≡ false
unfolding find_symbol
wiped_unknown n id =
    nowhere_unknown id (entries (replicate n 0))
    (none_first (is_symbol id) 0 (entries (replicate n 0)) [] (λ i l. unused_symbol id (get_or (entries (replicate n 0)) i []) (wiped_unused n i)))

pub wiped_count : (n : ℕ) → count_used (entries (replicate n 0)) ≡ 0
unfolding count_used
wiped_count n = count_none used (entries (replicate n 0)) [] (λ i l. wiped_unused n i)

-- ---- used entries have distinct IDs
-- exactly if a search for the ID of a used entry finds that entry
pub distinct_found : (es : List (List ℕ)) → Distinct es → (i : ℕ) → used (get_or es i []) ≡ true → find_symbol (id_of (get_or es i [])) es ≡ Some i
distinct_found es d i u = go (known_found id es (some_known id es i (is_symbol_lem id (get_or es i []) u refl)))
  where
    id : ℕ
    id = id_of (get_or es i [])

    go : Known id es → find_symbol id es ≡ Some i
    go k =
        let s = entry_is id (get_or es k.place []) k.its in
        k.found ∙ ap Some (d k.place i s.0 u s.1)

pub found_distinct : (es : List (List ℕ)) → ((i : ℕ) → used (get_or es i []) ≡ true → find_symbol (id_of (get_or es i [])) es ≡ Some i) → Distinct es
found_distinct es f i j u v e =
    let a : find_symbol (id_of (get_or es i [])) es ≡ Some i = f i u in
    let b : find_symbol (id_of (get_or es i [])) es ≡ Some j = rw e (f j v) in
    cc

pub wiped_distinct : (n : ℕ) → Distinct (entries (replicate n 0))
wiped_distinct n i j u v e = let w = wiped_unused n i in let z : ◌≡◌ {A = ℕ} 0 1 = cc in absurd (omega arith)

pub distinct_kept : (b : List ℕ) (es : List (List ℕ)) (i : ℕ) → place_for (id_of b) es ≡ Some i → used b ≡ true → Distinct es → Distinct (set es i (entry_of b))
distinct_kept b es i e u d = found_distinct after (λ j v. at j v (eqb j i) refl)
  where
    after : List (List ℕ)
    after = set es i (entry_of b)

    -- every used entry is found by its ID: the new one, and each of the others
    at : (j : ℕ) → used (get_or after j []) ≡ true → (s : Bool) → eqb j i ≡ s → find_symbol (id_of (get_or after j [])) after ≡ Some j
    at j v true q =
        let ji : j ≡ i = eqb-true j i q in
        let x : get_or after j [] ≡ entry_of b = rw ji (own_is b es i e) in
        rw (x, id_entry_of b) (find_own b es i e u ∙ ap Some (sym ji))
    at j v false q =
        let x : get_or after j [] ≡ get_or es j [] = others_kept b es i e j (eqb-false j i q) in
        let f : find_symbol (id_of (get_or es j [])) es ≡ Some j = distinct_found es d j (ap used (sym x) ∙ v) in
        let n : id_of (get_or es j []) ≡ id_of b → ⊥ =
        λ z. let g : Some j ≡ Some i = sym (place_own (id_of b) es j (rw z at f)) ∙ e in eqb-false j i q (cc) in
        rw x (find_others b es i e (id_of (get_or es j [])) n ∙ f)

-- ---- "in order of first use": the used entries lie in front, and all others are free
pub wiped_packed : (n : ℕ) → Packed (entries (replicate n 0))
wiped_packed n = record { front = λ i l. absurd (omega (arith, wiped_count n)); back = λ i l. wiped_free n i }

never_both : (e : List ℕ) → used e ≡ true → free_entry e ≡ true → ⊥
never_both e u f = let n = used_not_free e u in let z : ◌≡◌ {A = ℕ} 0 1 = cc in omega arith

-- the lowest free entry is the next one
pub next_free : (es : List (List ℕ)) → Packed es → (i : ℕ) → find_free_entry es ≡ Some i → i ≡ count_used es
unfolding find_free_entry
next_free es p i e =
    let w = free_entry_below es i e in
    let a : i < count_used es → ⊥ = λ l. never_both (get_or es i []) (p.front i l) w.1 in
    let b : count_used es < i → ⊥ = λ l.
    let f = first_lowest free_entry 0 es i (count_used es) [] e (omega arith) in
    let g = p.back (count_used es) (omega arith) in
    let z : ◌≡◌ {A = ℕ} 0 1 = cc in omega arith in
    omega arith

-- a new symbol comes right behind those used before it
pub new_behind : (b : List ℕ) (es : List (List ℕ)) → Packed es → known_symbol (id_of b) es ≡ false → (i : ℕ) → place_for (id_of b) es ≡ Some i → i ≡ count_used es
new_behind b es p k i e = go (place_is (id_of b) es i e)
  where
    go : Place (id_of b) es i → i ≡ count_used es
    go (own f) = let h = found_known (id_of b) es i f in let z : ◌≡◌ {A = ℕ} 0 1 = cc in absurd (omega arith)
    go (fresh m f) = next_free es p i f

pub packed_kept : (b : List ℕ) (es : List (List ℕ)) (i : ℕ) → place_for (id_of b) es ≡ Some i → used b ≡ true → Packed es → Packed (set es i (entry_of b))
packed_kept b es i e u p = go (known_symbol (id_of b) es) refl
  where
    after : List (List ℕ)
    after = set es i (entry_of b)

    -- the entry at the place is used, and every other is as it was
    still : (f : List ℕ → Bool) (j : ℕ) → (j ≡ i → ⊥) → f (get_or es j []) ≡ true → f (get_or after j []) ≡ true
    still f j n h = ap f (others_kept b es i e j n) ∙ h

    front : (j : ℕ) → (s : Bool) → eqb j i ≡ s → ((j ≡ i → ⊥) → used (get_or es j []) ≡ true) → used (get_or after j []) ≡ true
    front j true q h = let ji : j ≡ i = eqb-true j i q in rw ji (ap used (own_is b es i e) ∙ used_entry_of b ∙ u)
    front j false q h = let n = eqb-false j i q in still used j n (h n)

    go : (t : Bool) → known_symbol (id_of b) es ≡ t → Packed after
    go true k =
        let w = known_found (id_of b) es k in
        let c : count_used after ≡ count_used es = count_known b es i e u k in
        let o : Some w.place ≡ Some i = sym (place_own (id_of b) es w.place w.found) ∙ e in
        let y : w.place ≡ i = cc in
        let x : used (get_or es i []) ≡ true = rw (← y) (entry_is (id_of b) (get_or es w.place []) w.its).0 in
        record {
          front = λ j l. front j (eqb j i) refl (λ n. p.front j (omega arith));
          back = λ j l.
              let f : free_entry (get_or es j []) ≡ true = p.back j (omega arith) in
              still free_entry j (λ z. never_both (get_or es i []) x (ap (λ m. free_entry (get_or es m [])) (sym z) ∙ f)) f;
        }
    go false k =
        let c : count_used after ≡ count_used es + 1 = count_new b es i e u k in
        let x : i ≡ count_used es = new_behind b es p k i e in
        record {
          front = λ j l. front j (eqb j i) refl (λ n. p.front j (omega arith));
          back = λ j l. still free_entry j (λ z. omega arith) (p.back j (omega arith));
        }
