-- While the index is that of the table and no ID stands twice, its searches find what a walk over the whole table finds. A symbol is known whatever the index holds.
-- Assumes nothing.
use mathlib.Core.Path.{◌≡◌, refl, sym, ap, ◌∙◌}
use mathlib.Core.List.{List, []}
use mathlib.Core.Bool.{Bool, true, false, true≢false}
use mathlib.Core.Logic.{◌⊎◌, inl, inr, ⊎_elim}
use Prim.Native.Nat.{ℕ}
use native.Mathlib.Decide.{ℕ_discrete}
use native.Mathlib.Omega.{arith}
use lib.ListN.{length, get_or}
use Rattle.facts.specs.Search.{is_found}
use Rattle.std.specs.Prelude.{Option, Some, None}
use Rattle.rows.specs.declared.Row.{Row}
use Rattle.rows.specs.Tidy.{Unique}
use Rattle.rows.specs.Find.{find_order, find_free}
use Rattle.symbols.specs.Find.{is_symbol, find_symbol, known_symbol}
use Rattle.symbols.specs.Tidy.{Distinct}
use Rattle.symbols.proofs.FindLaws.{entry_is, entry_below, nowhere, some_known}
use Rattle.index.specs.Index.{hint_of}
use Rattle.index.specs.Indexed.{Indexed}
use Rattle.index.proofs.Looked.{looked_is}
use Rattle.index.proofs.Frees.{lowest_is}
use Rattle.engines.specs.Engines.{order_by, free_by, entry_by}
use Rattle.engines.proofs.Cases.{order_index, free_index, hint_right, hint_wrong, entry_walk, entry_hint}

module _ (ix : List ℕ) (rs : List Row) (x : Indexed ix rs) where
  lent : length ix ≡ 0 → ⊥
  lent z = omega (arith, x.all.size)

  pub order_same : Unique rs → (id : ℕ) → order_by ix id rs ≡ find_order id rs
  order_same u id = order_index ix rs id lent ∙ looked_is ix rs id x u

  pub free_same : free_by ix rs ≡ find_free rs
  free_same = free_index ix rs lent ∙ lowest_is ix rs x

-- ---- a symbol's entry: whatever the index holds, for a hint is tested
module _ (ix : List ℕ) (id : ℕ) (es : List (List ℕ)) where
  -- the walk's entry, or the one that the hint names, which is the symbol's
  entry_cases : (entry_by ix id es ≡ find_symbol id es) ⊎ ((entry_by ix id es ≡ Some (hint_of ix id)) × (is_symbol id (get_or es (hint_of ix id) []) ≡ true))
  entry_cases = by (ℕ_discrete (length ix) 0)
    where
      go : (length ix ≡ 0 → ⊥) → (b : Bool) → is_symbol id (get_or es (hint_of ix id) []) ≡ b → (entry_by ix id es ≡ find_symbol id es) ⊎ ((entry_by ix id es ≡ Some (hint_of ix id)) × (is_symbol id (get_or es (hint_of ix id) []) ≡ true))
      go n true e = inr (entry_hint ix id es n ∙ hint_right ix id es e, e)
      go n false e = inl (entry_hint ix id es n ∙ hint_wrong ix id es e)

      by : Dec (length ix ≡ 0) → (entry_by ix id es ≡ find_symbol id es) ⊎ ((entry_by ix id es ≡ Some (hint_of ix id)) × (is_symbol id (get_or es (hint_of ix id) []) ≡ true))
      by (yes e) = inl (entry_walk ix id es e)
      by (no n) = go n (is_symbol id (get_or es (hint_of ix id) [])) refl

  -- through an index a symbol is known exactly where it is known without: rule 20 does not depend on what is lent
  pub entry_known : is_found (entry_by ix id es) ≡ known_symbol id es
  unfolding known_symbol
  entry_known = ⊎_elim (λ e. ap is_found e) (λ w. ap is_found w.0 ∙ sym (some_known id es (hint_of ix id) w.1)) entry_cases

  -- while no ID stands twice, it is the same entry
  module _ (d : Distinct es) where
    found_there : (i : ℕ) → is_symbol id (get_or es i []) ≡ true → Some i ≡ find_symbol id es
    found_there i h = go (find_symbol id es) refl
      where
        go : (f : Option ℕ) → find_symbol id es ≡ f → Some i ≡ find_symbol id es
        go (Some j) e =
            let o = entry_is id (get_or es i []) h in
            let q = entry_is id (get_or es j []) (entry_below es j id e).1 in
            ap Some (d i j o.0 q.0 (o.1 ∙ sym q.1)) ∙ sym e
        go None e = absurd (true≢false (sym h ∙ nowhere id es e i))

    pub entry_same : entry_by ix id es ≡ find_symbol id es
    entry_same = ⊎_elim (λ e. e) (λ w. w.0 ∙ found_there (hint_of ix id) w.1) entry_cases
