-- Each definition taken apart by its tests.
-- Assumes nothing.
use mathlib.Core.Path.{◌≡◌}
use mathlib.Core.List.{List, []}
use mathlib.Core.Bool.{true, false}
use Prim.Native.Nat.{ℕ}
use native.Mathlib.Omega.{arith}
use lib.ListN.{length, get_or}
use mathlib.Core.Logic.{◌⊎◌, inl, inr, ⊎_elim}
use borrow.Author.Tests.{eq-eqb, ne_eqb, eqb-true}
use Rattle.facts.specs.Pick.{pick, either}
use Rattle.facts.proofs.Picks.{either_true}
use Rattle.std.specs.Prelude.{Some}
use Rattle.rows.specs.declared.Row.{Row}
use Rattle.rows.specs.Rows.{zero_row, free}
use Rattle.rows.specs.Find.{of_symbol, find_order, find_free}
use Rattle.symbols.specs.Find.{is_symbol, find_symbol}
use Rattle.index.specs.Index.{looked, lowest_free, freed, came, hint_of}
use Rattle.engines.specs.Engines.{good_index, order_by, free_by, hinted, entry_by, put_noted, left}

-- ---- the size
pub index_none : (n : ℕ) → n ≡ 0 → good_index n ≡ true
unfolding good_index either
index_none n e = rw (eq-eqb n 0 e)

pub index_size : (n : ℕ) → n ≡ 49403 → good_index n ≡ true
unfolding good_index either
index_size n e = rw (ne_eqb n 0 (λ z. omega arith), eq-eqb n 49403 e)

pub index_cases : (n : ℕ) → good_index n ≡ true → (n ≡ 0) ⊎ (n ≡ 49403)
unfolding good_index
index_cases n e = ⊎_elim (λ x. inl (eqb-true n 0 x)) (λ x. inr (eqb-true n 49403 x)) (either_true e)

-- ---- the searches
module _ (ix : List ℕ) (rs : List Row) where
  pub order_walk : (id : ℕ) → length ix ≡ 0 → order_by ix id rs ≡ find_order id rs
  unfolding order_by pick
  order_walk id e = rw (eq-eqb (length ix) 0 e)

  pub order_index : (id : ℕ) → (length ix ≡ 0 → ⊥) → order_by ix id rs ≡ looked ix rs id
  unfolding order_by pick
  order_index id n = rw (ne_eqb (length ix) 0 n)

  pub free_walk : length ix ≡ 0 → free_by ix rs ≡ find_free rs
  unfolding free_by pick
  free_walk e = rw (eq-eqb (length ix) 0 e)

  pub free_index : (length ix ≡ 0 → ⊥) → free_by ix rs ≡ lowest_free ix rs
  unfolding free_by pick
  free_index n = rw (ne_eqb (length ix) 0 n)

module _ (ix : List ℕ) (id : ℕ) (es : List (List ℕ)) where
  pub hint_right : is_symbol id (get_or es (hint_of ix id) []) ≡ true → hinted ix id es ≡ Some (hint_of ix id)
  unfolding hinted pick
  hint_right e = rw e

  pub hint_wrong : is_symbol id (get_or es (hint_of ix id) []) ≡ false → hinted ix id es ≡ find_symbol id es
  unfolding hinted pick
  hint_wrong e = rw e

  pub entry_walk : length ix ≡ 0 → entry_by ix id es ≡ find_symbol id es
  unfolding entry_by pick
  entry_walk e = rw (eq-eqb (length ix) 0 e)

  pub entry_hint : (length ix ≡ 0 → ⊥) → entry_by ix id es ≡ hinted ix id es
  unfolding entry_by pick
  entry_hint n = rw (ne_eqb (length ix) 0 n)

-- ---- a row put
module _ (i : ℕ) (r : Row) (rs : List Row) (ix : List ℕ) where
  pub put_comes : free (get_or rs i zero_row) ≡ true → free r ≡ false → put_noted i r rs ix ≡ came ix rs r.order i
  unfolding put_noted pick
  put_comes f g = rw (f, g)

  pub put_goes : free (get_or rs i zero_row) ≡ false → free r ≡ true → put_noted i r rs ix ≡ freed ix i
  unfolding put_noted pick
  put_goes f g = rw (f, g)

  pub put_stays : free (get_or rs i zero_row) ≡ false → free r ≡ false → put_noted i r rs ix ≡ ix
  unfolding put_noted pick
  put_stays f g = rw (f, g)

-- ---- a row that a Clear passes
module _ (symbol : ℕ) (ix : List ℕ) (r : Row) (i : ℕ) where
  pub left_yes : of_symbol symbol r ≡ true → left symbol ix r i ≡ freed ix i
  unfolding left pick
  left_yes e = rw e

  pub left_no : of_symbol symbol r ≡ false → left symbol ix r i ≡ ix
  unfolding left pick
  left_no e = rw e
