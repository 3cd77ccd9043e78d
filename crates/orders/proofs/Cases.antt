-- What becomes of a row and of a table, taken apart by its tests.
-- Assumes nothing.
use mathlib.Core.Path.{◌≡◌}
use mathlib.Core.Bool.{true, false}
use Prim.Native.Nat.{ℕ, ◌-◌}
use borrow.Author.Tests.{eq-eqb, ne_eqb}
use Rattle.facts.specs.Pick.{pick}
use Rattle.rows.specs.declared.Row.{Row}
use Rattle.rows.specs.Rows.{zero_row}
use Rattle.rows.specs.Find.{of_symbol}
use Rattle.orders.specs.Work.{less, reduced, wiped}

-- ---- an Order Execution
module _ (n : ℕ) (r : Row) where
  pub reduced_none : r.size - n ≡ 0 → reduced n r ≡ zero_row
  unfolding reduced pick
  reduced_none e = rw (eq-eqb (r.size - n) 0 e)

  pub reduced_some : (r.size - n ≡ 0 → ⊥) → reduced n r ≡ less n r
  unfolding reduced pick
  reduced_some e = rw (ne_eqb (r.size - n) 0 e)

-- ---- a Symbol Clear
module _ (symbol : ℕ) (r : Row) where
  pub wiped_no : of_symbol symbol r ≡ false → wiped symbol r ≡ r
  unfolding wiped pick
  wiped_no e = rw e

  pub wiped_yes : of_symbol symbol r ≡ true → wiped symbol r ≡ zero_row
  unfolding wiped pick
  wiped_yes e = rw e
