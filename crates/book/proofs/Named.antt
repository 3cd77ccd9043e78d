-- The row that a message names, and the size that is executed, case by case.
-- Assumes nothing.
use mathlib.Core.Path.{◌≡◌, refl}
use Prim.Native.Nat.{ℕ, ◌≤◌, ◌<◌}
use borrow.Author.Tests.{lt-ltb, le-ltb, eq-eqb, ne_eqb}
use Rattle.std.specs.Prelude.{Some, Ok, Err}
use Rattle.facts.specs.Pick.{pick}
use Rattle.fields.specs.declared.OrderExecution.{OrderExecution}
use Rattle.rows.specs.declared.Row.{Row}
use Rattle.rows.specs.Rows.{symbol_of}
use Rattle.orders.specs.declared.RowWork.{RowWork}
use Rattle.orders.specs.Work.{reduced}
use Rattle.book.specs.declared.Clock.{Clock}
use Rattle.book.specs.declared.Rule.TheVariants.{OtherSymbol, AboveSize}
use Rattle.book.specs.Plan.{on_rows, target, execute_at}

module _ (i : ℕ) (r : Row) (symbol : ℕ) where
  pub target_other : (symbol_of r ≡ symbol → ⊥) → target (Some (i, r)) symbol ≡ Err OtherSymbol
  unfolding target pick
  target_other n = rw (ne_eqb (symbol_of r) symbol n) refl

  pub target_own : symbol_of r ≡ symbol → target (Some (i, r)) symbol ≡ Ok (i, r)
  unfolding target pick
  target_own e = rw (eq-eqb (symbol_of r) symbol e) refl

module _ (c : Clock) (m : OrderExecution) (i : ℕ) (r : Row) where
  pub execute_over : r.size < m.size → Err AboveSize ≡ execute_at c m i r
  unfolding pick
  execute_over h = rw (lt-ltb r.size m.size h) refl

  pub execute_is : m.size ≤ r.size → on_rows c (RowWork.Put i (reduced m.size r)) ≡ execute_at c m i r
  unfolding pick
  execute_is h = rw (le-ltb r.size m.size h) refl
