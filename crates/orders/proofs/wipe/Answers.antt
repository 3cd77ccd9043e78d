-- A live row of the symbol becomes the zero row; any other is put back where it lies.
-- Assumes nothing.
use mathlib.Core.Path.{sym, ap, ◌∙◌}
use Rattle.rows.specs.Find.{of_symbol}
use Rattle.rows.proofs.Tables.{put_row_self}
use Rattle.orders.proofs.Cases.{wiped_yes, wiped_no}
use Rattle.orders.proofs.wipe.Goals as goal

pub returns-then-of_symbol : goal.returns-then-of_symbol
returns-then-of_symbol c = rw (wiped_yes _ _ (ap (of_symbol c.args.symbol) (sym c.row_at.ensures) ∙ sym c.of_symbol.ensures ∙ c.if-of_symbol.true), ← c.zero_row.ensures) c.put_row.ensures

pub returns-else-of_symbol : goal.returns-else-of_symbol
returns-else-of_symbol c = rw (wiped_no _ _ (ap (of_symbol c.args.symbol) (sym c.row_at.ensures) ∙ sym c.of_symbol.ensures ∙ c.if-of_symbol.false)) (sym (put_row_self _ _))
