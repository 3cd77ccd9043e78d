-- What holds of an order table from a start on, while nobody alters it: no row is spoiled, and no order ID is live twice.
use Rattle.std.specs.Prelude.{ℕ, ◌≡◌, List, true, false, get_or}
use Rattle.rows.specs.declared.Row.{Row}
use Rattle.rows.specs.Rows.{zero_row, live, spoiled}

-- every row is free or live
abbrev pub Unspoiled : List Row → Type 0
Unspoiled rs = (i : ℕ) → spoiled (get_or rs i zero_row) ≡ false

-- two live rows with one order ID are the same row
abbrev pub Unique : List Row → Type 0
Unique rs = (i j : ℕ) → live (get_or rs i zero_row) ≡ true → live (get_or rs j zero_row) ≡ true → (get_or rs i zero_row).order ≡ (get_or rs j zero_row).order → i ≡ j
