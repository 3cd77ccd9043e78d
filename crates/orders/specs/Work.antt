-- What is done with the order table, and what becomes of a row (document 01, "Book rules"); which message asks for it is said in book's Plan.
use Rattle.std.specs.Prelude.{ℕ, ◌-◌, ◌%◌, List, ◌++◌, map, Bool, eqb}
use Rattle.facts.specs.Pick.{pick}
use Rattle.rows.specs.declared.Row.{Row}
use Rattle.rows.specs.Rows.{rows, flat, rest, put_row, zero_row}
use Rattle.rows.specs.Find.{of_symbol}
use Rattle.orders.specs.declared.RowWork.{RowWork}
use Rattle.orders.specs.declared.RowWork.TheVariants.{Keep, Put, Clear}

-- ---- what becomes of a row
-- "Flag bit 0 set"
unfoldable pub moves : ℕ → Bool
moves flags = eqb (flags % 2) 1

-- Modify: "Price and size are replaced. Flag bit 0 set: rank becomes this sequence number. Clear: the rank stays, whatever changed"
unfoldable pub remade : ℕ → ℕ → Bool → ℕ → Row → Row
remade price size moved number r =
    record { order = r.order; key = r.key; price = price; size = size; rank = pick moved number r.rank }

-- Order Execution: "The size falls; at zero the order leaves"
abbrev pub less : ℕ → Row → Row
less n r = record { order = r.order; key = r.key; price = r.price; size = r.size - n; rank = r.rank }

unfoldable pub reduced : ℕ → Row → Row
reduced n r = pick (eqb (less n r).size 0) zero_row (less n r)

-- Symbol Clear: "Every live row of that symbol becomes all zero"
unfoldable pub wiped : ℕ → Row → Row
wiped symbol r = pick (of_symbol symbol r) zero_row r

unfoldable pub cleared : ℕ → List ℕ → List ℕ
cleared symbol t = flat (map (wiped symbol) (rows t)) ++ rest t

-- ---- the table after its work
unfoldable pub committed : RowWork → List ℕ → List ℕ
committed Keep t = t
committed (Put i r) t = put_row t i r
committed (Clear symbol) t = cleared symbol t
