-- The two engines (document 02, No. 9; docs/INDEX.md): which rows and entries a message's searches find, through the index or, where none is lent, row by row as
-- document 01 says it; and what a message's work leaves of the index. "over altered ones the second engine's own statement says which rows its searches find".
use Rattle.std.specs.Prelude.{ℕ, List, [], Bool, length, get_or, set, eqb, Option, Some, None}
use Rattle.facts.specs.Pick.{pick, either}
use Rattle.rows.specs.declared.Row.{Row}
use Rattle.rows.specs.Rows.{zero_row, free}
use Rattle.rows.specs.Find.{of_symbol, find_order, find_free}
use Rattle.symbols.specs.Entries.{id_of}
use Rattle.symbols.specs.Find.{is_symbol, find_symbol}
use Rattle.orders.specs.declared.RowWork.{RowWork}
use Rattle.index.specs.Index.{index_size, looked, lowest_free, freed, came, each_row, hint_at, hint_of}

-- "Refusal 6 covers the index size": none is lent, or one of the stated size
unfoldable pub good_index : ℕ → Bool
good_index n = either (eqb n 0) (eqb n index_size)

-- ---- what is found
-- the row of an order ID
unfoldable pub order_by : List ℕ → ℕ → List Row → Option ℕ
order_by ix id rs = pick (eqb (length ix) 0) (find_order id rs) (looked ix rs id)

-- the row that an Add takes
unfoldable pub free_by : List ℕ → List Row → Option ℕ
free_by ix rs = pick (eqb (length ix) 0) (find_free rs) (lowest_free ix rs)

-- the entry that the hint names, if it is the symbol's; else the lowest used one with that ID
unfoldable pub hinted : List ℕ → ℕ → List (List ℕ) → Option ℕ
hinted ix id es = pick (is_symbol id (get_or es (hint_of ix id) [])) (Some (hint_of ix id)) (find_symbol id es)

-- the entry of a symbol
unfoldable pub entry_by : List ℕ → ℕ → List (List ℕ) → Option ℕ
entry_by ix id es = pick (eqb (length ix) 0) (find_symbol id es) (hinted ix id es)

-- ---- what is left, from the rows before the work
-- row i is put: an order came to a free row, or one left; else the index owes it nothing
unfoldable pub put_noted : ℕ → Row → List Row → List ℕ → List ℕ
put_noted i r rs ix = pick (free (get_or rs i zero_row)) (pick (free r) ix (came ix rs r.order i)) (pick (free r) (freed ix i) ix)

-- a live row of the symbol leaves
unfoldable pub left : ℕ → List ℕ → Row → ℕ → List ℕ
left symbol ix r i = pick (of_symbol symbol r) (freed ix i) ix

-- after the work on the order table
unfoldable pub noted : RowWork → List Row → List ℕ → List ℕ
noted RowWork.Keep rs ix = ix
noted (RowWork.Put i r) rs ix = put_noted i r rs ix
noted (RowWork.Clear symbol) rs ix = each_row (left symbol) 0 rs ix

-- after the work on the symbol table, by the message's body b
unfoldable pub hinted_to : Option ℕ → List ℕ → List ℕ → List ℕ
hinted_to None b ix = ix
hinted_to (Some i) b ix = set ix (hint_at (id_of b)) i
