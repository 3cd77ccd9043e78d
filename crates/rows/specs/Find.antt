-- Which rows a search or a view takes (document 01: "a search for an ID taking the lowest live row or used entry, while ladders, counts and Symbol Clear take every live row").
use Rattle.std.specs.Prelude.{ℕ, List, Bool, get_or, eqb, Option, Some, None}
use Rattle.facts.specs.Pick.{both}
use Rattle.facts.specs.Search.{first}
use Rattle.facts.specs.Sums.{count_by}
use Rattle.rows.specs.declared.Row.{Row}
use Rattle.rows.specs.Rows.{zero_row, symbol_of, free, live}

-- "order ID already live"
unfoldable pub is_order : ℕ → Row → Bool
is_order id r = both (eqb r.order id) (live r)

-- "a search for an ID taking the lowest live row"
unfoldable pub find_order : ℕ → List Row → Option ℕ
find_order id rs = first (is_order id) 0 rs

-- what a search for an ID ended at: the place, and the row that lies there
unfoldable pub held_at : Option ℕ → List Row → Option (ℕ × Row)
held_at (Some i) rs = Some (i, (get_or rs i zero_row))
held_at None rs = None

-- "the lowest free row is used"
unfoldable pub find_free : List Row → Option ℕ
find_free rs = first free 0 rs

-- "Every live row of that symbol"
unfoldable pub of_symbol : ℕ → Row → Bool
of_symbol s r = both (eqb (symbol_of r) s) (live r)

-- "a symbol and side", the two in one key
unfoldable pub of_key : ℕ → Row → Bool
of_key k r = both (eqb r.key k) (live r)

-- "counts .. take every live row"
unfoldable pub count_live : List Row → ℕ
count_live rs = count_by live rs
