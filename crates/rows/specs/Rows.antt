-- The order table (document 01: "a lent run of 64-bit numbers, five to a row: order ID, symbol ID times 2 plus side (buy 0, sell 1), price, size, rank").
use Rattle.std.specs.Prelude.{ℕ, ◌*◌, ◌/◌, ◌%◌, List, [], ◌∷◌, map, Bool, not, length, get_or, drop, ltb, leb, eqb}
use Rattle.facts.specs.Limits.{most_price, most_rows}
use Rattle.facts.specs.Pick.{both, either}
use Rattle.facts.specs.Pieces.{pieces, join, put_piece}
use Rattle.rows.specs.declared.Row.{Row}
use Rattle.rows.specs.Keys.{symbol_in}

-- the row that five numbers are
unfoldable pub row_of : List ℕ → Row
row_of x = record { order = get_or x 0 0; key = get_or x 1 0; price = get_or x 2 0; size = get_or x 3 0; rank = get_or x 4 0 }

-- the five numbers of a row
unfoldable pub numbers_of : Row → List ℕ
numbers_of r = r.order ∷ r.key ∷ r.price ∷ r.size ∷ r.rank ∷ []

-- "five to a row"
abbrev pub row_size : ℕ
row_size = 5

-- the rows of a table; numbers behind the last whole row are none
unfoldable pub rows : List ℕ → List Row
rows t = map row_of (pieces row_size t)

-- how many rows a table has
abbrev pub row_count : List ℕ → ℕ
row_count t = length t / row_size

-- the numbers behind the last whole row
unfoldable pub rest : List ℕ → List ℕ
rest t = drop (row_size * row_count t) t

-- the table of whole rows
unfoldable pub flat : List Row → List ℕ
flat rs = join (map numbers_of rs)

-- the table with r as its row i; without such a row, as it is
unfoldable pub put_row : List ℕ → ℕ → Row → List ℕ
put_row t i r = put_piece row_size t i (numbers_of r)

unfoldable pub zero_row : Row
zero_row = record { order = 0; key = 0; price = 0; size = 0; rank = 0 }

abbrev pub symbol_of : Row → ℕ
symbol_of r = symbol_in r.key

-- "An all-zero row is free"
unfoldable pub free : Row → Bool
free r = both (eqb r.order 0) (both (eqb r.key 0) (both (eqb r.price 0) (both (eqb r.size 0) (eqb r.rank 0))))

-- "A row with rank at least 1, symbol below 2^32, price in range and size 1 to 4,294,967,295 is live"
unfoldable pub live : Row → Bool
live r =
    both (leb 1 r.rank)
    (both (ltb (symbol_of r) 4294967296)
    (both (leb 1 r.price) (both (leb r.price most_price) (both (leb 1 r.size) (leb r.size 4294967295)))))

-- "Any other is spoiled, neither free nor live"
unfoldable pub spoiled : Row → Bool
spoiled r = not (either (free r) (live r))

-- no refusal 6 for a table of n numbers ("Capacity 1 to 1,600 rows", which request 9 raises; "a table size outside these limits or not in whole rows")
unfoldable pub good_rows : ℕ → Bool
good_rows n = both (eqb (n % row_size) 0) (both (leb 1 (n / row_size)) (leb (n / row_size) most_rows))
