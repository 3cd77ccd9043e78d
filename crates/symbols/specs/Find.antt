-- Which entry a symbol has or gets (document 01: "a search for an ID taking the lowest live row or used entry").
use Rattle.std.specs.Prelude.{ℕ, List, Bool, eqb, Option}
use Rattle.facts.specs.Pick.{both}
use Rattle.facts.specs.Search.{first, is_found, or_else}
use Rattle.facts.specs.Sums.{count_by}
use Rattle.symbols.specs.Entries.{used, free_entry, id_of}

-- "that symbol's entry": an entry in use with that ID
unfoldable pub is_symbol : ℕ → List ℕ → Bool
is_symbol id e = both (used e) (eqb (id_of e) id)

-- "a search for an ID taking the lowest .. used entry"
unfoldable pub find_symbol : ℕ → List (List ℕ) → Option ℕ
find_symbol id es = first (is_symbol id) 0 es

-- "the lowest free one"
unfoldable pub find_free_entry : List (List ℕ) → Option ℕ
find_free_entry es = first free_entry 0 es

-- else 20: "unknown symbol"
unfoldable pub known_symbol : ℕ → List (List ℕ) → Bool
known_symbol id es = is_found (find_symbol id es)

-- "Symbol Update replaces that symbol's entry, or takes the lowest free one"
unfoldable pub place_for : ℕ → List (List ℕ) → Option ℕ
place_for id es = or_else (find_symbol id es) (find_free_entry es)

-- "type 1 marks an entry in use": how many there are
unfoldable pub count_used : List (List ℕ) → ℕ
count_used es = count_by used es
