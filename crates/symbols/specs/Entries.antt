-- The symbol table (document 01: "The symbol table holds 1 to 1,000 entries of 42 bytes, each the last Symbol Update body for its symbol, in order of first use").
use Rattle.std.specs.Prelude.{ℕ, ◌*◌, ◌/◌, ◌%◌, List, Bool, not, length, get_or, drop, leb, eqb}
use Rattle.facts.specs.Limits.{entry_size, most_entries}
use Rattle.facts.specs.Pick.{both, either}
use Rattle.facts.specs.Pieces.{pieces, put_piece}
use Rattle.wire.specs.Le.{padded}
use Rattle.fields.specs.Fields.{symbol_of}

-- no refusal 6 for a table of n bytes ("1 to 1,000 entries of 42 bytes"; "a table size outside these limits or not in whole rows")
unfoldable pub good_entries : ℕ → Bool
good_entries n = both (eqb (n % entry_size) 0) (both (leb 1 (n / entry_size)) (leb (n / entry_size) most_entries))

-- the entries of a table; bytes behind the last whole entry are none
unfoldable pub entries : List ℕ → List (List ℕ)
entries t = pieces entry_size t

-- the bytes behind the last whole entry
unfoldable pub entries_rest : List ℕ → List ℕ
entries_rest t = drop (entry_size * (length t / entry_size)) t

-- "each the last Symbol Update body for its symbol": a body as an entry, whole, whatever its length
unfoldable pub entry_of : List ℕ → List ℕ
entry_of b = padded b 0 entry_size

-- the table with a body as its entry i; without such an entry, as it is
unfoldable pub put_entry : List ℕ → ℕ → List ℕ → List ℕ
put_entry t i b = put_piece entry_size t i (entry_of b)

-- "type 1 marks an entry in use"
unfoldable pub used : List ℕ → Bool
used e = eqb (get_or e 0 0) 1

-- "type 0 a free one"
unfoldable pub free_entry : List ℕ → Bool
free_entry e = eqb (get_or e 0 0) 0

-- "any other type is spoiled, neither of the two"
unfoldable pub spoiled_entry : List ℕ → Bool
spoiled_entry e = not (either (used e) (free_entry e))

-- "symbol 5-8"
abbrev pub id_of : List ℕ → ℕ
id_of e = (symbol_of e).id
