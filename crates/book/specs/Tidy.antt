-- What holds of a book from a start on, and after every message that applied, while nobody alters its tables.
use Rattle.std.specs.Prelude.{ℕ, List}
use Rattle.editions.specs.declared.Edition.{Edition}
use Rattle.body.specs.Read.{read_body}
use Rattle.rows.specs.Rows.{rows}
use Rattle.rows.specs.Tidy.{Unspoiled, Unique}
use Rattle.symbols.specs.Entries.{entries, id_of}
use Rattle.symbols.specs.Tidy.{Distinct, Packed, ids_in, joined}
use Rattle.book.specs.Book.{Book}
use Rattle.book.specs.Parts.{Part, the_second, the_symbols, the_orders, no_part, part_of}

pub record Tidy (k : Book) : Type 0 where
  -- no row is "spoiled, neither free nor live"
  pub unspoiled : Unspoiled (rows k.orders)
  -- live order IDs are unique
  pub unique : Unique (rows k.orders)
  -- used symbol entries have distinct IDs
  pub distinct : Distinct (entries k.symbols)
  -- and lie in front; the others are free
  pub packed : Packed (entries k.symbols)

-- the symbols in table order
abbrev pub used_ids : Book → List ℕ
used_ids k = ids_in (entries k.symbols)

-- "in order of first use": a Symbol Update of a new symbol puts it behind the others, and no other message moves or adds one
unfoldable pub first_use_by : Part → ℕ → List ℕ → List ℕ
first_use_by the_symbols id ids = joined id ids
first_use_by the_orders id ids = ids
first_use_by the_second id ids = ids
first_use_by no_part id ids = ids

unfoldable pub first_use : Edition → List ℕ → List ℕ → List ℕ
first_use ed b ids = first_use_by (part_of (read_body ed b)) (id_of b) ids
