-- The tables of one morning in two editions: the same but for byte 20 of the symbol entries.
use Rattle.std.specs.Prelude.{ℕ, List, ◌++◌, map}
use Rattle.facts.specs.Pieces.{join}
use Rattle.symbols.specs.Entries.{entries, entries_rest}
use Rattle.book.specs.Book.{Book, book}
use Rattle.retype.specs.Retyped.{Asked, retyped}

-- a symbol table with byte 20 of each used entry as the edition asked for has it ("type 1 marks an entry in use", which is a Symbol Update's type)
unfoldable pub entries_to : Asked → List ℕ → List ℕ
entries_to a t = join (map (retyped a) (entries t)) ++ entries_rest t

-- a book with such a table; order table and second are the same
abbrev pub book_to : Asked → Book → Book
book_to a k = book k.orders (entries_to a k.symbols) k.clock
