-- What is done with the symbol table (document 01, "Book rules"); which message asks for it is said in book's Plan.
use Rattle.std.specs.Prelude.{ℕ, List, Option, Some, None}
use Rattle.symbols.specs.Entries.{put_entry}

-- the table after its work, with the body of the message that asked for it; Symbol Update: "replaces that symbol's entry, or takes the lowest free one"
unfoldable pub entered : Option ℕ → List ℕ → List ℕ → List ℕ
entered None b t = t
entered (Some i) b t = put_entry t i b
