-- A ledger: a book with the index that is lent beside it (document 02, No. 9; docs/INDEX.md), and what a message makes of both. The plan is that of Plan, whoever
-- searched: where no index is lent, the searches are document 01's, and where one is lent, "the second engine's own statement says which rows its searches find".
use Rattle.std.specs.Prelude.{ℕ, List, Option, Result, Ok, Err}
use Rattle.editions.specs.declared.Edition.{Edition}
use Rattle.body.specs.Read.{read_body}
use Rattle.rows.specs.declared.Row.{Row}
use Rattle.rows.specs.Rows.{rows}
use Rattle.rows.specs.Find.{held_at}
use Rattle.symbols.specs.Entries.{entries}
use Rattle.symbols.specs.Find.{place_for}
use Rattle.engines.specs.Engines.{order_by, free_by, entry_by, noted, hinted_to}
use Rattle.book.specs.declared.Clock.{Clock}
use Rattle.book.specs.declared.Rule.{Rule}
use Rattle.book.specs.declared.Tables.{Tables}
use Rattle.book.specs.Plan.{number_of, Plan, Finds, plan_by}
use Rattle.book.specs.Book.{Book, book, carried}

pub record Ledger : Type 0 where
  pub plain : Book
  pub index : List ℕ

abbrev pub ledger : Book → List ℕ → Ledger
ledger k ix = record { plain = k; index = ix }

-- the ledger that lent tables are, with a clock
abbrev pub seen : Tables → Clock → Ledger
seen t c = ledger (book t.orders.now t.symbols.now c) t.index.now

-- the rule that a message breaks, 0 for none, and the ledger after it
pub record Posting : Type 0 where
  pub rule : ℕ
  pub after : Ledger

abbrev pub posting : ℕ → Ledger → Posting
posting n l = record { rule = n; after = l }

-- what is told of a message: the clock after it, or the rule that it breaks and the clock as it was; the tables and the index are as they were left
abbrev pub told : Result Clock Rule → Ledger → Posting
told (Ok c) l = posting 0 (ledger (book l.plain.orders l.plain.symbols c) l.index)
told (Err r) l = posting (number_of r) l

-- the order that stands under an ID
abbrev pub order_for : List ℕ → ℕ → List ℕ → Option (ℕ × Row)
order_for ix id t = held_at (order_by ix id (rows t)) (rows t)

-- the searches of both engines; the entry that a Symbol Update takes is searched in the table
abbrev pub looks : Ledger → Finds
looks l =
    record {
      order = λ id. order_for l.index id l.plain.orders;
      free_row = free_by l.index (rows l.plain.orders);
      entry = λ id. entry_by l.index id (entries l.plain.symbols);
      room = λ id. place_for id (entries l.plain.symbols);
    }

-- the plan of the message with that number and those bytes
unfoldable pub devised : Edition → ℕ → List ℕ → Ledger → Plan
devised ed n b l = plan_by (read_body ed b) n b l.plain.clock (looks l)

-- a broken rule leaves the index; else each table's work leaves it its own way
unfoldable pub index_after : Plan → List ℕ → Ledger → List ℕ
index_after (Err r) b l = l.index
index_after (Ok w) b l = hinted_to w.symbols b (noted w.orders (rows l.plain.orders) l.index)

-- a plan carried out: the book as without an index, and the index
abbrev pub posts : Plan → List ℕ → Ledger → Posting
posts p b l = posting (carried p b l.plain).rule (ledger (carried p b l.plain).after (index_after p b l))

-- the message with that number and those bytes, applied to the ledger
unfoldable pub posted : Edition → ℕ → List ℕ → Ledger → Posting
posted ed n b l = posts (devised ed n b l) b l
