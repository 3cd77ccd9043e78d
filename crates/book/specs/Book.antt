-- A book: the two lent tables and what it has by value; and what a message makes of it.
use Rattle.std.specs.Prelude.{ℕ, List, Option, Ok, Err}
use Rattle.editions.specs.declared.Edition.{Edition}
use Rattle.body.specs.Read.{read_body}
use Rattle.rows.specs.declared.Row.{Row}
use Rattle.rows.specs.Rows.{rows}
use Rattle.rows.specs.Find.{find_order, find_free, held_at}
use Rattle.symbols.specs.Entries.{entries}
use Rattle.symbols.specs.Find.{find_symbol, place_for}
use Rattle.symbols.specs.Work.{entered}
use Rattle.orders.specs.Work.{committed}
use Rattle.book.specs.declared.Clock.{Clock}
use Rattle.book.specs.Plan.{number_of, Plan, Finds, plan_by}

-- what messages change
pub record Book : Type 0 where
  pub orders : List ℕ
  pub symbols : List ℕ
  pub clock : Clock

abbrev pub book : List ℕ → List ℕ → Clock → Book
book o s c = record { orders = o; symbols = s; clock = c }

-- the rule that a message breaks, 0 for none, and the book after it
pub record Effect : Type 0 where
  pub rule : ℕ
  pub after : Book

abbrev pub effect : ℕ → Book → Effect
effect n k = record { rule = n; after = k }

-- "a search for an ID taking the lowest live row"
abbrev pub order_in : ℕ → List ℕ → Option (ℕ × Row)
order_in id t = held_at (find_order id (rows t)) (rows t)

-- document 01's searches, row by row and entry by entry
abbrev pub scans : Book → Finds
scans k =
    record {
      order = λ id. order_in id k.orders;
      free_row = find_free (rows k.orders);
      entry = λ id. find_symbol id (entries k.symbols);
      room = λ id. place_for id (entries k.symbols);
    }

-- the plan of the message with that number and those bytes
unfoldable pub planned : Edition → ℕ → List ℕ → Book → Plan
planned ed n b k = plan_by (read_body ed b) n b k.clock (scans k)

-- a broken rule changes nothing; else each table is left by its own work
unfoldable pub carried : Plan → List ℕ → Book → Effect
carried (Err r) b k = effect (number_of r) k
carried (Ok w) b k = effect 0 (book (committed w.orders k.orders) (entered w.symbols b k.symbols) w.clock)

-- the message with that number and those bytes, applied to the book
unfoldable pub applied : Edition → ℕ → List ℕ → Book → Effect
applied ed n b k = carried (planned ed n b k) b k
