-- The real receiver: the book of document 01's rules over lent tables, with the index that is lent beside them, the lent shelf, packets as `packet` reads them. What `start` and
-- `receive` ensure is said with these.
use Rattle.std.specs.Prelude.{ℕ, Bool, List, [], ◌∷◌, length, replicate, ◌≡◌, Result, Ok, Err}
use Rattle.facts.specs.Pick.{pick, both}
use Rattle.editions.specs.declared.Edition.{Edition}
use Rattle.editions.specs.Editions.{number_of}
use Rattle.wire.specs.Records.{Rec, records}
use Rattle.fields.specs.Fields.{refusal}
use Rattle.body.specs.Read.{good_body}
use Rattle.packet.specs.Packet.{framing}
use Rattle.rows.specs.Rows.{rows, good_rows}
use Rattle.symbols.specs.Entries.{good_entries}
use Rattle.book.specs.declared.Clock.{Clock}
use Rattle.book.specs.Plan.{clock}
use Rattle.book.specs.Book.{Book, book, applied}
use Rattle.book.specs.Ledger.{Ledger, ledger, posted}
use Rattle.index.specs.Index.{built}
use Rattle.engines.specs.Engines.{good_index}
use Rattle.arbitration.specs.Engine.{Engine}
use Rattle.arbitration.specs.Receive as theory
use Rattle.shelf.specs.Shelf.{good_shelf}
use Rattle.shelf.specs.Store.{shelf_store}
use Rattle.receiver.specs.Parts.{Rules, Parts, engine_of}
use Rattle.receiver.specs.Receiver as generic
use Rattle.receiver.specs.declared.State.{State}
use Rattle.receiver.specs.declared.Answer.{Answer}
use Rattle.packet.specs.declared.Why.{Why}
use Rattle.fields.specs.declared.Refusal.{Refusal}
use Rattle.receiver.specs.declared.Account.{Account}

-- ---- the parts
-- "a table size outside these limits or not in whole rows": 6
unfoldable pub tables_ok : ℕ → ℕ → ℕ → Bool
tables_ok o s h = both (good_rows o) (both (good_entries s) (good_shelf h))

-- "Refusal 6 covers the index size" (request 9)
unfoldable pub sizes_ok : ℕ → ℕ → ℕ → ℕ → Bool
sizes_ok o s h i = both (tables_ok o s h) (good_index i)

-- "Demands 2 and 3 are read per edition" (request 10): the parts of a receiver of each
abbrev pub ledger_rules : Edition → Rules
ledger_rules ed = record { Book = Ledger; rule = λ n b l. (posted ed n b l).rule; after = λ n b l. (posted ed n b l).after; good = good_body ed }

abbrev pub ledger_engine : Edition → Engine
ledger_engine ed = engine_of (ledger_rules ed)

abbrev pub real : Edition → Parts
real ed =
    record {
      store = shelf_store;
      rules = ledger_rules ed;
      frame = framing ed;
      sized = λ l h. sizes_ok (length l.plain.orders) (length l.plain.symbols) (length h) (length l.index);
    }

-- and the same without an index, of which demand 3 speaks: document 01's tables, "a search for an ID taking the lowest live row"
abbrev pub book_rules : Edition → Rules
book_rules ed = record { Book = Book; rule = λ n b k. (applied ed n b k).rule; after = λ n b k. (applied ed n b k).after; good = good_body ed }

abbrev pub book_engine : Edition → Engine
book_engine ed = engine_of (book_rules ed)

abbrev pub plain : Edition → Parts
plain ed = record { store = shelf_store; rules = book_rules ed; frame = framing ed; sized = λ k h. tables_ok (length k.orders) (length k.symbols) (length h) }

-- ---- the receiver
abbrev pub Rx : Type 0
Rx = theory.Rx (List ℕ) Ledger

abbrev pub rx : ℕ → Clock → List ℕ → List ℕ → List ℕ → List ℕ → Rx
rx next clock orders symbols shelf index = record { next = next; shelf = shelf; book = ledger (book orders symbols clock) index }

-- the order table, the symbol table, the shelf, the index, and the state by value
abbrev pub Lent : Type 0
Lent = generic.Keeps (List ℕ) Ledger

abbrev pub lent : List ℕ → List ℕ → List ℕ → List ℕ → State → Lent
lent o s h ix t = generic.keeps (rx t.next t.clock o s h ix) t.stop t.edition

abbrev pub orders_of : Lent → List ℕ
orders_of k = k.rx.book.plain.orders

abbrev pub symbols_of : Lent → List ℕ
symbols_of k = k.rx.book.plain.symbols

abbrev pub shelf_of : Lent → List ℕ
shelf_of k = k.rx.shelf

abbrev pub index_of : Lent → List ℕ
index_of k = k.rx.book.index

abbrev pub state_of : Lent → State
state_of k = record { next = k.rx.next; clock = k.rx.book.plain.clock; stop = k.stop; edition = k.edition }

-- all of it but the index
abbrev pub plain_rx : Rx → theory.Rx (List ℕ) Book
plain_rx r = record { next = r.next; shelf = r.shelf; book = r.book.plain }

abbrev pub plain_of : Lent → generic.Keeps (List ℕ) Book
plain_of k = generic.keeps (plain_rx k.rx) k.stop k.edition

-- a receiver's state as four numbers
abbrev pub state_numbers : State → List ℕ
state_numbers s = s.next ∷ s.clock.second ∷ s.stop ∷ number_of s.edition ∷ []

-- ---- a packet
abbrev pub Handled : Type 0
Handled = generic.Handles (List ℕ) Ledger

abbrev pub handled : Result Account Why → Lent → Handled
handled a k = generic.handles a k

-- by the edition that the state has; where a caller changed it between calls, "the same steps hold over what is found"
abbrev pub received : Lent → List ℕ → Handled
received k p = generic.receives (real k.edition) k p

-- packet after packet, a call for each
unfoldable pub received_all : List (List ℕ) → Lent → Lent
received_all [] k = k
received_all (p ∷ ps) k = received_all ps (received k p).after

-- ---- a start
-- "A recording's edition is chosen at start" (request 10)
abbrev pub fresh_state : Edition → State
fresh_state ed = record { next = 1; clock = clock 0; stop = 0; edition = ed }

-- the index that a start makes in i numbers: that of an order table of o numbers, all zero; none where none is lent
abbrev pub start_index : ℕ → ℕ → List ℕ
start_index i o = built (replicate i 0) (rows (replicate o 0))

-- "A start zeroes all three, the second included, and sets the next number to 1"
abbrev pub fresh : Edition → ℕ → ℕ → ℕ → ℕ → Lent
fresh ed o s h i = lent (replicate o 0) (replicate s 0) (replicate h 0) (start_index i o) (fresh_state ed)

-- its book: tables of these sizes, all zero
abbrev pub zero_book : ℕ → ℕ → Book
zero_book o s = book (replicate o 0) (replicate s 0) (clock 0)

-- and with the index that a start makes
abbrev pub zero_ledger : ℕ → ℕ → ℕ → Ledger
zero_ledger o s i = ledger (zero_book o s) (start_index i o)

-- what a start answers, and the tables after it
pub record Begun : Type 0 where
  pub answer : Result State Refusal
  pub orders : List ℕ
  pub symbols : List ℕ
  pub shelf : List ℕ
  pub index : List ℕ

abbrev pub begun : Result State Refusal → List ℕ → List ℕ → List ℕ → List ℕ → Begun
begun a o s h ix = record { answer = a; orders = o; symbols = s; shelf = h; index = ix }

-- document 01's number of each answer to a start, 0 for a receiver
abbrev pub start_number : Result State Refusal → ℕ
start_number (Ok s) = 0
start_number (Err r) = r.number

unfoldable pub started : Edition → List ℕ → List ℕ → List ℕ → List ℕ → Begun
started ed o s h ix =
    pick (sizes_ok (length o) (length s) (length h) (length ix))
    (begun (Ok (fresh_state ed)) (replicate (length o) 0) (replicate (length s) 0) (replicate (length h) 0) (start_index (length ix) (length o)))
    (begun (Err (refusal 6)) o s h ix)

-- ---- inside the code
-- the case of each answer, and with it its number 10 to 14 (`code_of` of arbitration)
abbrev pub answer_of : Answer → theory.Answer
answer_of Answer.Taken = theory.taken
answer_of Answer.Old = theory.old
answer_of Answer.TooFar = theory.too_far
answer_of Answer.Repeated = theory.repeated
answer_of Answer.Differing = theory.differing

-- a packet that is not refused, and its records
pub record GoodPacket (ed : Edition) (p : List ℕ) : Type 0 where
  pub cs : List Rec
  pub framing_is : framing ed p ≡ records cs
