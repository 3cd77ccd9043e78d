-- A witness that demand 3 speaks of something: document 01's example, in one packet to a fresh receiver, meets every premise, and every number up to 5 is answered. All of it computes.
-- Assumes nothing.
use Prim.Native.Nat.{ℕ, zero, suc, ◌-◌, ◌≤◌}
use mathlib.Core.Path.{◌≡◌, refl, sym, subst}
use mathlib.Core.Logic.{◌⊎◌}
use mathlib.Core.Bool.{true}
use mathlib.Core.List.{List, [], ◌∷◌}
use native.Mathlib.Omega.{arith}
use borrow.Author.Tests.{leb-true}
use Rattle.facts.specs.Limits.{entry_size, shelf_size}
use Rattle.facts.specs.Pick.{pick, both, either}
use Rattle.facts.specs.Same.{same_bytes}
use Rattle.facts.specs.Search.{first}
use Rattle.facts.specs.Pieces.{cut, pieces, join, put_piece}
use Rattle.editions.specs.declared.Edition.{Edition}
use Rattle.wire.specs.Le.{le, to_le, field, padded}
use Rattle.wire.specs.Records.{Rec, rec}
use Rattle.kinds.specs.Table as kinds
use Rattle.fields.specs.Fields as fields
use Rattle.body.specs.Ranges as ranges
use Rattle.body.specs.Faults as faults
use Rattle.body.specs.Read as read
use Rattle.packet.specs.Record as head
use Rattle.packet.specs.Packet as packet
use Rattle.rows.specs.Keys as keys
use Rattle.rows.specs.Rows as rows
use Rattle.rows.specs.Find as find_row
use Rattle.symbols.specs.Entries as entries
use Rattle.symbols.specs.Find as find_entry
use Rattle.symbols.specs.Work as entry_work
use Rattle.orders.specs.Work as row_work
use Rattle.book.specs.Plan as plan
use Rattle.book.specs.Book as book
use Rattle.book.specs.Ledger as ledger
use Rattle.index.specs.Index as index
use Rattle.engines.specs.Engines as engines
use Rattle.arbitration.specs.Slots as slots
use Rattle.arbitration.specs.Receive as theory
use Rattle.arbitration.specs.Receive.{taken, Said}
use Rattle.arbitration.specs.Lists.{msg, WellFormed, Copies, Among, here, later, by_taken}
use Rattle.shelf.specs.Shelf as shelf
use Rattle.receiver.specs.Receiver as generic
use Rattle.receiver.specs.Lent as receiver
use Rattle.receiver.specs.Demand3.{Given, AnsweredTo, Names}
use Rattle.receiver.proofs.Real.{fresh_started}
use Rattle.receiver.proofs.Engines.{fresh_begins, calls_demand}
use Rattle.exercises.specs.Messages as messages

-- room for four orders and one symbol
abbrev start : Edition → receiver.Lent
start ed = receiver.fresh ed 20 entry_size shelf_size 0

abbrev given : List (List ℕ)
given = messages.whole_example ∷ []

-- the five messages are well-formed
all_good : (ed : Edition) → WellFormed (read.good_body ed) messages.example
unfolding messages.system_time messages.symbol_update messages.add_order messages.example
    pick both either le to_le field padded
    kinds.table kinds.lookup kinds.length_of kinds.kind_of
    fields.decoded
    ranges.nanos_ok ranges.one_of ranges.side_ok ranges.price_ok ranges.size_ok ranges.security_ok ranges.test_ok ranges.market_ok
    faults.fault_from faults.fault_of
    read.framed read.ranged read.judge_body read.message read.read_body read.good_body
all_good ed zero h = refl
all_good Edition.V13 (suc zero) h = refl
all_good Edition.V13b (suc zero) h = refl
all_good ed (suc (suc zero)) h = refl
all_good ed (suc (suc (suc zero))) h = refl
all_good ed (suc (suc (suc (suc zero)))) h = refl
all_good ed (suc (suc (suc (suc (suc i))))) h = absurd (omega arith)

-- the packet's accepted records, in each edition
abbrev five : List Rec
five = rec 1 (msg messages.example 1) ∷ rec 2 (msg messages.example 2) ∷ rec 3 (msg messages.example 3) ∷ rec 4 (msg messages.example 4) ∷ rec 5 (msg messages.example 5) ∷ []

five_accepted : (ed : Edition) → theory.accepted (packet.framing ed) given ≡ five
unfolding messages.numbered messages.system_time messages.symbol_update messages.add_order messages.example messages.of_example messages.whole_example
    pick both either join le to_le field padded
    kinds.table kinds.lookup kinds.length_of kinds.kind_of
    fields.decoded
    ranges.nanos_ok ranges.one_of ranges.side_ok ranges.price_ok ranges.size_ok ranges.security_ok ranges.test_ok ranges.market_ok
    faults.fault_from faults.fault_of
    read.framed read.ranged read.judge_body read.message read.read_body read.good_body
    head.number_ok head.body_of head.body_judged head.read_record
    packet.before packet.behind packet.frames_from packet.framing
    theory.accepted
five_accepted Edition.V13 = refl
five_accepted Edition.V13b = refl

-- are true copies
true_copies : (ed : Edition) → Copies messages.example (theory.accepted (packet.framing ed) given)
unfolding messages.example
true_copies ed =
    subst (Copies messages.example) (sym (five_accepted ed)) (
      record { in_list = leb-true 1 5 refl; same = refl },
      (
        record { in_list = leb-true 2 5 refl; same = refl },
        (
          record { in_list = leb-true 3 5 refl; same = refl },
          (record { in_list = leb-true 4 5 refl; same = refl }, (record { in_list = leb-true 5 5 refl; same = refl }, tt)),
        ),
      ),
    )

sizes_good : receiver.tables_ok 20 entry_size shelf_size ≡ true
unfolding receiver.tables_ok both rows.good_rows entries.good_entries shelf.good_shelf
sizes_good = refl

no_index : engines.good_index 0 ≡ true
unfolding engines.good_index either
no_index = refl

-- every premise
pub example_given : (ed : Edition) → Given (receiver.plain ed) messages.example (receiver.zero_book 20 entry_size) (receiver.plain_of (start ed)) given
example_given ed = record { well_formed = all_good ed; started = fresh_started ed 20 entry_size shelf_size 0 sizes_good; copies = true_copies ed }

-- the five are taken one after another, and applied
all_taken : List Said
all_taken = record { number = 1; answer = taken } ∷ record { number = 2; answer = taken } ∷ record { number = 3; answer = taken } ∷ record { number = 4; answer = taken } ∷ record { number = 5; answer = taken } ∷ []

computed : (ed : Edition) → (theory.said (receiver.plain ed).store (receiver.book_engine ed) (theory.accepted (packet.framing ed) given) (receiver.plain_of (start ed)).rx ≡ all_taken) × ((receiver.received_all given (start ed)).rx.next ≡ 6)
unfolding all_taken messages.numbered messages.system_time messages.symbol_update messages.add_order messages.example messages.of_example messages.whole_example
    pick both either first cut pieces join put_piece le to_le field padded
    kinds.table kinds.lookup kinds.length_of kinds.kind_of
    fields.decoded
    ranges.nanos_ok ranges.one_of ranges.side_ok ranges.price_ok ranges.size_ok ranges.security_ok ranges.test_ok ranges.market_ok
    faults.fault_from faults.fault_of
    read.framed read.ranged read.judge_body read.message read.read_body read.good_body
    head.number_ok head.body_of head.body_judged head.read_record
    packet.before packet.behind packet.frames_from packet.framing
    keys.side_of rows.row_of rows.numbers_of rows.rows rows.put_row rows.zero_row rows.free rows.live
    find_row.is_order find_row.find_order find_row.held_at find_row.find_free
    entries.entries entries.entry_of entries.put_entry entries.used entries.free_entry
    find_entry.is_symbol find_entry.find_symbol find_entry.find_free_entry find_entry.known_symbol find_entry.place_for
    entry_work.entered
    row_work.moves row_work.remade row_work.reduced row_work.committed
    plan.of_known plan.target plan.upon plan.row_for plan.update_plan plan.room_for plan.add_plan plan.modify_plan plan.execution_plan plan.plan_by
    book.planned book.carried book.applied ledger.devised ledger.index_after ledger.posted
    index.slots index.hash index.vacant index.filled_at index.placed index.taken index.freed index.entered index.each_row index.zeroed index.built index.roomy index.came
    engines.good_index engines.order_by engines.free_by engines.hinted engines.entry_by engines.put_noted engines.noted engines.hinted_to
    same_bytes slots.same_slot
    theory.judge theory.good_slot theory.try theory.drain theory.after theory.run theory.said theory.accepted
    shelf.slot_from shelf.bytes_of shelf.slot_at shelf.put_slot
    rows.good_rows entries.good_entries shelf.good_shelf
    receiver.received_all generic.receives generic.handled_by generic.fit generic.next_ok receiver.tables_ok receiver.sizes_ok
computed Edition.V13 = (refl, refl)
computed Edition.V13b = (refl, refl)

-- every number up to 5 is answered
among : (n : ℕ) → 1 ≤ n → n ≤ 5 → Among n all_taken
unfolding all_taken
among zero l h = absurd (omega arith)
among (suc zero) l h = here refl by_taken
among (suc (suc zero)) l h = later (here refl by_taken)
among (suc (suc (suc zero))) l h = later (later (here refl by_taken))
among (suc (suc (suc (suc zero)))) l h = later (later (later (here refl by_taken)))
among (suc (suc (suc (suc (suc zero))))) l h = later (later (later (later (here refl by_taken))))
among (suc (suc (suc (suc (suc (suc n)))))) l h = absurd (omega arith)

pub example_answered : (ed : Edition) → AnsweredTo (receiver.plain ed) 5 given (receiver.plain_of (start ed))
example_answered ed n l h = subst (Among n) (sym (computed ed).0) (among n l h)

-- so demand 3 says of it what it says
pub example_demanded : (ed : Edition) → (5 ≤ (receiver.received_all given (start ed)).rx.next - 1) ⊎ Names (receiver.plain ed) messages.example (receiver.zero_book 20 entry_size) (receiver.plain_of (receiver.received_all given (start ed)))
example_demanded ed = (calls_demand ed messages.example 20 entry_size).second (start ed) given (fresh_begins ed 20 entry_size shelf_size 0 no_index) (example_given ed) 5 (example_answered ed)

-- and its first side is the one that holds: all five are applied
pub example_next : (ed : Edition) → (receiver.received_all given (start ed)).rx.next ≡ 6
example_next ed = (computed ed).1
