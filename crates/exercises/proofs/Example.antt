-- Document 01's whole example from messages to text: its packet leaves the tables whose sheet answer_sheet computed, because both sides compute to
-- the same numbers, as in Right.antt.
-- Assumes nothing.
use mathlib.Core.Path.{◌≡◌, refl, ap, ◌∙◌}
use Prim.Native.Nat.{ℕ}
use mathlib.Core.List.{List, []}
use lib.ListN.{replicate}
use Rattle.facts.specs.Limits.{shelf_size}
use Rattle.facts.specs.Pick.{pick, both, either}
use Rattle.facts.specs.Same.{same_bytes}
use Rattle.facts.specs.Search.{first}
use Rattle.facts.specs.Pieces.{cut, pieces, join, put_piece}
use Rattle.editions.specs.declared.Edition.{Edition}
use Rattle.wire.specs.Le.{le, to_le, field, padded}
use Rattle.kinds.specs.Table as kinds
use Rattle.fields.specs.Fields as fields
use Rattle.body.specs.Ranges as ranges
use Rattle.body.specs.Faults as faults
use Rattle.body.specs.Read as read
use Rattle.packet.specs.Record as head
use Rattle.packet.specs.Packet as packet
use Rattle.rows.specs.Keys as keys
use Rattle.rows.specs.Rows as rows
use Rattle.rows.specs.Find as find_row
use Rattle.symbols.specs.Entries as entries
use Rattle.symbols.specs.Find as find_entry
use Rattle.symbols.specs.Work as entry_work
use Rattle.orders.specs.Work as row_work
use Rattle.book.specs.Plan as plan
use Rattle.book.specs.Book as book
use Rattle.book.specs.Ledger as ledger
use Rattle.index.specs.Index as index
use Rattle.engines.specs.Engines as engines
use Rattle.arbitration.specs.Slots as slots
use Rattle.arbitration.specs.Receive as theory
use Rattle.shelf.specs.Shelf as shelf
use Rattle.receiver.specs.Receiver as generic
use Rattle.receiver.specs.Lent as receiver
use Rattle.answer_sheet.specs.declared.Recording.{Recording}
use Rattle.answer_sheet.specs.Sheet.{sheet_of}
use Rattle.answer_sheet.proofs.Vectors.{after, three, symbol7, thirteen, fourteen, example_is, typed_is}
use Rattle.exercises.specs.Messages as messages
use Rattle.exercises.specs.Exercises as exercises

-- a receiver of an edition with room for three orders and one symbol, after the whole example in one packet
abbrev pub after_example : Edition → receiver.Lent
after_example ed = (exercises.goes_on (exercises.begins ed 3 1) messages.whole_example).last.after

-- all five messages are applied, and the shelf is empty again
pub example_leaves : (ed : Edition) → after_example ed ≡ receiver.lent three (symbol7 messages.letter_e) (replicate shelf_size 0) [] (after ed)
unfolding exercises.begins exercises.goes_on
    messages.numbered messages.system_time messages.symbol_update messages.add_order messages.example messages.of_example messages.whole_example
    pick both either first cut pieces join put_piece le to_le field padded
    kinds.table kinds.lookup kinds.length_of kinds.kind_of
    fields.decoded
    ranges.nanos_ok ranges.one_of ranges.side_ok ranges.price_ok ranges.size_ok ranges.security_ok ranges.test_ok ranges.market_ok
    faults.fault_from faults.fault_of
    read.framed read.ranged read.judge_body read.message read.read_body read.good_body
    head.number_ok head.body_of head.body_judged head.read_record
    packet.before packet.behind packet.frames_from packet.framing
    rows.row_of rows.numbers_of rows.rows rows.put_row rows.zero_row rows.free rows.live rows.good_rows
    find_row.is_order find_row.find_order find_row.held_at find_row.find_free
    entries.good_entries entries.entries entries.entry_of entries.put_entry entries.used entries.free_entry
    find_entry.is_symbol find_entry.find_symbol find_entry.find_free_entry find_entry.known_symbol find_entry.place_for
    entry_work.entered
    row_work.remade row_work.reduced row_work.committed
    plan.of_known plan.target plan.upon keys.side_of row_work.moves plan.row_for plan.update_plan plan.room_for plan.add_plan plan.modify_plan plan.execution_plan plan.plan_by
    book.carried ledger.devised ledger.index_after ledger.posted
    index.slots index.hash index.vacant index.filled_at index.placed index.taken index.freed index.entered index.each_row index.zeroed index.built index.roomy index.came
    engines.good_index engines.order_by engines.free_by engines.hinted engines.entry_by engines.put_noted engines.noted engines.hinted_to
    same_bytes slots.same_slot
    theory.judge theory.good_slot theory.highest theory.count theory.counts_of theory.try theory.stop theory.drain theory.after theory.run theory.said theory.told
    shelf.good_shelf shelf.slot_from shelf.bytes_of shelf.slot_at shelf.put_slot
    generic.receives generic.handled_by generic.fit generic.next_ok receiver.tables_ok receiver.sizes_ok
example_leaves Edition.V13 = refl
example_leaves Edition.V13b = refl

-- its sheet
abbrev sheet_after : receiver.Lent → List ℕ
sheet_after k = sheet_of Recording.Whole 0 (receiver.state_of k) (receiver.orders_of k) (receiver.symbols_of k)

-- "Whole example, for numbers 1 to 5": its sheet is the thirteen lines
pub example_sheet : sheet_after (after_example Edition.V13b) ≡ thirteen
example_sheet = ap sheet_after (example_leaves Edition.V13b) ∙ example_is messages.letter_e

-- and in 1.3 `type=E` "after `ticker=`", and nothing else (request 10)
pub example_typed : sheet_after (after_example Edition.V13) ≡ fourteen messages.letter_e
example_typed = ap sheet_after (example_leaves Edition.V13) ∙ typed_is
