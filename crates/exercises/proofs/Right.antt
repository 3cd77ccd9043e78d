-- The definitions answer every question of the table with its known result, because both sides compute to the same numbers: the lines after
-- `unfolding` name the definitions on the way from a packet's bytes to an answer, and `refl` runs them on the whole shelf.
-- Assumes nothing.
use mathlib.Core.Path.{◌≡◌, refl}
use mathlib.Core.List.{[], ◌∷◌, map}
use Rattle.facts.specs.Pick.{pick, both, either}
use Rattle.facts.specs.Same.{same_bytes}
use Rattle.facts.specs.Search.{first}
use Rattle.facts.specs.Pieces.{cut, pieces, join, put_piece}
use Rattle.facts.specs.Sums.{sum_by, only_if, count_by}
use Rattle.editions.specs.declared.Edition.{Edition}
use Rattle.wire.specs.Le.{le, to_le, field, padded}
use Rattle.kinds.specs.Table as kinds
use Rattle.fields.specs.Fields as fields
use Rattle.body.specs.Ranges as ranges
use Rattle.body.specs.Faults as faults
use Rattle.body.specs.Read as read
use Rattle.packet.specs.Record as head
use Rattle.packet.specs.Packet as packet
use Rattle.rows.specs.Keys as keys
use Rattle.rows.specs.Rows as rows
use Rattle.rows.specs.Find as find_row
use Rattle.ascend.specs.Ascend as ascend
use Rattle.symbols.specs.Entries as entries
use Rattle.symbols.specs.Find as find_entry
use Rattle.symbols.specs.Work as entry_work
use Rattle.orders.specs.Work as row_work
use Rattle.book.specs.Plan as plan
use Rattle.book.specs.Book as book
use Rattle.book.specs.Ledger as ledger
use Rattle.index.specs.Index as index
use Rattle.engines.specs.Engines as engines
use Rattle.views.specs.Ladder as ladder
use Rattle.views.specs.Spread as spread
use Rattle.views.specs.Views as views
use Rattle.arbitration.specs.Slots as slots
use Rattle.arbitration.specs.Receive as theory
use Rattle.shelf.specs.Shelf as shelf
use Rattle.receiver.specs.Receiver as generic
use Rattle.receiver.specs.Lent as receiver
use Rattle.exercises.specs.Messages as messages
use Rattle.exercises.specs.Exercises as exercises
use Rattle.exercises.specs.Table.{table}

-- P1 to P12, each once
pub all_there : map (λ e. e.P) table ≡ 1 ∷ 2 ∷ 3 ∷ 4 ∷ 5 ∷ 6 ∷ 7 ∷ 8 ∷ 9 ∷ 10 ∷ 11 ∷ 12 ∷ []
unfolding table
all_there = refl

-- the one test, of the whole table, in each edition
pub all_right : (ed : Edition) → exercises.table_answers ed table ≡ exercises.table_results table
unfolding table
    exercises.begins exercises.goes_on exercises.of_account exercises.place_of exercises.differ exercises.changes exercises.rank_in exercises.rank_of exercises.together exercises.ahead_in exercises.ahead_of
    exercises.of_spread exercises.answer_to exercises.answers exercises.known exercises.table_answers exercises.table_results
    messages.numbered messages.system_time messages.symbol_update messages.add_order messages.modify_order messages.execution messages.example messages.of_example messages.whole_example
    pick both either first cut pieces join put_piece sum_by only_if count_by le to_le field padded
    kinds.table kinds.lookup kinds.length_of kinds.kind_of
    fields.decoded
    ranges.nanos_ok ranges.one_of ranges.side_ok ranges.price_ok ranges.size_ok ranges.security_ok ranges.test_ok ranges.market_ok
    faults.fault_from faults.fault_of
    read.framed read.ranged read.judge_body read.message read.read_body read.good_body
    head.number_ok head.body_of head.body_judged head.read_record
    packet.before packet.behind packet.frames_from packet.framing
    rows.row_of rows.numbers_of rows.rows rows.put_row rows.zero_row rows.free rows.live rows.good_rows
    find_row.is_order find_row.find_order find_row.held_at find_row.find_free find_row.of_key
    ascend.ins ascend.places
    entries.good_entries entries.entries entries.entry_of entries.put_entry entries.used entries.free_entry
    find_entry.is_symbol find_entry.find_symbol find_entry.find_free_entry find_entry.known_symbol find_entry.place_for
    entry_work.entered
    row_work.remade row_work.reduced row_work.committed
    plan.of_known plan.target plan.upon keys.side_of row_work.moves plan.row_for plan.update_plan plan.room_for plan.add_plan plan.modify_plan plan.execution_plan plan.plan_by
    book.carried ledger.devised ledger.index_after ledger.posted
    index.slots index.hash index.vacant index.filled_at index.placed index.taken index.freed index.entered index.each_row index.zeroed index.built index.roomy index.came
    engines.good_index engines.order_by engines.free_by engines.hinted engines.entry_by engines.put_noted engines.noted engines.hinted_to
    ladder.key_of ladder.far ladder.places_of ladder.prices
    spread.between spread.spread_of
    views.good_tables views.view_fault views.spread_view
    same_bytes slots.same_slot
    theory.judge theory.good_slot theory.highest theory.count theory.counts_of theory.try theory.stop theory.drain theory.after theory.run theory.said theory.told
    shelf.good_shelf shelf.slot_from shelf.bytes_of shelf.slot_at shelf.put_slot
    generic.receives generic.handled_by generic.fit generic.next_ok receiver.tables_ok receiver.sizes_ok
all_right Edition.V13 = refl
all_right Edition.V13b = refl
