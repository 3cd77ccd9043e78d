-- By the slot for next: one law for each exit.
-- Assumes nothing.
use mathlib.Core.Path.{refl, sym, subst, ◌∙◌}
use mathlib.Core.Bool.{false}
use native.Mathlib.Omega.{arith}
use Rattle.book.specs.Book.{book}
use Rattle.book.specs.Ledger.{ledger}
use Rattle.arbitration.specs.Loops.{Turned}
use Rattle.shelf.specs.Store.{shelf_store}
use Rattle.receiver.specs.Lent.{ledger_engine, real}
use Rattle.receiver.specs.AtWork.{rx_of}
use Rattle.receiver.specs.declared.at_work.Receiver.{Receiver}
use Rattle.receiver.proofs.Exits.{turn_empty, turn_other, turn_long}
use Rattle.receiver.proofs.Real.{real_laws}
use Rattle.book.proofs.Laws.{rule_some}
use Rattle.receiver.proofs.Calls.{slot_broken, slot_goes}
use Rattle.receiver.proofs.at_work.Receiver.turn.Goals as goal
use Rattle.receiver.proofs.at_work.Receiver.turn.Goals.{then-n-eq0-via-then-n-eq0, then-n-eq0-via-else-n-eq0+then-n-self, then-n-eq0-via-else-n-eq0+else-n-self+then-slot_len-gt64}

pub returns-then-n-eq0-clause-turned : goal.returns-then-n-eq0-clause-turned
returns-then-n-eq0-clause-turned c =
    let w = c.args.self.now in
    let n = c.slot_number-n in
    let l = ledger (book w.orders.now w.symbols.now w.clock) w.index.now in
    let Stays : Receiver → Type 0 = λ x. Turned shelf_store (ledger_engine w.edition) (rx_of w) (rx_of x) false in
    elim c.then-n-eq0.branch [
      | then-n-eq0-via-then-n-eq0 v ↦ subst Stays (sym v.self-is) (turn_empty (real w.edition) (real_laws w.edition) w.next l w.shelf.now (sym n.ensures ∙ v.if-n-eq0.true))
      | then-n-eq0-via-else-n-eq0+then-n-self v ↦ subst Stays (sym v.self-is) (turn_other (real w.edition) (real_laws w.edition) w.next l w.shelf.now (λ z. v.if-n-eq0.false (n.ensures ∙ z)) (λ z. v.if-n-self.true (n.ensures ∙ z)))
      | then-n-eq0-via-else-n-eq0+else-n-self+then-slot_len-gt64 v ↦ subst Stays (sym v.self-is) (turn_long (real w.edition) (real_laws w.edition) w.next l w.shelf.now (λ z. v.if-n-eq0.false (n.ensures ∙ z)) (sym n.ensures ∙ v.if-n-self.false) (omega (arith, v.slot_len.ensures)))
    ]

pub returns-in_default-clause-turned : goal.returns-in_default-clause-turned
returns-in_default-clause-turned c =
    let w = c.args.self.now in
    let n = c.slot_number-n in
    let t = c.attempt-tried in
    slot_broken w.edition w.next (ledger (book w.orders.now w.symbols.now w.clock) w.index.now) w.shelf.now n.result c.slot_len.result c.slot_body.result.now n.ensures c.if-n-eq0.false c.if-n-self.false c.slot_len.ensures c.if-slot_len-gt64.false c.slot_body.ensures _ (ledger (book t.new.orders t.new.symbols w.clock) t.new.index) c.in_default.ensures (rule_some _)

pub returns-clause-turned : goal.returns-clause-turned
returns-clause-turned c =
    let w = c.args.self.now in
    let n = c.slot_number-n in
    let t = c.attempt-tried in
    slot_goes w.edition w.next (ledger (book w.orders.now w.symbols.now w.clock) w.index.now) w.shelf.now n.result c.slot_len.result c.slot_body.result.now n.ensures c.if-n-eq0.false c.if-n-self.false c.slot_len.ensures c.if-slot_len-gt64.false c.slot_body.ensures 0 (ledger (book t.new.orders t.new.symbols c.in-Ok.clock) t.new.index) c.in-Ok.ensures refl c.empty.new.s c.empty.ensures
