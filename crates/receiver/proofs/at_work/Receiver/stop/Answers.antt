-- By the slot for next: one law for each exit.
-- Assumes nothing.
use mathlib.Core.Path.{sym, ◌∙◌}
use native.Mathlib.Omega.{arith}
use Rattle.book.specs.Book.{book, carried}
use Rattle.book.specs.Ledger.{ledger}
use Rattle.receiver.specs.Lent.{real}
use Rattle.receiver.proofs.Exits.{stops_empty, stops_other, stops_long}
use Rattle.receiver.proofs.Real.{real_laws}
use Rattle.receiver.proofs.Calls.{slot_stops}
use Rattle.receiver.proofs.at_work.Receiver.stop.Goals as goal
use Rattle.receiver.proofs.at_work.Receiver.stop.Goals.{then-n-self-via-then-n-self, then-n-self-via-else-n-self+then-slot_len-gt64}

pub returns-then-n-eq0 : goal.returns-then-n-eq0
returns-then-n-eq0 c =
    let w = c.args.self.now in
    stops_empty (real w.edition) (real_laws w.edition) w.next (ledger (book w.orders.now w.symbols.now w.clock) w.index.now) w.shelf.now (sym c.slot_number-n.ensures ∙ c.if-n-eq0.true)

pub returns-then-n-self : goal.returns-then-n-self
returns-then-n-self c =
    let w = c.args.self.now in
    let n = c.slot_number-n in
    let l = ledger (book w.orders.now w.symbols.now w.clock) w.index.now in
    c.from.ensures ∙ elim c.then-n-self.branch [
      | then-n-self-via-then-n-self v ↦ stops_other (real w.edition) (real_laws w.edition) w.next l w.shelf.now (λ z. c.if-n-eq0.false (n.ensures ∙ z)) (λ z. v.if-n-self.true (n.ensures ∙ z))
      | then-n-self-via-else-n-self+then-slot_len-gt64 v ↦ stops_long (real w.edition) (real_laws w.edition) w.next l w.shelf.now (λ z. c.if-n-eq0.false (n.ensures ∙ z)) (sym n.ensures ∙ v.if-n-self.false) (omega (arith, v.slot_len.ensures))
    ]

pub returns-in-Ok : goal.returns-in-Ok
unfolding carried
returns-in-Ok c =
    let w = c.args.self.now in
    let n = c.slot_number-n in
    slot_stops w.edition w.next (ledger (book w.orders.now w.symbols.now w.clock) w.index.now) w.shelf.now n.result c.slot_len.result c.slot_body-body.result.now n.ensures c.if-n-eq0.false c.if-n-self.false c.slot_len.ensures c.if-slot_len-gt64.false c.slot_body-body.ensures _ c.in-Ok.ensures

pub returns-in-Err : goal.returns-in-Err
unfolding carried
returns-in-Err c =
    let w = c.args.self.now in
    let n = c.slot_number-n in
    c.from-in-Err.ensures
    ∙ slot_stops w.edition w.next (ledger (book w.orders.now w.symbols.now w.clock) w.index.now) w.shelf.now n.result c.slot_len.result c.slot_body-body.result.now n.ensures c.if-n-eq0.false c.if-n-self.false c.slot_len.ensures c.if-slot_len-gt64.false c.slot_body-body.ensures _ c.in-Err.ensures
