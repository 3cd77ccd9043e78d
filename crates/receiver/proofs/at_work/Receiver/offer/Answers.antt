-- A taken record is worked as the theory does; the others change nothing.
-- Assumes nothing.
use mathlib.Core.Path.{sym, ap, ◌∙◌}
use Rattle.wire.specs.Records.{rec}
use Rattle.shelf.specs.Store.{shelf_store}
use Rattle.receiver.specs.Lent.{ledger_engine, answer_of}
use Rattle.receiver.specs.AtWork.{rx_of}
use Rattle.receiver.specs.declared.Answer.{Answer}
use Rattle.receiver.proofs.Records.{offered, unchanged}
use Rattle.receiver.proofs.at_work.Receiver.offer.Goals as goal

pub returns-in-Taken-clause-state : goal.returns-in-Taken-clause-state
returns-in-Taken-clause-state c =
    let w = c.args.self.now in
    c.take.ensures.state ∙ offered shelf_store (ledger_engine w.edition) (rec c.args.number c.args.body.now) (rx_of w) Answer.Taken (ap answer_of (sym c.in-Taken.is) ∙ c.answer_to-answer.ensures)

pub returns-in_default-clause-state : goal.returns-in_default-clause-state
returns-in_default-clause-state c =
    let w = c.args.self.now in
    let a = c.answer_to-answer.result in
    let r = rec c.args.number c.args.body.now in
    sym (unchanged shelf_store (ledger_engine w.edition) r (rx_of w) a c.in_default.not-Taken) ∙ offered shelf_store (ledger_engine w.edition) r (rx_of w) a c.answer_to-answer.ensures
