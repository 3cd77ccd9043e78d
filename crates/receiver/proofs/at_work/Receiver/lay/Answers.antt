-- A record that is next makes its own turn; another is shelved for the drain.
-- Assumes nothing.
use mathlib.Core.Path.{refl, sym, ◌∙◌}
use Rattle.arbitration.specs.Receive.{drain as drained}
use Rattle.shelf.specs.Store.{shelf_store}
use Rattle.receiver.specs.Lent.{ledger_engine}
use Rattle.receiver.specs.AtWork.{rx_of}
use Rattle.receiver.proofs.Direct.{own_next, own_rest, own_then}
use Rattle.receiver.proofs.at_work.Receiver.lay.Goals as goal

pub returns-then-take_next-clause-state : goal.returns-then-take_next-clause-state
returns-then-take_next-clause-state c =
    let w = c.args.self.now in
    let t = c.take_next.ensures.turned in
    own_then shelf_store (ledger_engine w.edition) c.args.number c.args.body.now (rx_of w) c.if-number-self.true _ t.to (sym t.on_is ∙ c.if-take_next.true) _ refl

pub returns-then-take_next-clause-next : goal.returns-then-take_next-clause-next
returns-then-take_next-clause-next c =
    let w = c.args.self.now in
    own_next shelf_store (ledger_engine w.edition) c.args.number c.args.body.now (rx_of w) c.if-number-self.true _ c.take_next.ensures.turned.to

pub returns-else-take_next-clause-state : goal.returns-else-take_next-clause-state
unfolding drained
returns-else-take_next-clause-state c =
    let w = c.args.self.now in
    let t = c.take_next.ensures.turned in
    own_rest shelf_store (ledger_engine w.edition) c.args.number c.args.body.now (rx_of w) c.if-number-self.true _ t.to (sym t.on_is ∙ c.if-take_next.false)

pub returns-else-take_next-clause-next : goal.returns-else-take_next-clause-next
returns-else-take_next-clause-next c =
    let w = c.args.self.now in
    own_next shelf_store (ledger_engine w.edition) c.args.number c.args.body.now (rx_of w) c.if-number-self.true _ c.take_next.ensures.turned.to
