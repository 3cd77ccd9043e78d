-- The packet worked, the stop and the highest number told: one law.
-- Assumes nothing.
use mathlib.Core.Path.{◌≡◌, subst}
use borrow.Author.Rules.{rules}
use Rattle.editions.specs.declared.Edition.{Edition}
use Rattle.arbitration.specs.Receive.{stop}
use Rattle.shelf.specs.Store.{shelf_store}
use Rattle.receiver.specs.Lent.{ledger_engine, lent}
use Rattle.receiver.specs.AtWork.{rx_of}
use Rattle.receiver.proofs.Calls.{worked_grows, worked_told}
use Rattle.receiver.proofs.accept.Goals as goal

pub overflow_sub-result : goal.overflow_sub-result
overflow_sub-result c =
    let a = c.args in
    let good = c.requires.good in
    let w = c.work-counts.new.self in
    worked_grows (lent a.orders.now a.symbols.now a.shelf.now a.index.now a.state) a.p.now good.cs good.framing_is w.next w.clock c.work-counts.result w.orders.now w.symbols.now w.shelf.now w.index.now c.work-counts.ensures.work

pub returns : goal.returns
returns c =
    let a = c.args in
    let good = c.requires.good in
    let w = c.work-counts.new.self in
    let stopped = subst (λ (e : Edition). c.stop-stop.result ≡ stop shelf_store (ledger_engine e) (rx_of w)) c.work-counts.ensures.kept.edition c.stop-stop.ensures in
    worked_told (lent a.orders.now a.symbols.now a.shelf.now a.index.now a.state) a.p.now good.cs good.framing_is w.next w.clock c.work-counts.result w.orders.now w.symbols.now w.shelf.now w.index.now c.work-counts.ensures.work c.stop-stop.result c.highest.result _ _ _ _ (search rules) (search rules) (search rules) (search rules) stopped c.highest.ensures
