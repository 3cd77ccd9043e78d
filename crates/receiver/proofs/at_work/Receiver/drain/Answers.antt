-- The loop keeps: the turns that are left, from here, give the end of all of them.
-- Assumes nothing.
use mathlib.Core.Path.{sym, ap, ◌∙◌}
use native.Mathlib.Omega.{arith}
use Rattle.arbitration.proofs.Turns.{loop_step, loop_rest, loop_end, turn_next}
use Rattle.shelf.specs.Store.{shelf_store}
use Rattle.receiver.specs.Lent.{ledger_engine, Rx}
use Rattle.receiver.specs.AtWork.{rx_of}
use Rattle.receiver.proofs.Steps.{kept_then, turned_as}
use Rattle.receiver.proofs.at_work.Receiver.drain.Goals as goal

pub returns-then-not-turn-clause-state : goal.returns-then-not-turn-clause-state
returns-then-not-turn-clause-state c =
    let e = c.args.self.now.edition in
    let t = turned_as _ e _ _ _ c.loop.invariant.kept.edition c.turn.ensures.turned in
    loop_rest shelf_store (ledger_engine e) c.args.turns c.loop.counter (rx_of c.loop.self) _ _ c.loop.invariant.same t.to (sym t.on_is ∙ c.if-not-turn.true)

pub loop-preserved : goal.loop-preserved
loop-preserved c =
    let e = c.args.self.now.edition in
    let t = turned_as _ e _ _ _ c.loop.invariant.kept.edition c.turn.ensures.turned in
    record {
      kept = kept_then _ _ _ c.loop.invariant.kept c.turn.ensures.kept;
      next = omega (arith, ap (λ (x : Rx). x.next) t.to, (turn_next shelf_store (ledger_engine e) (rx_of c.loop.self)).1);
      same = loop_step shelf_store (ledger_engine e) c.args.turns c.loop.counter (rx_of c.loop.self) _ _ c.loop-test.true c.loop.invariant.same t.to (sym t.on_is ∙ c.if-not-turn.false);
    }

pub returns-clause-state : goal.returns-clause-state
returns-clause-state c = loop_end shelf_store (ledger_engine c.args.self.now.edition) c.args.turns c.loop.counter (rx_of c.loop.self) _ c.loop-test.false c.loop.invariant.same
