-- The loop keeps: the records that are left, from here, give the end of all of them.
-- Assumes nothing.
use mathlib.Core.Path.{◌≡◌, refl, sym, ap, subst, ◌∙◌}
use mathlib.Core.List.{List, ◌∷◌}
use native.Mathlib.Omega.{arith}
use borrow.Author.Rules.{rules}
use lib.ListN.{length}
use Rattle.editions.specs.declared.Edition.{Edition}
use Rattle.wire.specs.Records.{Rec}
use Rattle.arbitration.specs.Lists.{Every}
use Rattle.arbitration.specs.Receive.{no_counts, after}
use Rattle.arbitration.specs.Loops.{Working, working, work as work_all, total}
use Rattle.arbitration.proofs.Tallies.{work_step, work_end}
use Rattle.shelf.specs.Store.{shelf_store}
use Rattle.receiver.specs.Lent.{ledger_engine, answer_of}
use Rattle.receiver.specs.AtWork.{Good, rx_of, working_of}
use Rattle.receiver.specs.Lying.{seen, lying}
use Rattle.receiver.proofs.Records.{answered, worked_bounds}
use Rattle.receiver.proofs.Steps.{kept_then, good_lying}
use Rattle.receiver.proofs.at_work.Receiver.work.Goals as goal

pub loop-r-init : goal.loop-r-init
loop-r-init c =
    let w = c.args.self.now in
    let e = w.edition in
    let g = good_lying e c.args.p.now c.requires.good in
    let i : c.into_iter-r-iterator.result.rest.now ≡ c.args.p.now = search rules in
    let l : lying c.into_iter-r-iterator.result.rest.now ≡ lying c.args.p.now = ap lying i in
    let d = c.default-counts.ensures in
    let none : c.default-counts.result ≡ no_counts = λ i. record { taken = d.0 i; old = d.1.0 i; far = d.1.1.0 i; repeated = d.1.1.1.0 i; differing = d.1.1.1.1 i } in
    record {
      kept = record { orders = refl; symbols = refl; shelf = refl; index = refl; edition = refl };
      next = omega (arith, g.few, ap length l);
      few = omega (arith, g.few, ap length l, ap total none);
      good = subst (Every (Good e)) (sym l) g.good;
      same = λ i. work_all shelf_store (ledger_engine e) (l i) (working_of e w (none i));
    }

pub loop-r-preserved : goal.loop-r-preserved
loop-r-preserved c =
    let l = c.loop-r in
    let e = c.args.self.now.edition in
    let o = c.offer-answer in
    let r = seen c.in-Some.r in
    let w : Working shelf_store (ledger_engine e) = working_of e l.self l.counts in
    let left : lying l.r-iterator.rest.now ≡ r ∷ lying c.next.new.self.rest.now = c.in-Some.ensures.steps in
    let worked : ◌≡◌ {A = Working shelf_store (ledger_engine e)} (working_of e o.new.self c.counted-counts.result) (working shelf_store (ledger_engine e) r w) =
    answered shelf_store (ledger_engine e) r w (rx_of o.new.self) (answer_of o.result) c.counted-counts.result
    (subst (λ (x : Edition). rx_of o.new.self ≡ after shelf_store (ledger_engine x) r (rx_of l.self)) l.invariant.kept.edition o.ensures.state) o.ensures.answer c.counted-counts.ensures in
    let b = worked_bounds shelf_store (ledger_engine e) r w _ worked in
    record {
      kept = kept_then _ _ _ l.invariant.kept o.ensures.kept;
      next = omega (arith, b.0, ap length left);
      few = omega (arith, b.1, ap length left);
      good = (subst (Every (Good e)) left l.invariant.good).1;
      same = work_step shelf_store (ledger_engine e) r (lying c.next.new.self.rest.now) w _ _ (ap (λ (cs : List Rec). work_all shelf_store (ledger_engine e) cs w) (sym left) ∙ l.invariant.same) worked;
    }

pub returns-clause-work : goal.returns-clause-work
returns-clause-work c =
    let w = c.args.self.now in
    let e = w.edition in
    let l = c.loop-r in
    work_end shelf_store (ledger_engine e) (working_of e l.self l.counts) _ (ap (λ (cs : List Rec). work_all shelf_store (ledger_engine e) cs (working_of e l.self l.counts)) (sym c.in-None.ensures.steps.0) ∙ l.invariant.same)
    ∙ ap (λ (cs : List Rec). work_all shelf_store (ledger_engine e) cs (working_of e w no_counts)) (good_lying e c.args.p.now c.requires.good).framed
