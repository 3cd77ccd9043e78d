-- The tests are those of judge, in its order.
-- Assumes nothing.
use Prim.Native.Nat.{◌%◌}
use mathlib.Core.Path.{sym, ◌∙◌}
use Rattle.wire.specs.Records.{rec}
use Rattle.arbitration.proofs.Answers.{judge_old, judge_far, judge_taken, judge_repeated, judge_differing}
use Rattle.shelf.specs.Shelf.{slot_at}
use Rattle.receiver.proofs.at_work.Receiver.answer_to.Goals as goal

pub returns-then-number-self : goal.returns-then-number-self
returns-then-number-self c =
    let w = c.args.self.now in
    sym (judge_old w.next (slot_at w.shelf.now (c.args.number % 64)) (rec c.args.number c.args.body.now) c.if-number-self.true)

pub returns-then-self-number : goal.returns-then-self-number
returns-then-self-number c =
    let w = c.args.self.now in
    sym (judge_far w.next (slot_at w.shelf.now (c.args.number % 64)) (rec c.args.number c.args.body.now) c.if-number-self.false c.if-self-number.true)

pub returns-then-slot_number-eq0 : goal.returns-then-slot_number-eq0
returns-then-slot_number-eq0 c =
    let w = c.args.self.now in
    sym (judge_taken w.next (slot_at w.shelf.now (c.args.number % 64)) (rec c.args.number c.args.body.now) c.if-number-self.false c.if-self-number.false (sym c.slot_number.ensures ∙ c.if-slot_number-eq0.true))

pub returns-then-holds : goal.returns-then-holds
returns-then-holds c =
    let w = c.args.self.now in
    sym (judge_repeated w.next (slot_at w.shelf.now (c.args.number % 64)) (rec c.args.number c.args.body.now) c.if-number-self.false c.if-self-number.false (λ z. c.if-slot_number-eq0.false (c.slot_number.ensures ∙ z)) (sym c.holds.ensures ∙ c.if-holds.true))

pub returns : goal.returns
returns c =
    let w = c.args.self.now in
    sym (judge_differing w.next (slot_at w.shelf.now (c.args.number % 64)) (rec c.args.number c.args.body.now) c.if-number-self.false c.if-self-number.false (λ z. c.if-slot_number-eq0.false (c.slot_number.ensures ∙ z)) (sym c.holds.ensures ∙ c.if-holds.false))
