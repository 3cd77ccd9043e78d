-- One law for each exit: bytes passed over, a whole packet, one byte.
-- Assumes nothing.
use mathlib.Core.Path.{◌∙◌}
use native.Mathlib.Omega.{arith}
use Prim.Native.Nat.{◌+◌}
use lib.ListN.{length, take, drop}
use Rattle.arbitration.specs.Stream.{each}
use Rattle.recording.specs.Stream.{hearing, byte}
use Rattle.recording.specs.Steps.{standing_at, hearing_at}
use Rattle.recording.proofs.Exits.{in_front, step_passes, passed_holds, step_gives, step_pushes}
use Rattle.recording.proofs.listen.Listener.step.Goals as goal

pub returns-then-self-gt0-clause-room : goal.returns-then-self-gt0-clause-room
returns-then-self-gt0-clause-room c =
    let r = c.requires.room in
    record { held = omega (arith, passed_holds c.min-n.result c.args.self.now.stream c.passed-self.result c.passed-self.ensures); least = r.least }

pub returns-then-self-gt0-clause-hearing : goal.returns-then-self-gt0-clause-hearing
returns-then-self-gt0-clause-hearing c =
    let w = c.args.self.now in
    step_passes w.stream w.orders.now w.symbols.now w.shelf.now w.index.now c.args.hold.now c.args.rest.now c.min-n.result c.passed-self.result (omega arith) (omega arith) (omega arith) c.passed-self.ensures

pub returns-clause-hearing : goal.returns-clause-hearing
returns-clause-hearing c =
    let w = c.args.self.now in
    let h = c.hear.ensures in
    let p = c.in-Some.p.now in
    let q = c.in-Some.ensures in
    (λ i. each byte (drop (2 + length p) c.args.rest.now) (hearing (take (h.held i) c.args.hold.now) (h.skip i) (standing_at c.hear.new.self)))
    ∙ step_gives w.stream w.orders.now w.symbols.now w.shelf.now w.index.now c.args.hold.now c.args.rest.now p (omega arith) c.if-self-eq0.true q.packet q.short (omega (arith, in_front q.packet)) (standing_at c.hear.new.self) h.standing

pub returns-2-clause-hearing : goal.returns-2-clause-hearing
returns-2-clause-hearing c = step_pushes c.args.rest.now (hearing_at c.args.self.now c.args.hold.now) (hearing_at c.push.new.self c.push.new.hold) c.requires.some c.push.ensures.hearing
