-- One law for each exit: the first byte, an over-long packet, one byte more kept, a whole packet.
-- Assumes nothing.
use mathlib.Core.Path.{◌∙◌}
use lib.ListN.{take}
use Rattle.recording.specs.Stream.{hearing}
use Rattle.recording.specs.Steps.{standing_at}
use Rattle.recording.proofs.Exits.{push_first, push_over, push_keeps, push_gives}
use Rattle.recording.proofs.listen.Listener.push.Goals as goal

pub returns-then-held-eq0-clause-hearing : goal.returns-then-held-eq0-clause-hearing
returns-then-held-eq0-clause-hearing c =
    let w = c.args.self.now in
    let r = c.requires in
    push_first w.stream w.orders.now w.symbols.now w.shelf.now w.index.now c.args.hold.now c.args.x r.skip r.room.held r.room.least c.put.new.out c.put.ensures c.if-held-eq0.true

pub returns-then-n-gt-PACKET_MOST-clause-hearing : goal.returns-then-n-gt-PACKET_MOST-clause-hearing
returns-then-n-gt-PACKET_MOST-clause-hearing c =
    let w = c.args.self.now in
    let r = c.requires in
    push_over w.stream w.orders.now w.symbols.now w.shelf.now w.index.now c.args.hold.now c.args.x r.skip r.room.held r.room.least c.put.new.out c.put.ensures c.if-held-eq0.false c.at-n.result c.at-n.ensures c.if-n-gt-PACKET_MOST.true

pub returns-then-held-n-clause-hearing : goal.returns-then-held-n-clause-hearing
returns-then-held-n-clause-hearing c =
    let w = c.args.self.now in
    let r = c.requires in
    push_keeps w.stream w.orders.now w.symbols.now w.shelf.now w.index.now c.args.hold.now c.args.x r.skip r.room.held r.room.least c.put.new.out c.put.ensures c.if-held-eq0.false c.at-n.result c.at-n.ensures c.if-n-gt-PACKET_MOST.false c.if-held-n.true

pub returns-else-held-n-clause-hearing : goal.returns-else-held-n-clause-hearing
returns-else-held-n-clause-hearing c =
    let w = c.args.self.now in
    let r = c.requires in
    let h = c.hear.ensures in
    (λ i. hearing (take (h.held i) c.put.new.out) (h.skip i) (standing_at c.hear.new.self))
    ∙ push_gives w.stream w.orders.now w.symbols.now w.shelf.now w.index.now c.args.hold.now c.args.x r.skip r.room.held r.room.least c.put.new.out c.put.ensures c.if-held-eq0.false c.at-n.result c.at-n.ensures c.if-n-gt-PACKET_MOST.false c.if-held-n.false (standing_at c.hear.new.self) h.standing
