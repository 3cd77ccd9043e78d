-- Where the last byte of an over-long packet is passed over it is refused.
-- Assumes nothing.
use Rattle.recording.proofs.Exits.{passed_last, passed_more}
use Rattle.recording.proofs.listen.passed.Goals as goal

pub returns-then-stream-eq0 : goal.returns-then-stream-eq0
returns-then-stream-eq0 c = passed_last c.args.n c.args.stream c.missed.result c.requires c.if-stream-eq0.true c.missed.ensures

pub returns : goal.returns
returns c = passed_more c.args.n c.args.stream c.if-stream-eq0.false
