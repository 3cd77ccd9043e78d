-- Empty, or as reading says.
-- Assumes nothing.
use mathlib.Core.Path.{sym, ◌∙◌}
use lib.ListN.{take}
use lib.Seq.{length-take-le}
use Rattle.writer.proofs.Laws.{so_far_empty, so_far_some}
use Rattle.writer.proofs.so_far.Goals as goal

pub returns-then-used-eq0 : goal.returns-then-used-eq0
returns-then-used-eq0 c = so_far_empty c.args.e (take c.args.used c.args.memory.now) (length-take-le c.args.used c.args.memory.now c.requires ∙ c.if-used-eq0.true)

pub returns : goal.returns
returns c = c.read_packet.ensures ∙ so_far_some c.args.e (take c.args.used c.args.memory.now) (λ z. c.if-used-eq0.false (sym (length-take-le c.args.used c.args.memory.now c.requires) ∙ z))
