-- A body that runs past the end is what is left.
-- Assumes nothing.
use mathlib.Core.Path.{ap, ◌∙◌}
use lib.ListN.{take, drop}
use Rattle.packet.specs.Record.{body_of}
use Rattle.packet.proofs.Laws.{part_or_all}
use Rattle.packet.proofs.body_at.Goals as goal

pub returns : goal.returns
unfolding body_of
returns c =
    ap (λ b. b.now) c.unwrap_or.ensures
    ∙ part_or_all c.get.result c.behind-body.result c.head_at.result.len c.get.ensures.lookup.0
    ∙ (λ i. take (c.head_at.ensures i).len ((c.behind-body.ensures ∙ ap (drop 10) c.behind.ensures) i))
