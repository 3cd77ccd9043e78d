-- A bad size leaves all as it is; else the three wipes make the zeros.
-- Assumes nothing.
use Rattle.facts.specs.Pick.{pick}
use Rattle.receiver.specs.Lent.{started}
use Rattle.receiver.proofs.start.Goals as goal

pub returns-then-not-sizes_ok : goal.returns-then-not-sizes_ok
unfolding started pick
returns-then-not-sizes_ok c = simp (← c.sizes_ok.ensures, c.if-not-sizes_ok.true)

pub returns : goal.returns
unfolding started pick
returns c = simp (← c.sizes_ok.ensures, c.if-not-sizes_ok.false, c.rebuild.ensures, c.wipe_rows.ensures, c.wipe.ensures, c.wipe-2.ensures, c.wipe_rows-2.ensures)
