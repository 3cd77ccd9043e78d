-- Five appends, each where the one before ended.
-- Assumes nothing.
use Rattle.text.proofs.Laws.{wrote_then}
use Rattle.figures.specs.Figures.{hours_text}
use Rattle.figures.proofs.put_hours.Goals as goal

pub returns : goal.returns
unfolding hours_text
returns c = wrote_then c.put_places-h.ensures (wrote_then c.byte-a.ensures (wrote_then c.put_places-m.ensures (wrote_then c.byte-b.ensures c.put_places.ensures)))
