-- Three appends, each where the one before ended.
-- Assumes nothing.
use Rattle.text.proofs.Laws.{wrote_then}
use Rattle.figures.specs.Figures.{price_text}
use Rattle.figures.proofs.put_price.Goals as goal

pub returns : goal.returns
unfolding price_text
returns c = wrote_then c.decimal-o.ensures (wrote_then c.byte-p.ensures c.put_places.ensures)
