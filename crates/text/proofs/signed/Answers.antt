-- A minus sign and the magnitude below 0, else the magnitude alone.
-- Assumes nothing.
use Rattle.text.proofs.Laws.{wrote_as, wrote_then}
use Rattle.text.proofs.SignedLaws.{shows_neg, shows_pos}
use Rattle.text.proofs.signed.Goals as goal
use Rattle.text.proofs.signed.Goals.{then-n-lt0, else-n-lt0}

pub returns : goal.returns
returns c =
    elim c.if-n-lt0.branch [
      | then-n-lt0 w ↦
          wrote_as (shows_neg _ _ c.ranges.n c.unsigned_abs.ensures.value w.if-n-lt0.true)
          (wrote_then w.byte-o.ensures (rw (w.buf-is, w.o-is) at c.decimal.ensures))
      | else-n-lt0 w ↦
          wrote_as (shows_pos _ _ c.ranges.n c.unsigned_abs.ensures.value w.if-n-lt0.false)
          (rw (w.buf-is, w.o-is) at c.decimal.ensures)
    ]
