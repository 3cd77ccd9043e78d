-- The bytes before the spaces are written where they are text, else the mark and the digits of all.
-- Assumes nothing.
use mathlib.Core.Path.{sym, ◌∙◌}
use lib.Seq.{length-take-le}
use Rattle.text.proofs.Laws.{wrote_then, wrote_as}
use Rattle.letters.proofs.ReadLaws.{as_text, as_digits}
use Rattle.letters.proofs.put_text.Goals as goal

pub slice_bounds-is_plain-end : goal.slice_bounds-is_plain-end
slice_bounds-is_plain-end c = sym (length-take-le c.trimmed-n.result c.args.v.now c.trimmed-n.ensures.0)

pub slice_bounds-bytes-end : goal.slice_bounds-bytes-end
slice_bounds-bytes-end c = sym (length-take-le c.trimmed-n.result c.args.v.now c.trimmed-n.ensures.0)

pub returns-then-is_plain : goal.returns-then-is_plain
returns-then-is_plain c =
    let n = c.trimmed-n in
    wrote_as (as_text c.args.v.now n.result n.ensures.1 (sym c.is_plain.ensures ∙ c.if-is_plain.true)) c.bytes.ensures

pub returns : goal.returns
returns c =
    let n = c.trimmed-n in
    wrote_as (as_digits c.args.v.now n.result n.ensures.1 (sym c.is_plain.ensures ∙ c.if-is_plain.false)) (wrote_then c.bytes-o.ensures c.put_hex.ensures)
