-- Bytes that are all there are the padded part.
-- Assumes nothing.
use mathlib.Core.Path.{sym, ◌∙◌}
use Prim.Native.Nat.{◌-◌}
use native.Mathlib.Omega.{arith}
use lib.ListN.{length, drop, length-drop}
use lib.Seq.{take-take, length-take-le}
use Rattle.wire.proofs.Laws.{padded_part}
use Rattle.wire.proofs.bytes_at.Goals as goal

pub returns : goal.returns
returns g c =
    let b = c.args.b.now in
    let at = c.args.at in
    let e = c.in-Some.ensures.cases in
    let n = length-take-le (length b - at) (drop at b) (rw length-drop (omega arith)) in
    e.0 ∙ take-take g.row.N (length b - at) (drop at b) (omega (arith, e.2, n)) ∙ sym (padded_part b at g.row.N (omega (arith, e.2, n, c.if-at-b.true)))
