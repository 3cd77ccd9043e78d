-- One byte that differs decides, and 64 that agree are the same list.
-- Assumes nothing.
use native.Mathlib.Omega.{arith}
use Rattle.shelf.proofs.Laws.{one_differs, all_same}
use Rattle.shelf.proofs.same_bytes.Goals as goal

pub returns-then-at : goal.returns-then-at
returns-then-at c =
    let a = c.args in
    one_differs a.x.now a.body.now c.loop-k.k (omega arith)
    (λ e. c.if-at.true (omega (arith, c.at.ensures, e, c.at-in-loop-k.ensures)))

pub returns : goal.returns
returns c =
    let a = c.args in
    all_same a.x.now a.body.now (λ j h. c.loop-k.invariant j (omega arith))
