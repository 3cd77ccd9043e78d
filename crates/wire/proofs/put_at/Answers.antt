-- As much as is reached is stored, and that is all of it stored (put_reached); past the end nothing is.
-- Assumes nothing.
use mathlib.Core.Path.{sym}
use native.Mathlib.Nat.{add-sub_cancel_left}
use native.Mathlib.Omega.{arith}
use Rattle.facts.proofs.Stores.{sets_past}
use Rattle.wire.proofs.Laws.{put_reached}
use Rattle.wire.proofs.put_at.Goals as goal

pub returns-then-out-at : goal.returns-then-out-at
returns-then-out-at c = let a = c.args in sym (sets_past a.s.now a.out.now a.at c.if-out-at.true)

pub returns : goal.returns
returns c =
    let a = c.args in
    rw (add-sub_cancel_left a.at c.min-n.result) (put_reached a.out.now a.s.now _ a.at c.min-n.result (omega arith) (omega arith) c.copy.ensures)
