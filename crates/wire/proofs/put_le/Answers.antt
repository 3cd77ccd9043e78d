-- The loop leaves as many bytes of the number as are reached (le_done), and that is all of them stored (put_reached); past the end nothing is.
-- Assumes nothing.
use mathlib.Core.Path.{◌≡◌, sym, ◌∙◌}
use mathlib.Core.List.{List, ◌++◌}
use Prim.Native.Nat.{ℕ, ◌+◌, ◌-◌, ◌≤◌, min}
use native.Mathlib.Nat.{add-sub_cancel_left}
use native.Mathlib.Omega.{arith}
use lib.ListN.{length, take, drop, length-drop}
use lib.Seq.{sets, length-take-le}
use Rattle.facts.proofs.Stores.{sets_past}
use Rattle.wire.specs.Le.{to_le}
use Rattle.wire.proofs.Laws.{le_more, le_done, length_to_le, take_to_le, put_reached}
use Rattle.wire.proofs.put_le.Goals as goal

pub returns-then-out-at : goal.returns-then-out-at
returns-then-out-at c = let a = c.args in sym (sets_past (to_le a.w a.n) a.out.now a.at c.if-out-at.true)

pub loop-x-preserved : goal.loop-x-preserved
loop-x-preserved c = let l = c.loop-x in le_more l.x-items l.x-index l.v (omega arith) ∙ l.invariant

-- the bytes of the number that are reached, in the place of the part, are the number stored
reached : (x y : List ℕ) (at w m n : ℕ) → at ≤ length x → m ≡ min w (length x - at) → y ≡ to_le (length (take (at + m - at) (drop at x))) n → take at x ++ (y ++ drop (at + m - at) (drop at x)) ≡ sets x at (to_le w n)
reached x y at w m n h least y_is =
    let e : at + m - at ≡ m = add-sub_cancel_left at m in
    let long : length (take m (drop at x)) ≡ m = length-take-le m (drop at x) (rw length-drop (omega arith)) in
    rw e (put_reached x (to_le w n) y at m h (rw length_to_le least) (rw (e, long) at y_is ∙ sym (take_to_le m w n (omega arith))))

pub returns : goal.returns
returns c =
    let a = c.args in
    let l = c.loop-x in
    reached a.out.now l.x-items a.at a.w c.min-reached.result a.n (omega arith) (omega arith) (le_done _ l.x-items l.x-index a.n l.v (omega arith) l.invariant)
