-- The digits say n or more, so the loop may stop above the largest ID.
-- Assumes nothing.
use mathlib.Core.Path.{◌≡◌, ◌∙◌}
use Prim.Native.Nat.{ℕ, ◌*◌, ◌+◌}
use native.Mathlib.Omega.{arith}
use lib.ListN.{drop}
use Rattle.words.specs.Types.{decimal_from}
use Rattle.words.proofs.TypeLaws.{decimal_more, decimal_end, decimal_grows}
use Rattle.words.proofs.decimal_of.Goals as goal

pub returns-then-n-gt-MOST_ID : goal.returns-then-n-gt-MOST_ID
returns-then-n-gt-MOST_ID c =
    let s = c.args.s.now in
    let l = c.loop-x in
    let m : ℕ = 10 * l.n + c.digit.result in
    let e : decimal_from 0 s ≡ decimal_from m (drop (l.x-index + 1) s) = rw c.digit.ensures.0 (l.invariant.1 ∙ decimal_more l.n s l.x-index (omega arith)) in
    omega (arith, e, decimal_grows m (drop (l.x-index + 1) s))

pub loop-x-preserved : goal.loop-x-preserved
loop-x-preserved c =
    let l = c.loop-x in
    (omega arith, rw c.digit.ensures.0 (l.invariant.1 ∙ decimal_more l.n c.args.s.now l.x-index (omega arith)))

pub returns : goal.returns
returns c =
    let s = c.args.s.now in
    let l = c.loop-x in
    let e : decimal_from 0 s ≡ l.n = l.invariant.1 ∙ decimal_end l.n s l.x-index (omega arith) in
    omega (arith, e)
