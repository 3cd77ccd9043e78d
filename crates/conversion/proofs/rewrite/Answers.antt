-- The loop keeps: what lies before `at` is rewritten and what follows is as it was (Walked), and so many Symbol Updates were met as the records before `at` have (Counted).
-- Assumes nothing.
use Prim.Native.Nat.{◌+◌, ◌≤◌, ◌-◌}
use mathlib.Core.Path.{ap, ◌∙◌, ◌≡◌}
use mathlib.Core.Logic.{inl, inr}
use Rattle.packet.specs.declared.Head.{Head}
use Rattle.packet.specs.Record.{head_of}
use Rattle.conversion.proofs.Turns.{walk_end, walk_more, walk_size, update_is, count_end, count_turn, fits_in, walk_none, count_none}
use native.Mathlib.Omega.{arith}
use lib.ListN.{length, drop}
use Rattle.wire.specs.Le.{field}
use Rattle.retype.specs.Retyped.{asked_of}
use Rattle.conversion.proofs.rewrite.Goals as goal
use Rattle.conversion.proofs.rewrite.Goals.{then-retype_body, else-retype_body}

pub loop-at-init : goal.loop-at-init
loop-at-init c = (omega arith, omega arith, omega arith, walk_none (asked_of c.args.a.now) c.args.p.now, count_none c.args.p.now)

pub overflow_add-at-in-loop-at-2 : goal.overflow_add-at-in-loop-at-2
overflow_add-at-in-loop-at-2 c = let i = fits_in (asked_of c.args.a.now) c.args.p.now c.loop-at.p c.loop-at.at c.loop-at.updates c.head_at-n.result c.head_at-n.ensures c.loop-at.invariant.1 c.loop-at-test.true c.requires c.loop-at.invariant.3 c.loop-at.invariant.4 in omega (arith, i)

pub slice_bounds-retype_body-end : goal.slice_bounds-retype_body-end
slice_bounds-retype_body-end c = let i = fits_in (asked_of c.args.a.now) c.args.p.now c.loop-at.p c.loop-at.at c.loop-at.updates c.head_at-n.result c.head_at-n.ensures c.loop-at.invariant.1 c.loop-at-test.true c.requires c.loop-at.invariant.3 c.loop-at.invariant.4 in omega (arith, i)

pub overflow_add-at-in-loop-at-3 : goal.overflow_add-at-in-loop-at-3
overflow_add-at-in-loop-at-3 c = let i = fits_in (asked_of c.args.a.now) c.args.p.now c.loop-at.p c.loop-at.at c.loop-at.updates c.head_at-n.result c.head_at-n.ensures c.loop-at.invariant.1 c.loop-at-test.true c.requires c.loop-at.invariant.3 c.loop-at.invariant.4 in omega (arith, i)

pub overflow_add-at-in-loop-at-4 : goal.overflow_add-at-in-loop-at-4
overflow_add-at-in-loop-at-4 c = let i = fits_in (asked_of c.args.a.now) c.args.p.now c.loop-at.p c.loop-at.at c.loop-at.updates c.head_at-n.result c.head_at-n.ensures c.loop-at.invariant.1 c.loop-at-test.true c.requires c.loop-at.invariant.3 c.loop-at.invariant.4 in omega (arith, i)

pub loop-at-preserved : goal.loop-at-preserved
loop-at-preserved c =
    let a = asked_of c.args.a.now in let p₀ = c.args.p.now in let p = c.loop-at.p in let at = c.loop-at.at in let n = c.head_at-n.result.len in let s = c.retype_body.new.b in let u = c.retype_body.result in let w = c.loop-at.invariant.3 in let m = at + 10 + n - (at + 10) in
    let i : at + (10 + n) ≤ length p = fits_in a p₀ p at c.loop-at.updates c.head_at-n.result c.head_at-n.ensures c.loop-at.invariant.1 c.loop-at-test.true c.requires w c.loop-at.invariant.4 in
    let n_is : n ≡ (head_of (drop at p)).len = ap (λ (x : Head). x.len) c.head_at-n.ensures in
    let n_was : n ≡ (head_of (drop at p₀)).len = n_is ∙ ap (λ x. field x 8 2) w.as_it_was in
    let m_is : m ≡ n = omega arith in
    let f : at + 10 + n ≤ length p = omega (arith, i) in
    let size = walk_size a p₀ p s at n m u w n_is m_is f c.retype_body.ensures in
    let k = count_turn p₀ at n c.loop-at.updates c.if-retype_body.updates u (omega arith) c.loop-at.invariant.4 n_was (update_is a p₀ p s at n m u w n_is m_is f c.retype_body.ensures) (elim c.if-retype_body.branch [ then-retype_body y ↦ inl (y.if-retype_body.true, y.updates-is) | else-retype_body y ↦ inr (y.if-retype_body.false, y.updates-is) ]) in
    (omega (arith, i, size), size ∙ c.loop-at.invariant.1, omega (arith, k.1), walk_more a p₀ p s at n m u w n_is m_is f c.retype_body.ensures, k.0)

pub returns : goal.returns
returns c = (count_end c.args.p.now c.loop-at.at c.loop-at.updates (omega arith) c.loop-at.invariant.4, walk_end (asked_of c.args.a.now) c.args.p.now c.loop-at.p c.loop-at.at c.loop-at.invariant.1 c.loop-at-test.false c.loop-at.invariant.3)
