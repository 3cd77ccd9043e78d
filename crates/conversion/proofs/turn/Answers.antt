-- The loop keeps: the packets before `at` are passed on, what follows is as it was, and both together come to the whole (Went); no count is above `at` (Few).
-- Assumes nothing.
use Prim.Native.Nat.{◌+◌, ◌-◌, ◌≤◌, ◌<◌}
use mathlib.Core.Path.{◌≡◌, refl, sym, subst, ◌∙◌}
use native.Mathlib.Omega.{arith}
use borrow.Author.Rules.{rules}
use lib.ListN.{length, drop, length-drop}
use Rattle.wire.specs.Le.{field}
use Rattle.conversion.specs.Piece.{tally, tally_of, plus}
use Rattle.retype.specs.Retyped.{asked_of}
use Rattle.conversion.proofs.Pieces.{Few, few_plus, few_countable, went_none, went_end, went_few, went_more, went_size}
use Rattle.conversion.proofs.turn.Goals as goal

pub loop-b-init : goal.loop-b-init
loop-b-init c =
    let e : c.default-t.result ≡ tally 0 0 0 = search rules in
    rw e (omega arith, refl, (omega arith, omega arith, omega arith), went_none c.args.from (asked_of c.args.a.now) c.args.b.now)

pub returns-then-b-at : goal.returns-then-b-at
returns-then-b-at c =
    let b = c.loop-b.b in let at = c.loop-b.at in
    let l : length (drop at b) < 2 + field b at 2 = rw length-drop (omega (arith, c.at-n.ensures)) in
    went_end c.args.from (asked_of c.args.a.now) c.args.b.now b at c.loop-b.t c.loop-b.invariant.3 l

pub counted-t-requires : goal.counted-t-requires
counted-t-requires c =
    let b = c.loop-b.b in let at = c.loop-b.at in let n = c.at-n.result in let m = at + 2 + n - (at + 2) in let t = c.loop-b.t in let o = c.pass.result in
    let m_is : m ≡ n = omega arith in
    let f : at + 2 + n ≤ length b = omega arith in
    let few = went_few c.args.from (asked_of c.args.a.now) c.args.b.now b c.pass.new.p at n m t (plus t (tally_of o)) o c.loop-b.invariant.3 c.at-n.ensures m_is f c.pass.ensures refl in
    few_countable (plus t (tally_of o)) (at + (2 + n)) (few_plus t (tally_of o) at (2 + n) (at + (2 + n)) c.loop-b.invariant.2 few (omega arith)) (omega arith)

pub loop-b-preserved : goal.loop-b-preserved
loop-b-preserved c =
    let b = c.loop-b.b in let at = c.loop-b.at in let n = c.at-n.result in let m = at + 2 + n - (at + 2) in let t = c.loop-b.t in let o = c.pass.result in let a = asked_of c.args.a.now in let s = c.pass.new.p in let v = c.counted-t.result in
    let m_is : m ≡ n = omega arith in
    let f : at + 2 + n ≤ length b = omega arith in
    let w = c.loop-b.invariant.3 in
    let few = went_few c.args.from a c.args.b.now b s at n m t v o w c.at-n.ensures m_is f c.pass.ensures c.counted-t.ensures in
    let size = went_size c.args.from a c.args.b.now b s at n m t v o w c.at-n.ensures m_is f c.pass.ensures c.counted-t.ensures in
    (omega (arith, size), size ∙ c.loop-b.invariant.1, subst (λ x. Few x (at + (2 + n))) (sym c.counted-t.ensures) (few_plus t (tally_of o) at (2 + n) (at + (2 + n)) c.loop-b.invariant.2 few (omega arith)), went_more c.args.from a c.args.b.now b s at n m t v o w c.at-n.ensures m_is f c.pass.ensures c.counted-t.ensures)

pub returns : goal.returns
returns c =
    let b = c.loop-b.b in let at = c.loop-b.at in
    let l : length (drop at b) < 2 + field b at 2 = rw length-drop (omega arith) in
    went_end c.args.from (asked_of c.args.a.now) c.args.b.now b at c.loop-b.t c.loop-b.invariant.3 l
