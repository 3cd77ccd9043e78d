-- The least place so far and that of the rows left make the least of all; each turn takes one row off.
-- Assumes nothing.
use mathlib.Core.Path.{◌≡◌, sym, ap, ◌∙◌}
use Prim.Native.Nat.{◌<◌, min}
use native.Mathlib.Omega.{arith}
use borrow.Author.Rules.{rules}
use Rattle.rows.specs.Rows.{rows, row_count}
use Rattle.views.specs.Nearest.{place_from}
use Rattle.views.proofs.Laws.{turn_start, turn_found, turn_passed, turn_end, turns_told}
use Rattle.views.proofs.nearest.Goals as goal
use Rattle.views.proofs.nearest.Goals.{in-Some, in_default}

pub loop-i-init : goal.loop-i-init
loop-i-init c = record { all = c.row_count-i-end.ensures; left = turn_start c.args.key c.args.low (rows c.args.t.now) _ (omega arith) }

pub loop-i-preserved : goal.loop-i-preserved
loop-i-preserved c =
    let a = c.args in
    let l = c.loop-i in
    let h : l.i < row_count a.t.now = omega (arith, l.invariant.all) in
    let p = ap (place_from a.key a.low) (sym c.row_at.ensures) ∙ sym c.place_from.ensures in
    elim c.match-place_from.branch [
      | in-Some w ↦
          let d = w.in-Some.d in
          let m : w.min-best.result ≡ min l.best d = search rules in
          record { all = l.invariant.all; left = omega (arith, l.invariant.left, w.best-is, m, turn_found a.key a.low a.t.now l.i d h (p ∙ w.in-Some.is)) }
      | in_default w ↦ record { all = l.invariant.all; left = omega (arith, l.invariant.left, w.best-is, turn_passed a.key a.low a.t.now l.i h (p ∙ w.in_default.is)) }
    ]

pub returns : goal.returns
returns c =
    let a = c.args in
    let l = c.loop-i in
    let e = turn_end a.key a.low a.t.now l.i (omega (arith, l.invariant.all)) in
    c.then_some.ensures ∙ turns_told a.key a.low (rows a.t.now) l.best (omega (arith, e, l.invariant.left))
