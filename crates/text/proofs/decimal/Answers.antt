-- The loop keeps: the digits of `rest`, then those in d from place i on, are the digits of n; each turn moves the lowest digit of `rest` over. There are at most twenty, so the loop ends before the array does.
-- Assumes nothing.
use Prim.Native.Nat.{◌-◌, ◌≤◌}
use mathlib.Core.Path.{refl}
use mathlib.Core.List.{append-nil}
use native.Mathlib.Omega.{arith}
use lib.ListN.{length-set}
use borrow.Author.Rules.{rules}
use Rattle.text.specs.Text.{decimal_of}
use Rattle.text.proofs.Laws.{wrote_as}
use Rattle.text.proofs.DecimalLaws.{decimal_some, decimal_longer, decimal_le, spell_more, spell_last}
use Rattle.text.proofs.decimal.Goals as goal

pub loop-i-init : goal.loop-i-init
loop-i-init c = let n = c.args.n in (refl, refl, decimal_le n (search rules), append-nil (decimal_of n))

pub returns-then-rest-eq0 : goal.returns-then-rest-eq0
returns-then-rest-eq0 c =
    let l = c.loop-i in
    wrote_as (spell_last l.d l.i (l.i - 1) _ _ l.rest _ (omega arith) (omega arith) (omega arith) (omega arith) (omega arith) l.invariant.3)
    (rw l.invariant.0 at c.bytes.ensures)

pub loop-i-preserved : goal.loop-i-preserved
loop-i-preserved c =
    let l = c.loop-i in
    let t : 10 ≤ l.rest = omega arith in
    let n = decimal_longer l.rest t in
    (l.invariant.0, simp length-set l.invariant.1, omega arith, spell_more l.d l.i (l.i - 1) _ l.rest _ (omega arith) (omega arith) t (omega arith) l.invariant.3)

pub unreachable-requires : goal.unreachable-requires
unreachable-requires c = omega (arith, decimal_some c.loop-i.rest)
