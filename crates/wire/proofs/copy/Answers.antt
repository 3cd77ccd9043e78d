-- Lists that agree at every place are one.
-- Assumes nothing.
use Rattle.std.proofs.Common.{refl, sym, arith}
use lib.ListN.{get_or, length-set}
use lib.Seq.{ext_get_or}
use Rattle.facts.proofs.Lists.{write_more}
use Rattle.wire.proofs.copy.Goals as goal

pub loop-i-init : goal.loop-i-init
loop-i-init c = (sym c.requires, λ k h. absurd (omega (arith, h)))

pub loop-i-preserved : goal.loop-i-preserved
loop-i-preserved c =
    let l = c.loop-i in
    (simp length-set l.invariant.0, write_more l.out (λ k. get_or c.args.s.now k 0) l.i _ (omega arith) refl l.invariant.1)

pub returns : goal.returns
returns c =
    let l = c.loop-i in
    ext_get_or 0 l.out c.args.s.now l.invariant.0 (λ k h. l.invariant.1 k (omega arith))
