-- The length is the table's and the judgement is of as many bytes, so that the draft is the definition's; behind them are zeros, as is asked.
-- Assumes nothing.
use mathlib.Core.Path.{◌≡◌, sym, subst, ◌∙◌}
use Prim.Native.Nat.{ℕ}
use native.Mathlib.Omega.{arith}
use lib.ListN.{length, get_or, take}
use lib.Seq.{length-take-le}
use Rattle.wire.specs.Le.{padded}
use Rattle.numbers.proofs.Held.{length_most, held_good, held_refused}
use borrow.Author.Rules.{rules}
use Rattle.numbers.proofs.judged.Goals as goal

pub slice_bounds-bytes-end : goal.slice_bounds-bytes-end
slice_bounds-bytes-end c =
    let whole : length c.args.bytes ≡ 42 = search rules in
    omega (arith, c.length_of-len.ensures, length_most (get_or c.args.bytes 0 0))

pub slice_bounds-judge-end : goal.slice_bounds-judge-end
slice_bounds-judge-end c =
    let whole : length c.args.bytes ≡ 42 = search rules in
    sym (length-take-le _ c.args.bytes (omega (arith, c.length_of-len.ensures, length_most (get_or c.args.bytes 0 0))))

pub invariant_of-result : goal.invariant_of-result
invariant_of-result c = (omega (arith, c.length_of-len.ensures, length_most (get_or c.args.bytes 0 0)), subst (λ (n : ℕ). c.args.bytes ≡ padded (take n c.args.bytes) 0 42) (sym c.length_of-len.ensures) c.requires)

pub returns-in-Ok : goal.returns-in-Ok
returns-in-Ok c = held_good c.args.e c.args.bytes _ c.length_of-len.ensures _ (sym c.judge.ensures ∙ c.in-Ok.is)

pub returns-in-Err : goal.returns-in-Err
returns-in-Err c = held_refused c.args.e c.args.bytes _ c.length_of-len.ensures _ (sym c.judge.ensures ∙ c.in-Err.is)
