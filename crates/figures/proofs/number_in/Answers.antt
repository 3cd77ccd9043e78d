-- Each turn takes one digit, or finds that none of it is a number: no digit, or more than the most, as whatever passes 64 bits is.
-- Assumes nothing.
use Rattle.std.proofs.Common.{◌≡◌, ◌≤◌, ◌<◌, ◌*◌, ◌+◌, length, ◌∙◌, refl, arith, rules}
use Rattle.figures.proofs.NumberLaws.{number_none, a_digit, read_other, read_past, read_more, read_end}
use Rattle.figures.proofs.number_in.Goals as goal

pub returns-then-is_empty : goal.returns-then-is_empty
returns-then-is_empty c = let none : length c.args.s.now ≡ 0 = search rules in number_none c.args.most c.args.s.now (omega arith)

pub loop-x-init : goal.loop-x-init
loop-x-init c = (omega arith, omega arith, refl, refl)

pub returns-in_err-d : goal.returns-in_err-d
returns-in_err-d c =
    let l = c.loop-x in
    let some : 1 ≤ length c.args.s.now = omega arith in
    c.from_residual.ensures ∙ read_other c.args.most c.args.s.now l.n l.x-index some l.invariant (omega arith) (rw c.from.ensures at c.in_err-d.ensures.cases)

pub returns-in_err-checked_mul : goal.returns-in_err-checked_mul
returns-in_err-checked_mul c =
    let l = c.loop-x in
    let some : 1 ≤ length c.args.s.now = omega arith in
    let digit = rw c.from.ensures at (a_digit c.from.result c.in_ok-d.d c.in_ok-d.ensures.value c.in_ok-d.ensures.cases) in
    c.from_residual-in_err-checked_mul.ensures ∙ read_past c.args.most c.args.s.now l.n l.x-index some l.invariant c.in_ok-d.d (l.n * 10 + c.in_ok-d.d) (omega arith) digit refl (omega (arith, c.in_err-checked_mul.ensures, c.ranges.most))

pub returns-in_err-n : goal.returns-in_err-n
returns-in_err-n c =
    let l = c.loop-x in
    let some : 1 ≤ length c.args.s.now = omega arith in
    let digit = rw c.from.ensures at (a_digit c.from.result c.in_ok-d.d c.in_ok-d.ensures.value c.in_ok-d.ensures.cases) in
    c.from_residual-in_err-n.ensures ∙ read_past c.args.most c.args.s.now l.n l.x-index some l.invariant c.in_ok-d.d (l.n * 10 + c.in_ok-d.d) (omega arith) digit refl (omega (arith, c.in_ok-checked_mul.ensures, c.in_err-n.ensures, c.ranges.most))

pub returns-then-most-n : goal.returns-then-most-n
returns-then-most-n c =
    let l = c.loop-x in
    let some : 1 ≤ length c.args.s.now = omega arith in
    let digit = rw c.from.ensures at (a_digit c.from.result c.in_ok-d.d c.in_ok-d.ensures.value c.in_ok-d.ensures.cases) in
    read_past c.args.most c.args.s.now l.n l.x-index some l.invariant c.in_ok-d.d c.in_ok-n.n (omega arith) digit (omega (arith, c.in_ok-checked_mul.ensures, c.in_ok-n.ensures)) (omega arith)

pub loop-x-preserved : goal.loop-x-preserved
loop-x-preserved c =
    let l = c.loop-x in
    let some : 1 ≤ length c.args.s.now = omega arith in
    let digit = rw c.from.ensures at (a_digit c.from.result c.in_ok-d.d c.in_ok-d.ensures.value c.in_ok-d.ensures.cases) in
    read_more c.args.most c.args.s.now l.n l.x-index some l.invariant c.in_ok-d.d c.in_ok-n.n (omega arith) digit (omega (arith, c.in_ok-checked_mul.ensures, c.in_ok-n.ensures)) (omega arith)

pub returns : goal.returns
returns c = let some : 0 < length c.args.s.now = search rules in let l = c.loop-x in read_end c.args.most c.args.s.now l.n l.x-index (omega arith) l.invariant (omega arith)
