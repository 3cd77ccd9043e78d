-- A test that fails ends the judging; the tests before it held.
-- Assumes nothing.
use mathlib.Core.Path.{sym, ap, ◌∙◌}
use Rattle.facts.specs.Pick.{pick}
use Rattle.fields.specs.declared.Fault.{Fault}
use Rattle.wire.specs.Le.{field}
use Rattle.body.specs.Ranges.{nanos_ok}
use Rattle.std.specs.Prelude.{Err}
use Rattle.std.proofs.lemmas.Result.{err_from_is_err_and}
use Rattle.body.proofs.Tests.{passed, failed, add_judged}
use Rattle.body.proofs.judge_add.Goals as goal

pub returns-in_err-judge_stamp : goal.returns-in_err-judge_stamp
unfolding pick
returns-in_err-judge_stamp c ed =
    let p = err_from_is_err_and c.from_residual.result c.from_residual.ensures.1 in
    let q = failed (nanos_ok (field c.args.b.now 1 4)) 1 _ (sym c.judge_stamp.ensures ∙ c.in_err-judge_stamp.was) in
    rw (← add_judged ed c.args.b.now, q.0) (p.1 ∙ ap (λ (f : Fault). Err f) (p.2 ∙ q.1))

pub returns-in_err-judge_field : goal.returns-in_err-judge_field
unfolding pick
returns-in_err-judge_field c ed =
    let p = err_from_is_err_and c.from_residual-in_err-judge_field.result c.from_residual-in_err-judge_field.ensures.1 in
    let s = passed (nanos_ok (field c.args.b.now 1 4)) 1 _ (sym c.judge_stamp.ensures ∙ c.in_ok-judge_stamp.was) in
    let q = failed c.side_ok.result 17 _ (sym c.judge_field.ensures ∙ c.in_err-judge_field.was) in
    rw (← add_judged ed c.args.b.now, s, ← c.at.ensures, ← c.side_ok.ensures, q.0) (p.1 ∙ ap (λ (f : Fault). Err f) (p.2 ∙ q.1))

pub returns : goal.returns
unfolding pick
returns c ed =
    let s = passed (nanos_ok (field c.args.b.now 1 4)) 1 _ (sym c.judge_stamp.ensures ∙ c.in_ok-judge_stamp.was) in
    let q = passed c.side_ok.result 17 _ (sym c.judge_field.ensures ∙ c.in_ok-judge_field.was) in
    rw (← add_judged ed c.args.b.now, s, ← c.at.ensures, ← c.side_ok.ensures, q) c.judge_deal.ensures
