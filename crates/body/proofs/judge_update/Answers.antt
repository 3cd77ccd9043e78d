-- A test that fails ends the judging; the tests before it held.
-- Assumes nothing.
use mathlib.Core.Path.{sym, ap, ◌∙◌}
use Rattle.facts.specs.Pick.{pick}
use Rattle.fields.specs.declared.Fault.{Fault}
use Rattle.wire.specs.Le.{field}
use Rattle.body.specs.Ranges.{nanos_ok}
use Rattle.std.specs.Prelude.{Err}
use Rattle.std.proofs.lemmas.Result.{err_from_is_err_and}
use Rattle.body.proofs.Tests.{passed, failed, update_judged}
use Rattle.body.proofs.judge_update.Goals as goal

pub returns-in_err-judge_stamp : goal.returns-in_err-judge_stamp
unfolding pick
returns-in_err-judge_stamp c =
    let p = err_from_is_err_and c.from_residual.result c.from_residual.ensures.1 in
    let q = failed (nanos_ok (field c.args.b.now 1 4)) 1 _ (sym c.judge_stamp.ensures ∙ c.in_err-judge_stamp.was) in
    rw (← update_judged c.args.e c.args.b.now, q.0) (p.1 ∙ ap (λ (f : Fault). Err f) (p.2 ∙ q.1))

pub returns-in_err-judge_field : goal.returns-in_err-judge_field
unfolding pick
returns-in_err-judge_field c =
    let p = err_from_is_err_and c.from_residual-in_err-judge_field.result c.from_residual-in_err-judge_field.ensures.1 in
    let s = passed (nanos_ok (field c.args.b.now 1 4)) 1 _ (sym c.judge_stamp.ensures ∙ c.in_ok-judge_stamp.was) in
    let q = failed c.security_ok.result 20 _ (sym c.judge_field.ensures ∙ c.in_err-judge_field.was) in
    rw (← update_judged c.args.e c.args.b.now, s, ← c.at.ensures, ← c.security_ok.ensures, q.0) (p.1 ∙ ap (λ (f : Fault). Err f) (p.2 ∙ q.1))

pub returns-in_err-judge_field-2 : goal.returns-in_err-judge_field-2
unfolding pick
returns-in_err-judge_field-2 c =
    let p = err_from_is_err_and c.from_residual-in_err-judge_field-2.result c.from_residual-in_err-judge_field-2.ensures.1 in
    let s = passed (nanos_ok (field c.args.b.now 1 4)) 1 _ (sym c.judge_stamp.ensures ∙ c.in_ok-judge_stamp.was) in
    let y = passed c.security_ok.result 20 _ (sym c.judge_field.ensures ∙ c.in_ok-judge_field.was) in
    let q = failed c.test_ok.result 21 _ (sym c.judge_field-2.ensures ∙ c.in_err-judge_field-2.was) in
    rw (← update_judged c.args.e c.args.b.now, s, ← c.at.ensures, ← c.security_ok.ensures, y, ← c.at-2.ensures, ← c.test_ok.ensures, q.0) (p.1 ∙ ap (λ (f : Fault). Err f) (p.2 ∙ q.1))

pub returns : goal.returns
unfolding pick
returns c =
    let s = passed (nanos_ok (field c.args.b.now 1 4)) 1 _ (sym c.judge_stamp.ensures ∙ c.in_ok-judge_stamp.was) in
    let y = passed c.security_ok.result 20 _ (sym c.judge_field.ensures ∙ c.in_ok-judge_field.was) in
    let t = passed c.test_ok.result 21 _ (sym c.judge_field-2.ensures ∙ c.in_ok-judge_field-2.was) in
    rw (← update_judged c.args.e c.args.b.now, s, ← c.at.ensures, ← c.security_ok.ensures, y, ← c.at-2.ensures, ← c.test_ok.ensures, t, ← c.at-3.ensures, ← c.market_ok.ensures) c.judge_field-3.ensures
