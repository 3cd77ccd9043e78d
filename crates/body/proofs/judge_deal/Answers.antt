-- A test that fails ends the judging.
-- Assumes nothing.
use mathlib.Core.Path.{sym, ap, ◌∙◌}
use Rattle.facts.specs.Pick.{pick}
use Rattle.fields.specs.declared.Fault.{Fault}
use Rattle.std.specs.Prelude.{Err}
use Rattle.std.proofs.lemmas.Result.{err_from_is_err_and}
use Rattle.body.proofs.Tests.{passed, failed}
use Rattle.body.proofs.judge_deal.Goals as goal

pub returns-in_err-judge_field : goal.returns-in_err-judge_field
unfolding pick
returns-in_err-judge_field c =
    let p = err_from_is_err_and c.from_residual.result c.from_residual.ensures.1 in
    let q = failed c.price_ok.result c.args.at _ (sym c.judge_field.ensures ∙ c.in_err-judge_field.was) in
    rw (← c.at.ensures, ← c.price_ok.ensures, q.0) (p.1 ∙ ap (λ (f : Fault). Err f) (p.2 ∙ q.1))

pub returns : goal.returns
unfolding pick
returns c = let q = passed c.price_ok.result c.args.at _ (sym c.judge_field.ensures ∙ c.in_ok-judge_field.was) in rw (← c.at.ensures, ← c.at-2.ensures, ← c.price_ok.ensures, ← c.size_ok.ensures, q) c.judge_field-2.ensures
