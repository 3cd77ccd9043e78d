-- A Timestamp out of range ends the judging, whatever lies behind it.
-- Assumes nothing.
use mathlib.Core.Path.{sym, ap, ◌∙◌}
use Rattle.facts.specs.Pick.{pick}
use Rattle.fields.specs.declared.Fault.{Fault}
use Rattle.wire.specs.Le.{field}
use Rattle.body.specs.Ranges.{nanos_ok}
use Rattle.std.specs.Prelude.{Err}
use Rattle.std.proofs.lemmas.Result.{err_from_is_err_and}
use Rattle.body.proofs.Tests.{passed, failed}
use Rattle.body.proofs.judge_stamped_deal.Goals as goal

pub returns-in_err-judge_stamp : goal.returns-in_err-judge_stamp
unfolding pick
returns-in_err-judge_stamp c =
    let p = err_from_is_err_and c.from_residual.result c.from_residual.ensures.1 in
    let q = failed (nanos_ok (field c.args.b.now 1 4)) 1 _ (sym c.judge_stamp.ensures ∙ c.in_err-judge_stamp.was) in
    rw q.0 (p.1 ∙ ap (λ (f : Fault). Err f) (p.2 ∙ q.1))

pub returns : goal.returns
unfolding pick
returns c = let q = passed (nanos_ok (field c.args.b.now 1 4)) 1 _ (sym c.judge_stamp.ensures ∙ c.in_ok-judge_stamp.was) in rw q c.judge_deal.ensures
