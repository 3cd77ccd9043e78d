-- The tests on the way to each answer are those of framed and ranged; the table, the kind and the fields' judgement are the callees' answers.
-- Assumes nothing.
use mathlib.Core.Path.{sym, ap, ◌∙◌}
use native.Mathlib.Omega.{arith}
use Rattle.fields.specs.declared.Fault.{Fault}
use Rattle.std.specs.Prelude.{Err}
use Rattle.std.proofs.lemmas.Result.{err_from_is_err_and}
use Rattle.body.proofs.Codes.{empty_judged, length_judged, good_told, fault_told}
use Rattle.body.proofs.judge_body.Goals.{then-is_empty-via-then-is_empty, then-is_empty-via-else-is_empty+then-b-length_of}
use Rattle.body.proofs.judge_body.Goals as goal

pub returns-then-is_empty : goal.returns-then-is_empty
returns-then-is_empty c = elim c.then-is_empty.branch [ then-is_empty-via-then-is_empty w ↦ empty_judged c.args.e c.args.b.now (grind arith) | then-is_empty-via-else-is_empty+then-b-length_of w ↦ length_judged c.args.e c.args.b.now (grind arith) _ w.length_of.ensures w.if-b-length_of.true ]

pub returns-in_err-judge_fields : goal.returns-in_err-judge_fields
returns-in_err-judge_fields c =
    let p = err_from_is_err_and c.from_residual.result c.from_residual.ensures.1 in
    p.1 ∙ ap (λ (f : Fault). Err f) p.2 ∙ fault_told c.args.e c.args.b.now (grind arith) _ c.length_of.ensures c.if-b-length_of.false _ c.from-k.ensures _ (sym c.judge_fields.ensures ∙ c.in_err-judge_fields.was)

pub returns : goal.returns
returns c = good_told c.args.e c.args.b.now (grind arith) _ c.length_of.ensures c.if-b-length_of.false _ c.from-k.ensures _ (sym c.judge_fields.ensures ∙ c.in_ok-judge_fields.was)
