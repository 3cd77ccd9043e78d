-- The tests on the way to each answer are those of the laws of 2, 5, and what the body's judge says.
-- Assumes nothing.
use mathlib.Core.Path.{sym, ap, ◌∙◌}
use mathlib.Core.Logic.{inl, inr}
use native.Mathlib.Omega.{arith}
use Prim.Native.Nat.{◌+◌, ◌≤◌, ◌<◌}
use lib.ListN.{length}
use Rattle.std.proofs.Common.{rules}
use borrow.Author.Tests.{not-true, not-false}
use Rattle.wire.proofs.Laws.{field_below}
use Rattle.std.proofs.lemmas.Result.{err_from_is_err_and}
use Rattle.fields.specs.declared.Fault.{Fault}
use Rattle.std.specs.Prelude.{Err}
use Rattle.body.specs.Read.{judge_body, judged}
use Rattle.body.proofs.Codes.{told_good, told_bad}
use Rattle.packet.specs.Record.{body_judged}
use Rattle.packet.specs.declared.Head.{Head}
use Rattle.packet.proofs.Laws.{no_room_read, wrong_number, record_judged, judged_inside, mapped, moved_ok, moved_err}
use Rattle.packet.proofs.read_record.Goals as goal

pub overflow_add-h : goal.overflow_add-h
overflow_add-h c = omega (arith, ap (λ (h : Head). h.len) c.head_at-h.ensures, field_below c.args.t.now (λ i. (c.type_inv.t i).fits) 8 2)

pub returns-in_default : goal.returns-in_default
returns-in_default c = elim c.in_default.ensures.lookup.0 [ inl l ↦ absurd (omega (arith, l)) | inr l ↦ no_room_read c.args.e c.args.t.now c.head_at-h.result c.head_at-h.ensures l ]

pub returns-then-not-number_ok : goal.returns-then-not-number_ok
returns-then-not-number_ok c =
    let s = c.in-Some.ensures.lookup.0 in
    wrong_number c.args.e c.args.t.now c.head_at-h.result c.head_at-h.ensures (omega (arith, s.1)) (omega (arith, s.1)) (sym c.number_ok.ensures ∙ not-true c.number_ok.result c.if-not-number_ok.true-raw)

pub map_err-requires : goal.map_err-requires
map_err-requires c e i =
    let s = c.in-Some.ensures.lookup.0 in
    let j = c.judge.ensures ∙ ap (λ b. judged (judge_body c.args.e b)) s.2 in
    let l : 10 + e.at ≤ length c.args.t.now = judged_inside c.args.e c.args.t.now c.head_at-h.result c.head_at-h.ensures (omega (arith, s.1)) (omega (arith, s.1)) _ (told_bad _ _ (sym j ∙ i)) in
    let m : 10 + e.at < 18446744073709551616 = omega (arith, l) in
    search rules

pub returns-in_err-map_err : goal.returns-in_err-map_err
unfolding body_judged
returns-in_err-map_err c =
    let s = c.in-Some.ensures.lookup.0 in
    let j = c.judge.ensures ∙ ap (λ b. judged (judge_body c.args.e b)) s.2 in
    let p = err_from_is_err_and c.from_residual.result c.from_residual.ensures.1 in
    let m = mapped 10 c.judge.result c.map_err.result _ c.map_err.ensures.cases (λ f g k. search rules) in
    let b = moved_err 10 c.judge.result _ (sym m ∙ c.in_err-map_err.was) in
    p.1 ∙ ap (λ (f : Fault). Err f) (p.2 ∙ b.2) ∙ record_judged c.args.e c.args.t.now c.head_at-h.result c.head_at-h.ensures (omega (arith, s.1)) (omega (arith, s.1)) (sym c.number_ok.ensures ∙ not-false c.number_ok.result c.if-not-number_ok.false-raw) _ (told_bad _ _ (sym j ∙ b.1))

pub returns : goal.returns
unfolding body_judged
returns c =
    let s = c.in-Some.ensures.lookup.0 in
    let j = c.judge.ensures ∙ ap (λ b. judged (judge_body c.args.e b)) s.2 in
    let m = mapped 10 c.judge.result c.map_err.result _ c.map_err.ensures.cases (λ f g k. search rules) in
    let k = told_good _ _ (sym j ∙ moved_ok 10 c.judge.result _ (sym m ∙ c.in_ok-map_err.was)) in
    record_judged c.args.e c.args.t.now c.head_at-h.result c.head_at-h.ensures (omega (arith, s.1)) (omega (arith, s.1)) (sym c.number_ok.ensures ∙ not-false c.number_ok.result c.if-not-number_ok.false-raw) _ k.1
