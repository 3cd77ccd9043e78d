-- Each way out is one test of own_number that failed, those before it having held.
-- Assumes nothing.
use mathlib.Core.Path.{sym, ap, ◌∙◌}
use Prim.Native.Nat.{◌+◌}
use native.Mathlib.Omega.{arith}
use borrow.Author.Tests.{not-true, not-false}
use Rattle.fields.specs.declared.Refusal.{Refusal}
use Rattle.std.specs.Prelude.{Err}
use Rattle.std.proofs.lemmas.Result.{err_from_is_err_and}
use Rattle.writer.specs.Append.{message_number}
use Rattle.writer.proofs.Laws.{unless_ok, unless_err, is_refused, is_allowed, bad_number, bad_message, over_long, no_room, none_refuses}
use Rattle.writer.proofs.allowed.Goals as goal

pub returns-then-not-number_ok : goal.returns-then-not-number_ok
returns-then-not-number_ok c = is_refused 5 _ (bad_number (message_number c.args.message) c.args.number c.args.room (c.args.used + (10 + c.args.n)) (sym c.number_ok.ensures ∙ not-true c.number_ok.result c.if-not-number_ok.true-raw)) (λ z. omega arith)

pub returns-in_err-message : goal.returns-in_err-message
returns-in_err-message c =
    let p = err_from_is_err_and c.from_residual.result c.from_residual.ensures.1 in
    let q = unless_err (message_number c.args.message) _ (sym c.requires ∙ c.in_err-message.was) in
    p.1 ∙ ap (λ (r : Refusal). Err r) (p.2 ∙ q.1) ∙ is_refused _ _ (bad_message (message_number c.args.message) c.args.number c.args.room (c.args.used + (10 + c.args.n)) (sym c.number_ok.ensures ∙ not-false c.number_ok.result c.if-not-number_ok.false-raw) q.0) q.0

pub returns-then-not-room_for : goal.returns-then-not-room_for
returns-then-not-room_for c = is_refused 1 _ (over_long (message_number c.args.message) c.args.number c.args.room (c.args.used + (10 + c.args.n)) (sym c.number_ok.ensures ∙ not-false c.number_ok.result c.if-not-number_ok.false-raw) (unless_ok (message_number c.args.message) _ (sym c.requires ∙ c.in_ok-message.was)) (sym c.room_for.ensures ∙ not-true c.room_for.result c.if-not-room_for.true-raw)) (λ z. omega arith)

pub returns-then-not-room_for-2 : goal.returns-then-not-room_for-2
returns-then-not-room_for-2 c = is_refused 32 _ (no_room (message_number c.args.message) c.args.number c.args.room (c.args.used + (10 + c.args.n)) (sym c.number_ok.ensures ∙ not-false c.number_ok.result c.if-not-number_ok.false-raw) (unless_ok (message_number c.args.message) _ (sym c.requires ∙ c.in_ok-message.was)) (sym c.room_for.ensures ∙ not-false c.room_for.result c.if-not-room_for.false-raw) (sym c.room_for-2.ensures ∙ not-true c.room_for-2.result c.if-not-room_for-2.true-raw)) (λ z. omega arith)

pub returns : goal.returns
returns c = is_allowed _ (none_refuses (message_number c.args.message) c.args.number c.args.room (c.args.used + (10 + c.args.n)) (sym c.number_ok.ensures ∙ not-false c.number_ok.result c.if-not-number_ok.false-raw) (unless_ok (message_number c.args.message) _ (sym c.requires ∙ c.in_ok-message.was)) (sym c.room_for.ensures ∙ not-false c.room_for.result c.if-not-room_for.false-raw) (sym c.room_for-2.ensures ∙ not-false c.room_for-2.result c.if-not-room_for-2.false-raw))
