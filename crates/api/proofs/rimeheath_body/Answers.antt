-- A refused body leaves what is lent; any other is told by its numbers and its text.
-- Assumes nothing.
use mathlib.Core.Path.{sym, ◌∙◌}
use native.Mathlib.Omega.{arith}
use Rattle.body.proofs.Places.{judged_small}
use Rattle.api.proofs.Bodies.{body_refused, body_told}
use Rattle.api.proofs.rimeheath_body.Goals as goal

pub with_offset-requires : goal.with_offset-requires
with_offset-requires c = omega (arith, judged_small _ c.args.b.now _ (sym c.in-Err.is ∙ c.judge_body.ensures))

pub returns-in-Err : goal.returns-in-Err
returns-in-Err c = rw (← c.from-e.ensures) (body_refused _ _ _ _ _ c.judge_body.ensures _ c.in-Err.is _ c.with_offset.ensures)

pub returns-in-Ok : goal.returns-in-Ok
returns-in-Ok c = rw (← c.from-e.ensures) (body_told _ _ _ _ _ c.judge_body.ensures _ c.in-Ok.is _ _ c.fields_of.ensures c.text_of.ensures)
