-- The message is refused by what its judge says (judged_so).
-- Assumes nothing.
use mathlib.Core.Path.{ap, ◌∙◌}
use Prim.Native.Nat.{ℕ}
use Rattle.std.proofs.Common.{rules}
use Rattle.writer.specs.Append.{appended, appended_as}
use Rattle.writer.proofs.Numbers.{told_number, mapped, judged_so, numbered}
use Rattle.writer.proofs.append.Goals as goal

pub append_as-requires : goal.append_as-requires
append_as-requires c =
    let e = mapped c.judge.result c.map_err-message.result _ c.map_err-message.ensures.cases (λ f r k. search rules) in
    (numbered _ _ (judged_so c.args.e c.args.body.now c.map_err-message.result (e ∙ ap told_number c.judge.ensures))).1

pub returns : goal.returns
unfolding appended
returns c =
    let e = mapped c.judge.result c.map_err-message.result _ c.map_err-message.ensures.cases (λ f r k. search rules) in
    c.append_as.ensures
    ∙ ap (λ (k : ℕ). appended_as c.args.e k c.args.memory.now c.args.used c.args.number c.args.body.now) (numbered _ _ (judged_so c.args.e c.args.body.now c.map_err-message.result (e ∙ ap told_number c.judge.ensures))).0
