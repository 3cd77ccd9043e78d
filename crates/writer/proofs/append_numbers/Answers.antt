-- The first bytes of a good draft are the body, and of a refused one none counts (drafted, undrafted).
-- Assumes nothing.
use mathlib.Core.Path.{refl, sym, ap, ◌∙◌}
use Prim.Native.Nat.{ℕ}
use Rattle.facts.specs.Pick.{pick}
use Rattle.writer.specs.Append.{appended_as}
use Rattle.writer.proofs.Numbers.{drafted, undrafted, refused_so, numbered}
use Rattle.writer.proofs.append_numbers.Goals as goal

pub append_as-requires : goal.append_as-requires
unfolding pick
append_as-requires c = refl

pub append_as-requires-in-Err : goal.append_as-requires-in-Err
append_as-requires-in-Err c = (numbered _ _ (refused_so c.args.e c.args.n.now c.args.t.now _ (sym c.in-Err.is ∙ c.draft_of.ensures))).1

pub returns-in-Ok : goal.returns-in-Ok
returns-in-Ok c = c.append_as.ensures ∙ ap (appended_as c.args.e 0 c.args.memory.now c.args.used c.args.number) c.body.ensures ∙ drafted c.args.e c.args.n.now c.args.t.now c.in-Ok.d (sym c.in-Ok.is ∙ c.draft_of.ensures) c.args.memory.now c.args.used c.args.number

pub returns-in-Err : goal.returns-in-Err
returns-in-Err c =
    let q = sym c.in-Err.is ∙ c.draft_of.ensures in
    c.append_as-in-Err.ensures
    ∙ ap (λ (k : ℕ). appended_as c.args.e k c.args.memory.now c.args.used c.args.number _) (numbered _ _ (refused_so c.args.e c.args.n.now c.args.t.now _ q)).0
    ∙ undrafted c.args.e c.args.n.now c.args.t.now c.args.memory.now c.args.used c.args.number _ q _
