-- A walk that ends at an empty slot or at the order's row ends where the search does.
-- Assumes nothing.
use Rattle.std.proofs.Common.{arith, ℕ, ◌%◌, sym, ap, ◌∙◌}
use Rattle.std.specs.Prelude.{Some}
use Rattle.std.proofs.lemmas.Grind.{common_steps}
use Rattle.facts.specs.Pick.{either}
use Rattle.rows.specs.Rows.{rows}
use Rattle.index.proofs.Cases.{look_nowhere, look_empty, look_row}
use Rattle.index.proofs.find.Goals as goal

pub returns-in_err-p : goal.returns-in_err-p
unfolding either
returns-in_err-p c = c.from_residual.ensures ∙ sym (look_nowhere _ c.args.ix.now c.args.id (rows c.args.t.now) (λ s b k. grind (arith, common_steps)) c.in_err-p.ensures)

pub returns-then-s-eq0 : goal.returns-then-s-eq0
unfolding either
returns-then-s-eq0 c = sym (look_empty _ c.args.ix.now c.args.id (rows c.args.t.now) (λ s b k. grind (arith, common_steps)) c.in_ok-p.p c.in_ok-p.ensures (omega (arith, c.word-s.ensures)))

pub returns-else-s-eq0 : goal.returns-else-s-eq0
unfolding either
returns-else-s-eq0 c = ap (λ (n : ℕ). Some (n % 65536)) c.word-s.ensures ∙ sym (look_row _ c.args.ix.now c.args.id (rows c.args.t.now) (λ s b k. grind (arith, common_steps)) c.in_ok-p.p c.in_ok-p.ensures (λ e. c.if-s-eq0.false (c.word-s.ensures ∙ e)))
