-- Where a number does not fit, the draft is refused with 4; else the body is there in front of zeros, and its judgement is the draft's.
-- Assumes nothing.
use mathlib.Core.Path.{ap, subst, ◌∙◌, sym}
use mathlib.Core.List.{List}
use Prim.Native.Nat.{ℕ}
use borrow.Author.Tests.{not-true, not-false}
use Rattle.numbers.specs.Drafts.{held_draft, draft_from}
use Rattle.numbers.proofs.Drafts.{draft_fit}
use Rattle.numbers.proofs.Held.{unfit, HeldInFront, held, held_padded}
use Rattle.numbers.proofs.draft_of.Goals as goal

pub returns-then-not-fits : goal.returns-then-not-fits
returns-then-not-fits c = unfit c.args.e c.kind_in-k.result c.args.n.now c.args.t.now (sym (c.fits.ensures c.args.t.now (c.fits-t 27)) ∙ not-true _ c.if-not-fits.true-raw) ∙ ap (λ k. draft_from c.args.e k c.args.n.now c.args.t.now) c.kind_in-k.ensures

pub body_from-requires : goal.body_from-requires
body_from-requires c = draft_fit c.args.e c.kind_in-k.result c.args.n.now c.args.t.now (sym (c.fits.ensures c.args.t.now (c.fits-t 27)) ∙ not-false _ c.if-not-fits.false-raw)

pub judged-requires : goal.judged-requires
judged-requires c = subst (λ (w : List ℕ). HeldInFront w) (sym c.body_from.ensures) (held_padded c.args.e c.kind_in-k.result c.args.n.now c.args.t.now (sym (c.fits.ensures c.args.t.now (c.fits-t 27)) ∙ not-false _ c.if-not-fits.false-raw))

pub returns : goal.returns
returns c = c.judged.ensures ∙ (ap (held_draft c.args.e) c.body_from.ensures ∙ (held c.args.e c.kind_in-k.result c.args.n.now c.args.t.now (sym (c.fits.ensures c.args.t.now (c.fits-t 27)) ∙ not-false _ c.if-not-fits.false-raw) ∙ ap (λ k. draft_from c.args.e k c.args.n.now c.args.t.now) c.kind_in-k.ensures))
