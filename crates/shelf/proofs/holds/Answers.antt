-- Number, length and bytes decide in the order of same_slot.
-- Assumes nothing.
use mathlib.Core.Path.{◌∙◌, sym}
use borrow.Author.Tests.{eqb-true, eq-eqb}
use Rattle.shelf.proofs.Laws.{other_number, other_length, bytes_decide}
use Rattle.shelf.proofs.holds.Goals as goal
use Rattle.shelf.proofs.holds.Goals.{then-at-number, else-at-number}

pub returns-then-at-body : goal.returns-then-at-body
returns-then-at-body c =
    let a = c.args in
    let x = c.slot-x in
    elim c.if-at-number.branch [
      | then-at-number w ↦
          let n = sym c.at.ensures ∙ w.if-at-number.true in
          let l = sym w.at-then-at-number.ensures ∙ eqb-true _ _ (sym w.value-is ∙ c.if-at-body.true) in
          c.same_bytes.ensures ∙ bytes_decide a.s.now a.i x.result.now x.ensures a.number a.body.now n l
      | else-at-number w ↦ absurd (w.if-at-number.false (eqb-true _ _ (sym w.value-is ∙ c.if-at-body.true)))
    ]

pub returns-else-at-body : goal.returns-else-at-body
returns-else-at-body c =
    let a = c.args in
    let x = c.slot-x in
    elim c.if-at-number.branch [
      | then-at-number w ↦
          c.if-at-body.false ∙ other_length a.s.now a.i x.result.now x.ensures a.number a.body.now (sym c.at.ensures ∙ w.if-at-number.true)
          (λ e. let t = eq-eqb _ _ (w.at-then-at-number.ensures ∙ e) in cc)
      | else-at-number w ↦ c.if-at-body.false ∙ other_number a.s.now a.i x.result.now x.ensures a.number a.body.now (λ e. w.if-at-number.false (c.at.ensures ∙ e))
    ]
