-- The count so far and the used entries among those left make the whole count; each turn takes one entry off.
-- Assumes nothing.
use Rattle.std.proofs.Common.{arith, ◌≡◌, true, false, [], get_or, ap, ◌∙◌}
use Rattle.facts.proofs.CountLaws.{count_yes, count_no, count_end}
use Rattle.symbols.specs.Entries.{used}
use Rattle.symbols.specs.Find.{count_used}
use Rattle.symbols.proofs.count_used.Goals as goal
use Rattle.symbols.proofs.count_used.Goals.{then-is_used, else-is_used}

pub loop-e-init : goal.loop-e-init
unfolding count_used
loop-e-init c = record { few = omega arith; counted = omega arith }

pub loop-e-preserved : goal.loop-e-preserved
loop-e-preserved c =
    let es = c.whole_entries-e-items.result.now in
    let l = c.loop-e in
    elim c.if-is_used.branch [
      | then-is_used w ↦
          let e : used (get_or es l.e-index []) ≡ true = cc w.if-is_used.true in
          record { few = omega arith; counted = omega (arith, l.invariant.counted, count_yes used es l.e-index [] c.loop-e-test.true e) }
      | else-is_used w ↦
          let e : used (get_or es l.e-index []) ≡ false = cc w.if-is_used.false in
          record { few = omega arith; counted = omega (arith, l.invariant.counted, count_no used es l.e-index [] c.loop-e-test.true e) }
    ]

pub returns : goal.returns
returns c =
    let es = c.whole_entries-e-items.result.now in
    let n : c.loop-e.count ≡ count_used es = omega (arith, c.loop-e.invariant.counted, count_end used es c.loop-e.e-index c.loop-e-test.false) in
    n ∙ ap count_used c.whole_entries-e-items.ensures
