-- The count so far and the live rows among those left make the whole count; each turn takes one row off.
-- Assumes nothing.
use Rattle.std.proofs.Common.{arith, ◌≡◌, ◌+◌, ◌<◌, ◌≤◌, ℕ, List, [], true, false, length, get_or, drop, map, ap, sym, ◌∙◌}
use Rattle.std.proofs.Math.ListN.{get_or-map, length-map}
use Rattle.facts.specs.Sums.{count_by}
use Rattle.facts.proofs.CountLaws.{count_yes, count_no, count_end}
use Rattle.rows.specs.Rows.{row_of, live}
use Rattle.rows.specs.Find.{count_live}
use Rattle.rows.proofs.Judged.{not_live}
use Rattle.rows.proofs.count_live.Goals as goal
use Rattle.rows.proofs.count_live.Goals.{then-is_live, else-is_live}

module _ (xs : List (List ℕ)) (i : ℕ) where
  counted : i < length xs → live (row_of (get_or xs i [])) ≡ true → count_by live (drop i (map row_of xs)) ≡ 1 + count_by live (drop (i + 1) (map row_of xs))
  counted h e = count_yes live (map row_of xs) i (row_of []) (rw length-map h) (ap live (get_or-map row_of xs i []) ∙ e)

  passed : i < length xs → live (row_of (get_or xs i [])) ≡ false → count_by live (drop i (map row_of xs)) ≡ count_by live (drop (i + 1) (map row_of xs))
  passed h e = count_no live (map row_of xs) i (row_of []) (rw length-map h) (ap live (get_or-map row_of xs i []) ∙ e)

  ended : length xs ≤ i → count_by live (drop i (map row_of xs)) ≡ 0
  ended h = count_end live (map row_of xs) i (rw length-map h)

pub loop-x-init : goal.loop-x-init
unfolding count_live
loop-x-init c = record { few = omega arith; counted = omega arith }

pub loop-x-preserved-then-r-eq0 : goal.loop-x-preserved-then-r-eq0
loop-x-preserved-then-r-eq0 c =
    let l = c.loop-x in
    let e : live c.from-r.result ≡ false = sym (not_live c.from-r.result (λ g. omega (arith, g.ranked))) in
    record { few = omega arith; counted = omega (arith, l.invariant.counted, passed c.whole_rows-x-items.result.now l.x-index c.loop-x-test.true (ap live (sym c.from-r.ensures) ∙ e)) }

pub loop-x-preserved : goal.loop-x-preserved
loop-x-preserved c =
    let l = c.loop-x in
    let xs = c.whole_rows-x-items.result.now in
    let p = ap live (sym c.from-r.ensures) ∙ sym c.is_live.ensures in
    elim c.if-is_live.branch [
      | then-is_live w ↦ record { few = omega arith; counted = omega (arith, l.invariant.counted, counted xs l.x-index c.loop-x-test.true (p ∙ w.if-is_live.true)) }
      | else-is_live w ↦ record { few = omega arith; counted = omega (arith, l.invariant.counted, passed xs l.x-index c.loop-x-test.true (p ∙ w.if-is_live.false)) }
    ]

pub returns : goal.returns
returns c =
    let xs = c.whole_rows-x-items.result.now in
    let n : c.loop-x.count ≡ count_live (map row_of xs) = omega (arith, c.loop-x.invariant.counted, ended xs c.loop-x.x-index c.loop-x-test.false) in
    n ∙ ap count_live c.whole_rows-x-items.ensures
