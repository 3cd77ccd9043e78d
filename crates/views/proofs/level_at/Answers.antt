-- What was added up so far and what the rows left add up to make the whole sums; each turn takes one row off. A table of good size bounds both.
-- Assumes nothing.
use mathlib.Core.Path.{◌≡◌, sym, ap, ◌∙◌}
use mathlib.Core.Bool.{true, false}
use native.Mathlib.Omega.{arith}
use lib.ListN.{get_or}
use Rattle.facts.specs.Sums.{sum_by, count_by}
use Rattle.facts.proofs.SumLaws.{only_yes, only_no}
use Rattle.rows.specs.declared.Row.{Row}
use Rattle.rows.specs.Rows.{rows, zero_row}
use Rattle.rows.proofs.Walks.{sum_row, sum_past, count_yes, count_no, count_past}
use Rattle.views.specs.Ladder.{at_price, size_at, level_of}
use Rattle.views.specs.declared.Level.{Level}
use Rattle.views.proofs.Laws.{shares_fit, orders_fit}
use Rattle.views.proofs.level_at.Goals as goal
use Rattle.views.proofs.level_at.Goals.{then-at_price, else-at_price}

pub overflow_add-level : goal.overflow_add-level
overflow_add-level c =
    let a = c.args in
    let l = c.loop-i in
    let r = get_or (rows a.t.now) l.i zero_row in
    let y : at_price a.key a.price r ≡ true = ap (at_price a.key a.price) (sym c.row_at-r.ensures) ∙ (sym c.at_price.ensures ∙ c.if-at_price.true) in
    let z : c.row_at-r.result.size ≡ r.size = ap (λ (r : Row). r.size) c.row_at-r.ensures in
    let s = sum_row (size_at a.key a.price) a.t.now l.i (omega arith) in
    let o = only_yes (at_price a.key a.price) (λ r. r.size) r y in
    omega (arith, shares_fit a.key a.price a.t.now c.requires, l.invariant.shared)

pub overflow_add-level-then-at_price : goal.overflow_add-level-then-at_price
overflow_add-level-then-at_price c =
    let a = c.args in
    let l = c.loop-i in
    let y : at_price a.key a.price (get_or (rows a.t.now) l.i zero_row) ≡ true = ap (at_price a.key a.price) (sym c.row_at-r.ensures) ∙ (sym c.at_price.ensures ∙ c.if-at_price.true) in
    omega (arith, count_yes (at_price a.key a.price) a.t.now l.i (omega arith) y, orders_fit a.key a.price a.t.now c.requires, l.invariant.counted)

pub loop-i-preserved : goal.loop-i-preserved
loop-i-preserved c =
    let a = c.args in
    let l = c.loop-i in
    let p = at_price a.key a.price in
    let r = get_or (rows a.t.now) l.i zero_row in
    let z : c.row_at-r.result.size ≡ r.size = ap (λ (r : Row). r.size) c.row_at-r.ensures in
    let s = sum_row (size_at a.key a.price) a.t.now l.i (omega arith) in
    elim c.if-at_price.branch [
      | then-at_price w ↦
          let y : p r ≡ true = ap p (sym c.row_at-r.ensures) ∙ (sym c.at_price.ensures ∙ w.if-at_price.true) in
          let o = only_yes p (λ r. r.size) r y in
          record {
            all = l.invariant.all;
            same = ap (λ (x : Level). x.price) w.level-is ∙ l.invariant.same;
            shared = omega (arith, l.invariant.shared, ap (λ (x : Level). x.shares) w.level-is);
            counted = omega (arith, l.invariant.counted, ap (λ (x : Level). x.orders) w.level-is, count_yes p a.t.now l.i (omega arith) y);
          }
      | else-at_price w ↦
          let y : p r ≡ false = ap p (sym c.row_at-r.ensures) ∙ (sym c.at_price.ensures ∙ w.if-at_price.false) in
          let o = only_no p (λ r. r.size) r y in
          record {
            all = l.invariant.all;
            same = ap (λ (x : Level). x.price) w.level-is ∙ l.invariant.same;
            shared = omega (arith, l.invariant.shared, ap (λ (x : Level). x.shares) w.level-is);
            counted = omega (arith, l.invariant.counted, ap (λ (x : Level). x.orders) w.level-is, count_no p a.t.now l.i (omega arith) y);
          }
    ]

pub returns : goal.returns
unfolding level_of
returns c =
    let a = c.args in
    let l = c.loop-i in
    let s : l.level.shares ≡ sum_by (size_at a.key a.price) (rows a.t.now) = omega (arith, l.invariant.shared, sum_past (size_at a.key a.price) a.t.now l.i (omega arith)) in
    let o : l.level.orders ≡ count_by (at_price a.key a.price) (rows a.t.now) = omega (arith, l.invariant.counted, count_past (at_price a.key a.price) a.t.now l.i (omega arith)) in
    λ i. record { price = l.invariant.same i; shares = s i; orders = o i }
