-- What was added up so far and what the rows left add up to make the whole sums; each turn takes one row off. A table of good size bounds both.
-- Assumes nothing.
use mathlib.Core.Path.{◌≡◌}
use Prim.Native.Nat.{◌+◌}
use lib.ListN.{drop}
use Rattle.facts.specs.Sums.{sum_by, count_by}
use Rattle.rows.specs.Rows.{rows, row_count}
use Rattle.views.specs.Ladder.{at_price, size_at}
use Rattle.views.proofs.level_at.Given as goal

abbrev pub invariant-loop-i : goal.invariant-loop-i
invariant-loop-i l = record {
  all : l.i-end ≡ row_count l.t;
  same : l.level.price ≡ l.price;
  shared : sum_by (size_at l.key l.price) (rows l.t) ≡ l.level.shares + sum_by (size_at l.key l.price) (drop l.i (rows l.t));
  counted : count_by (at_price l.key l.price) (rows l.t) ≡ l.level.orders + count_by (at_price l.key l.price) (drop l.i (rows l.t));
}
