-- The part of row i, filled with its five numbers, is the piece put in place; without such a row the table stays as it is.
-- Assumes nothing.
use Rattle.std.proofs.Common.{arith, ◌≡◌, ◌<◌, ◌+◌, ◌*◌, ◌-◌, sym, ◌∙◌}
use Rattle.facts.proofs.TableLaws.{part_put}
use Rattle.rows.specs.Rows.{row_count, numbers_of, put_row}
use Rattle.rows.proofs.Tables.{length_numbers, put_row_past}
use Rattle.rows.proofs.put_row.Goals as goal

pub returns-then-i-row_count : goal.returns-then-i-row_count
unfolding put_row
returns-then-i-row_count c =
    let a = c.args in
    let h : a.i < row_count a.t.now = omega arith in
    let e : 5 * a.i + 5 - 5 * a.i ≡ 5 = omega arith in
    let s = c.copy_from_slice.ensures.after ∙ c.from.ensures in
    rw e (rw s (part_put 5 a.t.now a.i (numbers_of a.r) h (length_numbers a.r)))

pub returns-else-i-row_count : goal.returns-else-i-row_count
returns-else-i-row_count c = let a = c.args in sym (put_row_past a.t.now a.i a.r (omega arith))
