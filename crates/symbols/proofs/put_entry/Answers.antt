-- A copy of the body into the part of an entry is the entry put in place (entry_written); without such an entry the table stays as it is.
-- Assumes nothing.
use Rattle.std.proofs.Common.{arith, sym}
use Rattle.symbols.proofs.EntryLaws.{entry_fits, entry_written, put_entry_past}
use Rattle.symbols.proofs.put_entry.Goals as goal

pub overflow_mul-b : goal.overflow_mul-b
overflow_mul-b c = omega (arith, entry_fits c.args.t.now c.args.i (omega arith))

pub overflow_add-b : goal.overflow_add-b
overflow_add-b c = omega (arith, entry_fits c.args.t.now c.args.i (omega arith))

pub slice_bounds-copy_at-end : goal.slice_bounds-copy_at-end
slice_bounds-copy_at-end c = omega (arith, entry_fits c.args.t.now c.args.i (omega arith))

pub returns-then-i-entry_count : goal.returns-then-i-entry_count
returns-then-i-entry_count c = let a = c.args in entry_written a.t.now a.i a.body.now c.copy_at.new.out (omega arith) c.copy_at.ensures

pub returns-else-i-entry_count : goal.returns-else-i-entry_count
returns-else-i-entry_count c = let a = c.args in sym (put_entry_past a.t.now a.i a.body.now (omega arith))
