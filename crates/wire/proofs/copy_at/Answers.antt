-- Nothing is there (zeros_alone), all of it is (part_there), or its front, with zeros behind (front_and_zeros).
-- Assumes nothing.
use mathlib.Core.Path.{sym, ◌∙◌}
use Prim.Native.Nat.{◌-◌}
use native.Mathlib.Omega.{arith}
use lib.ListN.{length, drop, length-drop}
use lib.Seq.{length-take-le}
use Rattle.wire.proofs.Laws.{part_there, front_and_zeros, zeros_alone, zeros_room}
use Rattle.wire.proofs.copy_at.Goals as goal

pub returns-then-b-at : goal.returns-then-b-at
returns-then-b-at c = c.wipe.ensures ∙ zeros_alone c.args.b.now c.args.at (length c.args.out.now) c.if-b-at.true

pub returns-then-n-k : goal.returns-then-n-k
returns-then-n-k c = c.copy_from_slice.ensures.after ∙ part_there c.args.b.now c.args.at (length c.args.out.now) (omega arith)

pub copy-requires : goal.copy-requires
copy-requires c = length-take-le (length c.args.b.now - c.args.at) (drop c.args.at c.args.b.now) (rw length-drop (omega arith)) ∙ sym (zeros_room (length c.args.out.now) (length c.args.b.now - c.args.at) _ (omega arith) c.wipe-2.ensures)

pub returns : goal.returns
returns c = front_and_zeros c.args.b.now c.args.at (length c.args.out.now) _ _ (omega arith) (omega arith) c.wipe-2.ensures c.copy.ensures
