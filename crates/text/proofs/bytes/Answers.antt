-- Inside the buffer as much of s as it reaches is copied; past its end nothing changes, as a store there changes nothing.
-- Assumes nothing.
use Prim.Native.Nat.{◌+◌, ◌-◌}
use mathlib.Core.Path.{◌≡◌, sym}
use native.Mathlib.Omega.{arith}
use borrow.Author.Rules.{rules}
use Rattle.facts.proofs.Stores.{sets_past}
use Rattle.text.proofs.Laws.{sets_reach}
use Rattle.text.proofs.bytes.Goals as goal
use Rattle.text.proofs.bytes.Goals.{then-at-buf, else-at-buf}

pub returns : goal.returns
returns c = record {
  bytes =
      elim c.if-at-buf.branch [
        | then-at-buf w ↦
            let n = w.min-n.result in
            let k : c.args.at + n - c.args.at ≡ n = omega arith in
            rw (w.buf-is, k, w.copy_from_slice.ensures.after) (sets_reach _ _ _ n (omega arith) w.min-n.ensures)
        | else-at-buf w ↦ rw w.buf-is (sym (sets_past c.args.s.now c.args.buf.now c.args.at w.if-at-buf.false))
      ];
  end = omega arith;
  lent = search rules;
}
