-- The loop keeps: the records that are left, from here, give the end of all of them.
-- Assumes nothing.
use mathlib.Core.Path.{◌≡◌}
use Prim.Native.Nat.{◌+◌, ◌*◌, ◌≤◌}
use lib.ListN.{length}
use Rattle.facts.specs.Limits.{packet_most}
use Rattle.arbitration.specs.Lists.{Every}
use Rattle.arbitration.specs.Receive.{no_counts}
use Rattle.arbitration.specs.Loops.{work as work_all, total}
use Rattle.shelf.specs.Store.{shelf_store}
use Rattle.receiver.specs.Lent.{ledger_engine}
use Rattle.receiver.specs.AtWork.{Kept, Good, working_of}
use Rattle.receiver.specs.Lying.{lying}
use Rattle.receiver.proofs.at_work.Receiver.work.Given as goal

abbrev pub invariant-loop-r : goal.invariant-loop-r
invariant-loop-r l =
    record {
      kept : Kept l.initial.self l.self;
      next : l.self.next + 64 * length (lying l.r-iterator.rest.now) ≤ l.initial.self.next + 64 * packet_most;
      few : total l.counts + length (lying l.r-iterator.rest.now) ≤ packet_most;
      good : Every (Good l.initial.self.edition) (lying l.r-iterator.rest.now);
      same : work_all shelf_store (ledger_engine l.initial.self.edition) (lying l.r-iterator.rest.now) (working_of l.initial.self.edition l.self l.counts) ≡ work_all shelf_store (ledger_engine l.initial.self.edition) (lying l.p) (working_of l.initial.self.edition l.initial.self no_counts);
    }
