-- The loop keeps: the turns that are left, from here, give the end of all of them.
-- Assumes nothing.
use mathlib.Core.Path.{◌≡◌}
use Prim.Native.Nat.{◌+◌, ◌-◌, ◌≤◌}
use Rattle.arbitration.specs.Receive.{drain as drained}
use Rattle.shelf.specs.Store.{shelf_store}
use Rattle.receiver.specs.Lent.{ledger_engine}
use Rattle.receiver.specs.AtWork.{Kept, rx_of}
use Rattle.receiver.proofs.at_work.Receiver.drain.Given as goal

abbrev pub invariant-loop : goal.invariant-loop
invariant-loop l = record {
  kept : Kept l.initial.self l.self;
  next : l.self.next ≤ l.initial.self.next + l.counter;
  same : drained shelf_store (ledger_engine l.initial.self.edition) (l.turns - l.counter) (rx_of l.self) ≡ drained shelf_store (ledger_engine l.initial.self.edition) l.turns (rx_of l.initial.self);
}
