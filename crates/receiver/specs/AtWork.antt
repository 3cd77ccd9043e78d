-- A receiver at work on a packet: what the steps of its code keep and make, in the words of the theory. No public contract speaks of these.
use Rattle.std.specs.Prelude.{◌≡◌, ◌≤◌, true}
use Rattle.editions.specs.declared.Edition.{Edition}
use Rattle.wire.specs.Records.{Rec}
use Rattle.body.specs.Read.{good_body}
use Rattle.arbitration.specs.Lists.{Bounded}
use Rattle.arbitration.specs.Receive.{shelved}
use Rattle.arbitration.specs.Loops.{Working}
use Rattle.arbitration.specs.declared.Counts.{Counts}
use Rattle.shelf.specs.Store.{shelf_store}
use Rattle.receiver.specs.Lent.{ledger_engine, Rx, rx}
use Rattle.receiver.specs.declared.at_work.Receiver.{Receiver}

-- what every step leaves as it is: which slices are lent, and the edition
pub record Kept (w w' : Receiver) : Type 0 where
  pub orders : w'.orders.ghost_name ≡ w.orders.ghost_name
  pub symbols : w'.symbols.ghost_name ≡ w.symbols.ghost_name
  pub shelf : w'.shelf.ghost_name ≡ w.shelf.ghost_name
  pub index : w'.index.ghost_name ≡ w.index.ghost_name
  pub edition : w'.edition ≡ w.edition

-- what is known of a record of a good packet
pub record Good (ed : Edition) (c : Rec) : Type 0 where
  pub number_from : 1 ≤ c.number
  pub bounded : Bounded c
  pub body_good : good_body ed c.body ≡ true

-- where it stands
abbrev pub rx_of : Receiver → Rx
rx_of w = rx w.next w.clock w.orders.now w.symbols.now w.shelf.now w.index.now

-- with a record on the shelf
abbrev pub laid : Rec → Receiver → Rx
laid c w = shelved shelf_store (ledger_engine w.edition) c (rx_of w)

-- the work of a packet: where it stands, and the answers so far
abbrev pub working_of : (ed : Edition) → Receiver → Counts → Working shelf_store (ledger_engine ed)
working_of ed w t = record { rx = rx_of w; counts = t }
