-- Request 2 over the receiver: copies that differ from the list's messages in undefined bits of a Modify's flags. Those that do differ are no true copies, so demand 3
-- as document 00 has it does not speak of them; its two halves and the agreement of two receivers are proved of these too.
use Rattle.std.specs.Prelude.{ℕ, ◌≤◌, List, length}
use Rattle.editions.specs.declared.Edition.{Edition}
use Rattle.wire.specs.Records.{Rec}
use Rattle.body.specs.Read.{good_body}
use Rattle.body.specs.Undefined.{ButForBits}
use Rattle.packet.specs.Packet.{framing}
use Rattle.arbitration.specs.Receive.{accepted}
use Rattle.arbitration.specs.Lists.{Every, msg, WellFormed}
use Rattle.receiver.specs.Demand3.{Started}
use Rattle.receiver.specs.Lent.{plain, Lent, plain_of, zero_book}
use Rattle.receiver.specs.Chosen.{Begins}

-- a copy of the list's message but for those bits
pub record BitCopy (ed : Edition) (ms : List (List ℕ)) (c : Rec) : Type 0 where
  pub in_list : c.number ≤ length ms
  pub same : ButForBits ed (msg ms c.number) c.body

-- what demand 3 is given (`Given` of Demand3), with such copies in the place of true ones
pub record GivenBits (ed : Edition) (ms : List (List ℕ)) (o s : ℕ) (k0 : Lent) (ps : List (List ℕ)) : Type 0 where
  pub well_formed : WellFormed (good_body ed) ms
  pub started : Started (plain ed) (zero_book o s) (plain_of k0)
  pub chosen : Begins ed k0
  pub copies : Every (BitCopy ed ms) (accepted (framing ed) ps)
