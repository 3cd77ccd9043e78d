-- "records from the front" (document 01, "Refused, and what is left"), for laws about a packet's first fault.
use Rattle.std.specs.Prelude.{ℕ, ◌+◌, ◌<◌, ◌≡◌, List, length, drop, Ok}
use Rattle.editions.specs.declared.Edition.{Edition}
use Rattle.packet.specs.Record.{read_record}
use Rattle.packet.specs.declared.Head.{Head}

-- the places of a packet that are reached from the front over good records alone
pub data Reached (ed : Edition) (p : List ℕ) : ℕ → Type 0 where
  at_front : Reached ed p 0
  past_good : (at : ℕ) (h : Head) → Reached ed p at → at < length p → read_record ed (drop at p) ≡ Ok h → Reached ed p (at + (10 + h.len))
