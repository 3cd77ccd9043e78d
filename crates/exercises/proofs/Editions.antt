-- Witnesses that request 10 speaks of something: document 01's Symbol Update with its E has a letter; with a zero in that byte it is good in 1.3.b and has none; and behind the example's System Time
-- it makes a packet that is good in 1.3.b and refused in 1.3, at that byte. All of it computes.
-- Assumes nothing.
use Prim.Native.Nat.{ℕ}
use mathlib.Core.Path.{◌≡◌, refl}
use mathlib.Core.List.{List, [], ◌∷◌, ◌++◌}
use native.Mathlib.Omega.{arith}
use Rattle.facts.specs.Pick.{pick, both, either}
use Rattle.editions.specs.declared.Edition.{Edition}
use Rattle.wire.specs.Le.{le, to_le, field}
use Rattle.wire.specs.Records.{rec, records}
use Rattle.kinds.specs.Table as kinds
use Rattle.body.specs.Ranges as ranges
use Rattle.body.specs.Faults as faults
use Rattle.body.specs.Read as read
use Rattle.body.specs.Editions.{Lettered, Unlettered}
use Rattle.packet.specs.Record as head
use Rattle.packet.specs.Packet as packet
use Rattle.packet.specs.Front.{at_front, past_good}
use Rattle.packet.specs.Editions.{TypeRefused}
use Rattle.exercises.specs.Messages as messages

-- the Symbol Update, with a byte x at 20
abbrev update_with : ℕ → List ℕ
update_with x = messages.symbol_update 7 messages.abc x 100

pub lettered_met : Lettered (update_with messages.letter_e)
unfolding messages.symbol_update to_le pick either kinds.kind_of ranges.one_of ranges.security_ok
lettered_met = record { update = refl; letter = refl }

pub unlettered_met : Unlettered (update_with 0)
unfolding messages.symbol_update to_le pick either kinds.kind_of ranges.one_of ranges.security_ok
unlettered_met = record { update = refl; no_letter = refl }

-- the example's first message and the update without a letter, in one packet
abbrev both_sent : List ℕ
both_sent = messages.numbered 1 (messages.system_time 34200) ++ messages.numbered 2 (update_with 0)

pub reserved_taken : packet.framing Edition.V13b both_sent ≡ records (rec 1 (messages.system_time 34200) ∷ rec 2 (update_with 0) ∷ [])
unfolding messages.numbered messages.system_time messages.symbol_update pick both either le to_le field
    kinds.table kinds.lookup kinds.length_of kinds.kind_of
    ranges.nanos_ok ranges.one_of ranges.security_ok ranges.test_ok ranges.market_ok
    faults.fault_from faults.fault_of
    read.framed read.ranged read.judge_body
    head.number_ok head.body_of head.body_judged head.read_record
    packet.before packet.behind packet.frames_from packet.framing
reserved_taken = refl

-- 15 bytes, 10 of a header, 20 up to the byte
pub type_refused_met : TypeRefused both_sent
unfolding messages.numbered messages.system_time messages.symbol_update pick both either le to_le field
    kinds.table kinds.lookup kinds.length_of kinds.kind_of
    ranges.nanos_ok ranges.one_of ranges.security_ok ranges.test_ok ranges.market_ok
    faults.fault_from faults.fault_of
    read.framed read.ranged read.judge_body
    head.number_ok head.body_of head.body_judged head.read_record
    packet.before packet.behind packet.frames_from packet.framing
type_refused_met =
    record {
      at = 15;
      reached = past_good 0 (record { number = 1; len = 5 }) at_front (omega arith) refl;
      unlettered = record { update = refl; no_letter = refl };
      refused = refl;
    }
