-- Witnesses that request 5 speaks of something, behind the System Time of document 01's example, which has 15 bytes: a buy whose price and size are both 0, the price told; a header
-- with no body at the packet's end, at the packet's length; and a bad number, at its own record. All of it computes.
-- Assumes nothing.
use Prim.Native.Nat.{ℕ}
use mathlib.Core.Path.{◌≡◌, refl}
use mathlib.Core.List.{List, [], ◌++◌}
use lib.ListN.{length}
use Rattle.facts.specs.Pick.{pick, both, either}
use Rattle.editions.specs.declared.Edition.{Edition}
use Rattle.wire.specs.Le.{le, to_le, field}
use Rattle.kinds.specs.Table as kinds
use Rattle.fields.specs.Fields.{bad_at}
use Rattle.body.specs.Ranges as ranges
use Rattle.body.specs.Faults as faults
use Rattle.body.specs.Read as read
use Rattle.packet.specs.Record as head
use Rattle.packet.specs.Packet as packet
use Rattle.packet.specs.Places.{FieldPlace}
use Rattle.packet.proofs.Places.{field_place}
use Rattle.std.specs.Prelude.{Err}
use Rattle.packet.specs.declared.Why.{Why}
use Rattle.exercises.specs.Messages as messages

-- a record of number n behind the example's first message
abbrev second : ℕ → List ℕ → List ℕ
second n b = messages.numbered 1 (messages.system_time 34200) ++ messages.numbered n b

abbrev no_deal : List ℕ
no_deal = second 2 (messages.add_order 7 500 messages.buy 0 0)

-- 15 bytes, 10 of a header, 18 up to the price
pub price_told : (ed : Edition) → packet.read_packet ed no_deal ≡ Err (Why.Placed (bad_at 4 43))
unfolding messages.numbered messages.system_time messages.add_order pick both either le to_le field
    kinds.table kinds.lookup kinds.length_of kinds.kind_of
    ranges.nanos_ok ranges.one_of ranges.side_ok ranges.price_ok ranges.size_ok
    faults.fault_from faults.fault_of
    read.framed read.ranged read.judge_body
    head.number_ok head.body_of head.body_judged head.read_record
    packet.before packet.behind packet.frames_from packet.framing packet.told packet.read_packet
price_told ed = refl

pub price_placed : (ed : Edition) → FieldPlace ed no_deal 43
price_placed ed = field_place ed no_deal (bad_at 4 43) (price_told ed) refl

-- "for an empty body, the place where it would start"
pub end_told : (ed : Edition) → packet.read_packet ed (second 2 []) ≡ Err (Why.Placed (bad_at 3 (length (second 2 []))))
unfolding messages.numbered messages.system_time pick both either le to_le field
    kinds.table kinds.lookup kinds.length_of kinds.kind_of
    faults.fault_from faults.fault_of
    read.framed read.ranged read.judge_body
    head.number_ok head.body_of head.body_judged head.read_record
    packet.before packet.behind packet.frames_from packet.framing packet.told packet.read_packet
end_told ed = refl

-- "for 5 the number's start", before its empty body
pub number_told : (ed : Edition) → packet.read_packet ed (second 0 []) ≡ Err (Why.Placed (bad_at 5 15))
unfolding messages.numbered messages.system_time pick both either le to_le field
    kinds.table kinds.lookup kinds.length_of kinds.kind_of
    faults.fault_from faults.fault_of
    read.framed read.ranged read.judge_body
    head.number_ok head.body_of head.body_judged head.read_record
    packet.before packet.behind packet.frames_from packet.framing packet.told packet.read_packet
number_told ed = refl
