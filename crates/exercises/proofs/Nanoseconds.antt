-- Witnesses that request 6 speaks of something: the buy 500 of document 01's example in the last nanosecond of a second is good, and one nanosecond on it is past the second;
-- and a packet of the example's System Time with that buy behind it. All of it computes.
-- Assumes nothing.
use Prim.Native.Nat.{ℕ}
use mathlib.Core.Path.{◌≡◌, refl}
use mathlib.Core.Bool.{true}
use mathlib.Core.List.{List, ◌∷◌, ◌++◌}
use native.Mathlib.Omega.{arith}
use lib.ListN.{drop}
use Rattle.facts.specs.Pick.{pick, both, either}
use Rattle.editions.specs.declared.Edition.{Edition}
use Rattle.wire.specs.Le.{le, to_le, field}
use Rattle.kinds.specs.Table as kinds
use Rattle.fields.specs.Fields as fields
use Rattle.body.specs.Ranges as ranges
use Rattle.body.specs.Faults as faults
use Rattle.body.specs.Read as read
use Rattle.body.specs.Nanoseconds.{PastSecond, Restamped}
use Rattle.packet.specs.Record as head
use Rattle.packet.specs.Front.{at_front, past_good}
use Rattle.packet.specs.Nanoseconds.{PastIn}
use Rattle.exercises.specs.Messages as messages

-- the buy 500, at a nanosecond
abbrev buy_at : ℕ → List ℕ
buy_at n = 20 ∷ to_le 4 n ++ drop 5 (messages.add_order 7 500 messages.buy 10000000 100)

-- the example's first message and the buy one nanosecond too late, in one packet
abbrev both_sent : List ℕ
both_sent = messages.numbered 1 (messages.system_time 34200) ++ messages.numbered 3 (buy_at 1000000000)

pub last_good : (ed : Edition) → read.good_body ed (buy_at 999999999) ≡ true
unfolding messages.add_order pick both either le to_le field
    kinds.table kinds.lookup kinds.length_of kinds.kind_of
    fields.decoded
    ranges.nanos_ok ranges.one_of ranges.side_ok ranges.price_ok ranges.size_ok
    faults.fault_from faults.fault_of
    read.framed read.ranged read.judge_body read.message read.read_body read.good_body
last_good ed = refl

pub past_met : PastSecond (buy_at 1000000000)
unfolding messages.add_order pick both le to_le field kinds.table kinds.lookup kinds.length_of kinds.kind_of read.framed
past_met = record { whole = refl; carries = refl; larger = omega arith }

pub restamped_met : Restamped (buy_at 999999999) (buy_at 1000000000)
unfolding messages.add_order to_le
restamped_met = record { type_kept = refl; length_kept = refl; behind_kept = refl }

pub past_in_met : (ed : Edition) → PastIn ed both_sent
unfolding messages.numbered messages.system_time messages.add_order pick both le to_le field
    kinds.table kinds.lookup kinds.length_of kinds.kind_of
    fields.decoded
    faults.fault_from faults.fault_of
    read.framed read.ranged read.judge_body
    head.number_ok head.body_of head.body_judged head.read_record
past_in_met ed =
    record {
      at = 15;
      reached = past_good 0 (record { number = 1; len = 5 }) at_front (omega arith) refl;
      inside = omega arith;
      size = omega arith;
      number_good = refl;
      past = past_met;
    }
