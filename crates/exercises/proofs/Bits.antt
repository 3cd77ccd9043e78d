-- A witness that request 2 speaks of something: P6's Modify of 500 with no flag set, and with bit 5 alone, are two copies that differ in an undefined bit only. It computes.
-- Assumes nothing.
use Prim.Native.Nat.{ℕ}
use mathlib.Core.Path.{refl}
use mathlib.Core.List.{List}
use native.Mathlib.Omega.{arith}
use Rattle.facts.specs.Pick.{pick, both}
use Rattle.editions.specs.declared.Edition.{Edition}
use Rattle.wire.specs.Le.{le, to_le, field}
use Rattle.kinds.specs.Table as kinds
use Rattle.fields.specs.Fields as fields
use Rattle.body.specs.Ranges as ranges
use Rattle.body.specs.Faults as faults
use Rattle.body.specs.Read as read
use Rattle.body.specs.Undefined.{OnlyBits}
use Rattle.exercises.specs.Messages.{modify_order, bit0_clear}

abbrev modified : ℕ → List ℕ
modified flags = modify_order 7 500 10000000 80 flags

pub bits_met : (ed : Edition) → OnlyBits ed (modified bit0_clear) (modified 32)
unfolding modify_order pick both le to_le field
    kinds.table kinds.lookup kinds.length_of kinds.kind_of
    fields.decoded
    ranges.nanos_ok ranges.price_ok ranges.size_ok
    faults.fault_from faults.fault_of
    read.framed read.ranged read.judge_body read.message read.read_body
bits_met ed = record { modify = fields.modify_of (modified bit0_clear); flags = 32; first = refl; second = refl; bit_0 = refl; differ = λ e. omega arith }
