-- A slot of the shelf (document 01: "The shelf is 64 slots of 74 bytes (number, length, body padded with zeros to 64 bytes)").
use Rattle.std.specs.Prelude.{ℕ, ◌^◌, ◌<◌, ◌≡◌, List, Bool, length, take, replicate, eqb}
use Rattle.facts.specs.Pick.{both}
use Rattle.facts.specs.Same.{same_bytes}
use Rattle.wire.specs.Le.{padded}

-- bytes: the 64 behind number and length
pub record Slot : Type 0 where
  pub number : ℕ
  pub len : ℕ
  pub bytes : List ℕ

-- "number 0 marks it empty", and a slot is emptied by zeros ("its slot zeroed")
abbrev pub empty_slot : Slot
empty_slot = record { number = 0; len = 0; bytes = replicate 64 0 }

-- the slot of message n: "number, length, body padded with zeros to 64 bytes"
abbrev pub slot_for : ℕ → List ℕ → Slot
slot_for n b = record { number = n; len = length b; bytes = padded b 0 64 }

-- the body that a slot holds
abbrev pub slot_body : Slot → List ℕ
slot_body s = take s.len s.bytes

-- "holds n with the same length and the same 64 padded bytes"
unfoldable pub same_slot : Slot → Slot → Bool
same_slot s t = both (eqb s.number t.number) (both (eqb s.len t.len) (same_bytes s.bytes t.bytes))

-- what 8, 2 and 64 bytes can hold
pub record Fits (s : Slot) : Type 0 where
  pub number_fits : s.number < 2 ^ 64
  pub len_fits : s.len < 2 ^ 16
  pub bytes_64 : length s.bytes ≡ 64
