-- The shelf in lent bytes (document 01: "The shelf is 64 slots of 74 bytes (number, length, body padded with zeros to 64 bytes)").
use Rattle.std.specs.Prelude.{ℕ, Bool, List, [], ◌++◌, get_or, eqb}
use Rattle.facts.specs.Limits.{shelf_size}
use Rattle.facts.specs.Pieces.{pieces, put_piece}
use Rattle.wire.specs.Le.{to_le, field, padded}
use Rattle.arbitration.specs.Slots.{Slot}

-- a slot's bytes: number 8, length 2, body 64
abbrev pub slot_size : ℕ
slot_size = 74

-- no refusal 6 for a shelf of n bytes ("a table size outside these limits or not in slots-64 rows")
unfoldable pub good_shelf : ℕ → Bool
good_shelf n = eqb n shelf_size

-- the slot that its bytes are
unfoldable pub slot_from : List ℕ → Slot
slot_from x = record { number = field x 0 8; len = field x 8 2; bytes = padded x 10 64 }

-- the bytes that a slot is
unfoldable pub bytes_of : Slot → List ℕ
bytes_of s = to_le 8 s.number ++ (to_le 2 s.len ++ s.bytes)

-- slot i of a run of bytes; where there is none, an empty one
unfoldable pub slot_at : List ℕ → ℕ → Slot
slot_at t i = slot_from (get_or (pieces slot_size t) i [])

-- the run with s as its slot i; without such a slot, as it is
unfoldable pub put_slot : List ℕ → ℕ → Slot → List ℕ
put_slot t i s = put_piece slot_size t i (bytes_of s)
