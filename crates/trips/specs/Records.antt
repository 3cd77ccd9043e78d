-- Records and packets as a writer lays them down.
use Rattle.std.specs.Prelude.{ℕ, List, [], ◌∷◌, ◌++◌, length}
use Rattle.wire.specs.Le.{to_le}
use Rattle.wire.specs.Records.{Rec}

-- "A record is: sequence number, 8 bytes; body length, 2 bytes; body" (document 01, "From the tap")
unfoldable pub record_bytes : ℕ → List ℕ → List ℕ
record_bytes n b = to_le 8 n ++ (to_le 2 (length b) ++ b)

-- "one or more records, back to back"
unfoldable pub packet_bytes : List Rec → List ℕ
packet_bytes [] = []
packet_bytes (c ∷ cs) = record_bytes c.number c.body ++ packet_bytes cs

-- "packets each behind a 2-byte length" (document 01, "The sheet"): one of them
unfoldable pub length_first : List ℕ → List ℕ
length_first p = to_le 2 (length p) ++ p
