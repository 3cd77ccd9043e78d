-- The limits of documents 01 and 02, and what follows of them, each once. The code's are the constants of src/lib.rt; a contract that speaks of both ties them.
use Rattle.std.specs.Prelude.{ℕ}

-- "Sequence numbers run from 1 to 1,000,000,000,000"
abbrev pub last_number : ℕ
last_number = 1000000000000

-- "price (millionths of a dollar) 1 to 1,000,000,000,000,000"
abbrev pub most_price : ℕ
most_price = 1000000000000000

-- "The largest good value is 999,999,999", of a Timestamp (document 02, No. 6)
abbrev pub most_nanos : ℕ
most_nanos = 999999999

-- "A packet is 1 to 1,500 bytes"
abbrev pub packet_most : ℕ
packet_most = 1500

-- such a packet behind its two-byte length: "a lent buffer of 1,502 bytes or more for the unfinished packet" (document 02, No. 13)
abbrev pub hold_least : ℕ
hold_least = 1502

-- "entries of 42 bytes", a Symbol Update's length; no message is longer
abbrev pub entry_size : ℕ
entry_size = 42

-- "Capacity 1 to 1,600 rows"; "Raise the order table to 16,000 rows in the library" (document 02, No. 9)
abbrev pub most_rows : ℕ
most_rows = 16000

-- "The symbol table holds 1 to 1,000 entries"
abbrev pub most_entries : ℕ
most_entries = 1000

-- "64 slots of 74 bytes"
abbrev pub shelf_size : ℕ
shelf_size = 4736
