-- Request 4 of document 02, "We need to write recordings": bytes behind what is there, in lent memory; a record behind a packet so far, a packet behind a recording so far (docs/WRITE.md).
use Rattle.std.specs.Prelude.{ℕ, ◌+◌, ◌≡◌, List, length, take, eqb, leb, Result, Ok, Err}
use Rattle.std.proofs.lemmas.List.Edits.{sets}
use Rattle.facts.specs.Limits.{packet_most}
use Rattle.facts.specs.Pick.{pick}
use Rattle.editions.specs.declared.Edition.{Edition}
use Rattle.fields.specs.Fields.{refusal}
use Rattle.body.specs.Read.{judge_body, judged_number}
use Rattle.packet.specs.Record.{number_ok}
use Rattle.packet.specs.Packet.{read_packet, why_number}
use Rattle.fields.specs.declared.Refusal.{Refusal}
use Rattle.packet.specs.declared.Why.{Why}
use Rattle.numbers.specs.Drafts.{draft_number, draft_body}
use Rattle.trips.specs.Records.{record_bytes, length_first}

-- an answer, and the memory after it
pub record Writing : Type 0 where
  pub answer : Result ℕ Why
  pub memory : List ℕ

abbrev pub writing : Result ℕ Why → List ℕ → Writing
writing w m = record { answer = w; memory = m }

-- "refuses .. and writes nothing"
abbrev pub refused_by : ℕ → List ℕ → Writing
refused_by k m = writing (Err (Why.Alone (refusal k))) m

-- the bytes s behind `at` bytes, where nothing refuses them (k is 0): the answer is the new length, and what lies behind stays
unfoldable pub put : ℕ → List ℕ → ℕ → List ℕ → Writing
put k m at s = pick (eqb k 0) (writing (Ok (at + length s)) (sets m at s)) (refused_by k m)

-- "first refused as reading refuses it", by number and offset
unfoldable pub where_read : Result ℕ Why → List ℕ → Writing → Writing
where_read (Ok n) m w = w
where_read (Err r) m w = writing (Err r) m

-- "a length so far beyond the memory is 32 before all else"; then what a reader says; then what refuses the bytes s themselves, k
unfoldable pub behind : Result ℕ Why → ℕ → List ℕ → ℕ → List ℕ → Writing
behind r k m at s = pick (leb at (length m)) (where_read r m (put k m at s)) (refused_by 32 m)

-- "too little room refuses"; 0 for not refused, here and below
unfoldable pub room_number : ℕ → ℕ → ℕ
room_number room new = pick (leb new room) 0 32

-- ---- a record
-- "a packet so far, which is empty or else first refused as reading refuses it"
unfoldable pub so_far : Edition → List ℕ → Result ℕ Why
so_far ed p = pick (eqb (length p) 0) (Ok 0) (read_packet ed p)

-- "A bad number, a bad field, a packet over 1,500 bytes or too little room refuses (5, 4, 1, new 32, in that order)": why refuses the message, new is the packet's new length
unfoldable pub own_number : ℕ → ℕ → ℕ → ℕ → ℕ
own_number why number room new = pick (number_ok number) (pick (eqb why 0) (pick (leb new packet_most) (room_number room new) 1) why) 5

-- the same as an answer, and its number; no refusal's number is 0
abbrev pub unless : ℕ → Result (Unit {0}) Refusal
unless k = pick (eqb k 0) (Ok tt) (Err (refusal k))

abbrev pub message_number : Result (Unit {0}) Refusal → ℕ
message_number (Ok u) = 0
message_number (Err r) = r.number

abbrev pub Numbered : Result (Unit {0}) Refusal → Type 0
Numbered m = m ≡ unless (message_number m)

-- "A record goes, from a number and fields, behind a packet so far": the fields are a body b, or are refused
unfoldable pub appended_as : Edition → ℕ → List ℕ → ℕ → ℕ → List ℕ → Writing
appended_as ed why m at number b =
    behind (so_far ed (take at m)) (own_number why number (length m) (at + length (record_bytes number b))) m at (record_bytes number b)

-- of any bytes for a body: 3 or 4, as they are judged
unfoldable pub appended : Edition → List ℕ → ℕ → ℕ → List ℕ → Writing
appended ed m at number b = appended_as ed (judged_number (judge_body ed b)) m at number b

-- of eight numbers and 28 bytes of text: 3 where no message has the type, 4 where a number does not fit its field or a field is out of range
unfoldable pub numbers_appended : Edition → List ℕ → ℕ → ℕ → List ℕ → List ℕ → Writing
numbers_appended ed m at number l x = appended_as ed (draft_number ed l x) m at number (draft_body ed l x)

-- ---- a packet
-- behind its length, into a recording so far, which is not looked at
unfoldable pub packet_appended : Edition → List ℕ → ℕ → List ℕ → Writing
packet_appended ed m at p = behind (read_packet ed p) (room_number (length m) (at + length (length_first p))) m at (length_first p)

-- document 01's number of each answer, 0 for what was written
abbrev pub wrote_number : Result ℕ Why → ℕ
wrote_number (Ok n) = 0
wrote_number (Err w) = why_number w
