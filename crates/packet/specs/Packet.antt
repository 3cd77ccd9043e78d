-- "A packet is 1 to 1,500 bytes holding one or more records, back to back" (document 01, "From the tap"), and at which of its bytes it is bad (request 5).
use Rattle.std.specs.Prelude.{ℕ, zero, suc, ◌+◌, List, [], ◌∷◌, length, drop, ltb, leb, Result, Ok, Err}
use Rattle.facts.specs.Limits.{packet_most}
use Rattle.facts.specs.Pick.{pick, both}
use Rattle.editions.specs.declared.Edition.{Edition}
use Rattle.wire.specs.Records.{Rec, Frames, bad, records}
use Rattle.fields.specs.Fields.{refusal}
use Rattle.fields.specs.declared.Fault.{Fault}
use Rattle.packet.specs.Record.{rec_of, shifted, read_record}
use Rattle.packet.specs.declared.Why.{Why}
use Rattle.packet.specs.declared.Head.{Head}

-- of what lies behind n bytes
abbrev pub later : ℕ → Why → Why
later n (Why.Alone r) = Why.Alone r
later n (Why.Placed f) = Why.Placed (shifted n f)

-- what framing makes of bytes: why they are refused, or records
abbrev pub Framing : Type 0
Framing = Frames Why

-- a record of n bytes in front of what follows it
unfoldable pub before : ℕ → Rec → Framing → Framing
before n c (bad w) = bad (later n w)
before n c (records cs) = records (c ∷ cs)

-- the first record's fault, or the record and what is found behind it
unfoldable pub behind : (List ℕ → Framing) → List ℕ → Result Head Fault → Framing
behind rest t (Ok h) = before (10 + h.len) (rec_of t) (rest (drop (10 + h.len) t))
behind rest t (Err f) = bad (Why.Placed f)

-- "records from the front", at most so many
unfoldable pub frames_from : Edition → ℕ → List ℕ → Framing
frames_from ed zero t = records []
frames_from ed (suc f) t = pick (ltb 0 (length t)) (behind (frames_from ed f) t (read_record ed t)) (records [])

-- 1, then the records (no packet has more records than bytes)
unfoldable pub framing : Edition → List ℕ → Framing
framing ed p = pick (both (leb 1 (length p)) (leb (length p) packet_most)) (frames_from ed (length p) p) (bad (Why.Alone (refusal 1)))

-- the answer to a packet: the number of its records, or why it is refused
unfoldable pub told : Framing → Result ℕ Why
told (bad w) = Err w
told (records cs) = Ok (length cs)

unfoldable pub read_packet : Edition → List ℕ → Result ℕ Why
read_packet ed p = told (framing ed p)

-- document 01's number of a refusal
abbrev pub why_number : Why → ℕ
why_number (Why.Alone r) = r.number
why_number (Why.Placed f) = f.number

-- and of each answer, 0 for a good packet
abbrev pub packet_number : Result ℕ Why → ℕ
packet_number (Ok n) = 0
packet_number (Err w) = why_number w
