-- A packet of one edition as a packet of another: the same records, with byte 20 of each Symbol Update as that edition has it, and nothing else.
use Rattle.std.specs.Prelude.{ℕ, zero, suc, ◌+◌, ◌≡◌, List, ◌++◌, length, take, drop, ltb, Result, Ok, Err}
use Rattle.facts.specs.Pick.{pick}
use Rattle.facts.specs.Sums.{count_by}
use Rattle.editions.specs.declared.Edition.{Edition}
use Rattle.wire.specs.Le.{field}
use Rattle.wire.specs.Records.{Rec, bad, records}
use Rattle.fields.specs.Fields.{refusal}
use Rattle.packet.specs.Record.{body_of}
use Rattle.packet.specs.Packet.{Framing, framing}
use Rattle.retype.specs.Types.{whole_exceptions, types_ok}
use Rattle.retype.specs.Retyped.{Asked, is_update, retyped}
use Rattle.packet.specs.declared.Why.{Why}

-- the record in front: its number and length as they are, then its body
unfoldable pub record_to : Asked → List ℕ → List ℕ
record_to a t = take 10 t ++ retyped a (body_of t)

-- record by record from the front, at most so many
unfoldable pub records_to : Asked → ℕ → List ℕ → List ℕ
records_to a zero t = t
records_to a (suc n) t = pick (ltb 0 (length t)) (record_to a t ++ records_to a n (drop (10 + field t 8 2) t)) t

-- (no packet has more records than bytes)
unfoldable pub rewritten : Asked → List ℕ → List ℕ
rewritten a p = records_to a (length p) p

-- how many of the records are Symbol Updates
unfoldable pub updates_in : List Rec → ℕ
updates_in cs = count_by (λ c. is_update c.body) cs

-- an answer, and the packet after it
pub record Conversion : Type 0 where
  pub answer : Result ℕ Why
  pub packet : List ℕ

abbrev pub conversion : Result ℕ Why → List ℕ → Conversion
conversion c p = record { answer = c; packet = p }

-- "A packet is refused as the reader of the edition `from` refuses it, by number and offset .., and keeps every byte" (docs/CONVERT.md)
unfoldable pub converted_by : Asked → Framing → List ℕ → Conversion
converted_by a (bad w) p = conversion (Err w) p
converted_by a (records cs) p = conversion (Ok (updates_in cs)) (rewritten a p)

-- what is asked for is judged before the packet: 6 for exceptions that are not whole, 4 for a type that is none
unfoldable pub judged_first : {A : Type 0} → Asked → (ℕ → A) → A → A
judged_first a refuses x =
    pick (whole_exceptions (length a.others)) (pick (types_ok a.to a.all a.others) x (refuses 4)) (refuses 6)

-- a packet of the edition `from`
unfoldable pub converted : Edition → Asked → List ℕ → Conversion
converted from a p = judged_first a (λ n. conversion (Err (Why.Alone (refusal n))) p) (converted_by a (framing from p) p)

-- document 01's number of each answer, 0 for a packet that was rewritten
abbrev pub converted_number : Result ℕ Why → ℕ
converted_number (Ok n) = 0
converted_number (Err (Why.Alone r)) = r.number
converted_number (Err (Why.Placed f)) = f.number

-- ---- inside: a good packet of some edition, which is rewritten
pub record IsPacket (p : List ℕ) : Type 0 where
  pub edition : Edition
  pub its : List Rec
  pub good : framing edition p ≡ records its

-- n Symbol Updates in p, and q is p rewritten
abbrev pub Rewrites : Asked → List ℕ → ℕ → List ℕ → Type 0
Rewrites a p n q = ((ed : Edition) (cs : List Rec) → framing ed p ≡ records cs → n ≡ updates_in cs) × (q ≡ rewritten a p)
