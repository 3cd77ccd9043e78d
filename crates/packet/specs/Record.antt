-- "A record is: sequence number, 8 bytes; body length, 2 bytes; body" (document 01, "From the tap"), and at which of its bytes it is bad (request 5).
use Rattle.std.specs.Prelude.{ℕ, ◌+◌, ◌-◌, List, Bool, length, take, drop, ltb, leb, Result, Ok, Err}
use Rattle.facts.specs.Limits.{last_number}
use Rattle.facts.specs.Pick.{pick, both}
use Rattle.editions.specs.declared.Edition.{Edition}
use Rattle.wire.specs.Le.{field}
use Rattle.wire.specs.Records.{Rec}
use Rattle.fields.specs.Fields.{bad_at}
use Rattle.fields.specs.declared.Fault.{Fault}
use Rattle.body.specs.Read.{judge_body}
use Rattle.kinds.specs.declared.Kind.{Kind}
use Rattle.packet.specs.declared.Head.{Head}

-- "Sequence numbers run from 1 to 1,000,000,000,000"
unfoldable pub number_ok : ℕ → Bool
number_ok n = both (leb 1 n) (leb n last_number)

-- what the header says, at the front of what is left
abbrev pub head_of : List ℕ → Head
head_of t = record { number = field t 0 8; len = field t 8 2 }

-- "The body reader is given the part of the packet where its body lies"
unfoldable pub body_of : List ℕ → List ℕ
body_of t = take (field t 8 2) (drop 10 t)

abbrev pub rec_of : List ℕ → Rec
rec_of t = record { number = field t 0 8; body = body_of t }

-- what is bad at a place of a part that starts at n: each level adds where its part starts
abbrev pub shifted : ℕ → Fault → Fault
shifted n f = bad_at f.number (n + f.at)

-- "for 2 the record's start, for 5 the number's start", which is the record's
abbrev pub bad_record : ℕ → Result Head Fault
bad_record n = Err (bad_at n 0)

-- 3 or 4, as the body's judge says, or the record; a body starts behind 10 bytes
unfoldable pub body_judged : Result Kind Fault → Head → Result Head Fault
body_judged (Ok k) h = Ok h
body_judged (Err f) h = Err (shifted 10 f)

-- each record is judged by 2, 5, 3, 4
unfoldable pub read_record : Edition → List ℕ → Result Head Fault
read_record ed t =
    pick (ltb (length t) 10) (bad_record 2)
    (pick (ltb (length t - 10) (field t 8 2)) (bad_record 2)
    (pick (number_ok (field t 0 8))
    (body_judged (judge_body ed (body_of t)) (head_of t))
    (bad_record 5)))

-- document 01's number of each answer, 0 for a good record
abbrev pub record_number : Result Head Fault → ℕ
record_number (Ok h) = 0
record_number (Err f) = f.number
