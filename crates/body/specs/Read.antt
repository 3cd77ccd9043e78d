-- What judging and reading a body find (document 01, "a body is good when its length is that type's and its fields are in range"), and at which of its bytes (request 5).
use Rattle.std.specs.Prelude.{ℕ, ◌+◌, ◌*◌, List, Bool, length, get_or, eqb, ltb, Result, Ok, Err}
use Rattle.facts.specs.Pick.{pick, both}
use Rattle.editions.specs.declared.Edition.{Edition}
use Rattle.kinds.specs.Table.{length_of, kind_of}
use Rattle.kinds.specs.declared.Kind.{Kind}
use Rattle.fields.specs.Fields.{bad_at, decoded}
use Rattle.fields.specs.declared.Body.{Body}
use Rattle.fields.specs.declared.Fault.{Fault}
use Rattle.body.specs.Faults.{fault_of}

-- else 3: "no such type, an empty body, or not that type's length"
unfoldable pub framed : List ℕ → Bool
framed b = both (ltb 0 (length b)) (eqb (length b) (length_of (get_or b 0 0)))

-- 4, at a field whose test fails
abbrev pub tested : Bool → ℕ → Result (Unit {0}) Fault
tested ok at = pick ok (Ok tt) (Err (bad_at 4 at))

-- the fields of a kind: 4 at the earliest one out of range (no field starts at 0)
unfoldable pub judge_fields : Edition → Kind → List ℕ → Result (Unit {0}) Fault
judge_fields ed k b = tested (eqb (fault_of ed k b) 0) (fault_of ed k b)

-- else 4, "a field out of range": at "the first byte of the earliest bad field by offset"
unfoldable pub ranged : Edition → Kind → List ℕ → Result Kind Fault
ranged ed k b = pick (eqb (fault_of ed k b) 0) (Ok k) (Err (bad_at 4 (fault_of ed k b)))

-- 3, at "the body's start or, for an empty body, the place where it would start"; then 4
unfoldable pub judge_body : Edition → List ℕ → Result Kind Fault
judge_body ed b = pick (framed b) (ranged ed (kind_of (get_or b 0 0)) b) (Err (bad_at 3 0))

-- document 01's number of each, 0 for a good body
abbrev pub judged_number : Result Kind Fault → ℕ
judged_number (Ok k) = 0
judged_number (Err f) = f.number

-- number and offset in one number: the number in the low 8 bits, the offset in those above
abbrev pub with_offset : Fault → ℕ
with_offset f = f.number + 256 * f.at

-- all that judging tells but the kind
abbrev pub judged : Result Kind Fault → Result (Unit {0}) Fault
judged (Ok k) = Ok tt
judged (Err f) = Err f

-- the same in one number: 0 for a good body
abbrev pub judged_code : Result Kind Fault → ℕ
judged_code (Ok k) = 0
judged_code (Err f) = with_offset f

-- what judging answers, in one number
abbrev pub coded : Result (Unit {0}) Fault → ℕ
coded (Ok u) = 0
coded (Err f) = with_offset f

-- what is judged good is decoded as its kind, and nothing else is
unfoldable pub message : Result Kind Fault → List ℕ → Body
message (Ok k) b = decoded k b
message (Err f) b = Body.Bad f

-- the message, or 3, then 4
unfoldable pub read_body : Edition → List ℕ → Body
read_body ed b = message (judge_body ed b) b

-- a good body is one that is not refused
unfoldable pub good_body : Edition → List ℕ → Bool
good_body ed b = eqb (judged_number (judge_body ed b)) 0
