-- Request 5 of document 02, "Say which byte is bad", of records and packets: what a refusal by 2 to 5 says of the bytes, by number and offset.
use Rattle.std.specs.Prelude.{ℕ, ◌+◌, ◌≤◌, ◌<◌, ◌≡◌, true, false, List, length, drop}
use Rattle.editions.specs.declared.Edition.{Edition}
use Rattle.fields.specs.Fields.{bad_at}
use Rattle.fields.specs.declared.Fault.{Fault}
use Rattle.body.specs.Places.{BadField, BadBody}
use Rattle.packet.specs.Record.{number_ok, head_of, body_of, shifted}
use Rattle.packet.specs.Front.{Reached}

-- why and where the record at the front of t is bad: by the first of 2, 5, 3, 4 that is so
pub data BadRecord (ed : Edition) (t : List ℕ) : Fault → Type 0 where
  -- 2, at "the record's start": the header or the body runs past the end (a byte of the length that is not there counts as 0)
  no_room : length t < 10 + (head_of t).len → BadRecord ed t (bad_at 2 0)
  -- 5, at "the number's start"
  bad_number : 10 + (head_of t).len ≤ length t → number_ok (head_of t).number ≡ false → BadRecord ed t (bad_at 5 0)
  -- 3 or 4, in the body, which starts behind 10 bytes
  bad_body : (f : Fault) → 10 + (head_of t).len ≤ length t → number_ok (head_of t).number ≡ true → BadBody ed (body_of t) f → BadRecord ed t (shifted 10 f)

-- a packet whose first bad record starts at `start`: all before it are good, and it is bad at its byte f .at - start
pub record BadPlace (ed : Edition) (p : List ℕ) (f : Fault) : Type 0 where
  pub start : ℕ
  pub reached : Reached ed p start
  pub inside : start < length p
  pub fault : Fault
  pub record_bad : BadRecord ed (drop start p) fault
  pub place_is : f ≡ shifted start fault

-- "for 4 the first byte of the earliest bad field by offset": a field that starts there is out of range, all fields before it in its record are in range, and all records before that are good
pub record FieldPlace (ed : Edition) (p : List ℕ) (at : ℕ) : Type 0 where
  pub start : ℕ
  pub reached : Reached ed p start
  pub whole : start + (10 + (head_of (drop start p)).len) ≤ length p
  pub number_good : number_ok (head_of (drop start p)).number ≡ true
  pub field_at : ℕ
  pub field_bad : BadField ed (body_of (drop start p)) field_at
  pub place_is : at ≡ start + (10 + field_at)

-- "or, for an empty body, the place where it would start": the packet's end, behind the header of a record with no body
pub record EndPlace (ed : Edition) (p : List ℕ) (at : ℕ) : Type 0 where
  pub start : ℕ
  pub reached : Reached ed p start
  pub header_last : start + 10 ≡ length p
  pub empty : (head_of (drop start p)).len ≡ 0
  pub place_is : at ≡ length p
