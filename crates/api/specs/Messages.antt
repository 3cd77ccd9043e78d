-- What rimeheath_body answers: how a body was judged, and the numbers and the text of a good one (numbers/Numbers).
use Rattle.std.specs.Prelude.{ℕ, List, Result, Ok, Err}
use Rattle.editions.specs.declared.Edition.{Edition}
use Rattle.fields.specs.declared.Body.{Body}
use Rattle.fields.specs.declared.Fault.{Fault}
use Rattle.kinds.specs.declared.Kind.{Kind}
use Rattle.body.specs.Read.{with_offset}
use Rattle.numbers.specs.Numbers.{fields_of, text_of}
use Rattle.api.specs.Calls.{FillCall, fill_call}

-- the numbers, then the text; a refusal leaves what is lent as it is
unfoldable pub body_answer : Edition → Result Kind Fault → Body → List ℕ → List ℕ → List ℕ → FillCall
body_answer ed (Ok k) m b l x = fill_call 0 (fields_of ed m b) (text_of ed m b)
body_answer ed (Err f) m b l x = fill_call (with_offset f) l x
