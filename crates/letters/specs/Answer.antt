-- What the reading of a value answers.
use Rattle.std.specs.Prelude.{List, ℕ, Option, Some, None, Result, Ok, Err}
use Rattle.letters.specs.declared.Malformed.{Malformed}

abbrev pub malformed : Malformed
malformed = record {}

-- whether a value says the bytes of its field
abbrev pub answer : Option (List ℕ) → Result (Unit {0}) Malformed
answer (Some v) = Ok tt
answer None = Err malformed
