-- What the two calls that write answer: a number, the memory after it, and the new length (docs/WRITE.md).
use Rattle.std.specs.Prelude.{ℕ, List, [], ◌∷◌, Result}
use Rattle.packet.specs.declared.Why.{Why}
use Rattle.writer.specs.Append.{Writing}
use Rattle.api.specs.Told.{why_code, code_of, told}
use Rattle.api.specs.Calls.{FillCall, fill_call}

-- the new length; a refusal leaves the lent number as it is
abbrev pub length_told : Result ℕ Why → List ℕ → List ℕ
length_told = told (λ n. n ∷ [])

unfoldable pub write_answer : Writing → List ℕ → FillCall
write_answer x l = fill_call (code_of why_code x.answer) (length_told x.answer l) x.memory
