-- What C is told of an answer, whatever it holds and however it is refused: a number, and the answer's own numbers where nothing is refused.
use Rattle.std.specs.Prelude.{ℕ, ◌<◌, List, Result, Ok, Err}
use Rattle.body.specs.Read.{with_offset}
use Rattle.packet.specs.declared.Why.{Why}

-- the number of a refusal alone, or with its offset
abbrev pub why_code : Why → ℕ
why_code (Why.Alone r) = r.number
why_code (Why.Placed f) = with_offset f

-- 0, or the number f of the refusal
abbrev pub code_of : {A E : Type 0} → (E → ℕ) → Result A E → ℕ
code_of f (Ok x) = 0
code_of f (Err e) = f e

-- the numbers f of the answer; a refusal leaves the lent ones as they are
abbrev pub told : {A E : Type 0} → (A → List ℕ) → Result A E → List ℕ → List ℕ
told f (Ok x) l = f x
told f (Err e) l = l

-- ---- inside: an answer whose numbers are stored
abbrev pub done_of : {A E : Type 0} → Result A E → Result (Unit {0}) E
done_of (Ok x) = Ok tt
done_of (Err e) = Err e

-- an offset that 32 bits hold above the number
abbrev pub Small : Why → Type 0
Small (Why.Alone r) = Unit {0}
Small (Why.Placed f) = f.at < 65536
