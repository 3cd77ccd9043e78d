-- Which Security Type a symbol gets, where a recording is made one of 1.3: one for all symbols, with exceptions by symbol ID or ticker.
use Rattle.std.specs.Prelude.{ℕ, ◌%◌, Bool, not, List, [], get_or, eqb, Option, Some, None}
use Rattle.facts.specs.Pick.{pick, both}
use Rattle.facts.specs.Pieces.{pieces}
use Rattle.facts.specs.Same.{same_bytes}
use Rattle.facts.specs.Search.{first, is_found}
use Rattle.editions.specs.declared.Edition.{Edition}
use Rattle.wire.specs.Le.{field, padded}
use Rattle.fields.specs.Fields.{symbol_of}
use Rattle.fields.specs.declared.Symbol.{Symbol}
use Rattle.body.specs.Ranges.{security_ok}

-- an exception is 13 bytes: by which name it is (0: the symbol ID, 1: the ticker), the name in 11 bytes (an ID in the first four of them), and the type
abbrev pub exception_size : ℕ
exception_size = 13

unfoldable pub exceptions : List ℕ → List (List ℕ)
exceptions t = pieces exception_size t

-- no refusal 6: whole exceptions, none too
unfoldable pub whole_exceptions : ℕ → Bool
whole_exceptions n = eqb (n % exception_size) 0

-- it names a symbol: by the ID, or by all eleven bytes of the ticker; an exception by any other name names none
unfoldable pub names_symbol : List ℕ → Symbol → Bool
names_symbol x s =
    pick (eqb (get_or x 0 0) 0) (eqb (field x 1 4) s.id)
    (both (eqb (get_or x 0 0) 1) (same_bytes (padded x 1 11) s.ticker))

-- and so the symbol of a Symbol Update
unfoldable pub names : List ℕ → List ℕ → Bool
names x b = names_symbol x (symbol_of b)

abbrev pub type_of : List ℕ → ℕ
type_of x = get_or x 12 0

-- the type of the first exception that names the symbol, else the one for all
abbrev pub type_at : Option ℕ → List (List ℕ) → ℕ → ℕ
type_at (Some i) xs all = type_of (get_or xs i [])
type_at None xs all = all

unfoldable pub type_for : ℕ → List ℕ → List ℕ → ℕ
type_for all others b = type_at (first (λ x. names x b) 0 (exceptions others)) (exceptions others) all

-- 4, where "`type`, or the type of any exception, is neither `E` nor `F`, whether a symbol has it or not" (docs/CONVERT.md); where byte 20 is reserved no type is asked for, and none is judged
unfoldable pub bad_type : Edition → List ℕ → Bool
bad_type ed x = not (security_ok ed (type_of x))

unfoldable pub types_ok : Edition → ℕ → List ℕ → Bool
types_ok ed all others = both (security_ok ed all) (not (is_found (first (bad_type ed) 0 (exceptions others))))
