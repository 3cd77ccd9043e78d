-- A body of one edition as a body of another: byte 20 of a Symbol Update, and nothing else (document 02, No. 10: "byte 20 of a Symbol Update is Security Type, `E` or `F`; from 1.3.a it is reserved").
use Rattle.std.specs.Prelude.{ℕ, Bool, List, get_or, set, eqb}
use Rattle.facts.specs.Pick.{pick}
use Rattle.editions.specs.declared.Edition.{Edition}
use Rattle.retype.specs.Types.{type_for}
use Rattle.retype.specs.declared.Asked.{Asked as AskedLent}

-- what is asked for: the edition, and for 1.3 the types
pub record Asked : Type 0 where
  pub to : Edition
  pub all : ℕ
  pub others : List ℕ

abbrev pub asked : Edition → ℕ → List ℕ → Asked
asked ed all others = record { to = ed; all = all; others = others }

-- the same, as the code has it: the exceptions are lent
abbrev pub asked_of : AskedLent → Asked
asked_of a = asked a.to a.all a.others.now

-- a Symbol Update, by its type byte
unfoldable pub is_update : List ℕ → Bool
is_update b = eqb (get_or b 0 0) 1

-- byte 20 in that edition: the type that is asked for, or 0 where it is "reserved" (003: BinaryU, "Reserved for future use"), which is neither letter
abbrev pub byte_in : Edition → ℕ → ℕ
byte_in Edition.V13 y = y
byte_in Edition.V13b y = 0

abbrev pub new_byte : Asked → List ℕ → ℕ
new_byte a b = byte_in a.to (type_for a.all a.others b)

unfoldable pub retyped : Asked → List ℕ → List ℕ
retyped a b = pick (is_update b) (set b 20 (new_byte a b)) b

-- whether it is one, and the body after it
pub record Retyping : Type 0 where
  pub update : Bool
  pub body : List ℕ

abbrev pub retyping : Bool → List ℕ → Retyping
retyping u b = record { update = u; body = b }

abbrev pub retypes : Asked → List ℕ → Retyping
retypes a b = retyping (is_update b) (retyped a b)
