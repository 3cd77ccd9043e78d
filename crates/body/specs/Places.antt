-- Request 5 of document 02, "Say which byte is bad", of a body: "for 4 the first byte of the earliest bad field by offset".
use Rattle.std.specs.Prelude.{ℕ, ◌+◌, ◌≡◌, true, false, List, [], ◌∷◌, ◌⊎◌, get_or}
use Rattle.editions.specs.declared.Edition.{Edition}
use Rattle.layout.specs.Shape.{Shape, width, Values}
use Rattle.layout.specs.Layout.{shapes, fields_in}
use Rattle.kinds.specs.Table.{kind_of}
use Rattle.fields.specs.declared.Fault.{Fault}
use Rattle.body.specs.Faults.{Tests, tests}
use Rattle.body.specs.Read.{framed}

-- fields of which the first lies at `at`: one that lies at n is out of range, and all before it are in range
abbrev pub FirstBad : (ss : List Shape) → Tests ss → Values ss → ℕ → ℕ → Type 0
FirstBad [] ts vs at n = ⊥
FirstBad (s ∷ ss) ts vs at n = ((ts.0 vs.0 ≡ false) × (n ≡ at)) ⊎ ((ts.0 vs.0 ≡ true) × FirstBad ss ts.1 vs.1 (at + width s) n)

-- a body of its type's length whose earliest bad field lies at n
pub record BadField (ed : Edition) (b : List ℕ) (n : ℕ) : Type 0 where
  pub whole : framed b ≡ true
  pub first : FirstBad (shapes (kind_of (get_or b 0 0))) (tests ed (kind_of (get_or b 0 0))) (fields_in (kind_of (get_or b 0 0)) b) 1 n

-- why and where a body is bad: 3 "the body's start or, for an empty body, the place where it would start", 4 the field
abbrev pub BadBody : Edition → List ℕ → Fault → Type 0
BadBody ed b f = ((f.number ≡ 3) × (f.at ≡ 0) × (framed b ≡ false)) ⊎ ((f.number ≡ 4) × BadField ed b f.at)
