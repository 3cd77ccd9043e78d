-- "in order of first use" (document 01, "Lent tables and the shelf"), of a whole list of messages.
use Rattle.std.specs.Prelude.{ℕ, List, [], ◌∷◌}
use Rattle.editions.specs.declared.Edition.{Edition}
use Rattle.book.specs.Tidy.{first_use}

-- the symbols of a list of messages, each where it is first used, behind those known before
unfoldable pub first_uses : Edition → List (List ℕ) → List ℕ → List ℕ
first_uses ed [] ids = ids
first_uses ed (m ∷ ms) ids = first_uses ed ms (first_use ed m ids)
