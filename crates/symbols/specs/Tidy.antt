-- What holds of a symbol table from a start on, while nobody alters it (document 01: "each the last Symbol Update body for its symbol, in order of first use").
use Rattle.std.specs.Prelude.{ℕ, ◌≤◌, ◌<◌, ◌≡◌, List, [], ◌∷◌, ◌++◌, true, get_or, eqb}
use Rattle.facts.specs.Pick.{pick}
use Rattle.facts.specs.Search.{first, is_found}
use Rattle.symbols.specs.Entries.{used, free_entry, id_of}
use Rattle.symbols.specs.Find.{count_used}

-- "its symbol": two used entries with one ID are the same entry
abbrev pub Distinct : List (List ℕ) → Type 0
Distinct es = (i j : ℕ) → used (get_or es i []) ≡ true → used (get_or es j []) ≡ true → id_of (get_or es i []) ≡ id_of (get_or es j []) → i ≡ j

-- the used entries lie in front, and all behind them are free, so that none is spoiled
pub record Packed (es : List (List ℕ)) : Type 0 where
  pub front : (i : ℕ) → i < count_used es → used (get_or es i []) ≡ true
  pub back : (i : ℕ) → count_used es ≤ i → free_entry (get_or es i []) ≡ true

-- the symbols of the table, in its order
unfoldable pub ids_in : List (List ℕ) → List ℕ
ids_in [] = []
ids_in (e ∷ es) = pick (used e) (id_of e ∷ ids_in es) (ids_in es)

-- "in order of first use": a symbol that is not among them comes behind them
unfoldable pub joined : ℕ → List ℕ → List ℕ
joined id ids = pick (is_found (first (λ x. eqb x id) 0 ids)) ids (ids ++ (id ∷ []))
