-- What a body becomes and which type a symbol gets, case by case. docs/PORT.md names these four.
-- Assumes nothing.
use mathlib.Core.Path.{◌≡◌, sym, ap}
use mathlib.Core.Bool.{true, false}
use mathlib.Core.List.{List}
use mathlib.Core.Logic.{◌≢◌}
use Prim.Native.Nat.{ℕ}
use lib.ListN.{get_or, set}
use Rattle.std.specs.Prelude.{Option, None}
use Rattle.facts.specs.Pick.{pick, both}
use Rattle.facts.specs.Same.{same_bytes}
use Rattle.facts.specs.Search.{first}
use borrow.Author.Tests.{ne_eqb}
use Rattle.wire.specs.Le.{padded}
use Rattle.fields.specs.Fields.{symbol_of}
use Rattle.retype.specs.Types.{exceptions, names_symbol, names, type_at, type_for}
use Rattle.retype.specs.Retyped.{Asked, is_update, new_byte, retyped, retyping, retypes}

module _ (a : Asked) (b : List ℕ) (t : ℕ) (e : t ≡ get_or b 0 0) where
  pub no_update : t ≢ 1 → retyping false b ≡ retypes a b
  unfolding retyped is_update pick
  no_update n = simp (← e, ne_eqb t 1 n)

  pub an_update : (x : ℕ) → t ≡ 1 → x ≡ new_byte a b → retyping true (set b 20 x) ≡ retypes a b
  unfolding retyped is_update pick
  an_update x o n = simp (← e, o, n)

module _ (x b : List ℕ) (by : ℕ) (e : by ≡ get_or x 0 0) where
  pub names_by_ticker : by ≢ 0 → by ≡ 1 → same_bytes (padded x 1 11) (symbol_of b).ticker ≡ names x b
  unfolding names names_symbol pick both
  names_by_ticker z o = simp (← e, ne_eqb by 0 z, o)

module _ (all : ℕ) (others b : List ℕ) where
  abbrev found : Option ℕ
  found = first (λ (x : List ℕ). names x b) 0 (exceptions others)

  pub type_all : found ≡ None → all ≡ type_for all others b
  unfolding type_for
  type_all e = sym (ap (λ (f : Option ℕ). type_at f (exceptions others) all) e)
