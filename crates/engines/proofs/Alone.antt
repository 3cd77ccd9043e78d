-- Without lent memory nothing is left of an index, whatever is done: no store reaches an empty list.
-- Assumes nothing.
use mathlib.Core.Path.{◌≡◌, refl, sym, ap, ◌∙◌}
use mathlib.Core.List.{List, [], ◌∷◌}
use Prim.Native.Nat.{ℕ, suc}
use native.Mathlib.Omega.{arith}
use lib.ListN.{length}
use Rattle.facts.specs.Pick.{pick}
use Rattle.std.specs.Prelude.{Option, Some, None}
use Rattle.facts.proofs.Picks.{pick_ind}
use Rattle.rows.specs.declared.Row.{Row}
use Rattle.rows.specs.Rows.{free}
use Rattle.orders.specs.declared.RowWork.{RowWork}
use Rattle.index.specs.Index.{slots, hash, vacant, filled_at, placed, taken, freed, entered, each_row, front, zeroed, built, roomy, came}
use Rattle.engines.specs.Engines.{put_noted, left, noted, hinted_to}

abbrev Empty : List ℕ → Type 0
Empty ix = ix ≡ []

pub none_is : (ix : List ℕ) → length ix ≡ 0 → ix ≡ []
none_is [] e = refl
none_is (x ∷ ix) e = absurd (omega arith)

none_filled : (f : Option ℕ) (id i : ℕ) → filled_at f [] id i ≡ []
unfolding filled_at
none_filled None id i = refl
none_filled (Some p) id i = refl

none_placed : (id i : ℕ) → placed [] id i ≡ []
unfolding placed
none_placed id i = pick_ind Empty _ [] (filled_at (vacant slots [] (hash id)) [] id i) (λ e. refl) (λ e. none_filled (vacant slots [] (hash id)) id i)

none_taken : (i : ℕ) → taken [] i ≡ []
unfolding taken
none_taken i = pick_ind Empty _ [] [] (λ e. refl) (λ e. refl)

none_freed : (i : ℕ) → freed [] i ≡ []
unfolding freed
none_freed i = pick_ind Empty _ [] [] (λ e. refl) (λ e. refl)

none_entered : (r : Row) (i : ℕ) → entered [] r i ≡ []
unfolding entered
none_entered r i = pick_ind Empty _ (placed [] r.order i) (pick (free r) (freed [] i) []) (λ e. none_placed r.order i) (λ e. pick_ind Empty _ (freed [] i) [] (λ d. none_freed i) (λ d. refl))

none_each : (f : List ℕ → Row → ℕ → List ℕ) → ((r : Row) (i : ℕ) → f [] r i ≡ []) → (i : ℕ) (rs : List Row) → each_row f i rs [] ≡ []
unfolding each_row
none_each f h i [] = refl
none_each f h i (r ∷ rs) = rw (h r i) (none_each f h (suc i) rs)

none_zeroed : (n : ℕ) → zeroed n [] ≡ []
unfolding zeroed
none_zeroed n = refl

-- a start makes none where none is lent
pub none_built : (rs : List Row) → built [] rs ≡ []
unfolding built
none_built rs = rw (none_zeroed front) (none_each entered none_entered 0 rs)

none_roomy : (rs : List Row) → roomy [] rs ≡ []
unfolding roomy
none_roomy rs = pick_ind Empty _ (built [] rs) [] (λ e. none_built rs) (λ e. refl)

none_came : (rs : List Row) (id i : ℕ) → came [] rs id i ≡ []
unfolding came
none_came rs id i = rw (none_roomy rs, none_taken i) (none_placed id i)

none_put : (i : ℕ) (r : Row) (rs : List Row) → put_noted i r rs [] ≡ []
unfolding put_noted
none_put i r rs =
    pick_ind Empty _ (pick (free r) [] (came [] rs r.order i)) (pick (free r) (freed [] i) [])
    (λ e. pick_ind Empty _ [] (came [] rs r.order i) (λ d. refl) (λ d. none_came rs r.order i))
    (λ e. pick_ind Empty _ (freed [] i) [] (λ d. none_freed i) (λ d. refl))

none_left : (symbol : ℕ) (r : Row) (i : ℕ) → left symbol [] r i ≡ []
unfolding left
none_left symbol r i = pick_ind Empty _ (freed [] i) [] (λ e. none_freed i) (λ e. refl)

pub none_noted : (w : RowWork) (rs : List Row) → noted w rs [] ≡ []
unfolding noted
none_noted RowWork.Keep rs = refl
none_noted (RowWork.Put i r) rs = none_put i r rs
none_noted (RowWork.Clear s) rs = none_each (left s) (none_left s) 0 rs

pub none_hinted : (w : Option ℕ) (b : List ℕ) → hinted_to w b [] ≡ []
unfolding hinted_to
none_hinted None b = refl
none_hinted (Some i) b = refl

-- as the code meets it
pub noted_none : (w : RowWork) (rs : List Row) (ix : List ℕ) → length ix ≡ 0 → ix ≡ noted w rs ix
noted_none w rs ix e = let z = none_is ix e in z ∙ sym (ap (noted w rs) z ∙ none_noted w rs)
