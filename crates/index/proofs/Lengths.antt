-- Whatever is stored, a memory of any length keeps it.
-- Assumes nothing.
use mathlib.Core.Path.{◌≡◌, refl, ◌∙◌}
use mathlib.Core.List.{List, [], ◌∷◌}
use Prim.Native.Nat.{ℕ, suc, ◌+◌}
use lib.ListN.{length, set, length-set}
use Rattle.facts.specs.Pick.{pick}
use Rattle.std.specs.Prelude.{Option, Some, None}
use Rattle.facts.proofs.Picks.{pick_ind}
use Rattle.rows.specs.declared.Row.{Row}
use Rattle.rows.specs.Rows.{free}
use Rattle.index.specs.Index.{slots, used_of, hash, packed, vacant, filled_at, placed, taken, freed, entered, each_row, front, zeroed, built, roomy, came}
use Rattle.index.proofs.Cases.{length_zeroed}
use Rattle.index.proofs.Stored.{taken_length, freed_length}

module _ (ix : List ℕ) where
  abbrev Long : List ℕ → Type 0
  Long jx = length jx ≡ length ix

  filled_length : (f : Option ℕ) (id i : ℕ) → Long (filled_at f ix id i)
  unfolding filled_at
  filled_length None id i = refl
  filled_length (Some p) id i = length-set (set ix p (packed id i)) 32768 (used_of ix + 1) ∙ length-set ix p (packed id i)

  pub placed_length : (id i : ℕ) → Long (placed ix id i)
  unfolding placed
  placed_length id i = pick_ind Long _ ix (filled_at (vacant slots ix (hash id)) ix id i) (λ e. refl) (λ e. filled_length (vacant slots ix (hash id)) id i)

  entered_length : (r : Row) (i : ℕ) → Long (entered ix r i)
  unfolding entered
  entered_length r i =
      pick_ind Long _ (placed ix r.order i) (pick (free r) (freed ix i) ix)
      (λ e. placed_length r.order i) (λ e. pick_ind Long _ (freed ix i) ix (λ d. freed_length ix i) (λ d. refl))

pub each_length : (f : List ℕ → Row → ℕ → List ℕ) → ((ix : List ℕ) (r : Row) (i : ℕ) → length (f ix r i) ≡ length ix) → (i : ℕ) (rs : List Row) (ix : List ℕ) → length (each_row f i rs ix) ≡ length ix
unfolding each_row
each_length f h i [] ix = refl
each_length f h i (r ∷ rs) ix = each_length f h (suc i) rs (f ix r i) ∙ h ix r i

pub built_length : (ix : List ℕ) (rs : List Row) → length (built ix rs) ≡ length ix
unfolding built
built_length ix rs = each_length entered entered_length 0 rs (zeroed front ix) ∙ length_zeroed front ix

roomy_length : (ix : List ℕ) (rs : List Row) → length (roomy ix rs) ≡ length ix
unfolding roomy
roomy_length ix rs = pick_ind (λ (jx : List ℕ). length jx ≡ length ix) _ (built ix rs) ix (λ e. built_length ix rs) (λ e. refl)

pub came_length : (ix : List ℕ) (rs : List Row) (id i : ℕ) → length (came ix rs id i) ≡ length ix
unfolding came
came_length ix rs id i = placed_length (taken (roomy ix rs) i) id i ∙ taken_length (roomy ix rs) i ∙ roomy_length ix rs
