-- A view is its fault or what it shows, and without a fault both sizes are good and the symbol is known.
-- Assumes nothing.
use mathlib.Core.Path.{◌≡◌, refl, ap, ◌∙◌}
use mathlib.Core.List.{List}
use mathlib.Core.Bool.{Bool, true, false}
use Prim.Native.Nat.{ℕ}
use native.Mathlib.Omega.{arith}
use lib.ListN.{length}
use lib.Dec.{eqb}
use borrow.Author.Tests.{eq-eqb, ne_eqb, eqb-true, eqb-false}
use Rattle.facts.specs.Pick.{pick}
use Rattle.facts.proofs.Picks.{both_true}
use Rattle.fields.specs.Fields.{refusal}
use Rattle.rows.specs.Rows.{rows, good_rows}
use Rattle.symbols.specs.Entries.{entries}
use Rattle.symbols.specs.Find.{known_symbol}
use Rattle.views.specs.declared.Side.{Side}
use Rattle.fields.specs.declared.Refusal.{Refusal}
use Rattle.std.specs.Prelude.{Ok, Err}
use Rattle.views.specs.Ladder.{key_of, ladder, written, Laid, laid_out, ladder_run}
use Rattle.views.specs.Spread.{spread_of}
use Rattle.views.specs.Views.{good_tables, view_fault, viewable, ladder_out, ladder_view, spread_view}

module _ (s : ℕ) (orders symbols : List ℕ) where
  -- ---- the fault
  pub sizes_first : good_tables orders symbols ≡ false → 6 ≡ view_fault s orders symbols
  unfolding view_fault pick
  sizes_first g = rw g

  pub then_symbol : good_tables orders symbols ≡ true → known_symbol s (entries symbols) ≡ false → 30 ≡ view_fault s orders symbols
  unfolding view_fault pick
  then_symbol g k = rw (g, k)

  pub no_fault : good_tables orders symbols ≡ true → known_symbol s (entries symbols) ≡ true → 0 ≡ view_fault s orders symbols
  unfolding view_fault pick
  no_fault g k = rw (g, k)

  pub fault_none : view_fault s orders symbols ≡ 0 → (good_tables orders symbols ≡ true) × (known_symbol s (entries symbols) ≡ true)
  unfolding view_fault pick
  fault_none e = go (good_tables orders symbols) (known_symbol s (entries symbols)) e
    where
      go : (g k : Bool) → ◌≡◌ {A = ℕ} (pick g (pick k 0 30) 6) 0 → (g ≡ true) × (k ≡ true)
      go true true e = (refl, refl)
      go true false e = absurd (omega arith)
      go false k e = absurd (omega arith)

  -- ---- refused, or not
  fault_told : (r : Refusal) → viewable s orders symbols ≡ Err r → (view_fault s orders symbols ≡ 0 → ⊥) × (r ≡ refusal (view_fault s orders symbols))
  unfolding viewable pick
  fault_told r = go (eqb (view_fault s orders symbols) 0) refl
    where
      go : (b : Bool) → eqb (view_fault s orders symbols) 0 ≡ b → pick b (Ok (tt {0})) (Err (refusal (view_fault s orders symbols))) ≡ Err r → (view_fault s orders symbols ≡ 0 → ⊥) × (r ≡ refusal (view_fault s orders symbols))
      go true t e = cc
      go false t e = (eqb-false (view_fault s orders symbols) 0 t, cc)

  fault_free : (u : Unit {0}) → viewable s orders symbols ≡ Ok u → view_fault s orders symbols ≡ 0
  unfolding viewable pick
  fault_free u = go (eqb (view_fault s orders symbols) 0) refl
    where
      go : (b : Bool) → eqb (view_fault s orders symbols) 0 ≡ b → pick b (Ok (tt {0})) (Err (refusal (view_fault s orders symbols))) ≡ Ok u → view_fault s orders symbols ≡ 0
      go true t e = eqb-true (view_fault s orders symbols) 0 t
      go false t e = cc

  -- ---- the ladder
  module _ (side : Side) (out : List ℕ) where
    pub ladder_refused : (view_fault s orders symbols ≡ 0 → ⊥) → ladder_out (Err (refusal (view_fault s orders symbols))) out ≡ ladder_view side s orders symbols out
    unfolding ladder_view pick
    ladder_refused n = rw (ne_eqb (view_fault s orders symbols) 0 n)

    pub ladder_shown : view_fault s orders symbols ≡ 0 → (n : ℕ) (u : List ℕ) → laid_out n u ≡ ladder_run (key_of side s) orders out
        → ladder_out (Ok n) u ≡ ladder_view side s orders symbols out
    unfolding ladder_view ladder_run good_tables pick
    ladder_shown e n u f =
        let g : good_rows (length orders) ≡ true = (both_true (fault_none e).0).0 in
        let w : laid_out n u ≡ laid_out (length (ladder (key_of side s) (rows orders))) (written (ladder (key_of side s) (rows orders)) out) = f ∙ rw g in
        rw (eq-eqb (view_fault s orders symbols) 0 e) (ap (λ (x : Laid). ladder_out (Ok x.count) x.run) w)

    pub ladder_err : (r : Refusal) → viewable s orders symbols ≡ Err r → ladder_out (Err r) out ≡ ladder_view side s orders symbols out
    ladder_err r e = let f = fault_told r e in ap (λ x. ladder_out (Err x) out) f.1 ∙ ladder_refused f.0

    pub ladder_ok : (u : Unit {0}) → viewable s orders symbols ≡ Ok u → (n : ℕ) (o : List ℕ) → laid_out n o ≡ ladder_run (key_of side s) orders out → ladder_out (Ok n) o ≡ ladder_view side s orders symbols out
    ladder_ok u e = ladder_shown (fault_free u e)

  -- ---- the spread
  pub spread_refused : (view_fault s orders symbols ≡ 0 → ⊥) → Err (refusal (view_fault s orders symbols)) ≡ spread_view s orders symbols
  unfolding spread_view pick
  spread_refused n = rw (ne_eqb (view_fault s orders symbols) 0 n)

  pub spread_shown : view_fault s orders symbols ≡ 0 → Ok (spread_of s (rows orders)) ≡ spread_view s orders symbols
  unfolding spread_view pick
  spread_shown e = rw (eq-eqb (view_fault s orders symbols) 0 e)

  pub spread_err : (r : Refusal) → viewable s orders symbols ≡ Err r → Err r ≡ spread_view s orders symbols
  spread_err r e = let f = fault_told r e in ap Err f.1 ∙ spread_refused f.0

  pub spread_ok : (u : Unit {0}) → viewable s orders symbols ≡ Ok u → Ok (spread_of s (rows orders)) ≡ spread_view s orders symbols
  spread_ok u e = spread_shown (fault_free u e)
