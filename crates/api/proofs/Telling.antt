-- What a library call answered decides what C is told, and an offset of reading is small.
-- Assumes nothing.
use Prim.Native.Nat.{ℕ, ◌≤◌}
use mathlib.Core.Path.{◌≡◌, refl, ap}
use native.Mathlib.Omega.{arith}
use lib.IntN.{ℤ}
use Rattle.std.specs.Prelude.{Option, Some, None, Result, Ok, Err, IfErr}
use Rattle.facts.specs.Limits.{packet_most}
use Rattle.fields.specs.declared.Fault.{Fault}
use Rattle.fields.specs.declared.Refusal.{Refusal}
use Rattle.packet.specs.declared.Why.{Why}
use Rattle.views.specs.Views.{spread_number}
use Rattle.conversion.specs.declared.Tally.{Tally}
use Rattle.conversion.specs.Piece.{pieced_number}
use Rattle.api.specs.Told.{code_of, done_of, Small}

-- ---- the number is that of the answer
pub code_told : {A E : Type 0} (g : E → ℕ) (v : Result A E) → code_of g (done_of v) ≡ code_of g v
code_told g (Ok a) = refl
code_told g (Err e) = refl

pub spread_code : (a : Result (Option ℤ) Refusal) → code_of (λ (r : Refusal). r.number) a ≡ spread_number a
unfolding spread_number
spread_code (Ok None) = refl
spread_code (Ok (Some z)) = refl
spread_code (Err r) = refl

pub piece_code : (a : Result (ℕ × Tally) Refusal) → code_of (λ (r : Refusal). r.number) a ≡ pieced_number a
piece_code (Ok (n, t)) = refl
piece_code (Err r) = refl

-- ---- what is refused was refused
pub refused : {A E : Type 0} (v : Result A E) (e : E) → done_of v ≡ Err e → v ≡ Err e
refused (Ok a) e h = cc
refused (Err y) e h = ap Err (cc)

-- ---- an offset of reading is small
pub small_err : {A : Type 0} (v : Result A Why) → ((f : Fault) → v ≡ Err (Why.Placed f) → f.at ≤ packet_most) → IfErr (done_of v) Small
small_err (Ok a) h = tt
small_err (Err (Why.Alone r)) h = tt
small_err (Err (Why.Placed f)) h = omega (arith, h f refl)
