-- A test of every number of a range, or of every pair of a table, which the checker computes, and what it says of each.
-- Assumes nothing.
use mathlib.Core.Path.{◌≡◌, refl}
use mathlib.Core.Bool.{Bool, true, false}
use Prim.Native.Nat.{ℕ, zero, suc, ◌+◌, ◌≤◌, ◌<◌}
use native.Mathlib.Omega.{arith}
use lib.Dec.{eqb}
use borrow.Author.Tests.{eqb-true, eqb-false}
use Rattle.facts.specs.Pick.{both}
use Rattle.facts.proofs.Picks.{both_true}

-- f holds at each of the n numbers from lo on
unfoldable pub run : (ℕ → Bool) → ℕ → ℕ → Bool
run f lo zero = true
run f lo (suc n) = both (f lo) (run f (suc lo) n)

after : (a b : ℕ) → a ≤ b → (a ≡ b → ⊥) → suc a ≤ b
after a b l ne = omega arith

step : (f : ℕ → Bool) (lo x : ℕ) (t : Bool) → eqb lo x ≡ t → f lo ≡ true → lo ≤ x → (suc lo ≤ x → f x ≡ true) → f x ≡ true
step f lo x true e h l next = let q : lo ≡ x = eqb-true lo x e in rw q at h
step f lo x false e h l next = next (after lo x l (eqb-false lo x e))

pub in_run : (f : ℕ → Bool) (lo n : ℕ) → run f lo n ≡ true → (x : ℕ) → lo ≤ x → x < lo + n → f x ≡ true
unfolding run
in_run f lo zero h x l u = absurd (omega arith)
in_run f lo (suc n) h x l u =
    let s = both_true {a = f lo} {b = run f (suc lo) n} h in
    step f lo x (eqb lo x) refl s.0 l (λ k. in_run f (suc lo) n s.1 x k (omega arith))
