-- Runs of elements that are stored in a list: past its end nothing is, and two runs stored one behind the other are one run.
-- Assumes nothing.
use Prim.Native.Nat.{ℕ, suc, ◌+◌, ◌≤◌}
use mathlib.Core.Path.{◌≡◌, refl, ap, ◌∙◌}
use mathlib.Core.List.{List, [], ◌∷◌, ◌++◌}
use native.Mathlib.Omega.{arith}
use lib.ListN.{length, set, length-set}
use lib.Seq.{sets, set_out}

pub sets_past : (s x : List ℕ) (i : ℕ) → length x ≤ i → sets x i s ≡ x
sets_past [] x i h = refl
sets_past (a ∷ s) x i h = sets_past s (set x i a) (suc i) (rw length-set (omega arith)) ∙ set_out x i a h

pub sets_append : (t u b : List ℕ) (i : ℕ) → sets b i (t ++ u) ≡ sets (sets b i t) (i + length t) u
sets_append [] u b i = ap (λ (k : ℕ). sets b k u) (omega arith)
sets_append (a ∷ t) u b i = sets_append t u (set b i a) (suc i) ∙ ap (λ (k : ℕ). sets (sets (set b i a) (suc i) t) k u) (omega arith)
