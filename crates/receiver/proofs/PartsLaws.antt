-- What parts must keep so that the theory holds of a receiver made of them; the theory's own laws follow.
-- Assumes nothing.
use Prim.Native.Nat.{ℕ, ◌≤◌}
use mathlib.Core.Path.{◌≡◌}
use mathlib.Core.Logic.{◌≢◌, ◌⊎◌, inl, inr}
use mathlib.Core.Bool.{true, false}
use mathlib.Core.List.{List}
use lib.Dec.{eqb}
use lib.ListN.{length}
use native.Mathlib.Omega.{arith}
use borrow.Author.Tests.{eq-eqb, ne_eqb, eqb-true, eqb-false}
use Rattle.facts.specs.Pick.{pick}
use Rattle.facts.proofs.Picks.{pick_cases}
use Rattle.arbitration.specs.Slots.{Slot}
use Rattle.arbitration.specs.Engine.{Applied, ok, broke, StoreLaws, Laws}
use Rattle.arbitration.specs.Receive.{records_of}
use Rattle.arbitration.specs.Lists.{Every, Numbered, Bounded}
use Rattle.receiver.specs.Parts.{Rules, Parts, engine_of}

pub record PartsLaws (P : Parts) : Type 0 where
  pub store : StoreLaws P.store
  -- of the rules: a good body fits a slot; only a good one applies, and any other breaks 27; a broken rule leaves the book as it is
  pub good_fits : (b : List ℕ) → P.rules.good b ≡ true → length b ≤ 64
  pub rule_good : (n : ℕ) (b : List ℕ) (k : P.rules.Book) → P.rules.rule n b k ≡ 0 → P.rules.good b ≡ true
  pub bad_body : (n : ℕ) (b : List ℕ) (k : P.rules.Book) → P.rules.good b ≡ false → P.rules.rule n b k ≡ 27
  pub broken_keeps : (n : ℕ) (b : List ℕ) (k : P.rules.Book) → P.rules.rule n b k ≢ 0 → P.rules.after n b k ≡ k
  -- of the framing: numbers in range, bodies that fit
  pub numbered : (p : List ℕ) → Every Numbered (records_of (P.frame p))
  pub bounded : (p : List ℕ) → Every Bounded (records_of (P.frame p))
  -- of the sizes: neither a message nor the shelf's work changes them, and a good shelf is one of the store
  pub sized_ok : (k : P.rules.Book) (s : P.store.Shelf) → P.sized k s ≡ true → P.store.Ok s
  pub sized_put : (k : P.rules.Book) (s : P.store.Shelf) (i : ℕ) (x : Slot) → P.sized k (P.store.put s i x) ≡ P.sized k s
  pub sized_after : (n : ℕ) (b : List ℕ) (k : P.rules.Book) (s : P.store.Shelf) → P.sized (P.rules.after n b k) s ≡ P.sized k s

-- ---- what is applied, by the rule
module _ (R : Rules) (n : ℕ) (b : List ℕ) (k : R.Book) where
  pub apply_ok : R.rule n b k ≡ 0 → (engine_of R).apply n b k ≡ ok (R.after n b k)
  unfolding pick
  apply_ok e = simp (eq-eqb _ _ e)

  pub apply_broke : R.rule n b k ≢ 0 → (engine_of R).apply n b k ≡ broke (R.rule n b k)
  unfolding pick
  apply_broke e = simp (ne_eqb _ _ e)

  -- what an application shows
  pub applied_shows : (y : R.Book) → (engine_of R).apply n b k ≡ ok y → y ≡ R.after n b k
  applied_shows y e = go (pick_cases e)
    where
      go : ((eqb (R.rule n b k) 0 ≡ true) × (◌≡◌ {A = Applied R.Book} (ok (R.after n b k)) (ok y))) ⊎ ((eqb (R.rule n b k) 0 ≡ false) × (◌≡◌ {A = Applied R.Book} (broke (R.rule n b k)) (ok y))) → y ≡ R.after n b k
      go (inl h) = cc
      go (inr h) = let z : ◌≡◌ {A = ℕ} 0 1 = cc in absurd (omega arith)

  pub applied_rule : (y : R.Book) → (engine_of R).apply n b k ≡ ok y → R.rule n b k ≡ 0
  applied_rule y e = go (pick_cases e)
    where
      go : ((eqb (R.rule n b k) 0 ≡ true) × (◌≡◌ {A = Applied R.Book} (ok (R.after n b k)) (ok y))) ⊎ ((eqb (R.rule n b k) 0 ≡ false) × (◌≡◌ {A = Applied R.Book} (broke (R.rule n b k)) (ok y))) → R.rule n b k ≡ 0
      go (inl h) = eqb-true (R.rule n b k) 0 h.0
      go (inr h) = let z : ◌≡◌ {A = ℕ} 0 1 = cc in absurd (omega arith)

  rule_pos : (q : ℕ) → (engine_of R).apply n b k ≡ broke q → 1 ≤ q
  rule_pos q e = go (pick_cases e)
    where
      not_zero : (x : ℕ) → (x ≡ 0 → ⊥) → 1 ≤ x
      not_zero x h = omega arith

      go : ((eqb (R.rule n b k) 0 ≡ true) × (◌≡◌ {A = Applied R.Book} (ok (R.after n b k)) (broke q))) ⊎ ((eqb (R.rule n b k) 0 ≡ false) × (◌≡◌ {A = Applied R.Book} (broke (R.rule n b k)) (broke q))) → 1 ≤ q
      go (inl h) = let z : ◌≡◌ {A = ℕ} 0 1 = cc in absurd (omega arith)
      go (inr h) =
          let r : q ≡ R.rule n b k = cc in
          rw r (not_zero (R.rule n b k) (eqb-false (R.rule n b k) 0 h.0))

pub laws_of : (P : Parts) → PartsLaws P → Laws P.store (engine_of P.rules)
laws_of P L = record { store = L.store; engine = record { good_fits = L.good_fits; rule_pos = rule_pos P.rules } }
