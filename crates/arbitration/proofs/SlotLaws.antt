-- Slots and their bodies, by the laws of padding; comparing slots; and one law for a slot after a put.
-- Assumes nothing.
use Prim.Native.Nat.{ℕ, ◌^◌, ◌≤◌, ◌<◌}
use mathlib.Core.Path.{◌≡◌, refl, sym, ap, subst, ◌∙◌}
use mathlib.Core.Logic.{◌≢◌}
use mathlib.Core.Bool.{true}
use mathlib.Core.List.{List, ◌++◌}
use lib.ListN.{length, replicate}
use lib.Seq.{take-take, take-append_seam}
use lib.Dec.{eqb}
use native.Mathlib.Omega.{arith}
use native.Mathlib.Decide.{ℕ_discrete}
use borrow.Author.Tests.{eqb-true, eq-eqb}
use Rattle.facts.specs.Pick.{both}
use Rattle.facts.specs.Same.{same_bytes}
use Rattle.facts.proofs.Picks.{both_true}
use Rattle.facts.proofs.SameLaws.{same_bytes_refl, same_bytes_eq}
use Rattle.wire.specs.Le.{padded}
use Rattle.wire.proofs.Laws.{length_padded}
use Rattle.arbitration.specs.Slots.{Slot, empty_slot, slot_for, slot_body, same_slot, Fits}
use Rattle.arbitration.specs.Engine.{Store, StoreLaws}

pub empty_fits : Fits empty_slot
empty_fits = record { number_fits = omega arith; len_fits = omega arith; bytes_64 = refl }

pub slot_for_fits : (n : ℕ) (b : List ℕ) → n < 2 ^ 64 → length b ≤ 64 → Fits (slot_for n b)
slot_for_fits n b h l = record { number_fits = h; len_fits = omega arith; bytes_64 = length_padded _ 0 64 }

-- the body comes back
pub body_back : (n : ℕ) (b : List ℕ) → length b ≤ 64 → slot_body (slot_for n b) ≡ b
unfolding padded
body_back n b h = take-take (length b) 64 (b ++ replicate 64 0) h ∙ take-append_seam b (replicate 64 0)

-- ---- comparing
pub same_number : (s t : Slot) → same_slot s t ≡ true → s.number ≡ t.number
unfolding same_slot
same_number s t e = eqb-true _ _ (both_true e).0

pub same_refl : (s : Slot) → same_slot s s ≡ true
unfolding same_slot both
same_refl s = rw (eq-eqb s.number s.number refl, eq-eqb s.len s.len refl) (same_bytes_refl s.bytes)

-- slots that compare the same are the same
pub same_eq : (s t : Slot) → same_slot s t ≡ true → s ≡ t
unfolding same_slot
same_eq s t e =
    let a = both_true {a = eqb s.number t.number} {b = both (eqb s.len t.len) (same_bytes s.bytes t.bytes)} e in
    let b = both_true {a = eqb s.len t.len} {b = same_bytes s.bytes t.bytes} a.1 in
    let n : s.number ≡ t.number = eqb-true s.number t.number a.0 in
    let l : s.len ≡ t.len = eqb-true s.len t.len b.0 in
    let y : s.bytes ≡ t.bytes = same_bytes_eq s.bytes t.bytes b.1 in
    λ i. record { number = n i; len = l i; bytes = y i }

-- ---- slot j after a put into slot i: the new slot, or the old one
module _ (S : Store) (L : StoreLaws S) where
  pub put_at : (s : S.Shelf) (i : ℕ) (x : Slot) → S.Ok s → i < 64 → Fits x
      → (P : Slot → Type 0) (j : ℕ) → j < 64 → (j ≡ i → P x) → (j ≢ i → P (S.get s j)) → P (S.get (S.put s i x) j)
  put_at s i x o h f P j l same other = go (ℕ_discrete j i)
    where
      go : Dec (j ≡ i) → P (S.get (S.put s i x) j)
      go (yes e) = subst P (sym (ap (S.get (S.put s i x)) e ∙ L.get_same s i x o h f)) (same e)
      go (no n) = subst P (sym (L.get_other s i j x o h l n f)) (other n)
