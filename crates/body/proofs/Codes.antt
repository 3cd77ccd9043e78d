-- Judging as one number: what the tests on the way say of the judgement, and that the number tells it.
-- Assumes nothing.
use mathlib.Core.Path.{◌≡◌, refl, sym, ap, subst, ◌∙◌}
use mathlib.Core.Logic.{inl, inr}
use mathlib.Core.List.{List}
use Prim.Native.Nat.{ℕ, ◌/◌, ◌%◌, ◌≤◌, ◌<◌}
use native.Mathlib.Omega.{arith}
use lib.ListN.{length, get_or}
use borrow.Author.Tests.{lt-ltb, le-ltb, eq-eqb, ne_eqb}
use Rattle.facts.specs.Pick.{pick, both}
use Rattle.editions.specs.declared.Edition.{Edition}
use Rattle.kinds.specs.Table.{length_of, kind_of}
use Rattle.kinds.specs.declared.Kind.{Kind}
use Rattle.fields.specs.Fields.{bad_at}
use Rattle.fields.specs.declared.Fault.{Fault}
use Rattle.body.specs.Faults.{fault_of}
use Rattle.body.specs.Read.{framed, judge_fields, ranged, judge_body, judged, judged_number, judged_code, coded}
use Rattle.std.specs.Prelude.{Result, Ok, Err}
use Rattle.body.specs.Places.{BadBody}
use Rattle.body.proofs.Tests.{passed, failed}
use lib.Dec.{eqb}
use Rattle.body.proofs.Laws.{JudgedAs, judge_sound, Judgement, good, bad, judgement}

-- ---- what is told of a judgement without its kind
pub told_good : (r : Result Kind Fault) (u : Unit {0}) → judged r ≡ Ok u → (k : Kind) × (Ok k ≡ r)
told_good (Ok k) u e = (k, refl)
told_good (Err f) u e = let z : ◌≡◌ {A = ℕ} 0 1 = cc in absurd (omega arith)

pub told_bad : (r : Result Kind Fault) (f : Fault) → judged r ≡ Err f → Err f ≡ r
told_bad (Ok k) f e = let z : ◌≡◌ {A = ℕ} 0 1 = cc in absurd (omega arith)
told_bad (Err g) f e = let q : g ≡ f = cc in ap (λ (x : Fault). Err x) (sym q)

-- in one number it is that of the judgement
pub code_told : (r : Result Kind Fault) → coded (judged r) ≡ judged_code r
code_told (Ok k) = refl
code_told (Err f) = refl

module _ (ed : Edition) (b : List ℕ) where
  -- ---- by the tests
  pub empty_judged : length b ≤ 0 → Err (bad_at 3 0) ≡ judge_body ed b
  unfolding judge_body framed pick both
  empty_judged h = simp (le-ltb 0 (length b) h)

  module _ (some : 0 < length b) (n : ℕ) (by_table : n ≡ length_of (get_or b 0 0)) where
    pub length_judged : (length b ≡ n → ⊥) → Err (bad_at 3 0) ≡ judge_body ed b
    unfolding judge_body framed pick both
    length_judged h = simp (lt-ltb 0 (length b) some, ← by_table, ne_eqb (length b) n h)

    module _ (whole : length b ≡ n) (k : Kind) (by_type : k ≡ kind_of (get_or b 0 0)) where
      fields_judged : (r : Result Kind Fault) → ranged ed k b ≡ r → r ≡ judge_body ed b
      unfolding judge_body framed pick both
      fields_judged r e = simp (lt-ltb 0 (length b) some, ← by_table, eq-eqb (length b) n whole, ← by_type, e)

      pub good_told : (u : Unit {0}) → judge_fields ed k b ≡ Ok u → Ok k ≡ judge_body ed b
      unfolding judge_fields ranged pick
      good_told u e = let q = passed (eqb (fault_of ed k b) 0) (fault_of ed k b) u e in fields_judged (Ok k) (rw q refl)

      pub fault_told : (f : Fault) → judge_fields ed k b ≡ Err f → Err f ≡ judge_body ed b
      unfolding judge_fields ranged pick
      fault_told f e = let q = failed (eqb (fault_of ed k b) 0) (fault_of ed k b) f e in fields_judged (Err f) (rw q.0 (ap (λ (x : Fault). Err x) (sym q.1)))

  -- ---- by the number
  number_bound : (f : Fault) → BadBody ed b f → (3 ≤ f.number) × (f.number ≤ 4)
  number_bound f (inl h) = (omega (arith, h.0), omega (arith, h.0))
  number_bound f (inr h) = (omega (arith, h.0), omega (arith, h.0))

  -- document 01's number of a refusal is none for 0
  pub number_some : (f : Fault) → Err f ≡ judge_body ed b → f.number ≡ 0 → ⊥
  number_some f e z = absurd (omega (arith, z, (number_bound f (subst (λ (r : Result Kind Fault). JudgedAs ed r b) (sym e) (judge_sound ed b))).0))

  pub code_good : judged_code (judge_body ed b) ≡ 0 → Ok (kind_of (get_or b 0 0)) ≡ judge_body ed b
  code_good z = go (judgement ed b)
    where
      go : Judgement ed b → Ok (kind_of (get_or b 0 0)) ≡ judge_body ed b
      go (good k e g y) =
          let own : k ≡ kind_of (get_or b 0 0) = (subst (λ (r : Result Kind Fault). JudgedAs ed r b) e (judge_sound ed b)).0 in
          ap (λ (x : Kind). Ok x) (sym own) ∙ sym e
      go (bad f e g w) =
          let q : judged_code (Err f) ≡ 0 = ap judged_code (sym e) ∙ z in
          absurd (omega (arith, q, (number_bound f w).0))

  pub code_bad : (c : ℕ) → c ≡ judged_code (judge_body ed b) → (c ≡ 0 → ⊥) → Err (record { number = c % 256; at = c / 256 }) ≡ judge_body ed b
  code_bad c i z = go (judgement ed b)
    where
      go : Judgement ed b → Err (record { number = c % 256; at = c / 256 }) ≡ judge_body ed b
      go (good k e g y) = absurd (z (i ∙ ap judged_code e))
      go (bad f e g w) =
          let q : c ≡ judged_code (Err f) = i ∙ ap judged_code e in
          let n : c % 256 ≡ f.number = omega (arith, q, (number_bound f w).1) in
          let o : c / 256 ≡ f.at = omega (arith, q, (number_bound f w).1) in
          (λ j. Err (record { number = n j; at = o j })) ∙ sym e

  -- the number alone, from the one number, which is 0 where it is
  pub code_number : (c : ℕ) → c ≡ judged_code (judge_body ed b) → (c % 256 ≡ judged_number (judge_body ed b)) × (judged_number (judge_body ed b) ≡ 0 → c ≡ 0)
  code_number c = go (judge_body ed b) (judge_sound ed b)
    where
      go : (j : Result Kind Fault) → JudgedAs ed j b → c ≡ judged_code j → (c % 256 ≡ judged_number j) × (judged_number j ≡ 0 → c ≡ 0)
      go (Ok k) s e = (omega (arith, e), λ z. e)
      go (Err f) (inl s) e = (omega (arith, e, s.0), λ z. absurd (omega (arith, s.0)))
      go (Err f) (inr s) e = (omega (arith, e, s.0), λ z. absurd (omega (arith, s.0)))
