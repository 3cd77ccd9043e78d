-- A field whose test holds is passed, and one whose test fails is told: what each answer says of the test.
-- Assumes nothing.
use Prim.Native.Nat.{ℕ, ◌+◌, ◌<◌}
use mathlib.Core.Path.{◌≡◌, refl, sym, ap, ◌∙◌}
use mathlib.Core.Bool.{Bool, true, false}
use mathlib.Core.List.{List}
use mathlib.Core.Logic.{◌⊎◌, inl, inr}
use native.Mathlib.Omega.{arith}
use lib.ListN.{get_or}
use lib.Dec.{eqb}
use borrow.Author.Tests.{ne_eqb}
use Rattle.editions.specs.declared.Edition.{Edition}
use Rattle.wire.specs.Le.{field}
use Rattle.kinds.specs.declared.Kind.{Kind}
use Rattle.facts.specs.Pick.{pick}
use Rattle.fields.specs.Fields.{bad_at}
use Rattle.fields.specs.declared.Fault.{Fault}
use Rattle.body.specs.Ranges.{nanos_ok, side_ok, price_ok, size_ok, security_ok, test_ok, market_ok}
use Rattle.body.specs.Faults.{fault_from, fault_of}
use Rattle.body.specs.Read.{tested, judge_fields}
use Rattle.std.specs.Prelude.{Result, Ok, Err}

pub passed : (t : Bool) (at : ℕ) (u : Unit {0}) → tested t at ≡ Ok u → t ≡ true
unfolding pick
passed true at u e = refl
passed false at u e = let z : ◌≡◌ {A = ℕ} 0 1 = cc in absurd (omega arith)

pub failed : (t : Bool) (at : ℕ) (f : Fault) → tested t at ≡ Err f → (t ≡ false) × (f ≡ bad_at 4 at)
unfolding pick
failed true at f e = let z : ◌≡◌ {A = ℕ} 0 1 = cc in absurd (omega arith)
failed false at f e = let q : bad_at 4 at ≡ f = cc in (refl, sym q)

-- ---- field by field
-- what is told of an offset, none at 0
abbrev told : ℕ → Result (Unit {0}) Fault
told n = tested (eqb n 0) n

abbrev bad : ℕ → Result (Unit {0}) Fault
bad at = Err (bad_at 4 at)

first : (t : Bool) (n at : ℕ) → 0 < at → pick t (told n) (bad at) ≡ told (pick t n at)
unfolding pick
first true n at l = refl
first false n at l = rw (ne_eqb at 0 (λ e. omega arith)) refl

last : (t : Bool) (at : ℕ) → 0 < at → tested t at ≡ told (pick t 0 at)
unfolding pick
last true at l = refl
last false at l = rw (ne_eqb at 0 (λ e. omega arith)) refl

field_told : (t : Bool) (at : ℕ) (r : Result (Unit {0}) Fault) (n : ℕ) → 0 < at → r ≡ told n → pick t r (bad at) ≡ told (pick t n at)
field_told t at r n l e = ap (λ (q : Result (Unit {0}) Fault). pick t q (bad at)) e ∙ first t n at l

deal_last : (p z : Bool) (at : ℕ) → 0 < at → pick p (tested z (at + 8)) (bad at) ≡ told (pick p (pick z 0 (at + 8)) at)
deal_last p z at l = field_told p at _ _ l (last z (at + 8) (omega arith))

-- the tests of price and size at a place
abbrev pub deal_tested : List ℕ → ℕ → Result (Unit {0}) Fault
deal_tested b at = pick (price_ok (field b at 8)) (tested (size_ok (field b (at + 8) 4)) (at + 8)) (Err (bad_at 4 at))

abbrev pub stamp_tested : List ℕ → Result (Unit {0}) Fault → Result (Unit {0}) Fault
stamp_tested b r = pick (nanos_ok (field b 1 4)) r (Err (bad_at 4 1))

module _ (ed : Edition) (b : List ℕ) where
  -- nothing is judged
  pub none_judged : (k : Kind) → (k ≡ Kind.SystemTime) ⊎ (k ≡ Kind.Unknown) → Ok tt ≡ judge_fields ed k b
  unfolding judge_fields fault_of fault_from pick
  none_judged k (inl e) = rw e refl
  none_judged k (inr e) = rw e refl

  -- the Timestamp alone
  pub stamp_judged : (k : Kind) → (k ≡ Kind.SystemState) ⊎ ((k ≡ Kind.TradingStatus) ⊎ ((k ≡ Kind.SymbolClear) ⊎ (k ≡ Kind.Delete))) → tested (nanos_ok (field b 1 4)) 1 ≡ judge_fields ed k b
  unfolding judge_fields fault_of fault_from pick
  stamp_judged k (inl e) = rw e (last (nanos_ok (field b 1 4)) 1 (omega arith))
  stamp_judged k (inr (inl e)) = rw e (last (nanos_ok (field b 1 4)) 1 (omega arith))
  stamp_judged k (inr (inr (inl e))) = rw e (last (nanos_ok (field b 1 4)) 1 (omega arith))
  stamp_judged k (inr (inr (inr e))) = rw e (last (nanos_ok (field b 1 4)) 1 (omega arith))

  deal_told : (at : ℕ) → 0 < at → stamp_tested b (deal_tested b at) ≡ told (pick (nanos_ok (field b 1 4)) (pick (price_ok (field b at 8)) (pick (size_ok (field b (at + 8) 4)) 0 (at + 8)) at) 1)
  deal_told at l = field_told (nanos_ok (field b 1 4)) 1 _ _ (omega arith) (deal_last (price_ok (field b at 8)) (size_ok (field b (at + 8) 4)) at l)

  -- Timestamp, price and size
  pub modify_judged : stamp_tested b (deal_tested b 17) ≡ judge_fields ed Kind.Modify b
  unfolding judge_fields fault_of fault_from pick
  modify_judged = deal_told 17 (omega arith)

  pub execution_judged : stamp_tested b (deal_tested b 25) ≡ judge_fields ed Kind.Execution b
  unfolding judge_fields fault_of fault_from pick
  execution_judged = deal_told 25 (omega arith)

  pub trade_judged : (k : Kind) → (k ≡ Kind.Trade) ⊎ (k ≡ Kind.TradeCancel) → stamp_tested b (deal_tested b 18) ≡ judge_fields ed k b
  unfolding judge_fields fault_of fault_from pick
  trade_judged k (inl e) = rw e (deal_told 18 (omega arith))
  trade_judged k (inr e) = rw e (deal_told 18 (omega arith))

  -- those that have more
  pub add_judged : stamp_tested b (pick (side_ok (get_or b 17 0)) (deal_tested b 18) (Err (bad_at 4 17))) ≡ judge_fields ed Kind.Add b
  unfolding judge_fields fault_of fault_from pick
  add_judged =
      field_told (nanos_ok (field b 1 4)) 1 _ _ (omega arith)
      (field_told (side_ok (get_or b 17 0)) 17 _ _ (omega arith) (deal_last (price_ok (field b 18 8)) (size_ok (field b 26 4)) 18 (omega arith)))

  pub update_judged : stamp_tested b (pick (security_ok ed (get_or b 20 0)) (pick (test_ok (get_or b 21 0)) (tested (market_ok (get_or b 41 0)) 41) (Err (bad_at 4 21))) (Err (bad_at 4 20))) ≡ judge_fields ed Kind.SymbolUpdate b
  unfolding judge_fields fault_of fault_from pick
  update_judged =
      field_told (nanos_ok (field b 1 4)) 1 _ _ (omega arith)
      (field_told (security_ok ed (get_or b 20 0)) 20 _ _ (omega arith)
      (field_told (test_ok (get_or b 21 0)) 21 _ _ (omega arith) (last (market_ok (get_or b 41 0)) 41 (omega arith))))
