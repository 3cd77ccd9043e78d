-- Nanoseconds of a second (request 6): the Timestamp is the first field of the ten kinds that carry one, so what is known of a first field is known of it.
-- Assumes nothing.
use Prim.Native.Nat.{ℕ, ◌≤◌, ◌<◌}
use mathlib.Core.Path.{◌≡◌, refl, sym, ap, subst, ◌∙◌}
use mathlib.Core.Bool.{true, false, true≢false}
use mathlib.Core.List.{List, ◌∷◌}
use native.Mathlib.Omega.{arith}
use native.Mathlib.Decide.{dec_lt}
use lib.ListN.{get_or, drop}
use lib.Dec.{eqb, leb}
use borrow.Author.Tests.{le-leb, lt-leb}
use Rattle.facts.specs.Limits.{most_nanos}
use Rattle.facts.specs.Pick.{pick}
use Rattle.editions.specs.declared.Edition.{Edition}
use Rattle.layout.specs.Shape.{Shape, number, Values, cut}
use Rattle.layout.specs.Layout.{shapes}
use Rattle.layout.proofs.Laws.{cut_behind}
use Rattle.kinds.specs.Table.{kind_of}
use Rattle.kinds.specs.declared.Kind.{Kind}
use Rattle.fields.specs.Fields.{bad_at}
use Rattle.fields.specs.declared.Body.{Body}
use Rattle.body.specs.Ranges.{nanos_ok}
use Rattle.body.specs.Faults.{Tests, tests, fault_from, fault_of}
use Rattle.body.specs.Read.{framed, ranged, judge_body, judged_number, message, read_body, good_body}
use Rattle.std.specs.Prelude.{Result, Err}
use Rattle.fields.specs.declared.Fault.{Fault}
use Rattle.body.specs.Nanoseconds.{carries_stamp, stamped, stamp_of, PastSecond, Restamped}
use Rattle.body.proofs.Laws.{Framed, framed_is, judge_framed, judge_by_fault, good_framed}

-- fields of which the first is a Timestamp, with the range of one
data Stamp : (ss : List Shape) → Tests ss → Type 0 where
  stamp : (ss : List Shape) (ts : Tests ss) → Stamp (number 4 ∷ ss) (nanos_ok, ts)

stamp_of_lem : (ed : Edition) (k : Kind) → carries_stamp k ≡ true → Stamp (shapes k) (tests ed k)
stamp_of_lem ed Kind.SystemTime c = absurd (true≢false (sym c))
stamp_of_lem ed Kind.SymbolUpdate c = stamp _ _
stamp_of_lem ed Kind.SystemState c = stamp _ _
stamp_of_lem ed Kind.TradingStatus c = stamp _ _
stamp_of_lem ed Kind.SymbolClear c = stamp _ _
stamp_of_lem ed Kind.Add c = stamp _ _
stamp_of_lem ed Kind.Modify c = stamp _ _
stamp_of_lem ed Kind.Delete c = stamp _ _
stamp_of_lem ed Kind.Execution c = stamp _ _
stamp_of_lem ed Kind.Trade c = stamp _ _
stamp_of_lem ed Kind.TradeCancel c = stamp _ _
stamp_of_lem ed Kind.Unknown c = absurd (true≢false (sym c))

-- a first field that fails its test is the earliest fault
first_fault : (ss : List Shape) (ts : Tests ss) → Stamp ss ts → (b : List ℕ) → most_nanos < stamp_of b → fault_from ss ts (cut ss b 1) 1 ≡ 1
unfolding fault_from nanos_ok pick
first_fault _ _ (stamp ss ts) b l = rw (lt-leb (stamp_of b) most_nanos l) refl

-- one that holds it leaves all to those behind it
rest_decides : (ss : List Shape) (ts : Tests ss) → Stamp ss ts → (b c : List ℕ) → stamp_of b ≤ most_nanos → stamp_of c ≤ most_nanos → drop 5 c ≡ drop 5 b → fault_from ss ts (cut ss c 1) 1 ≡ fault_from ss ts (cut ss b 1) 1
unfolding fault_from nanos_ok pick
rest_decides _ _ (stamp ss ts) b c l m e = rw (le-leb (stamp_of b) most_nanos l, le-leb (stamp_of c) most_nanos m) (ap (λ (vs : Values ss). fault_from ss ts vs 5) (cut_behind ss c b 5 e))

-- it lies before every other field, so it is the earliest fault wherever it is one: byte 1
pub earliest : (ed : Edition) (k : Kind) (b : List ℕ) → carries_stamp k ≡ true → most_nanos < stamp_of b → fault_of ed k b ≡ 1
unfolding fault_of
earliest ed k b c l = first_fault (shapes k) (tests ed k) (stamp_of_lem ed k c) b l

-- "Larger is refused with 4 and its offset"
pub past_judged : (ed : Edition) (b : List ℕ) → PastSecond b → judge_body ed b ≡ Err (bad_at 4 1)
unfolding ranged pick
past_judged ed b p =
    let k : Kind = kind_of (get_or b 0 0) in
    judge_framed ed k b (framed_is b p.whole) ∙ rw (earliest ed k b p.carries p.larger) refl

pub past_refused : (ed : Edition) (b : List ℕ) → PastSecond b → read_body ed b ≡ Body.Bad (bad_at 4 1)
unfolding read_body message
past_refused ed b p = ap (λ (r : Result Kind Fault). message r b) (past_judged ed b p)

-- and so it is no good body
pub past_bad : (ed : Edition) (b : List ℕ) → PastSecond b → good_body ed b ≡ false
unfolding good_body
past_bad ed b p = rw (past_judged ed b p) refl

-- "The largest good value is 999,999,999, in every message that carries the field"
pub largest : (ed : Edition) (b : List ℕ) → good_body ed b ≡ true → stamped b ≡ true → stamp_of b ≤ most_nanos
largest ed b g c = go (dec_lt most_nanos (stamp_of b))
  where
    go : Dec (most_nanos < stamp_of b) → stamp_of b ≤ most_nanos
    go (yes l) = absurd (true≢false (sym g ∙ past_bad ed b (record { whole = good_framed ed b g; carries = c; larger = l })))
    go (no l) = omega (arith, l)

-- with another Timestamp it is a whole message of the same kind
module _ (ed : Edition) (b c : List ℕ) (r : Restamped b c) where
  kind_kept : kind_of (get_or c 0 0) ≡ kind_of (get_or b 0 0)
  kind_kept = ap kind_of r.type_kept

  framed_kept : framed c ≡ framed b
  unfolding framed
  framed_kept = rw (r.type_kept, r.length_kept) refl

  -- as good as it was, where both Timestamps are in range
  as_good : good_body ed b ≡ true → stamped b ≡ true → stamp_of c ≤ most_nanos → good_body ed c ≡ true
  unfolding good_body fault_of
  as_good g s l =
      let k : Kind = kind_of (get_or b 0 0) in
      let w : Framed k b = framed_is b (good_framed ed b g) in
      let v : Framed k c = subst (λ (x : Kind). Framed x c) kind_kept (framed_is c (framed_kept ∙ good_framed ed b g)) in
      let same : fault_of ed k c ≡ fault_of ed k b = rest_decides (shapes k) (tests ed k) (stamp_of_lem ed k s) b c (largest ed b g s) l r.behind_kept in
      ap (λ (r : Result Kind Fault). eqb (judged_number r) 0) (judge_by_fault ed k b c w v same) ∙ g

-- and every value up to it is good: with another Timestamp a good message is good exactly where that is in range
pub stamp_alone : (ed : Edition) (b c : List ℕ) → good_body ed b ≡ true → stamped b ≡ true → Restamped b c → good_body ed c ≡ nanos_ok (stamp_of c)
unfolding nanos_ok
stamp_alone ed b c g s r = go (dec_lt most_nanos (stamp_of c))
  where
    go : Dec (most_nanos < stamp_of c) → good_body ed c ≡ leb (stamp_of c) most_nanos
    go (yes l) =
        let p : PastSecond c = record { whole = framed_kept ed b c r ∙ good_framed ed b g; carries = ap carries_stamp (kind_kept ed b c r) ∙ s; larger = l } in
        past_bad ed c p ∙ sym (lt-leb (stamp_of c) most_nanos l)
    go (no l) =
        let m : stamp_of c ≤ most_nanos = omega (arith, l) in
        as_good ed b c r g s m ∙ sym (le-leb (stamp_of c) most_nanos m)

-- a System Time has seconds in that place: whatever they are, it is good
pub any_second : (ed : Edition) (b : List ℕ) → framed b ≡ true → kind_of (get_or b 0 0) ≡ Kind.SystemTime → good_body ed b ≡ true
unfolding good_body ranged fault_of fault_from pick
any_second ed b w e = rw (judge_framed ed Kind.SystemTime b (subst (λ (x : Kind). Framed x b) e (framed_is b w))) refl
