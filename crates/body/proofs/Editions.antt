-- What one edition's reader makes of the other's bodies (request 10): the editions have one test of their own, so where it answers alike, or stands in no field of the kind, all is judged alike.
-- Assumes nothing.
use Prim.Native.Nat.{ℕ}
use mathlib.Core.Path.{◌≡◌, refl, sym, ap, ◌∙◌}
use mathlib.Core.Bool.{Bool, true, false, true≢false}
use mathlib.Core.List.{List}
use mathlib.Core.Logic.{◌⊎◌, inl, inr}
use native.Mathlib.Decide.{ℕ_discrete}
use native.Mathlib.Omega.{arith}
use lib.ListN.{length, get_or, set, length-set}
use lib.Seq.{get_or-set_other}
use lib.Dec.{eqb, ltb}
use borrow.Author.Tests.{eqb-true}
use Rattle.facts.specs.Pick.{pick, both}
use Rattle.facts.proofs.Picks.{pick_ind}
use Rattle.editions.specs.declared.Edition.{Edition}
use Rattle.wire.specs.Le.{field}
use Rattle.wire.proofs.Laws.{field_same}
use Rattle.layout.specs.Layout.{shapes, fields_in}
use Rattle.kinds.specs.Table.{kind_of, type_of, length_of}
use Rattle.kinds.specs.declared.Kind.{Kind}
use Rattle.kinds.proofs.Laws.{type_kind}
use Rattle.fields.specs.Fields.{security_of, bad_at}
use Rattle.body.specs.Ranges.{nanos_ok, security_ok, test_ok, market_ok}
use Rattle.body.specs.Faults.{Tests, tests, fault_from, fault_of}
use Rattle.body.specs.Read.{framed, ranged, judge_body, judged_number, message, read_body, good_body}
use Rattle.body.specs.Editions.{IsUpdate, Lettered, Unlettered, OnlyRight, WrongType}
use Rattle.std.specs.Prelude.{Result, Ok, Err}
use Rattle.fields.specs.declared.Fault.{Fault}
use Rattle.body.proofs.Laws.{judge_framed, framed_is, good_framed}

-- ---- the one test
is_update : (k : Kind) → Dec (k ≡ Kind.SymbolUpdate)
unfolding kind_of
is_update k = go (ℕ_discrete (type_of k) (type_of Kind.SymbolUpdate))
  where
    go : Dec (type_of k ≡ type_of Kind.SymbolUpdate) → Dec (k ≡ Kind.SymbolUpdate)
    go (yes e) = yes (sym (type_kind k) ∙ ap kind_of e ∙ type_kind Kind.SymbolUpdate)
    go (no n) = no (λ e. n (ap type_of e))

-- it stands in a Symbol Update alone
tests_alike : (r w : Edition) (k : Kind) → (k ≡ Kind.SymbolUpdate → ⊥) → tests r k ≡ tests w k
tests_alike r w Kind.SystemTime n = refl
tests_alike r w Kind.SymbolUpdate n = absurd (n refl)
tests_alike r w Kind.SystemState n = refl
tests_alike r w Kind.TradingStatus n = refl
tests_alike r w Kind.SymbolClear n = refl
tests_alike r w Kind.Add n = refl
tests_alike r w Kind.Modify n = refl
tests_alike r w Kind.Delete n = refl
tests_alike r w Kind.Execution n = refl
tests_alike r w Kind.Trade n = refl
tests_alike r w Kind.TradeCancel n = refl
tests_alike r w Kind.Unknown n = refl

others_alike : (r w : Edition) (k : Kind) (b : List ℕ) → (k ≡ Kind.SymbolUpdate → ⊥) → fault_of r k b ≡ fault_of w k b
unfolding fault_of
others_alike r w k b n = ap (λ (ts : Tests (shapes k)). fault_from (shapes k) ts (fields_in k b) 1) (tests_alike r w k n)

-- there, behind the Timestamp and before all other letters: t is its answer
update_fault : Bool → List ℕ → ℕ
update_fault t b = pick (nanos_ok (field b 1 4)) (pick t (pick (test_ok (get_or b 21 0)) (pick (market_ok (get_or b 41 0)) 0 41) 21) 20) 1

update_fault_lem : (ed : Edition) (b : List ℕ) → fault_of ed Kind.SymbolUpdate b ≡ update_fault (security_ok ed (security_of b)) b
unfolding update_fault fault_of fault_from pick
update_fault_lem ed b = refl

-- a fault of its own where it fails and the Timestamp is good, whatever lies behind it
untyped_fault : (b : List ℕ) → nanos_ok (field b 1 4) ≡ true → update_fault false b ≡ 20
unfolding update_fault pick
untyped_fault b h = rw h refl

no_fault_stamp : (t : Bool) (b : List ℕ) → update_fault t b ≡ 0 → nanos_ok (field b 1 4) ≡ true
unfolding update_fault pick
no_fault_stamp t b e = go (nanos_ok (field b 1 4)) refl
  where
    go : (s : Bool) → nanos_ok (field b 1 4) ≡ s → nanos_ok (field b 1 4) ≡ true
    go true h = h
    go false h = let z : ◌≡◌ {A = ℕ} 1 0 = rw h at e in absurd (omega arith)

untyped_some : (b : List ℕ) → update_fault false b ≡ 0 → ⊥
unfolding update_fault pick
untyped_some b = pick_ind (λ (n : ℕ). n ≡ 0 → ⊥) (nanos_ok (field b 1 4)) 20 1 (λ _ e. omega arith) (λ _ e. omega arith)

-- ---- judging
-- the same fault is the same judgement
by_fault : (r w : Edition) (b : List ℕ) → fault_of r (kind_of (get_or b 0 0)) b ≡ fault_of w (kind_of (get_or b 0 0)) b → judge_body r b ≡ judge_body w b
unfolding judge_body ranged
by_fault r w b e =
    let k : Kind = kind_of (get_or b 0 0) in
    ap (λ (n : ℕ). pick (framed b) (pick (eqb n 0) (Ok k) (Err (bad_at 4 n))) (Err (bad_at 3 0))) e

-- a good body has no fault
good_fault : (ed : Edition) (b : List ℕ) → good_body ed b ≡ true → fault_of ed (kind_of (get_or b 0 0)) b ≡ 0
unfolding good_body ranged
good_fault ed b g =
    let k : Kind = kind_of (get_or b 0 0) in
    let f : ℕ = fault_of ed k b in
    let judged : judge_body ed b ≡ pick (eqb f 0) (Ok k) (Err (bad_at 4 f)) = judge_framed ed k b (framed_is b (good_framed ed b g)) in
    let z : eqb (judged_number (pick (eqb f 0) (Ok k) (Err (bad_at 4 f)))) 0 ≡ true = ap (λ (j : Result Kind Fault). eqb (judged_number j) 0) (sym judged) ∙ g in
    pick_ind (λ (j : Result Kind Fault). eqb (judged_number j) 0 ≡ true → f ≡ 0) (eqb f 0) (Ok k) (Err (bad_at 4 f)) (λ e _. eqb-true f 0 e) (λ _ q. absurd (true≢false (sym q))) z

-- in 1.3 a good Symbol Update has its letter
pub good_lettered : (b : List ℕ) → good_body Edition.V13 b ≡ true → IsUpdate b → Lettered b
good_lettered b g u = record { update = u; letter = go (security_ok Edition.V13 (security_of b)) refl }
  where
    none : update_fault (security_ok Edition.V13 (security_of b)) b ≡ 0
    none = sym (update_fault_lem Edition.V13 b) ∙ ap (λ (k : Kind). fault_of Edition.V13 k b) (sym u) ∙ good_fault Edition.V13 b g

    go : (t : Bool) → security_ok Edition.V13 (security_of b) ≡ t → security_ok Edition.V13 (security_of b) ≡ true
    go true e = e
    go false e = absurd (untyped_some b (ap (λ (t : Bool). update_fault t b) (sym e) ∙ none))

-- bytes of any other message mean the same in every edition, good or bad
pub no_update_alike : (r w : Edition) (b : List ℕ) → (IsUpdate b → ⊥) → judge_body r b ≡ judge_body w b
no_update_alike r w b n = by_fault r w b (others_alike r w (kind_of (get_or b 0 0)) b n)

-- and so do those of a Symbol Update with a letter
pub lettered_alike : (b : List ℕ) → Lettered b → judge_body Edition.V13 b ≡ judge_body Edition.V13b b
unfolding security_ok
lettered_alike b l =
    by_fault Edition.V13 Edition.V13b b
    (ap (λ (k : Kind). fault_of Edition.V13 k b) l.update
    ∙ update_fault_lem Edition.V13 b
    ∙ ap (λ (t : Bool). update_fault t b) l.letter
    ∙ sym (update_fault_lem Edition.V13b b)
    ∙ ap (λ (k : Kind). fault_of Edition.V13b k b) (sym l.update))

-- "from 1.3.a it is reserved": whatever stands there, a Symbol Update is judged alike
module _ (b : List ℕ) (x : ℕ) (u : IsUpdate b) where
  abbrev c : List ℕ
  c = set b 20 x

  other_byte : (k : ℕ) → (k ≡ 20 → ⊥) → get_or c k 0 ≡ get_or b k 0
  other_byte k n = get_or-set_other b 20 k x 0 n

  reserved_fault : update_fault true c ≡ update_fault true b
  unfolding update_fault
  reserved_fault =
      let stamp : field c 1 4 ≡ field b 1 4 = field_same c b 1 4 (λ k h m. other_byte k (λ e. omega arith)) in
      λ i. pick (nanos_ok (stamp i)) (pick true (pick (test_ok (other_byte 21 (λ e. omega arith) i)) (pick (market_ok (other_byte 41 (λ e. omega arith) i)) 0 41) 21) 20) 1

  pub reserved_unjudged : judge_body Edition.V13b c ≡ judge_body Edition.V13b b
  unfolding judge_body ranged framed security_ok
  reserved_unjudged =
      let first : get_or c 0 0 ≡ get_or b 0 0 = other_byte 0 (λ e. omega arith) in
      let kind : kind_of (get_or c 0 0) ≡ kind_of (get_or b 0 0) = ap kind_of first in
      let fault : fault_of Edition.V13b (kind_of (get_or c 0 0)) c ≡ fault_of Edition.V13b (kind_of (get_or b 0 0)) b =
      ap (λ (k : Kind). fault_of Edition.V13b k c) (kind ∙ u)
      ∙ (update_fault_lem Edition.V13b c ∙ reserved_fault ∙ sym (update_fault_lem Edition.V13b b))
      ∙ ap (λ (k : Kind). fault_of Edition.V13b k b) (sym u) in
      let size : length c ≡ length b = length-set b 20 x in
      λ i. pick (both (ltb 0 (size i)) (eqb (size i) (length_of (first i)))) (pick (eqb (fault i) 0) (Ok (kind i)) (Err (bad_at 4 (fault i)))) (Err (bad_at 3 0))

-- ---- a recording of 1.3, read by 1.3.b
pub older_alike : (b : List ℕ) → good_body Edition.V13 b ≡ true → judge_body Edition.V13b b ≡ judge_body Edition.V13 b
older_alike b g = go (is_update (kind_of (get_or b 0 0)))
  where
    go : Dec (IsUpdate b) → judge_body Edition.V13b b ≡ judge_body Edition.V13 b
    go (yes u) = sym (lettered_alike b (good_lettered b g u))
    go (no n) = no_update_alike Edition.V13b Edition.V13 b n

-- a body that is good in 1.3 reads in 1.3.b, with the same fields
pub older_right : (b : List ℕ) → good_body Edition.V13 b ≡ true → OnlyRight Edition.V13b Edition.V13 b
unfolding good_body read_body
older_right b g =
    let e = older_alike b g in
    record { taken = ap (λ (j : Result Kind Fault). eqb (judged_number j) 0) e ∙ g; same_message = ap (λ (j : Result Kind Fault). message j b) e; type_right = λ u. inl refl }

-- ---- a recording of 1.3.b, read by 1.3
-- "Under 1.3 any other byte is refused with 4": at that byte, behind a good Timestamp, whatever the other letters are
pub untyped_refused : (b : List ℕ) → framed b ≡ true → Unlettered b → nanos_ok (field b 1 4) ≡ true → judge_body Edition.V13 b ≡ Err (bad_at 4 20)
unfolding ranged pick
untyped_refused b f l n =
    let at_20 : fault_of Edition.V13 (kind_of (get_or b 0 0)) b ≡ 20 =
    ap (λ (k : Kind). fault_of Edition.V13 k b) l.update
    ∙ update_fault_lem Edition.V13 b
    ∙ ap (λ (t : Bool). update_fault t b) l.no_letter
    ∙ untyped_fault b n in
    judge_framed Edition.V13 (kind_of (get_or b 0 0)) b (framed_is b f) ∙ rw at_20 refl

-- so a Symbol Update that is good in 1.3.b and has no letter is refused, at that byte
pub unlettered_refused : (b : List ℕ) → good_body Edition.V13b b ≡ true → Unlettered b → judge_body Edition.V13 b ≡ Err (bad_at 4 20)
unfolding security_ok
unlettered_refused b g l =
    let none : update_fault true b ≡ 0 = sym (update_fault_lem Edition.V13b b) ∙ ap (λ (k : Kind). fault_of Edition.V13b k b) (sym l.update) ∙ good_fault Edition.V13b b g in
    untyped_refused b (good_framed Edition.V13b b g) l (no_fault_stamp true b none)

-- any other message reads with the same fields
pub newer_right : (b : List ℕ) → good_body Edition.V13b b ≡ true → (IsUpdate b → ⊥) → OnlyRight Edition.V13 Edition.V13b b
unfolding good_body read_body
newer_right b g n =
    let e = no_update_alike Edition.V13 Edition.V13b b n in
    record { taken = ap (λ (j : Result Kind Fault). eqb (judged_number j) 0) e ∙ g; same_message = ap (λ (j : Result Kind Fault). message j b) e; type_right = λ u. absurd (n u) }

-- without the premise: of a Symbol Update with a letter in its reserved byte the Security Type is shown, and it alone is wrong
pub lettered_wrong : (b : List ℕ) → good_body Edition.V13b b ≡ true → Lettered b → WrongType b
unfolding good_body read_body
lettered_wrong b g l =
    let e = lettered_alike b l in
    record { taken = ap (λ (j : Result Kind Fault). eqb (judged_number j) 0) e ∙ g; same_message = ap (λ (j : Result Kind Fault). message j b) e; shown = refl; not_there = refl }

-- a Symbol Update has a letter or has none
pub update_cases : (b : List ℕ) → (IsUpdate b → ⊥) ⊎ (Lettered b ⊎ Unlettered b)
update_cases b = go (is_update (kind_of (get_or b 0 0)))
  where
    by_letter : IsUpdate b → (t : Bool) → security_ok Edition.V13 (security_of b) ≡ t → Lettered b ⊎ Unlettered b
    by_letter u true e = inl (record { update = u; letter = e })
    by_letter u false e = inr (record { update = u; no_letter = e })

    go : Dec (IsUpdate b) → (IsUpdate b → ⊥) ⊎ (Lettered b ⊎ Unlettered b)
    go (yes u) = inr (by_letter u (security_ok Edition.V13 (security_of b)) refl)
    go (no n) = inl n

-- "Given the other edition's recording, a reader shows only right fields or refuses, if no reserved byte 20 is `E` or `F`": r reads what is good in w
pub right_or_refused : (r w : Edition) (b : List ℕ) → good_body w b ≡ true → (w ≡ Edition.V13b → Lettered b → ⊥) → OnlyRight r w b ⊎ (judge_body r b ≡ Err (bad_at 4 20))
right_or_refused Edition.V13 Edition.V13 b g n = inl (record { taken = g; same_message = refl; type_right = λ u. inr refl })
right_or_refused Edition.V13b Edition.V13b b g n = inl (record { taken = g; same_message = refl; type_right = λ u. inr refl })
right_or_refused Edition.V13b Edition.V13 b g n = inl (older_right b g)
right_or_refused Edition.V13 Edition.V13b b g n = go (update_cases b)
  where
    go : (IsUpdate b → ⊥) ⊎ (Lettered b ⊎ Unlettered b) → OnlyRight Edition.V13 Edition.V13b b ⊎ (judge_body Edition.V13 b ≡ Err (bad_at 4 20))
    go (inl u) = inl (newer_right b g u)
    go (inr (inl l)) = absurd (n refl l)
    go (inr (inr l)) = inr (unlettered_refused b g l)
