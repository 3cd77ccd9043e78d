-- A packet that its own edition alone refuses, barred: the records before the fault stay good, and the Symbol Update at fault has no test indicator, so the other edition refuses it one byte further on.
-- Assumes nothing.
use Prim.Native.Nat.{ℕ, ◌+◌, ◌-◌, ◌≤◌, ◌<◌}
use mathlib.Core.Path.{◌≡◌, refl, sym, ap, subst, ◌∙◌}
use mathlib.Core.Bool.{true, true≢false}
use mathlib.Core.List.{List, []}
use mathlib.Core.Logic.{◌⊎◌, inl, inr}
use native.Mathlib.Decide.{dec_lt}
use native.Mathlib.Omega.{arith}
use lib.ListN.{length, get_or, set, take, drop, length-set, length-drop}
use lib.Seq.{get_or-set_same, get_or-set_other, take-set-le, take-set-lt, drop-set-add}
use lib.Dec.{eqb}
use Rattle.facts.specs.Limits.{packet_most}
use Rattle.facts.specs.Pick.{pick, either}
use Rattle.editions.specs.declared.Edition.{Edition}
use Rattle.wire.specs.Le.{field}
use Rattle.wire.proofs.Laws.{field_same}
use Rattle.wire.specs.Records.{Rec, rec, bad, records}
use Rattle.layout.specs.Layout.{shapes, fields_in}
use Rattle.kinds.specs.Table.{kind_of, kind_length, length_of, lookup, table}
use Rattle.kinds.specs.declared.Kind.{Kind}
use Rattle.fields.specs.Fields.{bad_at}
use Rattle.body.specs.Ranges.{nanos_ok, security_ok, test_ok, one_of}
use Rattle.body.specs.Faults.{tests, fault_from, fault_of}
use Rattle.body.specs.Read.{ranged, judge_body, judged_number, good_body}
use Rattle.body.specs.Editions.{IsUpdate}
use Rattle.std.specs.Prelude.{Result, Ok, Err}
use Rattle.fields.specs.declared.Fault.{Fault}
use Rattle.body.proofs.Laws.{Framed, framed_is, judge_framed, good_framed, JudgedAs, judge_sound, Judgement, good as is_good, bad as is_bad, judgement, AllHold}
use Rattle.body.proofs.Editions.{older_alike}
use Rattle.packet.specs.Record.{number_ok, head_of, body_of, rec_of, body_judged, read_record}
use Rattle.packet.specs.Packet.{Framing, frames_from, framing}
use Rattle.packet.specs.Front.{Reached, at_front, past_good}
use Rattle.packet.specs.Editions.{TypeRefused}
use Rattle.packet.specs.declared.Head.{Head}
use Rattle.packet.proofs.Laws.{GoodRec, Held, record_held, whole_record, body_length, body_past, first_bad}
use Rattle.packet.proofs.Good.{Step, step, framing_size}
use Rattle.packet.proofs.Editions.{older_packet, newer_packet}
use Rattle.packet.specs.declared.Why.{Why}
use Rattle.retype.specs.Retyped.{Asked}
use Rattle.conversion.specs.Piece.{barred}
use Rattle.conversion.specs.Kept.{Barring}
use Rattle.conversion.proofs.Chains.{good_read, number_good}

-- ---- the body at fault: a Symbol Update with 0 for its test indicator
module _ (b : List ℕ) (g : good_body Edition.V13b b ≡ true) (u : IsUpdate b) where
  stamp_good : nanos_ok (field b 1 4) ≡ true
  stamp_good = go (judgement Edition.V13b b)
    where
      go : Judgement Edition.V13b b → nanos_ok (field b 1 4) ≡ true
      go (is_good k e q z) =
          let h : JudgedAs Edition.V13b (Ok k) b = subst (λ (r : Result Kind Fault). JudgedAs Edition.V13b r b) e (judge_sound Edition.V13b b) in
          let all : AllHold (shapes Kind.SymbolUpdate) (tests Edition.V13b Kind.SymbolUpdate) (fields_in Kind.SymbolUpdate b) = subst (λ (x : Kind). AllHold (shapes x) (tests Edition.V13b x) (fields_in x b)) (h.0 ∙ u) h.2 in
          all.0
      go (is_bad f e q h) = absurd (true≢false (sym g ∙ q))

  abbrev c : List ℕ
  c = set b 21 0

  framed_b : Framed Kind.SymbolUpdate b
  framed_b = subst (λ (k : Kind). Framed k b) u (framed_is b (good_framed Edition.V13b b g))

  pub update_length : length b ≡ 42
  unfolding kind_length length_of lookup table pick
  update_length = framed_b.length_is

  framed_c : Framed Kind.SymbolUpdate c
  framed_c =
      record {
        type_is = get_or-set_other b 21 0 0 0 (λ e. omega arith) ∙ framed_b.type_is;
        length_is = length-set b 21 0 ∙ framed_b.length_is;
        some = rw length-set framed_b.some;
        most = rw length-set framed_b.most;
      }

  fault_c : fault_of Edition.V13b Kind.SymbolUpdate c ≡ 21
  unfolding fault_of fault_from pick security_ok test_ok one_of either
  fault_c =
      let stamp : nanos_ok (field c 1 4) ≡ true = ap nanos_ok (field_same c b 1 4 (λ k l m. get_or-set_other b 21 k 0 0 (λ e. omega arith))) ∙ stamp_good in
      let gone : get_or c 21 0 ≡ 0 = get_or-set_same b 21 0 0 (omega (arith, update_length)) in
      rw (stamp, gone) refl

  barred_body : judge_body Edition.V13b c ≡ Err (bad_at 4 21)
  unfolding ranged pick
  barred_body = judge_framed Edition.V13b Kind.SymbolUpdate c framed_c ∙ rw fault_c refl

-- ---- a record before the fault, and one byte set behind it: 1.3.b takes it as 1.3 does
module _ (p : List ℕ) (at j x : ℕ) where
  abbrev t : List ℕ
  t = drop at p

  abbrev v : List ℕ
  v = drop at (set p (at + j) x)

  set_behind : v ≡ set t j x
  set_behind = drop-set-add at p j x

  -- a number of the header
  head_kept : (i w : ℕ) → i + w ≤ 10 → 10 ≤ j → field v i w ≡ field t i w
  head_kept i w l m = ap (λ (y : List ℕ). field y i w) set_behind ∙ field_same (set t j x) t i w (λ k a b. get_or-set_other t j k x 0 (λ e. omega arith))

  heads_kept : 10 ≤ j → head_of v ≡ head_of t
  heads_kept m = λ i. record { number = head_kept 0 8 (omega arith) m i; len = head_kept 8 2 (omega arith) m i }

  behind_ten : (k : ℕ) → j ≡ 10 + k → drop 10 v ≡ set (drop 10 t) k x
  behind_ten k e = ap (drop 10) (set_behind ∙ ap (λ (n : ℕ). set t n x) e) ∙ drop-set-add 10 t k x

  body_kept : 10 + field t 8 2 ≤ j → body_of v ≡ body_of t
  unfolding body_of
  body_kept l =
      let e : j ≡ 10 + (j - 10) = omega arith in
      (λ i. take (head_kept 8 2 (omega arith) (omega arith) i) (behind_ten (j - 10) e i))
      ∙ take-set-le (field t 8 2) (drop 10 t) (j - 10) x (omega arith)

  -- the byte k of its body
  body_set : (k : ℕ) → j ≡ 10 + k → k < field t 8 2 → body_of v ≡ set (body_of t) k x
  unfolding body_of
  body_set k e l =
      (λ i. take (head_kept 8 2 (omega arith) (omega arith) i) (behind_ten k e i))
      ∙ take-set-lt (field t 8 2) (drop 10 t) k x l

  sizes_kept : length v ≡ length t
  sizes_kept = ap length set_behind ∙ length-set t j x

pub record_kept : (p : List ℕ) (at j x : ℕ) (h : Head) → read_record Edition.V13 (drop at p) ≡ Ok h → 10 + h.len ≤ j → read_record Edition.V13b (drop at (set p (at + j) x)) ≡ Ok h
unfolding good_body
record_kept p at j x h e l =
    let s : Held Edition.V13 (Ok h) (t p at j x) = subst (λ (r : Result Head Fault). Held Edition.V13 r (drop at p)) e (record_held Edition.V13 (drop at p)) in
    let len_is : h.len ≡ field (t p at j x) 8 2 = ap (λ (y : Head). y.len) s.0 in
    let heads = heads_kept p at j x (omega arith) in
    let body = body_kept p at j x (omega (arith, len_is)) in
    let good_b : good_body Edition.V13b (body_of (t p at j x)) ≡ true = ap (λ (y : Result Kind Fault). eqb (judged_number y) 0) (older_alike (body_of (t p at j x)) s.2.body_good) ∙ s.2.body_good in
    let g : GoodRec Edition.V13b (rec_of (t p at j x)) = record { number_from = s.2.number_from; number_to = s.2.number_to; body_good = good_b } in
    let rec_is : rec_of (v p at j x) ≡ rec_of (t p at j x) = λ i. rec (heads i).number (body i) in
    let w : 10 + field (v p at j x) 8 2 ≤ length (v p at j x) = omega (arith, sizes_kept p at j x, head_kept p at j x 8 2 (omega arith) (omega arith), s.1, len_is) in
    good_read Edition.V13b (v p at j x) w (subst (GoodRec Edition.V13b) (sym rec_is) g) ∙ ap Ok (heads ∙ sym s.0)

-- so all records before the fault are
pub front_kept : (p : List ℕ) (n x : ℕ) (at : ℕ) → Reached Edition.V13 p at → at ≤ n → Reached Edition.V13b (set p n x) at
front_kept p n x _ at_front m = at_front
front_kept p n x _ (past_good at h r l g) m =
    let e : at + (n - at) ≡ n = omega arith in
    past_good at h (front_kept p n x at r (omega arith)) (rw length-set l)
    (ap (λ (k : ℕ). read_record Edition.V13b (drop at (set p k x))) (sym e) ∙ record_kept p at (n - at) x h g (omega arith))

-- ---- where 1.3's good records lead to in a packet that 1.3.b takes, there is a record that 1.3.b takes
record Left (p : List ℕ) (at : ℕ) : Type 0 where
  others : List Rec
  left : frames_from Edition.V13b (length p) (drop at p) ≡ records others

front_left : (p : List ℕ) (cs : List Rec) → frames_from Edition.V13b (length p) p ≡ records cs → (at : ℕ) → Reached Edition.V13 p at → Left p at
front_left p cs e _ at_front = record { others = cs; left = e }
front_left p cs e _ (past_good at h r l g) =
    let y : Left p at = front_left p cs e at r in
    let s : Step Edition.V13b p at y.others = step Edition.V13b p at y.others l y.left in
    let k : Held Edition.V13 (Ok h) (drop at p) = subst (λ (x : Result Head Fault). Held Edition.V13 x (drop at p)) g (record_held Edition.V13 (drop at p)) in
    record { others = s.others; left = ap (λ (x : Head). frames_from Edition.V13b (length p) (drop (at + (10 + x.len)) p)) k.0 ∙ s.next }

no_body : (p : List ℕ) (at : ℕ) → length p ≤ at → IsUpdate (body_of (drop at p)) → ⊥
unfolding kind_of pick
no_body p at l u = let e : body_of (drop at p) ≡ [] = sym (body_past p at (omega arith)) in
    let q : kind_of 0 ≡ Kind.SymbolUpdate = ap (λ (b : List ℕ). kind_of (get_or b 0 0)) (sym e) ∙ u in
    let z : ◌≡◌ {A = ℕ} 0 1 = cc in absurd (omega arith)

-- ---- the packet at fault
module _ (p : List ℕ) (cs : List Rec) (e : framing Edition.V13b p ≡ records cs) (x : TypeRefused p) where
  abbrev here : List ℕ
  here = drop x.at p

  size : (1 ≤ length p) × (length p ≤ packet_most) × (frames_from Edition.V13b (length p) p ≡ records cs)
  size = framing_size Edition.V13b p cs e

  inside : x.at < length p
  inside = go (dec_lt x.at (length p))
    where
      go : Dec (x.at < length p) → x.at < length p
      go (yes l) = l
      go (no l) = absurd (no_body p x.at (omega arith) x.unlettered.update)

  stands : Left p x.at
  stands = front_left p cs size.2 x.at x.reached

  its_step : Step Edition.V13b p x.at stands.others
  its_step = step Edition.V13b p x.at stands.others inside stands.left

  whole_here : 10 + (head_of here).len ≤ length here
  whole_here = omega (arith, its_step.inside, length-drop x.at p)

  long : field here 8 2 ≡ 42
  long = sym (body_length here whole_here) ∙ update_length (body_of here) its_step.good.body_good x.unlettered.update

  abbrev barred_p : List ℕ
  barred_p = set p (x.at + 31) 0

  body_now : body_of (drop x.at barred_p) ≡ set (body_of here) 21 0
  body_now = body_set p x.at 31 0 21 refl (omega (arith, long))

  heads_now : head_of (drop x.at barred_p) ≡ head_of here
  heads_now = heads_kept p x.at 31 0 (omega arith)

  told_there : read_record Edition.V13b (drop x.at barred_p) ≡ Err (bad_at 4 31)
  unfolding body_judged
  told_there =
      let len_now : (head_of (drop x.at barred_p)).len ≡ (head_of here).len = ap (λ (h : Head). h.len) heads_now in
      let w : 10 + (head_of (drop x.at barred_p)).len ≤ length (drop x.at barred_p) = omega (arith, len_now, sizes_kept p x.at 31 0, whole_here) in
      let n : number_ok (head_of (drop x.at barred_p)).number ≡ true = ap (λ (h : Head). number_ok h.number) heads_now ∙ number_good Edition.V13b (rec_of here) its_step.good in
      whole_record Edition.V13b (drop x.at barred_p) w n
      ∙ ap (λ (j : Result Kind Fault). body_judged j (head_of (drop x.at barred_p))) (ap (judge_body Edition.V13b) body_now ∙ barred_body (body_of here) its_step.good.body_good x.unlettered.update)

  pub barred_there : framing Edition.V13b barred_p ≡ bad (Why.Placed (bad_at 4 (x.at + 31)))
  barred_there = first_bad Edition.V13b barred_p x.at (bad_at 4 31) (rw length-set size.1) (rw length-set inside) (front_kept p (x.at + 31) 0 x.at x.reached (omega arith)) told_there

-- ---- what is barred
never : {A : Type 0} {w : Why} {cs : List Rec} → bad w ≡ records cs → A
never e = let z : ◌≡◌ {A = ℕ} 0 1 = cc in absurd (omega arith)

module _ (a : Asked) (p : List ℕ) (w : Why) (cs : List Rec) where
  so_barred : a.to ≡ Edition.V13b → framing Edition.V13b p ≡ records cs → TypeRefused p → framing Edition.V13 p ≡ bad w → Barring Edition.V13 a w p
  unfolding barred
  so_barred j f x e =
      let q : ◌≡◌ {A = Framing} (bad w) (bad (Why.Placed (bad_at 4 (x.at + 30)))) = sym e ∙ x.refused in
      let y : w ≡ Why.Placed (bad_at 4 (x.at + 30)) = cc in
      let one_on : x.at + 31 ≡ x.at + 30 + 1 = omega arith in
      record {
        from_13 = refl;
        to_13b = j;
        at = x.at + 30;
        why_is = y;
        barred_so =
            ap (λ (v : Why). framing a.to (barred v p)) y
            ∙ ap (λ (ed : Edition). framing ed (set p (x.at + 30 + 1) 0)) j
            ∙ ap (λ (n : ℕ). framing Edition.V13b (set p n 0)) (sym one_on)
            ∙ barred_there p cs f x
            ∙ ap (λ (n : ℕ). bad (Why.Placed (bad_at 4 n))) one_on;
      }

  newer_barred : a.to ≡ Edition.V13b → framing Edition.V13b p ≡ records cs → framing Edition.V13 p ≡ bad w → (framing Edition.V13 p ≡ records cs) ⊎ TypeRefused p → Barring Edition.V13 a w p
  newer_barred j f e (inl g) = never (sym e ∙ g)
  newer_barred j f e (inr x) = so_barred j f x e

  by_editions : (from to : Edition) → a.to ≡ to → framing from p ≡ bad w → framing to p ≡ records cs → Barring from a w p
  by_editions Edition.V13 Edition.V13 j e f = never (sym e ∙ f)
  by_editions Edition.V13b Edition.V13b j e f = never (sym e ∙ f)
  by_editions Edition.V13b Edition.V13 j e f = never (sym e ∙ older_packet p cs f)
  by_editions Edition.V13 Edition.V13b j e f = newer_barred j f e (newer_packet p cs f)

  pub barred_refused : (from : Edition) → framing from p ≡ bad w → framing a.to p ≡ records cs → Barring from a w p
  barred_refused from e f = by_editions from a.to refl e f
