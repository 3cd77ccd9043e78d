-- What those above may know of a body that was judged or read, by the case of the answer, without the text of judge_body and read_body.
-- Assumes nothing.
use mathlib.Core.Path.{◌≡◌, refl, sym, ap, ◌∙◌}
use mathlib.Core.List.{List, [], ◌∷◌}
use mathlib.Core.Bool.{true, false}
use mathlib.Core.Logic.{◌⊎◌, inl, inr}
use Prim.Native.Nat.{ℕ, zero, suc, ◌+◌, ◌≤◌, ◌<◌}
use native.Mathlib.Omega.{arith}
use lib.ListN.{length, get_or}
use lib.Dec.{eqb, leb, ltb}
use borrow.Author.Tests.{eq-eqb, ne_eqb, eqb-true, eqb-false, leb-true, lt-ltb, ltb-true}
use Rattle.facts.specs.Limits.{most_price, most_nanos, entry_size}
use Rattle.facts.specs.Pick.{pick, both, either}
use Rattle.facts.proofs.Picks.{pick_ind, pick_cases, pick_map, both_true, either_true, either_none}
use Rattle.editions.specs.declared.Edition.{Edition}
use Rattle.layout.specs.Shape.{Shape, width, Values}
use Rattle.layout.specs.Layout.{shapes, fields_in}
use Rattle.layout.specs.Message.{read_as}
use Rattle.kinds.specs.Table.{table, lookup, length_of, kind_of, type_of, kind_length, refusal_of}
use Rattle.kinds.specs.declared.Kind.{Kind}
use Rattle.kinds.proofs.Laws.{Lengths, lengths, no_length, type_kind}
use Rattle.fields.specs.Fields.{status_of, clear_of, add_of, modify_of, delete_of, execution_of, trade_of, cancel_of, update_of, state_of, bad_at, decoded, body_number}
use Rattle.fields.specs.Messages.{system_time}
use Rattle.fields.specs.declared.Body.{Body}
use Rattle.body.specs.Ranges.{nanos_ok, one_of, side_ok, price_ok, size_ok, security_ok, test_ok, market_ok}
use Rattle.body.specs.Faults.{Tests, tests, fault_from, fault_of}
use Rattle.fields.specs.declared.Fault.{Fault}
use Rattle.body.specs.Read.{framed, ranged, judge_body, judged_number, message, read_body, good_body}
use Rattle.body.specs.Places.{FirstBad, BadBody}
use Rattle.std.specs.Prelude.{Result, Ok, Err}

-- every test of a run holds
abbrev pub AllHold : (ss : List Shape) → Tests ss → Values ss → Type 0
AllHold [] ts vs = Unit {0}
AllHold (s ∷ ss) ts vs = (ts.0 vs.0 ≡ true) × AllHold ss ts.1 vs.1

-- no fault is none in any field
pub no_fault : (ss : List Shape) (ts : Tests ss) (vs : Values ss) (at : ℕ) → 0 < at → fault_from ss ts vs at ≡ 0 → AllHold ss ts vs
unfolding fault_from
no_fault [] ts vs at l h = tt
no_fault (s ∷ ss) ts vs at l h = elim (pick_cases h) [ inl e ↦ (e.0, no_fault ss ts.1 vs.1 (at + width s) (omega arith) e.1) | inr e ↦ absurd (omega (arith, e.1)) ]

-- a fault is the first field that fails its test
fault_first : (ss : List Shape) (ts : Tests ss) (vs : Values ss) (at : ℕ) → (fault_from ss ts vs at ≡ 0 → ⊥) → FirstBad ss ts vs at (fault_from ss ts vs at)
unfolding fault_from
fault_first [] ts vs at g = g refl
fault_first (s ∷ ss) ts vs at g =
    pick_ind (λ (n : ℕ). (n ≡ 0 → ⊥) → FirstBad (s ∷ ss) ts vs at n) (ts.0 vs.0) (fault_from ss ts.1 vs.1 (at + width s)) at
    (λ e h. inr (e, fault_first ss ts.1 vs.1 (at + width s) h))
    (λ e h. inl (e, refl))
    g

-- price and size of a message that has them
pub record Deal (price size : ℕ) : Type 0 where
  pub price_from : 1 ≤ price
  pub price_to : price ≤ most_price
  pub size_from : 1 ≤ size

deal : (price size : ℕ) → price_ok price ≡ true → size_ok size ≡ true → Deal price size
unfolding price_ok size_ok
deal price size p s =
    let r = both_true {a = leb 1 price} {b = leb price most_price} p in
    record { price_from = leb-true 1 price r.0; price_to = leb-true price most_price r.1; size_from = leb-true 1 size s }

-- nanoseconds in range are at most the largest good value
in_time : (n : ℕ) → nanos_ok n ≡ true → n ≤ most_nanos
unfolding nanos_ok
in_time n h = leb-true n most_nanos h

-- a side is a buy or a sell
pub sides : (x : ℕ) → side_ok x ≡ true → (x ≡ 66) ⊎ (x ≡ 83)
unfolding side_ok one_of
sides x h = go (either_true {a = eqb x 66} {b = either (eqb x 83) false} h)
  where
    go : (eqb x 66 ≡ true) ⊎ (either (eqb x 83) false ≡ true) → (x ≡ 66) ⊎ (x ≡ 83)
    go (inl e) = inl (eqb-true x 66 e)
    go (inr e) = inr (eqb-true x 83 (sym (either_none (eqb x 83)) ∙ e))

-- a body of a kind: its type byte and its length are those of the table
pub record Framed (k : Kind) (b : List ℕ) : Type 0 where
  pub type_is : get_or b 0 0 ≡ type_of k
  pub length_is : length b ≡ kind_length k
  pub some : 1 ≤ length b
  pub most : length b ≤ entry_size

-- what an answer says: the body is framed, the message is what its layout reads there, and the fields that it shows are in range
abbrev pub Sound : (ed : Edition) → Body → List ℕ → Type 0
Sound ed (Body.SystemTime n) b = Framed Kind.SystemTime b × (n ≡ read_as system_time b)
Sound ed (Body.SymbolUpdate m) b = Framed Kind.SymbolUpdate b × (m ≡ update_of b) × (test_ok m.test ≡ true) × (market_ok m.symbol.market ≡ true) × (m.nanos ≤ most_nanos) × (security_ok ed m.security ≡ true)
Sound ed (Body.SystemState m) b = Framed Kind.SystemState b × (m ≡ state_of b) × (m.nanos ≤ most_nanos)
Sound ed (Body.TradingStatus m) b = Framed Kind.TradingStatus b × (m ≡ status_of b) × (m.nanos ≤ most_nanos)
Sound ed (Body.SymbolClear m) b = Framed Kind.SymbolClear b × (m ≡ clear_of b) × (m.nanos ≤ most_nanos)
Sound ed (Body.Add m) b = Framed Kind.Add b × (m ≡ add_of b) × (side_ok m.side ≡ true) × Deal m.price m.size × (m.nanos ≤ most_nanos)
Sound ed (Body.Modify m) b = Framed Kind.Modify b × (m ≡ modify_of b) × Deal m.price m.size × (m.nanos ≤ most_nanos)
Sound ed (Body.Delete m) b = Framed Kind.Delete b × (m ≡ delete_of b) × (m.nanos ≤ most_nanos)
Sound ed (Body.Execution m) b = Framed Kind.Execution b × (m ≡ execution_of b) × Deal m.price m.size × (m.nanos ≤ most_nanos)
Sound ed (Body.Trade m) b = Framed Kind.Trade b × (m ≡ trade_of b) × Deal m.price m.size × (m.nanos ≤ most_nanos)
Sound ed (Body.TradeCancel m) b = Framed Kind.TradeCancel b × (m ≡ cancel_of b) × Deal m.price m.size × (m.nanos ≤ most_nanos)
Sound ed (Body.Bad f) b = BadBody ed b f

-- every field of the kind holds its test
held : (ed : Edition) (k : Kind) (b : List ℕ) → fault_of ed k b ≡ 0 → AllHold (shapes k) (tests ed k) (fields_in k b)
unfolding fault_of
held ed k b f = no_fault (shapes k) (tests ed k) (fields_in k b) 1 (omega arith) f

-- and no body is of none
no_kind : (b : List ℕ) → Framed Kind.Unknown b → ⊥
unfolding kind_length length_of lookup table pick
no_kind b w = let e : length b ≡ 0 = w.length_is in omega (arith, w.some)

decoded_sound : (ed : Edition) (k : Kind) (b : List ℕ) → Framed k b → AllHold (shapes k) (tests ed k) (fields_in k b) → Sound ed (decoded k b) b
unfolding decoded
decoded_sound ed Kind.SystemTime b w h = (w, refl)
decoded_sound ed Kind.SymbolUpdate b w h = (w, refl, h.1.1.1.1.0, h.1.1.1.1.1.1.1.1.1.0, in_time (update_of b).nanos h.0, h.1.1.1.0)
decoded_sound ed Kind.SystemState b w h = (w, refl, in_time (state_of b).nanos h.0)
decoded_sound ed Kind.TradingStatus b w h = (w, refl, in_time (status_of b).nanos h.0)
decoded_sound ed Kind.SymbolClear b w h = (w, refl, in_time (clear_of b).nanos h.0)
decoded_sound ed Kind.Add b w h = (w, refl, h.1.1.1.0, deal (add_of b).price (add_of b).size h.1.1.1.1.0 h.1.1.1.1.1.0, in_time (add_of b).nanos h.0)
decoded_sound ed Kind.Modify b w h = (w, refl, deal (modify_of b).price (modify_of b).size h.1.1.1.0 h.1.1.1.1.0, in_time (modify_of b).nanos h.0)
decoded_sound ed Kind.Delete b w h = (w, refl, in_time (delete_of b).nanos h.0)
decoded_sound ed Kind.Execution b w h = (w, refl, deal (execution_of b).price (execution_of b).size h.1.1.1.1.0 h.1.1.1.1.1.0, in_time (execution_of b).nanos h.0)
decoded_sound ed Kind.Trade b w h = (w, refl, deal (trade_of b).price (trade_of b).size h.1.1.1.1.0 h.1.1.1.1.1.0, in_time (trade_of b).nanos h.0)
decoded_sound ed Kind.TradeCancel b w h = (w, refl, deal (cancel_of b).price (cancel_of b).size h.1.1.1.1.0 h.1.1.1.1.1.0, in_time (cancel_of b).nanos h.0)
decoded_sound ed Kind.Unknown b w h = absurd (no_kind b w)

-- a framed body has a type of the table, and that type's length
pub framed_is : (b : List ℕ) → framed b ≡ true → Framed (kind_of (get_or b 0 0)) b
unfolding framed
framed_is b h = go (lengths (get_or b 0 0))
  where
    some : 0 < length b
    some = ltb-true 0 (length b) (both_true {a = ltb 0 (length b)} {b = eqb (length b) (length_of (get_or b 0 0))} h).0

    len : length b ≡ length_of (get_or b 0 0)
    len = eqb-true (length b) (length_of (get_or b 0 0)) (both_true {a = ltb 0 (length b)} {b = eqb (length b) (length_of (get_or b 0 0))} h).1

    go : (length_of (get_or b 0 0) ≡ 0) ⊎ Lengths (get_or b 0 0) → Framed (kind_of (get_or b 0 0)) b
    go (inl e) = let s = some in let l = len in absurd (omega arith)
    go (inr r) =
        let s = some in let l = len in
        record { type_is = r.of_type; length_is = len ∙ r.of_kind; some = omega arith; most = omega arith }

-- a framed body is judged as one of its kind
pub judge_framed : (ed : Edition) (k : Kind) (b : List ℕ) → Framed k b → judge_body ed b ≡ ranged ed k b
unfolding judge_body framed pick both kind_length
judge_framed ed k b w = rw (lt-ltb 0 (length b) w.some, w.type_is, eq-eqb (length b) (length_of (type_of k)) w.length_is, type_kind k)

-- what is read of it: decoded where no field is bad
abbrev pub judged : (ed : Edition) → Kind → List ℕ → Body
judged ed k b = pick (eqb (fault_of ed k b) 0) (decoded k b) (Body.Bad (bad_at 4 (fault_of ed k b)))

pub read_framed : (ed : Edition) (k : Kind) (b : List ℕ) → Framed k b → read_body ed b ≡ judged ed k b
unfolding read_body message ranged
read_framed ed k b w =
    ap (λ (x : Result Kind Fault). message x b) (judge_framed ed k b w)
    ∙ pick_map (λ (x : Result Kind Fault). message x b) (eqb (fault_of ed k b) 0) (Ok k) (Err (bad_at 4 (fault_of ed k b)))

-- so two bodies of a kind with the same fault are judged alike, by number and offset
pub judge_by_fault : (ed : Edition) (k : Kind) (b c : List ℕ) → Framed k b → Framed k c → fault_of ed k c ≡ fault_of ed k b → judge_body ed c ≡ judge_body ed b
unfolding ranged
judge_by_fault ed k b c w v e = judge_framed ed k c v ∙ (ap (λ (n : ℕ). pick (eqb n 0) (Ok k) (Err (bad_at 4 n))) e ∙ sym (judge_framed ed k b w))

-- ---- what was judged
-- a good body is of the kind that its type byte decides, and its fields are all in range; a bad one is bad where it is said to be
abbrev pub JudgedAs : (ed : Edition) → Result Kind Fault → List ℕ → Type 0
JudgedAs ed (Ok k) b = (k ≡ kind_of (get_or b 0 0)) × Framed k b × AllHold (shapes k) (tests ed k) (fields_in k b)
JudgedAs ed (Err f) b = BadBody ed b f

pub judge_sound : (ed : Edition) (b : List ℕ) → JudgedAs ed (judge_body ed b) b
unfolding judge_body ranged fault_of
judge_sound ed b =
    let k : Kind = kind_of (get_or b 0 0) in
    pick_ind (λ r. JudgedAs ed r b) (framed b) (ranged ed k b) (Err (bad_at 3 0))
    (λ e.
    pick_ind (λ r. JudgedAs ed r b) (eqb (fault_of ed k b) 0) (Ok k) (Err (bad_at 4 (fault_of ed k b)))
    (λ z. (refl, framed_is b e, held ed k b (eqb-true (fault_of ed k b) 0 z)))
    (λ z. inr (refl, record { whole = e; first = fault_first (shapes k) (tests ed k) (fields_in k b) 1 (eqb-false (fault_of ed k b) 0 z) })))
    (λ e. inl (refl, refl, e))

-- ---- what was read
pub read_sound : (ed : Edition) (b : List ℕ) → Sound ed (read_body ed b) b
unfolding read_body message
read_sound ed b = go (judge_body ed b) (judge_sound ed b)
  where
    go : (r : Result Kind Fault) → JudgedAs ed r b → Sound ed (message r b) b
    go (Ok k) h = decoded_sound ed k b h.1 h.2
    go (Err f) h = h

-- what is decoded of a framed body is no refusal
decoded_none : (k : Kind) (b : List ℕ) → Framed k b → body_number (decoded k b) ≡ 0
unfolding decoded
decoded_none Kind.SystemTime b w = refl
decoded_none Kind.SymbolUpdate b w = refl
decoded_none Kind.SystemState b w = refl
decoded_none Kind.TradingStatus b w = refl
decoded_none Kind.SymbolClear b w = refl
decoded_none Kind.Add b w = refl
decoded_none Kind.Modify b w = refl
decoded_none Kind.Delete b w = refl
decoded_none Kind.Execution b w = refl
decoded_none Kind.Trade b w = refl
decoded_none Kind.TradeCancel b w = refl
decoded_none Kind.Unknown b w = absurd (no_kind b w)

-- so judging and reading tell one number
pub judge_number : (ed : Edition) (b : List ℕ) → judged_number (judge_body ed b) ≡ body_number (read_body ed b)
unfolding read_body message
judge_number ed b = go (judge_body ed b) (judge_sound ed b)
  where
    go : (r : Result Kind Fault) → JudgedAs ed r b → judged_number r ≡ body_number (message r b)
    go (Ok k) h = sym (decoded_none k b h.1)
    go (Err f) h = refl

-- a length that is above 0 and 0 is none
no_such : (n : ℕ) → both (ltb 0 n) (eqb n 0) ≡ false
unfolding both
no_such zero = refl
no_such (suc n) = rw (lt-ltb 0 (suc n) (omega arith), ne_eqb (suc n) 0 (λ e. omega arith)) refl

-- "giving the message kind or refusal 3": where the type byte gives 3, the body is refused so, whatever its length
pub type_refused : (ed : Edition) (b : List ℕ) → refusal_of (kind_of (get_or b 0 0)) ≡ 3 → read_body ed b ≡ Body.Bad (bad_at 3 0)
unfolding read_body judge_body message framed pick
type_refused ed b h = rw (no_length (get_or b 0 0) h, no_such (length b))

-- a good body has 1 byte or more and at most as many as an entry: those that its type has
pub record BodyFits (b : List ℕ) : Type 0 where
  pub some : 1 ≤ length b
  pub most : length b ≤ entry_size
  pub of_type : length b ≡ length_of (get_or b 0 0)

-- a body of a kind is framed
is_framed : (k : Kind) (b : List ℕ) → Framed k b → framed b ≡ true
unfolding framed both kind_length
is_framed k b w = rw (lt-ltb 0 (length b) w.some, w.type_is, eq-eqb (length b) (length_of (type_of k)) w.length_is)

-- a body that is not refused is framed
good_judged : (ed : Edition) (r : Result Kind Fault) (b : List ℕ) → JudgedAs ed r b → judged_number r ≡ 0 → framed b ≡ true
good_judged ed (Ok k) b h z = is_framed k b h.1
good_judged ed (Err f) b (inl h) z = absurd (omega (arith, h.0))
good_judged ed (Err f) b (inr h) z = absurd (omega (arith, h.0))

pub good_framed : (ed : Edition) (b : List ℕ) → good_body ed b ≡ true → framed b ≡ true
unfolding good_body
good_framed ed b h = good_judged ed (judge_body ed b) b (judge_sound ed b) (eqb-true (judged_number (judge_body ed b)) 0 h)

pub good_fits : (ed : Edition) (b : List ℕ) → good_body ed b ≡ true → BodyFits b
unfolding framed
good_fits ed b h =
    let e = good_framed ed b h in
    let w = framed_is b e in
    record {
      some = w.some;
      most = w.most;
      of_type = eqb-true (length b) (length_of (get_or b 0 0)) (both_true {a = ltb 0 (length b)} {b = eqb (length b) (length_of (get_or b 0 0))} e).1;
    }

-- what is judged is good, or bad by 3 or 4
pub data Judgement (ed : Edition) (b : List ℕ) : Type 0 where
  good : (k : Kind) → judge_body ed b ≡ Ok k → good_body ed b ≡ true → body_number (read_body ed b) ≡ 0 → Judgement ed b
  bad : (f : Fault) → judge_body ed b ≡ Err f → good_body ed b ≡ false → BadBody ed b f → Judgement ed b

pub judgement : (ed : Edition) (b : List ℕ) → Judgement ed b
unfolding good_body
judgement ed b = go (judge_body ed b) refl (judge_sound ed b)
  where
    go : (r : Result Kind Fault) → judge_body ed b ≡ r → JudgedAs ed r b → Judgement ed b
    go (Ok k) e h = good k e (rw e refl) (sym (judge_number ed b) ∙ ap judged_number e)
    go (Err f) e (inl h) = bad f e (rw (e, h.0) refl) (inl h)
    go (Err f) e (inr h) = bad f e (rw (e, h.0) refl) (inr h)

pub number_good : (ed : Edition) (b : List ℕ) → body_number (read_body ed b) ≡ 0 → good_body ed b ≡ true
unfolding good_body
number_good ed b e = eq-eqb (judged_number (judge_body ed b)) 0 (judge_number ed b ∙ e)

pub bad_number : (ed : Edition) (b : List ℕ) → good_body ed b ≡ false → body_number (read_body ed b) ≡ 0 → ⊥
unfolding good_body
bad_number ed b h e = eqb-false (judged_number (judge_body ed b)) 0 h (judge_number ed b ∙ e)

-- any bytes are a good body or refused by 3 or 4, and never both
pub good_or_refused : (ed : Edition) (b : List ℕ) → ((good_body ed b ≡ true) × (body_number (read_body ed b) ≡ 0)) ⊎ ((good_body ed b ≡ false) × ((body_number (read_body ed b) ≡ 3) ⊎ (body_number (read_body ed b) ≡ 4)))
good_or_refused ed b = go (judgement ed b)
  where
    go : Judgement ed b → ((good_body ed b ≡ true) × (body_number (read_body ed b) ≡ 0)) ⊎ ((good_body ed b ≡ false) × ((body_number (read_body ed b) ≡ 3) ⊎ (body_number (read_body ed b) ≡ 4)))
    go (good k e g z) = inl (g, z)
    go (bad f e g (inl h)) = inr (g, inl (sym (judge_number ed b) ∙ (ap judged_number e ∙ h.0)))
    go (bad f e g (inr h)) = inr (g, inr (sym (judge_number ed b) ∙ (ap judged_number e ∙ h.0)))
