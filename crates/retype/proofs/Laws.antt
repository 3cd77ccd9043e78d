-- Byte 20 of a Symbol Update alone is changed: no other field is read from it, the symbol's names lie before it, and the test of the edition asked for takes what is put there.
-- Assumes nothing.
use Prim.Native.Nat.{ℕ, zero, suc, ◌+◌, ◌≤◌, ◌<◌}
use mathlib.Core.Path.{◌≡◌, refl, sym, ap, ◌∙◌, subst}
use mathlib.Core.Bool.{Bool, true, false, true≢false, not}
use mathlib.Core.List.{List, [], ◌∷◌}
use mathlib.Core.Logic.{◌≢◌, ◌⊎◌, inl, inr}
use native.Mathlib.Omega.{arith}
use lib.ListN.{length, get_or, set, length-set}
use lib.Seq.{get_or-set_same, get_or-set_other, set-get_or}
use lib.Dec.{eqb}
use borrow.Author.Tests.{eqb-true, eq-eqb}
use Rattle.facts.specs.Pick.{pick}
use Rattle.facts.specs.Search.{first, is_found}
use Rattle.std.specs.Prelude.{Option, Some, None, Result, Ok}
use Rattle.fields.specs.declared.Fault.{Fault}
use Rattle.facts.proofs.Picks.{pick_ind, both_true}
use Rattle.facts.proofs.Searches.{first_at, first_none}
use Rattle.editions.specs.declared.Edition.{Edition}
use Rattle.wire.specs.Le.{padded}
use Rattle.wire.proofs.Laws.{field_same, length_padded, get_or_padded, is_padded}
use Rattle.kinds.specs.Table.{kind_of, type_of as type_byte, kind_length, length_of, lookup, table}
use Rattle.kinds.specs.declared.Kind.{Kind}
use Rattle.fields.specs.Fields.{symbol_of, security_of, decoded}
use Rattle.fields.specs.declared.Body.{Body}
use Rattle.body.specs.Ranges.{security_ok}
use Rattle.body.specs.Read.{judge_body, judged_number, message, read_body, good_body}
use Rattle.body.specs.Editions.{IsUpdate}
use Rattle.body.proofs.Laws.{good_framed, Framed, framed_is, Judgement, good, bad, judgement, JudgedAs, judge_sound}
use Rattle.body.proofs.Editions.{no_update_alike, lettered_alike, reserved_unjudged, older_alike}
use Rattle.retype.specs.Types.{exceptions, names_symbol, names, type_of, type_at, type_for, bad_type, types_ok}
use Rattle.retype.specs.Retyped.{Asked, is_update, byte_in, new_byte, retyped}

-- ---- bytes that are the same but for byte 20
abbrev pub ButFor20 : List ℕ → List ℕ → Type 0
ButFor20 b c = (k : ℕ) → k ≢ 20 → get_or c k 0 ≡ get_or b k 0

module _ (b c : List ℕ) (same : ButFor20 b c) where
  text_same : (at n : ℕ) → (at + n ≤ 20) ⊎ (20 < at) → padded c at n ≡ padded b at n
  text_same at n s =
      subst (λ (m : ℕ). padded c at n ≡ padded b at m) (length_padded c at n)
      (is_padded b at (padded c at n) (λ k h. get_or_padded c at n k (rw (length_padded c at n) at h) ∙ same (at + k) (λ e. apart s k (rw (length_padded c at n) at h) e)))
    where
      apart : (at + n ≤ 20) ⊎ (20 < at) → (k : ℕ) → k < n → at + k ≡ 20 → ⊥
      apart (inl l) k h e = omega arith
      apart (inr l) k h e = omega arith

  -- every field of `Symbol`
  pub symbol_same : symbol_of c ≡ symbol_of b
  symbol_same i =
      record {
        id = field_same c b 5 4 (λ k h m. same k (λ e. omega arith)) i;
        ticker = text_same 9 11 (inl (omega arith)) i;
        opening = text_same 25 8 (inr (omega arith)) i;
        closing = text_same 33 8 (inr (omega arith)) i;
        lot = field_same c b 23 2 (λ k h m. same k (λ e. omega arith)) i;
        market = same 41 (λ e. omega arith) i;
      }

  names_same : (x : List ℕ) → names x c ≡ names x b
  unfolding names
  names_same x = ap (names_symbol x) symbol_same

  pub type_same : (all : ℕ) (others : List ℕ) → type_for all others c ≡ type_for all others b
  unfolding type_for
  type_same all others = λ i. type_at (first (λ (x : List ℕ). names_same x i) 0 (exceptions others)) (exceptions others) all

  pub update_same : is_update c ≡ is_update b
  unfolding is_update
  update_same = rw (same 0 (λ e. omega arith)) refl

-- ---- what is retyped
pub retyped_length : (a : Asked) (b : List ℕ) → length (retyped a b) ≡ length b
unfolding retyped
retyped_length a b = pick_ind (λ (c : List ℕ). length c ≡ length b) (is_update b) _ b (λ _. length-set b _ (new_byte a b)) (λ _. refl)

pub retyped_same : (a : Asked) (b : List ℕ) → ButFor20 b (retyped a b)
unfolding retyped
retyped_same a b k n = pick_ind (λ (c : List ℕ). get_or c k 0 ≡ get_or b k 0) (is_update b) _ b (λ _. get_or-set_other b 20 k (new_byte a b) 0 n) (λ _. refl)

pub retyped_yes : (a : Asked) (b : List ℕ) → is_update b ≡ true → retyped a b ≡ set b 20 (new_byte a b)
unfolding retyped pick
retyped_yes a b u = simp u

pub retyped_no : (a : Asked) (b : List ℕ) → is_update b ≡ false → retyped a b ≡ b
unfolding retyped pick
retyped_no a b u = simp u

pub update_kept : (a : Asked) (b : List ℕ) → is_update (retyped a b) ≡ is_update b
update_kept a b = update_same b (retyped a b) (retyped_same a b)

pub byte_kept : (a c : Asked) (b : List ℕ) → new_byte c (retyped a b) ≡ new_byte c b
byte_kept a c b = ap (byte_in c.to) (type_same b (retyped a b) (retyped_same a b) c.all c.others)

set_twice : (l : List ℕ) (i x y : ℕ) → set (set l i x) i y ≡ set l i y
set_twice [] i x y = refl
set_twice (a ∷ l) zero x y = refl
set_twice (a ∷ l) (suc i) x y = ap (λ (t : List ℕ). a ∷ t) (set_twice l i x y)

pub by_update : {P : Type 0} (b : List ℕ) → (is_update b ≡ true → P) → (is_update b ≡ false → P) → P
by_update {P} b f g = go (is_update b) refl
  where
    go : (t : Bool) → is_update b ≡ t → P
    go true e = f e
    go false e = g e

-- there and back: the second is as if the first had not been
pub retyped_again : (a c : Asked) (b : List ℕ) → retyped c (retyped a b) ≡ retyped c b
retyped_again a c b =
    by_update b
    (λ u.
    retyped_yes c (retyped a b) (update_kept a b ∙ u)
    ∙ (λ i. set (retyped_yes a b u i) 20 (byte_kept a c b i))
    ∙ set_twice b 20 (new_byte a b) (new_byte c b)
    ∙ sym (retyped_yes c b u))
    (λ u. ap (retyped c) (retyped_no a b u))

-- and where the byte is there already, nothing changes
pub retyped_own : (a : Asked) (b : List ℕ) → (is_update b ≡ true → get_or b 20 0 ≡ new_byte a b) → retyped a b ≡ b
retyped_own a b h = by_update b (λ u. retyped_yes a b u ∙ ap (set b 20) (sym (h u)) ∙ set-get_or b 20 0) (λ u. retyped_no a b u)

-- ---- a good body is a good body of the edition asked for, as the same message
-- a message with another byte 20, which a Symbol Update alone has
abbrev pub with_20 : Body → ℕ → Body
with_20 (Body.SymbolUpdate m) y = Body.SymbolUpdate (record { nanos = m.nanos; symbol = m.symbol; security = y; test = m.test; reserved = m.reserved })
with_20 (Body.SystemTime m) y = Body.SystemTime m
with_20 (Body.SystemState m) y = Body.SystemState m
with_20 (Body.TradingStatus m) y = Body.TradingStatus m
with_20 (Body.SymbolClear m) y = Body.SymbolClear m
with_20 (Body.Add m) y = Body.Add m
with_20 (Body.Modify m) y = Body.Modify m
with_20 (Body.Delete m) y = Body.Delete m
with_20 (Body.Execution m) y = Body.Execution m
with_20 (Body.Trade m) y = Body.Trade m
with_20 (Body.TradeCancel m) y = Body.TradeCancel m
with_20 (Body.Bad m) y = Body.Bad m

-- the type of a good body is its kind's, so that `is_update` and the kind tell the same
good_update : (ed : Edition) (b : List ℕ) → good_body ed b ≡ true → IsUpdate b → is_update b ≡ true
unfolding is_update
good_update ed b g u = eq-eqb (get_or b 0 0) 1 ((framed_is b (good_framed ed b g)).type_is ∙ ap type_byte u)

pub update_kind : (b : List ℕ) → is_update b ≡ true → IsUpdate b
unfolding is_update kind_of pick
update_kind b u = ap kind_of (eqb-true (get_or b 0 0) 1 u)

-- what is asked for is in range, whichever symbol it is for
not_found : (f : Option ℕ) → not (is_found f) ≡ true → f ≡ None
not_found (Some i) e = absurd (true≢false (sym e))
not_found None e = refl

not_bad : (ed : Edition) (x : List ℕ) → bad_type ed x ≡ false → security_ok ed (type_of x) ≡ true
unfolding bad_type
not_bad ed x e = go (security_ok ed (type_of x)) refl
  where
    go : (t : Bool) → security_ok ed (type_of x) ≡ t → security_ok ed (type_of x) ≡ true
    go true h = h
    go false h = absurd (true≢false (ap not (sym h) ∙ e))

pub type_good : (ed : Edition) (all : ℕ) (others b : List ℕ) → types_ok ed all others ≡ true → security_ok ed (type_for all others b) ≡ true
unfolding types_ok type_for
type_good ed all others b ok =
    let o = both_true {a = security_ok ed all} {b = not (is_found (first (bad_type ed) 0 (exceptions others)))} ok in
    go (first (λ (x : List ℕ). names x b) 0 (exceptions others)) refl o.0 (not_found (first (bad_type ed) 0 (exceptions others)) o.1)
  where
    go : (f : Option ℕ) → first (λ (x : List ℕ). names x b) 0 (exceptions others) ≡ f → security_ok ed all ≡ true → first (bad_type ed) 0 (exceptions others) ≡ None → security_ok ed (type_at f (exceptions others) all) ≡ true
    go None e g n = g
    go (Some i) e g n =
        let l = first_at (λ (x : List ℕ). names x b) 0 (exceptions others) i [] e in
        not_bad ed (get_or (exceptions others) i []) (first_none (bad_type ed) 0 (exceptions others) n i [] (omega (arith, l.1)))

-- in 1.3.b whatever stands there
newer_judged : (from : Edition) (a : Asked) (b : List ℕ) → good_body from b ≡ true → judge_body Edition.V13b (retyped a b) ≡ judge_body from b
newer_judged from a b g = by_update b (λ u. ap (judge_body Edition.V13b) (retyped_yes a b u) ∙ reserved_unjudged b (new_byte a b) (update_kind b u) ∙ newer from g) (λ u. ap (judge_body Edition.V13b) (retyped_no a b u) ∙ newer from g)
  where
    newer : (from : Edition) → good_body from b ≡ true → judge_body Edition.V13b b ≡ judge_body from b
    newer Edition.V13 g = older_alike b g
    newer Edition.V13b g = refl

-- a Symbol Update reaches past its byte 20
update_long : (ed : Edition) (b : List ℕ) → good_body ed b ≡ true → is_update b ≡ true → 20 < length b
unfolding kind_length length_of lookup table pick
update_long ed b g u = let w : Framed Kind.SymbolUpdate b = subst (λ (k : Kind). Framed k b) (update_kind b u) (framed_is b (good_framed ed b g)) in omega (arith, w.length_is)

module _ (from : Edition) (a : Asked) (b : List ℕ) (g : good_body from b ≡ true) (ok : types_ok a.to a.all a.others ≡ true) where
  newer_good : good_body Edition.V13b (retyped a b) ≡ true
  unfolding good_body
  newer_good = ap (λ (j : Result Kind Fault). eqb (judged_number j) 0) (newer_judged from a b g) ∙ g

  -- byte 20 is the one asked for
  byte_there : is_update b ≡ true → security_of (retyped a b) ≡ new_byte a b
  byte_there u = ap security_of (retyped_yes a b u) ∙ get_or-set_same b 20 (new_byte a b) 0 (update_long from b g u)

  -- in 1.3 its letter is one that was asked for
  typed : a.to ≡ Edition.V13 → is_update b ≡ true → judge_body Edition.V13 (retyped a b) ≡ judge_body from b
  typed e u =
      let c = retyped a b in
      let is : new_byte a b ≡ type_for a.all a.others b = ap (λ (ed : Edition). byte_in ed (type_for a.all a.others b)) e in
      let good : security_ok Edition.V13 (type_for a.all a.others b) ≡ true = type_good Edition.V13 a.all a.others b (ap (λ (ed : Edition). types_ok ed a.all a.others) (sym e) ∙ ok) in
      lettered_alike c (record { update = update_kind c (update_kept a b ∙ u); letter = ap (security_ok Edition.V13) (byte_there u ∙ is) ∙ good }) ∙ newer_judged from a b g

  untyped : is_update b ≡ false → judge_body Edition.V13 (retyped a b) ≡ judge_body from b
  untyped u =
      no_update_alike Edition.V13 Edition.V13b (retyped a b) (λ k. true≢false (sym (good_update Edition.V13b (retyped a b) newer_good k) ∙ update_kept a b ∙ u))
      ∙ newer_judged from a b g

  pub retyped_judged : judge_body a.to (retyped a b) ≡ judge_body from b
  retyped_judged = go a.to refl
    where
      go : (ed : Edition) → a.to ≡ ed → judge_body ed (retyped a b) ≡ judge_body from b
      go Edition.V13b e = newer_judged from a b g
      go Edition.V13 e = by_update b (typed e) untyped

  pub retyped_good : good_body a.to (retyped a b) ≡ true
  unfolding good_body
  retyped_good = ap (λ (j : Result Kind Fault). eqb (judged_number j) 0) retyped_judged ∙ g

  judged_good : judge_body from b ≡ Ok (kind_of (get_or b 0 0))
  judged_good = go (judgement from b)
    where
      go : Judgement from b → judge_body from b ≡ Ok (kind_of (get_or b 0 0))
      go (good k e h z) = e ∙ ap Ok (subst (λ (r : Result Kind Fault). JudgedAs from r b) e (judge_sound from b)).0
      go (bad f e h w) = absurd (true≢false (sym g ∙ h))

  -- any other message keeps all of its bytes
  decoded_kept : (k : Kind) → kind_of (get_or b 0 0) ≡ k → (k ≡ Kind.SymbolUpdate → ⊥) → decoded k (retyped a b) ≡ decoded k b
  decoded_kept k e n = by_update b (λ u. absurd (n (sym e ∙ update_kind b u))) (λ u. ap (decoded k) (retyped_no a b u))

  -- and of a Symbol Update no other field lies there
  decoded_to : (k : Kind) → kind_of (get_or b 0 0) ≡ k → decoded k (retyped a b) ≡ with_20 (decoded k b) (new_byte a b)
  unfolding decoded
  decoded_to Kind.SymbolUpdate e =
      let s = retyped_same a b in
      λ i. Body.SymbolUpdate (record {
        nanos = field_same (retyped a b) b 1 4 (λ k h m. s k (λ q. omega arith)) i;
        symbol = symbol_same b (retyped a b) s i;
        security = byte_there (good_update from b g e) i;
        test = s 21 (λ q. omega arith) i;
        reserved = s 22 (λ q. omega arith) i;
      })
  decoded_to Kind.SystemTime e = decoded_kept Kind.SystemTime e (λ q. cc)
  decoded_to Kind.SystemState e = decoded_kept Kind.SystemState e (λ q. cc)
  decoded_to Kind.TradingStatus e = decoded_kept Kind.TradingStatus e (λ q. cc)
  decoded_to Kind.SymbolClear e = decoded_kept Kind.SymbolClear e (λ q. cc)
  decoded_to Kind.Add e = decoded_kept Kind.Add e (λ q. cc)
  decoded_to Kind.Modify e = decoded_kept Kind.Modify e (λ q. cc)
  decoded_to Kind.Delete e = decoded_kept Kind.Delete e (λ q. cc)
  decoded_to Kind.Execution e = decoded_kept Kind.Execution e (λ q. cc)
  decoded_to Kind.Trade e = decoded_kept Kind.Trade e (λ q. cc)
  decoded_to Kind.TradeCancel e = decoded_kept Kind.TradeCancel e (λ q. cc)
  decoded_to Kind.Unknown e = decoded_kept Kind.Unknown e (λ q. cc)

  -- the same message, with the same fields, but for byte 20 of a Symbol Update, which is the one asked for
  pub retyped_read : read_body a.to (retyped a b) ≡ with_20 (read_body from b) (new_byte a b)
  unfolding read_body message
  retyped_read =
      ap (λ (j : Result Kind Fault). message j (retyped a b)) (retyped_judged ∙ judged_good)
      ∙ decoded_to (kind_of (get_or b 0 0)) refl
      ∙ ap (λ (j : Result Kind Fault). with_20 (message j b) (new_byte a b)) (sym judged_good)
