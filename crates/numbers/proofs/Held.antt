-- What the code tests of numbers and of 42 bytes is what the definitions ask.
-- Assumes nothing.
use Prim.Native.Nat.{ℕ, zero, suc, ◌≤◌, ◌<◌}
use mathlib.Core.Path.{◌≡◌, refl, sym, ap, subst, ◌∙◌}
use mathlib.Core.Bool.{Bool, true, false, true≢false, ◌&&◌}
use mathlib.Core.List.{List, [], ◌∷◌, ◌++◌}
use mathlib.Core.Logic.{inl, inr}
use native.Mathlib.Omega.{arith}
use lib.Dec.{eqb, leb, ltb, leb-suc-suc}
use lib.ListN.{length, get_or, take, drop, replicate}
use lib.Seq.{take-take, take_at}
use borrow.Author.Tests.{eqb-true, eqb-false, ne_eqb, lt-ltb, le-leb, lt-leb}
use Rattle.facts.specs.Limits.{entry_size}
use Rattle.facts.specs.Pick.{pick, both}
use Rattle.facts.proofs.Picks.{pick_ind}
use Rattle.editions.specs.declared.Edition.{Edition}
use Rattle.wire.specs.Le.{padded}
use Rattle.wire.proofs.Laws.{get_or_padded}
use Rattle.kinds.specs.Table.{table, lookup, length_of, kind_of, type_of, kind_length, refusal_of}
use Rattle.kinds.specs.declared.Kind.{Kind}
use Rattle.kinds.proofs.Laws.{lengths}
use Rattle.layout.specs.Shape.{joined}
use Rattle.layout.specs.Layout.{FieldsFit, body_for}
use Rattle.fields.specs.Fields.{refusal}
use Rattle.fields.specs.declared.Refusal.{Refusal}
use Rattle.fields.specs.declared.Fault.{Fault}
use Rattle.std.specs.Prelude.{Result, Ok, Err}
use Rattle.body.specs.Read.{framed, judge_body, judged, judged_number}
use Rattle.body.proofs.Codes.{told_good, told_bad, number_some}
use Rattle.numbers.specs.Drafts.{security_from, fields_from, fitting, draft_fits, most_security, most as largest, body_from, draft_body, number_from, draft_number, held_draft, draft_from, draft_of}
use Rattle.std.specs.Prelude.{MatchBool}
use Rattle.std.specs.List.{zip, AllWithin, HoldsAt}
use Rattle.numbers.proofs.Drafts.{known, draft_framed}

-- no number above 255 is a message's type
pub no_type : (v : ℕ) → 256 ≤ v → Kind.Unknown ≡ kind_of v
unfolding kind_of pick
no_type v h = simp (ne_eqb v 49 (λ e. omega arith), ne_eqb v 1 (λ e. omega arith), ne_eqb v 83 (λ e. omega arith), ne_eqb v 4 (λ e. omega arith), ne_eqb v 5 (λ e. omega arith), ne_eqb v 20 (λ e. omega arith), ne_eqb v 21 (λ e. omega arith), ne_eqb v 23 (λ e. omega arith), ne_eqb v 24 (λ e. omega arith), ne_eqb v 10 (λ e. omega arith), ne_eqb v 11 (λ e. omega arith))

-- ---- numbers that fit
-- below the bytes of a field is at most the largest number in them
one : (v : ℕ) → ltb v 256 ≡ leb v 255
one v = leb-suc-suc v 255

two : (v : ℕ) → ltb v 65536 ≡ leb v 65535
two v = leb-suc-suc v 65535

four : (v : ℕ) → ltb v 4294967296 ≡ leb v 4294967295
four v = leb-suc-suc v 4294967295

-- a number of 64 bits fits into eight bytes, and is at most the largest of them
fit : {v : ℕ} → v < 18446744073709551616 → ltb v 18446744073709551616 ≡ true
fit h = lt-ltb _ 18446744073709551616 h

most : {v : ℕ} → v < 18446744073709551616 → leb v 18446744073709551615 ≡ true
most {v} h = le-leb v 18446744073709551615 (omega arith)

and_both : (a b : Bool) → a && b ≡ both a b
unfolding both
and_both true b = refl
and_both false b = refl

both_end : (a : Bool) → both a true ≡ a
unfolding both
both_end true = refl
both_end false = refl

both_start : (a : Bool) → both true a ≡ a
unfolding both
both_start a = refl

-- each number behind the type is at most its own of seven
abbrev within : List ℕ → List ℕ → Bool
within l m =
    leb (get_or l 1 0) (get_or m 0 0)
    && (leb (get_or l 2 0) (get_or m 1 0)
    && (leb (get_or l 3 0) (get_or m 2 0)
    && (leb (get_or l 4 0) (get_or m 3 0)
    && (leb (get_or l 5 0) (get_or m 4 0)
    && (leb (get_or l 6 0) (get_or m 5 0)
    && leb (get_or l 7 0) (get_or m 6 0))))))

-- and has 64 bits, as in any array of such numbers
abbrev pub Words : List ℕ → Type 0
Words l =
    (get_or l 1 0 < 18446744073709551616)
    × (get_or l 2 0 < 18446744073709551616)
    × (get_or l 3 0 < 18446744073709551616)
    × (get_or l 4 0 < 18446744073709551616)
    × (get_or l 5 0 < 18446744073709551616)
    × (get_or l 6 0 < 18446744073709551616)
    × (get_or l 7 0 < 18446744073709551616)

module _ (ed : Edition) (l x : List ℕ) where
  pub update_fits : leb (get_or l 5 0) 4294967295 && (leb (get_or l 1 0) 4294967295 && (leb (security_from ed l x) 255 && (leb (get_or l 6 0) 255 && (leb (get_or l 7 0) 255 && (leb (get_or l 2 0) 65535 && leb (get_or l 3 0) 255))))) ≡ draft_fits ed Kind.SymbolUpdate l x
  unfolding fitting
  update_fits = simp (one, two, four, and_both, both_start, both_end)

  -- the others by their largest numbers; w says that those that may be anything are numbers of 64 bits
  module _ (w : Words l) where
    pub time_fits : within l (4294967295 ∷ 18446744073709551615 ∷ 18446744073709551615 ∷ 18446744073709551615 ∷ 18446744073709551615 ∷ 18446744073709551615 ∷ 18446744073709551615 ∷ []) ≡ draft_fits ed Kind.SystemTime l x
    unfolding fitting
    time_fits = simp (four, most w.1, most w.2, most w.3, most w.4, most w.5, most w.6, and_both, both_start, both_end)

    pub state_fits : within l (4294967295 ∷ 255 ∷ 255 ∷ 18446744073709551615 ∷ 18446744073709551615 ∷ 18446744073709551615 ∷ 18446744073709551615 ∷ []) ≡ draft_fits ed Kind.SystemState l x
    unfolding fitting
    state_fits = simp (one, four, most w.3, most w.4, most w.5, most w.6, and_both, both_start, both_end)

    pub status_fits : within l (4294967295 ∷ 4294967295 ∷ 255 ∷ 255 ∷ 255 ∷ 18446744073709551615 ∷ 18446744073709551615 ∷ []) ≡ draft_fits ed Kind.TradingStatus l x
    unfolding fitting
    status_fits = simp (one, four, most w.5, most w.6, and_both, both_start, both_end)

    pub clear_fits : within l (4294967295 ∷ 4294967295 ∷ 18446744073709551615 ∷ 18446744073709551615 ∷ 18446744073709551615 ∷ 18446744073709551615 ∷ 18446744073709551615 ∷ []) ≡ draft_fits ed Kind.SymbolClear l x
    unfolding fitting
    clear_fits = simp (four, most w.2, most w.3, most w.4, most w.5, most w.6, and_both, both_start, both_end)

    pub add_fits : within l (4294967295 ∷ 4294967295 ∷ 18446744073709551615 ∷ 255 ∷ 18446744073709551615 ∷ 4294967295 ∷ 4294967295 ∷ []) ≡ draft_fits ed Kind.Add l x
    unfolding fitting
    add_fits = simp (one, four, fit w.2, fit w.4, most w.2, most w.4, and_both, both_start, both_end)

    pub modify_fits : within l (4294967295 ∷ 4294967295 ∷ 18446744073709551615 ∷ 18446744073709551615 ∷ 4294967295 ∷ 255 ∷ 18446744073709551615 ∷ []) ≡ draft_fits ed Kind.Modify l x
    unfolding fitting
    modify_fits = simp (one, four, fit w.2, fit w.3, most w.2, most w.3, most w.6, and_both, both_start, both_end)

    pub delete_fits : within l (4294967295 ∷ 4294967295 ∷ 18446744073709551615 ∷ 18446744073709551615 ∷ 18446744073709551615 ∷ 18446744073709551615 ∷ 18446744073709551615 ∷ []) ≡ draft_fits ed Kind.Delete l x
    unfolding fitting
    delete_fits = simp (four, fit w.2, most w.2, most w.3, most w.4, most w.5, most w.6, and_both, both_start, both_end)

    pub execution_fits : within l (4294967295 ∷ 4294967295 ∷ 18446744073709551615 ∷ 18446744073709551615 ∷ 18446744073709551615 ∷ 4294967295 ∷ 255 ∷ []) ≡ draft_fits ed Kind.Execution l x
    unfolding fitting
    execution_fits = simp (one, four, fit w.2, fit w.3, fit w.4, most w.2, most w.3, most w.4, and_both, both_start, both_end)

    pub trade_fits : within l (4294967295 ∷ 4294967295 ∷ 18446744073709551615 ∷ 255 ∷ 18446744073709551615 ∷ 4294967295 ∷ 255 ∷ []) ≡ draft_fits ed Kind.Trade l x
    unfolding fitting
    trade_fits = simp (one, four, fit w.2, fit w.4, most w.2, most w.4, and_both, both_start, both_end)

    pub cancel_fits : within l (4294967295 ∷ 4294967295 ∷ 18446744073709551615 ∷ 255 ∷ 18446744073709551615 ∷ 4294967295 ∷ 18446744073709551615 ∷ []) ≡ draft_fits ed Kind.TradeCancel l x
    unfolding fitting
    cancel_fits = simp (one, four, fit w.2, fit w.4, most w.2, most w.4, most w.6, and_both, both_start, both_end)

-- a type that is no message's has no numbers that do not fit
unknown_fits : (ed : Edition) (k : Kind) (l x : List ℕ) → k ≡ Kind.Unknown → draft_fits ed k l x ≡ true
unfolding fitting
unknown_fits ed k l x e = ap (λ (y : Kind). draft_fits ed y l x) e

-- the numbers of a Symbol Update are not in the order of their places
swap : (a b c : Bool) → a && (b && c) ≡ b && (a && c)
swap true true c = refl
swap true false c = refl
swap false true c = refl
swap false false c = refl

turn : (a b : Bool) → a && b ≡ b && a
turn true true = refl
turn true false = refl
turn false true = refl
turn false false = refl

in_places : (a b c d e f g : Bool) → a && (b && (c && (d && (e && (f && g))))) ≡ e && (a && (d && (f && (g && (b && c)))))
in_places a b c d e f g =
    ap (λ z. a && (b && (c && z))) (swap d e (f && g))
    ∙ ap (λ z. a && (b && z)) (swap c e (d && (f && g)))
    ∙ ap (λ z. a && z) (swap b e (c && (d && (f && g))))
    ∙ swap a e (b && (c && (d && (f && g))))
    ∙ ap (λ z. e && (a && (b && z))) (swap c d (f && g))
    ∙ ap (λ z. e && (a && z)) (swap b d (c && (f && g)))
    ∙ ap (λ z. e && (a && (d && (b && z)))) (swap c f g)
    ∙ ap (λ z. e && (a && (d && z))) (swap b f (c && g))
    ∙ ap (λ z. e && (a && (d && (f && (b && z))))) (turn c g)
    ∙ ap (λ z. e && (a && (d && (f && z)))) (swap b g c)

security_test : (ed : Edition) (l x : List ℕ) → get_or l 4 0 < 18446744073709551616 → get_or x 27 0 < 256 → leb (get_or l 4 0) (most_security ed) ≡ leb (security_from ed l x) 255
security_test Edition.V13 l x w h = refl
security_test Edition.V13b l x w h = most w ∙ sym (le-leb (get_or x 27 0) 255 (omega (arith, h)))

kind_fits : (ed : Edition) (k : Kind) (l x : List ℕ) → Words l → get_or x 27 0 < 256 → within l (largest ed k) ≡ draft_fits ed k l x
kind_fits ed Kind.SystemTime l x w h = time_fits ed l x w
kind_fits ed Kind.SymbolUpdate l x w h = in_places (leb (get_or l 1 0) 4294967295) (leb (get_or l 2 0) 65535) (leb (get_or l 3 0) 255) (leb (get_or l 4 0) (most_security ed)) (leb (get_or l 5 0) 4294967295) (leb (get_or l 6 0) 255) (leb (get_or l 7 0) 255) ∙ (ap (λ z. leb (get_or l 5 0) 4294967295 && (leb (get_or l 1 0) 4294967295 && (z && (leb (get_or l 6 0) 255 && (leb (get_or l 7 0) 255 && (leb (get_or l 2 0) 65535 && leb (get_or l 3 0) 255)))))) (security_test ed l x w.3 h) ∙ update_fits ed l x)
kind_fits ed Kind.SystemState l x w h = state_fits ed l x w
kind_fits ed Kind.TradingStatus l x w h = status_fits ed l x w
kind_fits ed Kind.SymbolClear l x w h = clear_fits ed l x w
kind_fits ed Kind.Add l x w h = add_fits ed l x w
kind_fits ed Kind.Modify l x w h = modify_fits ed l x w
kind_fits ed Kind.Delete l x w h = delete_fits ed l x w
kind_fits ed Kind.Execution l x w h = execution_fits ed l x w
kind_fits ed Kind.Trade l x w h = trade_fits ed l x w
kind_fits ed Kind.TradeCancel l x w h = cancel_fits ed l x w
kind_fits ed Kind.Unknown l x w h = unknown_test l w ∙ sym (unknown_fits ed Kind.Unknown l x refl)
  where
    unknown_test : (m : List ℕ) → Words m → within m (largest ed Kind.Unknown) ≡ true
    unknown_test m v = simp (most v.0, most v.1, most v.2, most v.3, most v.4, most v.5, most v.6)

-- ---- one by one, as the code goes
pub below : List ℕ → List ℕ → Bool
below [] ms = true
below (x ∷ xs) [] = true
below (x ∷ xs) (m ∷ ms) = leb x m && below xs ms

abbrev pub Below : ℕ × ℕ → Type 0
Below p = p.0 ≤ p.1

abbrev pub Above : ℕ × ℕ → Type 0
Above p = p.1 < p.0

all_below : (xs ms : List ℕ) → AllWithin Below (zip xs ms) 0 (length (zip xs ms)) → below xs ms ≡ true
unfolding below
all_below [] ms h = refl
all_below (x ∷ xs) [] h = refl
all_below (x ∷ xs) (m ∷ ms) h = rw (le-leb x m (h 0 (0, 0) (omega arith) (omega arith)), all_below xs ms (λ k d a b. h (suc k) d (omega arith) (omega (arith, b)))) refl

none_first : (a : Bool) → a && false ≡ false
none_first true = refl
none_first false = refl

one_above : (xs ms : List ℕ) (k : ℕ) → k < length (zip xs ms) → HoldsAt Above (zip xs ms) k → below xs ms ≡ false
unfolding below
one_above [] ms k l h = absurd (omega arith)
one_above (x ∷ xs) [] k l h = absurd (omega arith)
one_above (x ∷ xs) (m ∷ ms) zero l h = rw (lt-leb x m (h (0, 0))) refl
one_above (x ∷ xs) (m ∷ ms) (suc k) l h = rw (one_above xs ms k (omega arith) (λ d. h d)) (none_first (leb x m))

pub by_all : (xs ms : List ℕ) (r : Bool) → MatchBool r (AllWithin Below (zip xs ms) 0 (length (zip xs ms))) ((k : ℕ) × (k < length (zip xs ms)) × HoldsAt Above (zip xs ms) k) → r ≡ below xs ms
by_all xs ms true h = sym (all_below xs ms h)
by_all xs ms false h = sym (one_above xs ms h.0 h.1 h.2)

eight_tests : (l m : List ℕ) → length l ≡ 8 → length m ≡ 7 → below (drop 1 l) m ≡ within l m
unfolding below
eight_tests (t ∷ a ∷ b ∷ c ∷ d ∷ e ∷ f ∷ g ∷ []) (p ∷ q ∷ r ∷ s ∷ u ∷ v ∷ w ∷ []) i j = ap (λ z. leb a p && (leb b q && (leb c r && (leb d s && (leb e u && (leb f v && z)))))) (turn (leb g w) true)
eight_tests [] m i j = absurd (omega (arith, i))
eight_tests (t ∷ []) m i j = absurd (omega (arith, i))
eight_tests (t ∷ a ∷ []) m i j = absurd (omega (arith, i))
eight_tests (t ∷ a ∷ b ∷ []) m i j = absurd (omega (arith, i))
eight_tests (t ∷ a ∷ b ∷ c ∷ []) m i j = absurd (omega (arith, i))
eight_tests (t ∷ a ∷ b ∷ c ∷ d ∷ []) m i j = absurd (omega (arith, i))
eight_tests (t ∷ a ∷ b ∷ c ∷ d ∷ e ∷ []) m i j = absurd (omega (arith, i))
eight_tests (t ∷ a ∷ b ∷ c ∷ d ∷ e ∷ f ∷ []) m i j = absurd (omega (arith, i))
eight_tests (t ∷ a ∷ b ∷ c ∷ d ∷ e ∷ f ∷ g ∷ h ∷ l) m i j = absurd (omega (arith, i))
eight_tests (t ∷ a ∷ b ∷ c ∷ d ∷ e ∷ f ∷ g ∷ []) [] i j = absurd (omega (arith, j))
eight_tests (t ∷ a ∷ b ∷ c ∷ d ∷ e ∷ f ∷ g ∷ []) (p ∷ []) i j = absurd (omega (arith, j))
eight_tests (t ∷ a ∷ b ∷ c ∷ d ∷ e ∷ f ∷ g ∷ []) (p ∷ q ∷ []) i j = absurd (omega (arith, j))
eight_tests (t ∷ a ∷ b ∷ c ∷ d ∷ e ∷ f ∷ g ∷ []) (p ∷ q ∷ r ∷ []) i j = absurd (omega (arith, j))
eight_tests (t ∷ a ∷ b ∷ c ∷ d ∷ e ∷ f ∷ g ∷ []) (p ∷ q ∷ r ∷ s ∷ []) i j = absurd (omega (arith, j))
eight_tests (t ∷ a ∷ b ∷ c ∷ d ∷ e ∷ f ∷ g ∷ []) (p ∷ q ∷ r ∷ s ∷ u ∷ []) i j = absurd (omega (arith, j))
eight_tests (t ∷ a ∷ b ∷ c ∷ d ∷ e ∷ f ∷ g ∷ []) (p ∷ q ∷ r ∷ s ∷ u ∷ v ∷ []) i j = absurd (omega (arith, j))
eight_tests (t ∷ a ∷ b ∷ c ∷ d ∷ e ∷ f ∷ g ∷ []) (p ∷ q ∷ r ∷ s ∷ u ∷ v ∷ w ∷ y ∷ m) i j = absurd (omega (arith, j))

most_seven : (ed : Edition) (k : Kind) → length (largest ed k) ≡ 7
most_seven ed Kind.SystemTime = refl
most_seven ed Kind.SymbolUpdate = refl
most_seven ed Kind.SystemState = refl
most_seven ed Kind.TradingStatus = refl
most_seven ed Kind.SymbolClear = refl
most_seven ed Kind.Add = refl
most_seven ed Kind.Modify = refl
most_seven ed Kind.Delete = refl
most_seven ed Kind.Execution = refl
most_seven ed Kind.Trade = refl
most_seven ed Kind.TradeCancel = refl
most_seven ed Kind.Unknown = refl

pub all_fit : (ed : Edition) (k : Kind) (l x : List ℕ) → length l ≡ 8 → Words l → get_or x 27 0 < 256 → below (drop 1 l) (largest ed k) ≡ draft_fits ed k l x
all_fit ed k l x e w h = eight_tests l (largest ed k) e (most_seven ed k) ∙ kind_fits ed k l x w h

-- ---- the body of a kind
module _ (ed : Edition) (k j : Kind) (q : k ≡ j) (l x : List ℕ) where
  pub told_fit : FieldsFit k (fields_from ed k l x) → FieldsFit j (fields_from ed j l x)
  told_fit f = subst (λ (y : Kind). FieldsFit y (fields_from ed y l x)) q f

  pub told_body : {r : List ℕ} → r ≡ padded (body_from ed j l x) 0 42 → r ≡ padded (body_from ed k l x) 0 42
  told_body e = e ∙ ap (λ (y : Kind). padded (body_from ed y l x) 0 42) (sym q)

-- ---- 42 bytes that hold a body in front
pub length_most : (t : ℕ) → length_of t ≤ entry_size
length_most t = elim (lengths t) [ inl e ↦ omega arith | inr r ↦ r.most ]

module _ (ed : Edition) (w : List ℕ) (n : ℕ) (by_table : n ≡ length_of (get_or w 0 0)) where
  pub held_good : (u : Unit {0}) → judged (judge_body ed (take n w)) ≡ Ok u → Ok (take n w) ≡ held_draft ed w
  unfolding held_draft pick
  held_good u e =
      let k = told_good (judge_body ed (take n w)) u e in
      let g : judged_number (judge_body ed (take n w)) ≡ 0 = ap judged_number (sym k.1) in
      rw (← by_table, g)

  pub held_refused : (f : Fault) → judged (judge_body ed (take n w)) ≡ Err f → Err (refusal f.number) ≡ held_draft ed w
  unfolding held_draft pick
  held_refused f e =
      let r : Err f ≡ judge_body ed (take n w) = told_bad (judge_body ed (take n w)) f e in
      let g : judged_number (judge_body ed (take n w)) ≡ f.number = ap judged_number (sym r) in
      rw (← by_table, ne_eqb (judged_number (judge_body ed (take n w))) 0 (λ y. number_some ed (take n w) f r (sym g ∙ y)), g)

-- a body in front of zeros
front : (b : List ℕ) (n : ℕ) → length b ≡ n → n ≤ 42 → take n (padded b 0 42) ≡ b
unfolding padded
front b n h m = take-take n 42 (b ++ replicate 42 0) m ∙ take_at b (replicate 42 0) n h

-- as many of its first bytes as its type has in the table stand in front of zeros
abbrev pub HeldInFront : List ℕ → Type 0
HeldInFront w = w ≡ padded (take (length_of (get_or w 0 0)) w) 0 42

-- ---- the whole draft
-- the body of a type that is no message's is 42 zeros, which are judged 3
unknown_held : (ed : Edition) (l x : List ℕ) → held_draft ed (padded (body_from ed Kind.Unknown l x) 0 42) ≡ draft_from ed Kind.Unknown l x
unfolding held_draft draft_from number_from body_for joined padded length_of lookup table judge_body framed pick both
unknown_held ed l x = refl

-- and zeros behind none of them
unknown_padded : (ed : Edition) (l x : List ℕ) → HeldInFront (padded (body_from ed Kind.Unknown l x) 0 42)
unfolding body_for joined padded length_of lookup table pick
unknown_padded ed l x = refl

module _ (ed : Edition) (k : Kind) (l x : List ℕ) where
  pub unfit : draft_fits ed k l x ≡ false → Err (refusal 4) ≡ draft_from ed k l x
  unfolding draft_from number_from pick
  unfit h = elim (known k) [ inl e ↦ absurd (true≢false (sym (unknown_fits ed k l x e) ∙ h)) | inr r ↦ rw (r, h) ]

  module _ (f : draft_fits ed k l x ≡ true) where
    known_front : refusal_of k ≡ 0 → take (length_of (get_or (padded (body_from ed k l x) 0 42) 0 0)) (padded (body_from ed k l x) 0 42) ≡ body_from ed k l x
    unfolding body_for kind_length
    known_front r =
        let w = draft_framed ed k l x r f in
        let m = w.most in
        let b : List ℕ = body_from ed k l x in
        let type_is : get_or (padded b 0 42) 0 0 ≡ type_of k = get_or_padded b 0 42 0 (omega arith) in
        rw (type_is, front b (kind_length k) w.length_is (omega arith)) refl

    known_held : refusal_of k ≡ 0 → held_draft ed (padded (body_from ed k l x) 0 42) ≡ draft_from ed k l x
    unfolding held_draft draft_from number_from pick
    known_held r = rw (known_front r, r, f)

    pub held : held_draft ed (padded (body_from ed k l x) 0 42) ≡ draft_from ed k l x
    held = elim (known k) [ inl e ↦ (λ i. held_draft ed (padded (body_from ed (e i) l x) 0 42)) ∙ (unknown_held ed l x ∙ ap (λ (y : Kind). draft_from ed y l x) (sym e)) | inr r ↦ known_held r ]

    -- behind what the table takes of the 42 bytes are zeros
    pub held_padded : HeldInFront (padded (body_from ed k l x) 0 42)
    held_padded = elim (known k) [ inl e ↦ subst (λ (y : Kind). HeldInFront (padded (body_from ed y l x) 0 42)) (sym e) (unknown_padded ed l x) | inr r ↦ ap (λ (b : List ℕ). padded b 0 42) (sym (known_front r)) ]

-- ---- what a caller has in hand
module _ (ed : Edition) (l x : List ℕ) where
  -- why there is no body
  pub draft_refused : (r : Refusal) → Err r ≡ draft_of ed l x → (r.number ≡ draft_number ed l x) × (draft_number ed l x ≡ 0 → ⊥)
  unfolding draft_from
  draft_refused r =
      pick_ind (λ (d : Result (List ℕ) Refusal). Err r ≡ d → (r.number ≡ draft_number ed l x) × (draft_number ed l x ≡ 0 → ⊥))
      (eqb (draft_number ed l x) 0)
      (Ok (draft_body ed l x))
      (Err (refusal (draft_number ed l x)))
      (λ _ q. let z : ◌≡◌ {A = ℕ} 0 1 = cc in absurd (omega arith))
      (λ e q. let s : r ≡ refusal (draft_number ed l x) = cc in (ap (λ (y : Refusal). y.number) s, eqb-false (draft_number ed l x) 0 e))

  -- and what there is where nothing refuses it
  pub draft_good : (d : List ℕ) → Ok d ≡ draft_of ed l x → (draft_number ed l x ≡ 0) × (d ≡ draft_body ed l x)
  unfolding draft_from
  draft_good d =
      pick_ind (λ (y : Result (List ℕ) Refusal). Ok d ≡ y → (draft_number ed l x ≡ 0) × (d ≡ draft_body ed l x))
      (eqb (draft_number ed l x) 0)
      (Ok (draft_body ed l x))
      (Err (refusal (draft_number ed l x)))
      (λ e q. let s : d ≡ draft_body ed l x = cc in (eqb-true (draft_number ed l x) 0 e, s))
      (λ _ q. let z : ◌≡◌ {A = ℕ} 0 1 = cc in absurd (omega arith))
