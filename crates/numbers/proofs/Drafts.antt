-- A draft that is not refused is a framed body of its kind whose fields are those given, and a body that is read has numbers and a text that stand for its fields: by layout's laws, the two undo each other.
-- Assumes nothing.
use Prim.Native.Nat.{ℕ, ◌+◌, ◌≤◌}
use mathlib.Core.Path.{◌≡◌, refl, sym, ap, subst, ◌∙◌}
use mathlib.Core.Bool.{true, false}
use mathlib.Core.List.{List, [], ◌∷◌}
use mathlib.Core.Logic.{◌⊎◌, inl, inr}
use native.Mathlib.Omega.{arith}
use lib.Dec.{eqb}
use lib.ListN.{length, get_or}
use borrow.Author.Tests.{lt-ltb, ltb-true, eq-eqb, eqb-true, eqb-false}
use Rattle.facts.specs.Pick.{pick, both}
use Rattle.facts.proofs.Picks.{pick_cases, both_true}
use Rattle.editions.specs.declared.Edition.{Edition}
use Rattle.wire.specs.Le.{field, padded, Bytes}
use Rattle.wire.proofs.Laws.{length_padded, field_below}
use Rattle.kinds.specs.Table.{table, lookup, length_of, kind_of, type_of, kind_length, refusal_of}
use Rattle.kinds.specs.declared.Kind.{Kind}
use Rattle.kinds.proofs.Laws.{type_kind}
use Rattle.layout.specs.Shape.{Shape, byte, number, text, Values, AllFit, cut}
use Rattle.layout.specs.Layout.{shapes, FieldsFit, fields_in, body_for}
use Rattle.layout.proofs.Laws.{fields_back, body_back}
use Rattle.fields.specs.Fields.{decoded}
use Rattle.body.specs.Faults.{tests, fault_from}
use Rattle.body.specs.Read.{judge_body, judged_number, message, read_body, good_body}
use Rattle.std.specs.Prelude.{Result, Ok, Err}
use Rattle.fields.specs.declared.Fault.{Fault}
use Rattle.body.proofs.Laws.{Framed, JudgedAs, judge_sound, judge_number}
use Rattle.trips.proofs.Messages.{framed_written, judged_written}
use Rattle.numbers.specs.Numbers.{fields_of, text_of}
use Rattle.numbers.specs.Drafts.{fields_from, fitting, draft_fits, draft_kind, body_from, draft_body, number_from, draft_number}
use Rattle.numbers.specs.Back.{numbers_read, text_read, WrittenBack, ReadBack}
use Rattle.numbers.proofs.Types.{type_first}
use Rattle.numbers.proofs.Texts.{update_parts, last_back, version_back}

-- ---- a kind is a message's, or no type gives it
pub known : (k : Kind) → (k ≡ Kind.Unknown) ⊎ (refusal_of k ≡ 0)
unfolding pick
known Kind.SystemTime = inr refl
known Kind.SymbolUpdate = inr refl
known Kind.SystemState = inr refl
known Kind.TradingStatus = inr refl
known Kind.SymbolClear = inr refl
known Kind.Add = inr refl
known Kind.Modify = inr refl
known Kind.Delete = inr refl
known Kind.Execution = inr refl
known Kind.Trade = inr refl
known Kind.TradeCancel = inr refl
known Kind.Unknown = inl refl

-- a body of a kind has a message's
framed_known : (k : Kind) (b : List ℕ) → Framed k b → refusal_of k ≡ 0
unfolding kind_length length_of lookup table pick
framed_known k b w = elim (known k) [ inl e ↦ (let n : kind_length k ≡ 0 = ap kind_length e in absurd (omega (arith, n, w.length_is, w.some))) | inr e ↦ e ]

-- a message's type is 1 or more
typed_kind : (k : Kind) → refusal_of k ≡ 0 → 1 ≤ type_of k
typed_kind k r = elim (pick_cases r) [ inl e ↦ absurd (omega (arith, e.1)) | inr e ↦ omega (arith, eqb-false (type_of k) 0 e.0) ]

-- ---- numbers that fit
-- the texts of a run have their lengths
abbrev TextsFit : (ss : List Shape) → Values ss → Type 0
TextsFit [] vs = Unit {0}
TextsFit (byte ∷ ss) vs = TextsFit ss vs.1
TextsFit (number w ∷ ss) vs = TextsFit ss vs.1
TextsFit (text w ∷ ss) vs = (length vs.0 ≡ w) × TextsFit ss vs.1

-- then its fields fit where its numbers do
all_fit : (ss : List Shape) (vs : Values ss) → fitting ss vs ≡ true → TextsFit ss vs → AllFit ss vs
unfolding fitting both
all_fit [] vs h t = tt
all_fit (byte ∷ ss) vs h t = let e = both_true h in (ltb-true vs.0 256 e.0, all_fit ss vs.1 e.1 t)
all_fit (number w ∷ ss) vs h t = let e = both_true h in (ltb-true vs.0 _ e.0, all_fit ss vs.1 e.1 t)
all_fit (text w ∷ ss) vs h t = (t.0, all_fit ss vs.1 h t.1)

texts_fit : (ed : Edition) (k : Kind) (l x : List ℕ) → TextsFit (shapes k) (fields_from ed k l x)
texts_fit ed Kind.SystemTime l x = tt
texts_fit ed Kind.SymbolUpdate l x = (length_padded x 0 11, (length_padded x 11 8, (length_padded x 19 8, tt)))
texts_fit ed Kind.SystemState l x = (length_padded x 0 8, tt)
texts_fit ed Kind.TradingStatus l x = tt
texts_fit ed Kind.SymbolClear l x = tt
texts_fit ed Kind.Add l x = tt
texts_fit ed Kind.Modify l x = tt
texts_fit ed Kind.Delete l x = tt
texts_fit ed Kind.Execution l x = tt
texts_fit ed Kind.Trade l x = tt
texts_fit ed Kind.TradeCancel l x = tt
texts_fit ed Kind.Unknown l x = tt

pub draft_fit : (ed : Edition) (k : Kind) (l x : List ℕ) → draft_fits ed k l x ≡ true → FieldsFit k (fields_from ed k l x)
draft_fit ed k l x h = all_fit (shapes k) (fields_from ed k l x) h (texts_fit ed k l x)

-- what is read from bytes fits
cut_fits : (ss : List Shape) (b : List ℕ) (at : ℕ) → Bytes b → fitting ss (cut ss b at) ≡ true
unfolding fitting both
cut_fits [] b at h = refl
cut_fits (byte ∷ ss) b at h = rw (lt-ltb (get_or b at 0) 256 (h at)) (cut_fits ss b (at + 1) h)
cut_fits (number w ∷ ss) b at h = rw (lt-ltb (field b at w) _ (field_below b h at w)) (cut_fits ss b (at + w) h)
cut_fits (text w ∷ ss) b at h = cut_fits ss b (at + w) h

-- ---- the numbers and the text of a body stand for its fields
told_back : (ed : Edition) (k : Kind) (b : List ℕ) → fields_from ed k (fields_of ed (decoded k b) b) (text_of ed (decoded k b) b) ≡ fields_in k b
unfolding decoded
told_back ed Kind.SystemTime b = refl
told_back Edition.V13 Kind.SymbolUpdate b =
    let p = update_parts (padded b 9 11) (padded b 25 8) (padded b 33 8) 0 (length_padded b 9 11) (length_padded b 25 8) (length_padded b 33 8) in
    λ i. (field b 1 4, (field b 5 4, ((p i).0, (get_or b 20 0, (get_or b 21 0, (get_or b 22 0, (field b 23 2, ((p i).1.0, ((p i).1.1.0, (get_or b 41 0, tt))))))))))
told_back Edition.V13b Kind.SymbolUpdate b =
    let p = update_parts (padded b 9 11) (padded b 25 8) (padded b 33 8) (get_or b 20 0) (length_padded b 9 11) (length_padded b 25 8) (length_padded b 33 8) in
    let q = last_back (padded b 9 11) (padded b 25 8) (padded b 33 8) (get_or b 20 0) (length_padded b 9 11) (length_padded b 25 8) (length_padded b 33 8) in
    λ i. (field b 1 4, (field b 5 4, ((p i).0, (q i, (get_or b 21 0, (get_or b 22 0, (field b 23 2, ((p i).1.0, ((p i).1.1.0, (get_or b 41 0, tt))))))))))
told_back ed Kind.SystemState b = let p = version_back (padded b 5 8) (length_padded b 5 8) in λ i. (field b 1 4, (p i, (get_or b 13 0, (get_or b 14 0, tt))))
told_back ed Kind.TradingStatus b = refl
told_back ed Kind.SymbolClear b = refl
told_back ed Kind.Add b = refl
told_back ed Kind.Modify b = refl
told_back ed Kind.Delete b = refl
told_back ed Kind.Execution b = refl
told_back ed Kind.Trade b = refl
told_back ed Kind.TradeCancel b = refl
told_back ed Kind.Unknown b = refl

-- ---- a fitting draft of a message
module _ (ed : Edition) (k : Kind) (l x : List ℕ) (r : refusal_of k ≡ 0) (f : draft_fits ed k l x ≡ true) where
  -- is framed as its kind
  pub draft_framed : Framed k (body_from ed k l x)
  draft_framed = framed_written k (typed_kind k r) (fields_from ed k l x) (draft_fit ed k l x f)

  -- and judged by the fields that were given: 4 exactly where one of them is out of its range in the edition
  pub draft_judged : number_from ed k l x ≡ pick (eqb (fault_from (shapes k) (tests ed k) (fields_from ed k l x) 1) 0) 0 4
  unfolding number_from pick
  draft_judged = rw (r, f) (judged_written ed k (typed_kind k r) (fields_from ed k l x) (draft_fit ed k l x f))

-- ---- which drafts are written
module _ (ed : Edition) (k : Kind) (l x : List ℕ) where
  pub record Passed : Type 0 where
    pub is_known : refusal_of k ≡ 0
    pub fits : draft_fits ed k l x ≡ true
    pub judged_good : judged_number (judge_body ed (body_from ed k l x)) ≡ 0

  pub passed : number_from ed k l x ≡ 0 → Passed
  unfolding number_from
  passed z = go (pick_cases z)
    where
      go : ((eqb (refusal_of k) 0 ≡ true) × (pick (draft_fits ed k l x) (judged_number (judge_body ed (body_from ed k l x))) 4 ≡ 0)) ⊎ ((eqb (refusal_of k) 0 ≡ false) × (refusal_of k ≡ 0)) → Passed
      go (inl e) = elim (pick_cases e.1) [ inl g ↦ record { is_known = eqb-true (refusal_of k) 0 e.0; fits = g.0; judged_good = g.1 } | inr g ↦ absurd (omega (arith, g.1)) ]
      go (inr e) = absurd (eqb-false (refusal_of k) 0 e.0 e.1)

  pub passing : Passed → number_from ed k l x ≡ 0
  unfolding number_from pick
  passing p = rw (p.is_known, p.fits, p.judged_good)

-- ---- a good body is read as its kind
good_read : (ed : Edition) (b : List ℕ) → good_body ed b ≡ true → Framed (kind_of (get_or b 0 0)) b × (read_body ed b ≡ decoded (kind_of (get_or b 0 0)) b)
unfolding good_body read_body message
good_read ed b h = go (judge_body ed b) (judge_sound ed b) (eqb-true (judged_number (judge_body ed b)) 0 h)
  where
    go : (j : Result Kind Fault) → JudgedAs ed j b → judged_number j ≡ 0 → Framed (kind_of (get_or b 0 0)) b × (message j b ≡ decoded (kind_of (get_or b 0 0)) b)
    go (Ok k) s z = (subst (λ (y : Kind). Framed y b) s.0 s.1, ap (λ (y : Kind). decoded y b) s.0)
    go (Err f) (inl s) z = absurd (omega (arith, s.0))
    go (Err f) (inr s) z = absurd (omega (arith, s.0))

-- what is read of it stands for its fields, and its type is the kind's
module _ (ed : Edition) (b : List ℕ) (good : good_body ed b ≡ true) where
  abbrev kind_read : Kind
  kind_read = kind_of (get_or b 0 0)

  good_number : judged_number (judge_body ed b) ≡ 0
  unfolding good_body
  good_number = eqb-true (judged_number (judge_body ed b)) 0 good

  read_kind : draft_kind (numbers_read ed b) ≡ kind_read
  read_kind = ap kind_of (type_first ed b (sym (judge_number ed b) ∙ good_number))

  read_fields : fields_from ed kind_read (numbers_read ed b) (text_read ed b) ≡ fields_in kind_read b
  read_fields = rw (good_read ed b good).1 (told_back ed kind_read b)

  module _ (bytes : Bytes b) where
    read_body_lem : body_from ed kind_read (numbers_read ed b) (text_read ed b) ≡ b
    read_body_lem =
        let w = (good_read ed b good).0 in
        rw read_fields (body_back kind_read b bytes w.type_is w.length_is w.some)

    -- what was read can be written, and comes to the same bytes
    pub written_back : WrittenBack ed b
    written_back =
        let l = numbers_read ed b in
        let x = text_read ed b in
        record {
          allowed =
              ap (λ (y : Kind). number_from ed y l x) read_kind
              ∙ passing ed kind_read l x record {
                is_known = framed_known kind_read b (good_read ed b good).0;
                fits = rw read_fields (cut_fits (shapes kind_read) b 1 bytes);
                judged_good = rw read_body_lem good_number;
              };
          same_bytes = ap (λ (y : Kind). body_from ed y l x) read_kind ∙ read_body_lem;
        }

-- what was written is read, as the fields that were given
module _ (ed : Edition) (l x : List ℕ) (z : draft_number ed l x ≡ 0) where
  pub draft_good : good_body ed (draft_body ed l x) ≡ true
  unfolding good_body
  draft_good = eq-eqb (judged_number (judge_body ed (draft_body ed l x))) 0 (passed ed (draft_kind l) l x z).judged_good

  pub read_back : ReadBack ed l x
  unfolding body_for
  read_back =
      let k = draft_kind l in
      let b = draft_body ed l x in
      let own : kind_of (get_or b 0 0) ≡ k = type_kind k in
      record {
        good = draft_good;
        same_kind = read_kind ed b draft_good ∙ own;
        same_fields =
            subst (λ (y : Kind). fields_from ed y (numbers_read ed b) (text_read ed b) ≡ fields_in y b) own (read_fields ed b draft_good)
            ∙ fields_back k (fields_from ed k l x) (draft_fit ed k l x (passed ed k l x z).fits);
      }
