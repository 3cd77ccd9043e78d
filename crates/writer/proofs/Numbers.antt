-- A draft that is good is the body in front of zeros, so that its first bytes are the body; of one that is refused no byte counts.
-- Assumes nothing.
use mathlib.Core.Path.{◌≡◌, refl, sym, ap, subst, ◌∙◌}
use mathlib.Core.List.{List}
use mathlib.Core.Bool.{Bool, true, false}
use Prim.Native.Nat.{ℕ, ◌+◌}
use lib.ListN.{length, take}
use lib.Dec.{eqb, leb}
use borrow.Author.Tests.{eqb-true, eqb-false, ne_eqb}
use Rattle.facts.specs.Pick.{pick}
use Rattle.editions.specs.declared.Edition.{Edition}
use Rattle.numbers.specs.Drafts.{draft_kind, draft_number, draft_body, draft_of}
use Rattle.fields.specs.Fields.{refusal}
use Rattle.fields.specs.declared.Refusal.{Refusal}
use Rattle.fields.specs.declared.Fault.{Fault}
use Rattle.std.specs.Prelude.{Result, Ok, Err, MatchResult, IsErrAnd}
use Rattle.std.proofs.lemmas.Result.{err_from_is_err_and}
use Rattle.kinds.specs.declared.Kind.{Kind}
use Rattle.body.specs.Read.{judge_body, judged, judged_number}
use Rattle.body.proofs.Codes.{number_some}
use Rattle.numbers.proofs.Drafts.{passed}
use Rattle.numbers.proofs.Held.{draft_refused, draft_good}
use Rattle.trips.specs.Records.{record_bytes}
use Rattle.writer.specs.Append.{Writing, refused_by, put, where_read, behind, so_far, own_number, appended_as, appended, numbers_appended, unless, message_number, Numbered}
use Rattle.writer.proofs.Laws.{allowed, put_refused, is_refused}

-- a fault as a refusal: its number alone
abbrev pub told_number : Result (Unit {0}) Fault → Result (Unit {0}) Refusal
told_number (Ok u) = Ok u
told_number (Err f) = Err (refusal f.number)

pub mapped : (j : Result (Unit {0}) Fault) (m : Result (Unit {0}) Refusal) (Q : Fault → Refusal → Type 0) → MatchResult j (λ x. m ≡ Ok x) (λ f. IsErrAnd m (Q f)) → ((f : Fault) (r : Refusal) → Q f r → r ≡ refusal f.number) → m ≡ told_number j
mapped (Ok u) m Q h k = h
mapped (Err f) m Q h k = let p = err_from_is_err_and m h in p.1 ∙ ap (λ (r : Refusal). Err r) (k f p.0 p.2)

-- ---- a draft
module _ (ed : Edition) (l x : List ℕ) where
  pub drafted : (d : List ℕ) → Ok d ≡ draft_of ed l x → (m : List ℕ) (at n : ℕ) → appended_as ed 0 m at n d ≡ numbers_appended ed m at n l x
  unfolding numbers_appended
  drafted d e m at n = let g = draft_good ed l x d e in λ i. appended_as ed (sym g.0 i) m at n (g.1 i)

  -- ---- of a message that is refused no byte counts
  module _ (m : List ℕ) (at n : ℕ) where
    own_any : (why room new old : ℕ) → (why ≡ 0 → ⊥) → own_number why n room new ≡ own_number why n room old
    unfolding own_number pick
    own_any why room new old w = rw (ne_eqb why 0 w) refl

    refused_alike : (why : ℕ) (b c : List ℕ) → (why ≡ 0 → ⊥) → appended_as ed why m at n b ≡ appended_as ed why m at n c
    unfolding appended_as behind
    refused_alike why b c w =
        let s : List ℕ = record_bytes n b in
        let t : List ℕ = record_bytes n c in
        let k : ℕ = own_number why n (length m) (at + length s) in
        let j : ℕ = own_number why n (length m) (at + length t) in
        let same : k ≡ j = own_any why (length m) (at + length s) (at + length t) w in
        let some : k ≡ 0 → ⊥ = λ z. w (allowed why n (length m) (at + length s) z).message_ok in
        let puts : put k m at s ≡ put j m at t = sym (put_refused k m at s some) ∙ (put_refused k m at t some ∙ ap (λ (i : ℕ). put i m at t) same) in
        ap (λ (u : Writing). pick (leb at (length m)) (where_read (so_far ed (take at m)) m u) (refused_by 32 m)) puts

    pub undrafted : (r : Refusal) → Err r ≡ draft_of ed l x → (b : List ℕ) → appended_as ed (draft_number ed l x) m at n b ≡ numbers_appended ed m at n l x
    unfolding numbers_appended
    undrafted r e b = refused_alike (draft_number ed l x) b (draft_body ed l x) (draft_refused ed l x r e).1

  pub refused_so : (r : Refusal) → Err r ≡ draft_of ed l x → Err r ≡ unless (draft_number ed l x)
  refused_so r e =
      let q = draft_refused ed l x r e in
      let s : r ≡ refusal (draft_number ed l x) = ap refusal q.0 in
      ap (λ (y : Refusal). Err y) s ∙ is_refused (draft_number ed l x) (draft_number ed l x) refl q.1

-- ---- a judgement, as what refuses a message
pub judged_so : (ed : Edition) (b : List ℕ) (m : Result (Unit {0}) Refusal) → m ≡ told_number (judged (judge_body ed b)) → m ≡ unless (judged_number (judge_body ed b))
unfolding pick
judged_so ed b m e = e ∙ go (judge_body ed b) refl
  where
    go : (j : Result Kind Fault) → judge_body ed b ≡ j → told_number (judged j) ≡ unless (judged_number j)
    go (Ok k) i = refl
    go (Err f) i = is_refused f.number f.number refl (number_some ed b f (sym i))

-- so its number is the judgement's, and not 0 where it is refused
pub numbered : (k : ℕ) (m : Result (Unit {0}) Refusal) → m ≡ unless k → (message_number m ≡ k) × Numbered m
unfolding pick
numbered k m e = subst (λ (x : Result (Unit {0}) Refusal). (message_number x ≡ k) × Numbered x) (sym e) (go (eqb k 0) refl)
  where
    go : (t : Bool) → eqb k 0 ≡ t → (message_number (unless k) ≡ k) × Numbered (unless k)
    go true t = let z = eqb-true k 0 t in rw z (refl, refl)
    go false t = let z = ne_eqb k 0 (eqb-false k 0 t) in rw z (refl, sym (rw z refl))

-- numbers that are not refused are written as the body that they stand for: so all that is known of a body is known of them (append-reads)
pub numbers_as_body : (ed : Edition) (l x m : List ℕ) (at n : ℕ) → draft_number ed l x ≡ 0 → numbers_appended ed m at n l x ≡ appended ed m at n (draft_body ed l x)
unfolding numbers_appended appended
numbers_as_body ed l x m at n z = ap (λ (k : ℕ). appended_as ed k m at n (draft_body ed l x)) (z ∙ sym (passed ed (draft_kind l) l x z).judged_good)
