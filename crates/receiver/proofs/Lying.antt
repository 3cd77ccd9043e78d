-- The records that lie in bytes, one after another; those of a good packet are what its framing found.
-- Assumes nothing.
use Prim.Native.Nat.{ℕ, zero, suc, ◌+◌, ◌-◌, ◌≤◌, ◌<◌}
use mathlib.Core.Path.{◌≡◌, refl, sym, ap, ◌∙◌}
use mathlib.Core.List.{List, [], ◌∷◌}
use mathlib.Core.Logic.{inl, inr}
use mathlib.Core.Bool.{Bool, true, false}
use native.Mathlib.Omega.{arith}
use borrow.Author.Tests.{lt-ltb, le-ltb, ltb-true, ltb-false}
use lib.ListN.{length, drop, drop_of_length-le, length-drop}
use lib.Seq.{take_all}
use lib.Dec.{ltb}
use Rattle.facts.specs.Pick.{pick}
use Rattle.facts.proofs.Picks.{pick_cases}
use Rattle.editions.specs.declared.Edition.{Edition}
use Rattle.wire.specs.Records.{Rec, bad, records}
use Rattle.fields.specs.declared.Fault.{Fault}
use Rattle.packet.specs.Record.{head_of, rec_of, read_record}
use Rattle.packet.specs.Packet.{Framing, before, behind, frames_from}
use Rattle.packet.specs.declared.Head.{Head}
use Rattle.std.specs.Prelude.{Result, Ok, Err, Option, Some, None}
use Rattle.std.specs.Option.{unwrap_or}
use Rattle.std.specs.Slice.{IsGetRangeResult}
use Rattle.std.proofs.Common.{Bor}
use Rattle.packet.proofs.Laws.{Held, record_held}
use Rattle.receiver.specs.Lying.{lie_from, lying}

-- ---- one record more, or none
lie_suc : (f : ℕ) (t : List ℕ) → 0 < length t → lie_from (suc f) t ≡ rec_of t ∷ lie_from f (drop (10 + (head_of t).len) t)
unfolding lie_from pick
lie_suc f t h = rw (lt-ltb 0 (length t) h)

lie_zero : (t : List ℕ) → lie_from zero t ≡ []
unfolding lie_from
lie_zero t = refl

lie_none : (f : ℕ) (t : List ℕ) → length t ≤ 0 → lie_from f t ≡ []
unfolding lie_from pick
lie_none zero t h = refl
lie_none (suc f) t h = rw (le-ltb 0 (length t) h)

-- as many as there are bytes are enough
lie_enough : (f g : ℕ) (t : List ℕ) → length t ≤ f → length t ≤ g → lie_from f t ≡ lie_from g t
lie_enough zero g t a b = lie_none zero t a ∙ sym (lie_none g t a)
lie_enough (suc f) zero t a b = lie_none (suc f) t b ∙ sym (lie_none zero t b)
lie_enough (suc f) (suc g) [] a b = lie_none (suc f) [] (omega arith) ∙ sym (lie_none (suc g) [] (omega arith))
lie_enough (suc f) (suc g) (x ∷ xs) a b =
    let t : List ℕ = x ∷ xs in
    let n : ℕ = 10 + (head_of t).len in
    lie_suc f t (omega arith)
    ∙ ap (λ (cs : List Rec). rec_of t ∷ cs) (lie_enough f g (drop n t) (rw length-drop (omega arith)) (rw length-drop (omega arith)))
    ∙ sym (lie_suc g t (omega arith))

pub lying_next : (t : List ℕ) → 0 < length t → lying t ≡ rec_of t ∷ lying (drop (10 + (head_of t).len) t)
lying_next t h =
    let s : List ℕ = drop (10 + (head_of t).len) t in
    lie_enough (length t) (suc (length t)) t (omega arith) (omega arith)
    ∙ lie_suc (length t) t h
    ∙ ap (λ (cs : List Rec). rec_of t ∷ cs) (lie_enough (length t) (length s) s (rw length-drop (omega arith)) (omega arith))

pub lying_none : (t : List ℕ) → length t ≡ 0 → lying t ≡ []
lying_none t h = lie_none (length t) t (omega arith)

-- no bytes have more records than bytes
pub length_lie : (f : ℕ) (t : List ℕ) → length (lie_from f t) ≤ f
unfolding lie_from pick
length_lie zero t = omega arith
length_lie (suc f) t = go (ltb 0 (length t)) (length_lie f (drop (10 + (head_of t).len) t))
  where
    go : (b : Bool) → length (lie_from f (drop (10 + (head_of t).len) t)) ≤ f → length (pick b (rec_of t ∷ lie_from f (drop (10 + (head_of t).len) t)) []) ≤ suc f
    go true h = omega arith
    go false h = omega arith

-- ---- the records of a good packet
-- what the framing finds behind a good record lies there too
behind_lies : (ed : Edition) (f : ℕ) (t : List ℕ) (cs : List Rec) (n : ℕ) → n ≡ (head_of t).len → (x : Framing) → frames_from ed f (drop (10 + n) t) ≡ x
    → ((os : List Rec) → frames_from ed f (drop (10 + n) t) ≡ records os → lie_from f (drop (10 + n) t) ≡ os)
    → before (10 + n) (rec_of t) x ≡ records cs → rec_of t ∷ lie_from f (drop (10 + (head_of t).len) t) ≡ cs
unfolding before
behind_lies ed f t cs n i (bad r) x ih q = let z : ◌≡◌ {A = ℕ} 0 1 = cc in absurd (omega arith)
behind_lies ed f t cs n i (records os) x ih q =
    let same : rec_of t ∷ os ≡ cs = cc in
    (λ j. rec_of t ∷ lie_from f (drop (10 + sym i j) t)) ∙ ap (λ (l : List Rec). rec_of t ∷ l) (ih os x) ∙ same

record_lies : (ed : Edition) (f : ℕ) (t : List ℕ) (cs : List Rec) (r : Result Head Fault) → Held ed r t → ((s : List ℕ) (os : List Rec) → frames_from ed f s ≡ records os → lie_from f s ≡ os)
    → behind (frames_from ed f) t r ≡ records cs → rec_of t ∷ lie_from f (drop (10 + (head_of t).len) t) ≡ cs
unfolding behind
record_lies ed f t cs (Ok h) g ih q = behind_lies ed f t cs h.len (ap (λ (k : Head). k.len) g.0) (frames_from ed f (drop (10 + h.len) t)) refl (ih (drop (10 + h.len) t)) q
record_lies ed f t cs (Err w) g ih q = let z : ◌≡◌ {A = ℕ} 0 1 = cc in absurd (omega arith)

pub lying_framed : (ed : Edition) (f : ℕ) (t : List ℕ) (cs : List Rec) → frames_from ed f t ≡ records cs → lie_from f t ≡ cs
unfolding frames_from
lying_framed ed zero t cs e = let q : records [] ≡ records cs = e in lie_zero t ∙ cc
lying_framed ed (suc f) t cs e = elim (pick_cases {x = behind (frames_from ed f) t (read_record ed t)} e) [
  | inl h ↦ lie_suc f t (ltb-true 0 (length t) h.0) ∙ record_lies ed f t cs (read_record ed t) (record_held ed t) (lying_framed ed f) h.1
  | inr h ↦ let q : records [] ≡ records cs = h.1 in lie_none (suc f) t (ltb-false 0 (length t) h.0) ∙ cc
]

-- ---- what is left behind n bytes, as the code takes it
pub cut_off : (t : List ℕ) (n : ℕ) (r : Option (Bor (List ℕ))) (e : Bor (List ℕ)) → e.now ≡ [] → IsGetRangeResult t n (length t) r → (unwrap_or r e).now ≡ drop n t
cut_off t n None e z g = elim g.0 [ inl h ↦ z ∙ sym (drop_of_length-le t {i = n} (omega arith)) | inr h ↦ absurd (omega arith) ]
cut_off t n (Some x) e z g = g.0.2 ∙ take_all (length t - n) (drop n t) (rw length-drop (omega arith))
