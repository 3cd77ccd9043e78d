-- What those above know of a packet: its records one after the other, each good and within the packet, or why it is refused: 1 alone, or one of 2 to 5 at a place within it or at its end.
-- Assumes nothing.
use mathlib.Core.Path.{◌≡◌, refl, ap, sym, subst, ◌∙◌}
use mathlib.Core.List.{List, [], ◌∷◌}
use mathlib.Core.Bool.{true}
use mathlib.Core.Logic.{◌⊎◌, inl, inr}
use Prim.Native.Nat.{ℕ, zero, suc, ◌+◌, ◌≤◌, ◌<◌}
use native.Mathlib.Omega.{arith}
use borrow.Author.Tests.{leb-true}
use lib.ListN.{length, drop, length-drop}
use lib.Seq.{drop-drop}
use lib.Dec.{ltb, leb}
use Rattle.facts.specs.Limits.{packet_most}
use Rattle.facts.specs.Pick.{both}
use Rattle.facts.proofs.Picks.{pick_ind, pick_cases, both_true}
use Rattle.editions.specs.declared.Edition.{Edition}
use Rattle.wire.specs.Records.{Rec, bad, records}
use Rattle.fields.specs.Fields.{refusal}
use Rattle.fields.specs.declared.Refusal.{Refusal}
use Rattle.fields.specs.declared.Fault.{Fault}
use Rattle.packet.specs.Record.{head_of, rec_of, read_record, record_number}
use Rattle.packet.specs.Packet.{Framing, before, behind, frames_from, framing, told, read_packet, packet_number}
use Rattle.packet.specs.declared.Head.{Head}
use Rattle.std.specs.Prelude.{Result, Ok, Err}
use Rattle.packet.specs.declared.Why.{Why}
use Rattle.packet.proofs.Laws.{GoodRec, Held, record_held, record_within, frames_step, frames_end}

-- every record of a list is good
abbrev pub AllGood : (ed : Edition) → List Rec → Type 0
AllGood ed [] = Unit
AllGood ed (c ∷ cs) = GoodRec ed c × AllGood ed cs

-- what is known of any framing of n bytes
abbrev pub Fine : (ed : Edition) → ℕ → Framing → Type 0
Fine ed n (bad (Why.Alone r)) = r ≡ refusal 1
Fine ed n (bad (Why.Placed f)) = (2 ≤ f.number) × (f.number ≤ 5) × (f.at ≤ n)
Fine ed n (records cs) = AllGood ed cs

before_fine : (ed : Edition) (m n : ℕ) (c : Rec) (x : Framing) → GoodRec ed c → Fine ed n x → Fine ed (m + n) (before m c x)
unfolding before
before_fine ed m n c (bad (Why.Alone r)) g f = f
before_fine ed m n c (bad (Why.Placed w)) g f = (f.0, f.1, omega (arith, f.2))
before_fine ed m n c (records cs) g f = (g, f)

behind_fine : (ed : Edition) (rest : List ℕ → Framing) (t : List ℕ) (r : Result Head Fault) → Held ed r t → ((s : List ℕ) → Fine ed (length s) (rest s)) → Fine ed (length t) (behind rest t r)
unfolding behind
behind_fine ed rest t (Ok h) g f =
    let s : List ℕ = drop (10 + h.len) t in
    let all : 10 + h.len + length s ≡ length t = omega (arith, length-drop (10 + h.len) t, g.1) in
    subst (λ (n : ℕ). Fine ed n (before (10 + h.len) (rec_of t) (rest s))) all (before_fine ed (10 + h.len) (length s) (rec_of t) (rest s) g.2 (f s))
behind_fine ed rest t (Err w) g f = let r = record_within ed t w g in (r.1, r.2, r.0)

frames_fine : (ed : Edition) (f : ℕ) (t : List ℕ) → Fine ed (length t) (frames_from ed f t)
unfolding frames_from
frames_fine ed zero t = tt
frames_fine ed (suc f) t =
    pick_ind (Fine ed (length t)) (ltb 0 (length t)) (behind (frames_from ed f) t (read_record ed t)) (records [])
    (λ _. behind_fine ed (frames_from ed f) t (read_record ed t) (record_held ed t) (frames_fine ed f))
    (λ _. tt)

pub framing_fine : (ed : Edition) (p : List ℕ) → Fine ed (length p) (framing ed p)
unfolding framing
framing_fine ed p =
    pick_ind (Fine ed (length p)) (both (leb 1 (length p)) (leb (length p) packet_most)) (frames_from ed (length p) p) (bad (Why.Alone (refusal 1)))
    (λ _. frames_fine ed (length p) p)
    (λ _. refl)

-- the record at a place of a good packet, and what is left behind it
pub record Step (ed : Edition) (p : List ℕ) (at : ℕ) (cs : List Rec) : Type 0 where
  pub others : List Rec
  pub first_is : cs ≡ rec_of (drop at p) ∷ others
  pub good : GoodRec ed (rec_of (drop at p))
  pub inside : at + (10 + (head_of (drop at p)).len) ≤ length p
  pub next : frames_from ed (length p) (drop (at + (10 + (head_of (drop at p)).len)) p) ≡ records others

pub step : (ed : Edition) (p : List ℕ) (at : ℕ) (cs : List Rec) → at < length p → frames_from ed (length p) (drop at p) ≡ records cs → Step ed p at cs
unfolding behind before
step ed p at cs lt e =
    by_record (read_record ed t) (record_held ed t)
    (sym (frames_step ed (length p) t (rw length-drop (omega arith)) (rw length-drop (omega arith))) ∙ e)
  where
    t : List ℕ
    t = drop at p

    by_rest : (h : Head) → h ≡ head_of (drop at p) → 10 + h.len ≤ length (drop at p) → GoodRec ed (rec_of (drop at p)) → (x : Framing) → frames_from ed (length p) (drop (10 + h.len) (drop at p)) ≡ x → before (10 + h.len) (rec_of (drop at p)) x ≡ records cs → Step ed p at cs
    by_rest h i w g (bad r) x q = let z : ◌≡◌ {A = ℕ} 0 1 = cc in absurd (omega arith)
    by_rest h i w g (records os) x q =
        let l : h.len ≡ (head_of (drop at p)).len = ap (λ k. k.len) i in
        let w' : 10 + (head_of (drop at p)).len ≤ length (drop at p) = omega arith in
        record {
          others = os;
          first_is = cc;
          good = g;
          inside = omega (arith, length-drop at p);
          next = ap (frames_from ed (length p)) (sym (drop-drop (10 + (head_of (drop at p)).len) at p) ∙ ap (λ k. drop (10 + k) (drop at p)) (sym l)) ∙ x;
        }

    by_record : (r : Result Head Fault) → Held ed r (drop at p) → behind (frames_from ed (length p)) (drop at p) r ≡ records cs → Step ed p at cs
    by_record (Ok h) g q = by_rest h g.0 g.1 g.2 (frames_from ed (length p) (drop (10 + h.len) (drop at p))) refl q
    by_record (Err f) g q = let z : ◌≡◌ {A = ℕ} 0 1 = cc in absurd (omega arith)

-- behind the last record there is none
pub step_end : (ed : Edition) (p : List ℕ) (at : ℕ) (cs : List Rec) → length p ≤ at → frames_from ed (length p) (drop at p) ≡ records cs → cs ≡ []
step_end ed p at cs h e = let q : records [] ≡ records cs = sym (frames_end ed (length p) p at h) ∙ e in cc

-- any bytes are a good packet of one or more good records, or refused: by 1, or by one of 2 to 5 at a place; and never both
pub data Outcome (ed : Edition) (p : List ℕ) : Type 0 where
  good : (cs : List Rec) → framing ed p ≡ records cs → read_packet ed p ≡ Ok (length cs) → 1 ≤ length cs → AllGood ed cs → Outcome ed p
  refused : framing ed p ≡ bad (Why.Alone (refusal 1)) → read_packet ed p ≡ Err (Why.Alone (refusal 1)) → Outcome ed p
  bad_at : (f : Fault) → framing ed p ≡ bad (Why.Placed f) → read_packet ed p ≡ Err (Why.Placed f) → 2 ≤ f.number → f.number ≤ 5 → f.at ≤ length p → Outcome ed p

-- a good packet's size
pub framing_size : (ed : Edition) (p : List ℕ) (cs : List Rec) → framing ed p ≡ records cs → (1 ≤ length p) × (length p ≤ packet_most) × (frames_from ed (length p) p ≡ records cs)
unfolding framing
framing_size ed p cs e = elim (pick_cases e) [ inl h ↦ sized h.0 h.1 | inr h ↦ let z : ◌≡◌ {A = ℕ} 0 1 = cc in absurd (omega arith) ]
  where
    sized : both (leb 1 (length p)) (leb (length p) packet_most) ≡ true → frames_from ed (length p) p ≡ records cs → (1 ≤ length p) × (length p ≤ packet_most) × (frames_from ed (length p) p ≡ records cs)
    sized t f = let b = both_true {a = leb 1 (length p)} {b = leb (length p) packet_most} t in (leb-true 1 (length p) b.0, leb-true (length p) packet_most b.1, f)

some_records : (ed : Edition) (p : List ℕ) (cs : List Rec) → framing ed p ≡ records cs → 1 ≤ length cs
some_records ed p cs e =
    let s = framing_size ed p cs e in
    let w = step ed p 0 cs s.0 s.2 in
    rw w.first_is (omega arith)

pub outcome : (ed : Edition) (p : List ℕ) → Outcome ed p
unfolding read_packet told
outcome ed p = go (framing ed p) refl (framing_fine ed p)
  where
    go : (x : Framing) → framing ed p ≡ x → Fine ed (length p) x → Outcome ed p
    go (bad (Why.Alone r)) e f = let q = e ∙ ap (λ w. bad (Why.Alone w)) f in refused q (ap told q)
    go (bad (Why.Placed w)) e f = bad_at w e (ap told e) f.0 f.1 f.2
    go (records cs) e f = good cs e (ap told e) (some_records ed p cs e) f

-- the numbers of a record's and of a packet's answer: 0, or one of 2 to 5; 0, or one of 1 to 5
pub record_numbers : (ed : Edition) (t : List ℕ) → (record_number (read_record ed t) ≡ 0) ⊎ ((2 ≤ record_number (read_record ed t)) × (record_number (read_record ed t) ≤ 5))
record_numbers ed t = go (read_record ed t) (record_held ed t)
  where
    go : (r : Result Head Fault) → Held ed r t → (record_number r ≡ 0) ⊎ ((2 ≤ record_number r) × (record_number r ≤ 5))
    go (Ok h) g = inl refl
    go (Err f) g = let w = record_within ed t f g in inr (w.1, w.2)

pub packet_numbers : (ed : Edition) (p : List ℕ) → (packet_number (read_packet ed p) ≡ 0) ⊎ ((1 ≤ packet_number (read_packet ed p)) × (packet_number (read_packet ed p) ≤ 5))
packet_numbers ed p = go (outcome ed p)
  where
    go : Outcome ed p → (packet_number (read_packet ed p) ≡ 0) ⊎ ((1 ≤ packet_number (read_packet ed p)) × (packet_number (read_packet ed p) ≤ 5))
    go (good cs f e n g) = inl (ap packet_number e)
    go (refused f e) = inr (rw e (omega arith, omega arith))
    go (bad_at w f e a b c) = inr (rw e (omega (arith, a), b))

-- what the answer to a packet says of its framing
pub refused_framing : (ed : Edition) (p : List ℕ) (r : Refusal) → read_packet ed p ≡ Err (Why.Alone r) → framing ed p ≡ bad (Why.Alone r)
unfolding read_packet told
refused_framing ed p r e = go (framing ed p) refl
  where
    go : (x : Framing) → framing ed p ≡ x → framing ed p ≡ bad (Why.Alone r)
    go (bad (Why.Alone q)) f = let g : Err (Why.Alone q) ≡ Err (Why.Alone r) = sym (ap told f) ∙ e in f ∙ cc
    go (bad (Why.Placed q)) f = let g : Err (Why.Placed q) ≡ Err (Why.Alone r) = sym (ap told f) ∙ e in let z : ◌≡◌ {A = ℕ} 0 1 = cc in absurd (omega arith)
    go (records cs) f = let g : Ok (length cs) ≡ Err (Why.Alone r) = sym (ap told f) ∙ e in let z : ◌≡◌ {A = ℕ} 0 1 = cc in absurd (omega arith)

pub bad_framing : (ed : Edition) (p : List ℕ) (w : Fault) → read_packet ed p ≡ Err (Why.Placed w) → framing ed p ≡ bad (Why.Placed w)
unfolding read_packet told
bad_framing ed p w e = go (framing ed p) refl
  where
    go : (x : Framing) → framing ed p ≡ x → framing ed p ≡ bad (Why.Placed w)
    go (bad (Why.Alone q)) f = let g : Err (Why.Alone q) ≡ Err (Why.Placed w) = sym (ap told f) ∙ e in let z : ◌≡◌ {A = ℕ} 0 1 = cc in absurd (omega arith)
    go (bad (Why.Placed q)) f = let g : Err (Why.Placed q) ≡ Err (Why.Placed w) = sym (ap told f) ∙ e in f ∙ cc
    go (records cs) f = let g : Ok (length cs) ≡ Err (Why.Placed w) = sym (ap told f) ∙ e in let z : ◌≡◌ {A = ℕ} 0 1 = cc in absurd (omega arith)

pub good_framing : (ed : Edition) (p : List ℕ) (n : ℕ) → read_packet ed p ≡ Ok n → (cs : List Rec) × (framing ed p ≡ records cs)
unfolding read_packet told
good_framing ed p n e = go (framing ed p) refl
  where
    go : (x : Framing) → framing ed p ≡ x → (cs : List Rec) × (framing ed p ≡ records cs)
    go (bad (Why.Alone q)) f = let g : Err (Why.Alone q) ≡ Ok n = sym (ap told f) ∙ e in let z : ◌≡◌ {A = ℕ} 0 1 = cc in absurd (omega arith)
    go (bad (Why.Placed q)) f = let g : Err (Why.Placed q) ≡ Ok n = sym (ap told f) ∙ e in let z : ◌≡◌ {A = ℕ} 0 1 = cc in absurd (omega arith)
    go (records cs) f = (cs, f)
