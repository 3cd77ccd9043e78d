-- Each answer of the code is what the definitions say, by what the readers said of the packet.
-- Assumes nothing.
use Prim.Native.Nat.{ℕ, zero, suc, ◌+◌}
use mathlib.Core.Path.{◌≡◌, refl, sym, ap, subst, ◌∙◌}
use mathlib.Core.Bool.{Bool, true, false, true≢false}
use mathlib.Core.List.{List}
use mathlib.Core.Logic.{inl, inr}
use native.Mathlib.Omega.{arith}
use lib.ListN.{length, drop, set}
use lib.Dec.{leb}
use Rattle.facts.specs.Limits.{packet_most}
use Rattle.facts.specs.Pick.{pick, both}
use Rattle.facts.proofs.Picks.{pick_cases}
use Rattle.editions.specs.declared.Edition.{Edition}
use Rattle.wire.specs.Records.{Rec, bad, records}
use Rattle.fields.specs.Fields.{refusal}
use Rattle.fields.specs.declared.Refusal.{Refusal}
use Rattle.fields.specs.declared.Fault.{Fault}
use Rattle.packet.specs.Record.{rec_of, shifted, read_record}
use Rattle.packet.specs.Packet.{later, Framing, before, behind, frames_from, framing, read_packet}
use Rattle.std.specs.Prelude.{Result, Ok, Err, is_err}
use Rattle.packet.specs.declared.Why.{Why}
use Rattle.packet.specs.declared.Head.{Head}
use Rattle.packet.proofs.Good.{refused_framing, bad_framing, good_framing}
use Rattle.retype.specs.Types.{whole_exceptions, types_ok}
use Rattle.retype.specs.Retyped.{Asked}
use Rattle.conversion.specs.Packet.{conversion, converted_by, judged_first, converted, IsPacket, Rewrites}
use Rattle.conversion.specs.Piece.{barred, Passing, passing, passed_by, passed, Turned, turned, pieced, piece_of, turned_to}
use Rattle.conversion.specs.declared.Passed.{Passed}

-- ---- what the reader says of a packet it refuses
pub err_framing : (ed : Edition) (p : List ℕ) (w : Why) → read_packet ed p ≡ Err w → framing ed p ≡ bad w
err_framing ed p (Why.Alone r) e = refused_framing ed p r e
err_framing ed p (Why.Placed f) e = bad_framing ed p f e

-- ---- a packet that its own edition refuses at a place
module _ (a : Asked) (f : Fault) (p : List ℕ) where
  pub bar_taken : (r : Result ℕ Why) → r ≡ read_packet a.to p → is_err r ≡ false → passing Passed.Barred (set p (f.at + 1) 0) ≡ passed_by a (bad (Why.Placed f)) (framing a.to p) p
  unfolding passed_by barred
  bar_taken (Ok n) e h = let k = good_framing a.to p n (sym e) in ap (λ (x : Framing). passed_by a (bad (Why.Placed f)) x p) (sym k.1)
  bar_taken (Err w) e h = absurd (true≢false h)

  pub bar_refused : (r : Result ℕ Why) → r ≡ read_packet a.to p → is_err r ≡ true → passing Passed.Unread p ≡ passed_by a (bad (Why.Placed f)) (framing a.to p) p
  unfolding passed_by
  bar_refused (Err w) e h = ap (λ (x : Framing). passed_by a (bad (Why.Placed f)) x p) (sym (err_framing a.to p w (sym e)))
  bar_refused (Ok n) e h = absurd (true≢false (sym h))

-- ---- a number alone is told of the size, and so by every edition
record At (w : Why) : Type 0 where
  fault : Fault
  why_is : w ≡ Why.Placed fault

later_at : (n : ℕ) (v : Why) → At v → At (later n v)
later_at n v k = record { fault = shifted n k.fault; why_is = ap (later n) k.why_is }

before_at : (n : ℕ) (c : Rec) (x : Framing) (w : Why) → ((v : Why) → x ≡ bad v → At v) → before n c x ≡ bad w → At w
unfolding before
before_at n c (bad v) w again e = let y : later n v ≡ w = cc in subst At y (later_at n v (again v refl))
before_at n c (records cs) w again e = let z : ◌≡◌ {A = ℕ} 0 1 = cc in absurd (omega arith)

behind_at : (F : List ℕ → Framing) (t : List ℕ) (r : Result Head Fault) (w : Why) → ((u : List ℕ) (v : Why) → F u ≡ bad v → At v) → behind F t r ≡ bad w → At w
unfolding behind
behind_at F t (Ok h) w again e = before_at (10 + h.len) (rec_of t) (F (drop (10 + h.len) t)) w (again (drop (10 + h.len) t)) e
behind_at F t (Err f) w again e = let y : Why.Placed f ≡ w = cc in record { fault = f; why_is = sym y }

frames_at : (ed : Edition) (f : ℕ) (t : List ℕ) (w : Why) → frames_from ed f t ≡ bad w → At w
unfolding frames_from
frames_at ed zero t w e = let z : ◌≡◌ {A = ℕ} 0 1 = cc in absurd (omega arith)
frames_at ed (suc f) t w e =
    elim (pick_cases e) [
      | inl h ↦ behind_at (frames_from ed f) t (read_record ed t) w (frames_at ed f) h.1
      | inr h ↦ let q = h.1 in let z : ◌≡◌ {A = ℕ} 0 1 = cc in absurd (omega arith)
    ]

size_refused : (ed : Edition) (p : List ℕ) → both (leb 1 (length p)) (leb (length p) packet_most) ≡ false → framing ed p ≡ bad (Why.Alone (refusal 1))
unfolding framing pick
size_refused ed p h = rw h refl

pub alone_alike : (from to : Edition) (p : List ℕ) (r : Refusal) → framing from p ≡ bad (Why.Alone r) → framing to p ≡ bad (Why.Alone (refusal 1))
unfolding framing
alone_alike from to p r e =
    elim (pick_cases e) [
      | inl h ↦ let k = frames_at from (length p) p (Why.Alone r) h.1 in let q = k.why_is in let z : ◌≡◌ {A = ℕ} 0 1 = cc in absurd (omega arith)
      | inr h ↦ size_refused to p h.0
    ]

-- ---- a packet of a recording
module _ (from : Edition) (a : Asked) (p : List ℕ) where
  pub pass_good : (k n : ℕ) (q : List ℕ) → read_packet from p ≡ Ok k → Rewrites a p n q → passing (Passed.Rewritten n) q ≡ passed from a p
  unfolding passed passed_by
  pass_good k n q e w =
      let s = good_framing from p k e in
      (λ i. passing (Passed.Rewritten (w.0 from s.0 s.1 i)) (w.1 i)) ∙ ap (λ (x : Framing). passed_by a x (framing a.to p) p) (sym s.1)

  pub pass_refused : (r : Refusal) → read_packet from p ≡ Err (Why.Alone r) → passing Passed.Unread p ≡ passed from a p
  unfolding passed passed_by
  pass_refused r e =
      let f = refused_framing from p r e in
      let g = alone_alike from a.to p r f in
      λ i. passed_by a (sym f i) (sym g i) p

  pub pass_bad : (f : Fault) (y : Passing) → read_packet from p ≡ Err (Why.Placed f) → y ≡ passed_by a (bad (Why.Placed f)) (framing a.to p) p → y ≡ passed from a p
  unfolding passed
  pass_bad f y e k = k ∙ ap (λ (x : Framing). passed_by a x (framing a.to p) p) (sym (bad_framing from p f e))

pub packet_is : (ed : Edition) (p : List ℕ) (n : ℕ) → read_packet ed p ≡ Ok n → IsPacket p
packet_is ed p n e = let k = good_framing ed p n e in record { edition = ed; its = k.0; good = k.1 }

-- ---- what is asked for, judged first: where it is refused, F makes the answer of the refusal
module _ {A : Type 0} (a : Asked) (F : Refusal → A) (x : A) where
  abbrev told : Result (Unit {0}) Refusal → A
  told (Ok u) = x
  told (Err r) = F r

  told_pick : (b : Bool) (j k : Result (Unit {0}) Refusal) → told (pick b j k) ≡ pick b (told j) (told k)
  unfolding pick
  told_pick true j k = refl
  told_pick false j k = refl

  pub judged : (j : Result (Unit {0}) Refusal) → j ≡ judged_first a (λ n. Err (refusal n)) (Ok tt) → told j ≡ judged_first a (λ n. F (refusal n)) x
  unfolding judged_first
  judged j e = ap told e ∙ simp told_pick

-- ---- a packet
module _ (from : Edition) (a : Asked) (p : List ℕ) where
  pub answer_not : (r : Refusal) → Err r ≡ judged_first {A = Result (Unit {0}) Refusal} a (λ n. Err (refusal n)) (Ok tt) → conversion (Err (Why.Alone r)) p ≡ converted from a p
  unfolding converted
  answer_not r e = judged a (λ r. conversion (Err (Why.Alone r)) p) (converted_by a (framing from p) p) (Err r) e

  module _ (j : Ok tt ≡ judged_first {A = Result (Unit {0}) Refusal} a (λ n. Err (refusal n)) (Ok tt)) where
    by_framing : (x : Framing) → framing from p ≡ x → converted_by a x p ≡ converted from a p
    unfolding converted
    by_framing x e = ap (λ (y : Framing). converted_by a y p) (sym e) ∙ judged a (λ r. conversion (Err (Why.Alone r)) p) (converted_by a (framing from p) p) (Ok tt) j

    pub answer_bad : (w : Why) → read_packet from p ≡ Err w → conversion (Err w) p ≡ converted from a p
    unfolding converted_by
    answer_bad w e = by_framing (bad w) (err_framing from p w e)

    pub answer_good : (m n : ℕ) (q : List ℕ) → read_packet from p ≡ Ok m → Rewrites a p n q → conversion (Ok n) q ≡ converted from a p
    unfolding converted_by
    answer_good m n q e w =
        let s = good_framing from p m e in
        (λ i. conversion (Ok (w.0 from s.0 s.1 i)) (w.1 i)) ∙ by_framing (records s.0) s.1

-- ---- a piece
module _ (from : Edition) (a : Asked) (t : List ℕ) where
  pub piece_not : (r : Refusal) → Err r ≡ judged_first {A = Result (Unit {0}) Refusal} a (λ n. Err (refusal n)) (Ok tt) → turned (Err r) t ≡ turned_to from a t
  unfolding turned_to
  piece_not r e = judged a (λ r. turned (Err r) t) (pieced (piece_of from a t)) (Err r) e

  pub piece_done : Ok tt ≡ judged_first {A = Result (Unit {0}) Refusal} a (λ n. Err (refusal n)) (Ok tt) → (x : Turned) → x ≡ pieced (piece_of from a t) → x ≡ turned_to from a t
  unfolding turned_to
  piece_done j x e = e ∙ judged a (λ r. turned (Err r) t) (pieced (piece_of from a t)) (Ok tt) j
