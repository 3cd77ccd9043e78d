-- Which byte of a packet is bad (request 5). A packet that is refused at a place has a bad record there that good ones lead to; the rest is what is known of that record.
-- Assumes nothing.
use Prim.Native.Nat.{ℕ, zero, suc, ◌+◌, ◌≤◌, ◌<◌}
use mathlib.Core.Path.{◌≡◌, refl, sym, ap, subst, ◌∙◌}
use mathlib.Core.Bool.{true}
use mathlib.Core.List.{List}
use mathlib.Core.Logic.{◌⊎◌, inl, inr}
use native.Mathlib.Omega.{arith}
use native.Mathlib.Decide.{dec_lt}
use lib.ListN.{length, drop, length-drop}
use lib.Seq.{drop-drop}
use lib.Dec.{leb}
use borrow.Author.Tests.{ltb-true, leb-true}
use Rattle.facts.specs.Limits.{packet_most, entry_size}
use Rattle.facts.specs.Pick.{both}
use Rattle.facts.proofs.Picks.{pick_cases, both_true}
use Rattle.editions.specs.declared.Edition.{Edition}
use Rattle.wire.specs.Records.{bad, records}
use Rattle.fields.specs.declared.Fault.{Fault}
use Rattle.body.specs.Places.{BadBody}
use Rattle.body.proofs.Places.{field_within, body_small}
use Rattle.packet.specs.Record.{number_ok, head_of, body_of, rec_of, shifted, read_record}
use Rattle.packet.specs.Packet.{later, Framing, before, behind, frames_from, framing, read_packet}
use Rattle.packet.specs.Front.{Reached, at_front, past_good}
use Rattle.packet.specs.Places.{BadRecord, no_room, bad_number, bad_body, BadPlace, FieldPlace, EndPlace}
use Rattle.packet.specs.declared.Head.{Head}
use Rattle.std.specs.Prelude.{Result, Ok, Err}
use Rattle.packet.specs.declared.Why.{Why}
use Rattle.packet.proofs.Laws.{Held, record_held, body_length, shift_shift, shift_none}
use Rattle.packet.proofs.Good.{bad_framing}

-- what is wrong from `at` on, where good records have led
record Found (ed : Edition) (p : List ℕ) (at : ℕ) (w : Why) : Type 0 where
  fault : Fault
  why_is : w ≡ Why.Placed fault
  place : BadPlace ed p (shifted at fault)

-- the records behind a good one; `again` is what is known of a packet's rest with one turn less
module _ (ed : Edition) (f : ℕ) (p : List ℕ) (again : (at : ℕ) (w : Why) → Reached ed p at → frames_from ed f (drop at p) ≡ bad w → Found ed p at w) (at : ℕ) (w : Why) (r : Reached ed p at) (l : at < length p) where
  by_rest : (h : Head) → read_record ed (drop at p) ≡ Ok h → (x : Framing) → frames_from ed f (drop (10 + h.len) (drop at p)) ≡ x → before (10 + h.len) (rec_of (drop at p)) x ≡ bad w → Found ed p at w
  unfolding before
  by_rest h g (records cs) x q = let z : ◌≡◌ {A = ℕ} 0 1 = cc in absurd (omega arith)
  by_rest h g (bad v) x q =
      let n : ℕ = 10 + h.len in
      let u : Found ed p (at + n) v = again (at + n) v (past_good at h r l g) (ap (frames_from ed f) (sym (drop-drop n at p)) ∙ x) in
      let y : later n v ≡ w = cc in
      record {
        fault = shifted n u.fault;
        why_is = sym y ∙ ap (later n) u.why_is;
        place = subst (BadPlace ed p) (sym (shift_shift at n u.fault)) u.place;
      }

  by_record : (c : Result Head Fault) → read_record ed (drop at p) ≡ c → Held ed c (drop at p) → behind (frames_from ed f) (drop at p) c ≡ bad w → Found ed p at w
  unfolding behind
  by_record (Ok h) g k q = by_rest h g (frames_from ed f (drop (10 + h.len) (drop at p))) refl q
  by_record (Err a) g k q =
      let y : Why.Placed a ≡ w = cc in
      record { fault = a; why_is = sym y; place = record { start = at; reached = r; inside = l; fault = a; record_bad = k; place_is = refl } }

found : (ed : Edition) (f : ℕ) (p : List ℕ) (at : ℕ) (w : Why) → Reached ed p at → frames_from ed f (drop at p) ≡ bad w → Found ed p at w
unfolding frames_from
found ed zero p at w r e = let z : ◌≡◌ {A = ℕ} 0 1 = cc in absurd (omega arith)
found ed (suc f) p at w r e =
    elim (pick_cases e) [
      | inl h ↦
          let l = ltb-true 0 (length (drop at p)) h.0 in
          by_record ed f p (found ed f p) at w r (omega (arith, length-drop at p, l)) (read_record ed (drop at p)) refl (record_held ed (drop at p)) h.1
      | inr h ↦ let q = h.1 in let z : ◌≡◌ {A = ℕ} 0 1 = cc in absurd (omega arith)
    ]

-- "Demand 1 reads "number and offset" for these four": all records before the one at fault are good, and that one is bad by that number at that byte
pub bad_place : (ed : Edition) (p : List ℕ) (f : Fault) → read_packet ed p ≡ Err (Why.Placed f) → BadPlace ed p f
unfolding framing
bad_place ed p f e = elim (pick_cases (bad_framing ed p f e)) [ inl h ↦ at_start (found ed (length p) p 0 (Why.Placed f) at_front h.1) | inr h ↦ let q = h.1 in let z : ◌≡◌ {A = ℕ} 0 1 = cc in absurd (omega arith) ]
  where
    at_start : Found ed p 0 (Why.Placed f) → BadPlace ed p f
    at_start u =
        let q = u.why_is in
        let y : u.fault ≡ f = cc in
        subst (BadPlace ed p) (shift_none u.fault ∙ y) u.place

-- a packet that is refused with 4 has at that offset the first byte of a field out of range; all fields before it in that record are in range, and all records before that are good
pub field_place : (ed : Edition) (p : List ℕ) (f : Fault) → read_packet ed p ≡ Err (Why.Placed f) → f.number ≡ 4 → FieldPlace ed p f.at
field_place ed p f e n = go (bad_place ed p f e)
  where
    go : BadPlace ed p f → FieldPlace ed p f.at
    go b = by_record b.fault b.record_bad b.place_is
      where
        by_body : (g : Fault) → 10 + (head_of (drop b.start p)).len ≤ length (drop b.start p) → number_ok (head_of (drop b.start p)).number ≡ true → BadBody ed (body_of (drop b.start p)) g → f ≡ shifted b.start (shifted 10 g) → FieldPlace ed p f.at
        by_body g w o (inl h) i = absurd (omega (arith, h.0, ap (λ (x : Fault). x.number) i, n))
        by_body g w o (inr h) i = record { start = b.start; reached = b.reached; whole = omega (arith, length-drop b.start p, b.inside, w); number_good = o; field_at = g.at; field_bad = h.1; place_is = ap (λ (x : Fault). x.at) i }

        by_record : (a : Fault) → BadRecord ed (drop b.start p) a → f ≡ shifted b.start a → FieldPlace ed p f.at
        by_record _ (no_room l) i = absurd (omega (arith, ap (λ (x : Fault). x.number) i, n))
        by_record _ (bad_number w o) i = absurd (omega (arith, ap (λ (x : Fault). x.number) i, n))
        by_record _ (bad_body g w o h) i = by_body g w o h i

-- "the offset in the packet": below the packet's length, or equal to it just for an empty body at the end
pub place_within : (ed : Edition) (p : List ℕ) (f : Fault) → read_packet ed p ≡ Err (Why.Placed f) → (f.at < length p) ⊎ ((f.number ≡ 3) × EndPlace ed p f.at)
place_within ed p f e = go (bad_place ed p f e)
  where
    go : BadPlace ed p f → (f.at < length p) ⊎ ((f.number ≡ 3) × EndPlace ed p f.at)
    go b = by_record b.fault b.record_bad b.place_is
      where
        t : List ℕ
        t = drop b.start p

        at_is : (a : Fault) → f ≡ shifted b.start a → f.at ≡ b.start + a.at
        at_is a i = ap (λ (x : Fault). x.at) i

        at_body : (g : Fault) → 10 + (head_of t).len ≤ length t → g.number ≡ 3 → g.at ≡ 0 → f ≡ shifted b.start (shifted 10 g) → Dec (f.at < length p) → (f.at < length p) ⊎ ((f.number ≡ 3) × EndPlace ed p f.at)
        at_body g w n z i (yes l) = inl l
        at_body g w n z i (no l) =
            let s = at_is (shifted 10 g) i in
            let d = length-drop b.start p in
            inr (
              ap (λ (x : Fault). x.number) i ∙ n,
              record {
                start = b.start;
                reached = b.reached;
                header_last = omega (arith, s, z, d, l, w, b.inside);
                empty = omega (arith, s, z, d, l, w, b.inside);
                place_is = omega (arith, s, z, d, l, w, b.inside);
              },
            )

        by_body : (g : Fault) → 10 + (head_of t).len ≤ length t → BadBody ed (body_of t) g → f ≡ shifted b.start (shifted 10 g) → (f.at < length p) ⊎ ((f.number ≡ 3) × EndPlace ed p f.at)
        by_body g w (inl h) i = at_body g w h.0 h.1 i (dec_lt f.at (length p))
        by_body g w (inr h) i = inl (omega (arith, at_is (shifted 10 g) i, length-drop b.start p, b.inside, w, body_length t w, (field_within ed (body_of t) g.at h.1).1))

        by_record : (a : Fault) → BadRecord ed t a → f ≡ shifted b.start a → (f.at < length p) ⊎ ((f.number ≡ 3) × EndPlace ed p f.at)
        by_record a (no_room l) i = inl (omega (arith, at_is a i, b.inside))
        by_record a (bad_number w o) i = inl (omega (arith, at_is a i, b.inside))
        by_record _ (bad_body g w o h) i = by_body g w h i

-- ---- an offset is a small number
pub record_small : (ed : Edition) (t : List ℕ) (f : Fault) → Err f ≡ read_record ed t → f.at ≤ 10 + entry_size
record_small ed t f e = go f (subst (λ (r : Result Head Fault). Held ed r t) (sym e) (record_held ed t))
  where
    go : (f : Fault) → BadRecord ed t f → f.at ≤ 10 + entry_size
    go _ (no_room l) = omega arith
    go _ (bad_number w o) = omega arith
    go _ (bad_body g w o h) = omega (arith, body_small ed (body_of t) g h)

pub packet_small : (ed : Edition) (p : List ℕ) (f : Fault) → read_packet ed p ≡ Err (Why.Placed f) → f.at ≤ packet_most
unfolding framing
packet_small ed p f e = elim (pick_cases (bad_framing ed p f e)) [ inl h ↦ within h.0 (place_within ed p f e) | inr h ↦ let q = h.1 in let z : ◌≡◌ {A = ℕ} 0 1 = cc in absurd (omega arith) ]
  where
    within : both (leb 1 (length p)) (leb (length p) packet_most) ≡ true → (f.at < length p) ⊎ ((f.number ≡ 3) × EndPlace ed p f.at) → f.at ≤ packet_most
    within t (inl l) = omega (arith, l, leb-true (length p) packet_most (both_true {a = leb 1 (length p)} t).1)
    within t (inr x) = omega (arith, x.1.place_is, leb-true (length p) packet_most (both_true {a = leb 1 (length p)} t).1)
