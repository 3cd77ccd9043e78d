-- A receiver that was started and left its tables to itself is never refused with 6: its sizes stay, its next stays within 1 to 10^12 + 1. So its packets are the theory's.
-- Assumes nothing.
use Prim.Native.Nat.{ℕ, ◌+◌, ◌%◌, ◌≤◌}
use mathlib.Core.Path.{◌≡◌, refl, sym, ap, subst, ◌∙◌}
use mathlib.Core.Bool.{true}
use mathlib.Core.List.{List, [], ◌∷◌, ◌++◌}
use native.Mathlib.Omega.{arith}
use borrow.Author.Tests.{le-leb}
use Rattle.facts.specs.Pick.{both}
use Rattle.facts.specs.Limits.{last_number}
use Rattle.facts.proofs.Picks.{pick_ind}
use Rattle.wire.specs.Records.{Rec, Frames, bad, records}
use Rattle.fields.specs.Fields.{refusal}
use Rattle.arbitration.specs.Slots.{empty_slot, slot_for, slot_body}
use Rattle.arbitration.specs.Engine.{Engine, Store}
use Rattle.arbitration.specs.Receive.{slot_of, records_of, shelved, turned, after, run, worked, told, stop}
use Rattle.arbitration.specs.Receive as theory
use Rattle.arbitration.specs.Lists.{Every, Bounded}
use Rattle.arbitration.proofs.Turns.{Went, drain_keeps, try_empty, stop_nothing}
use Rattle.arbitration.proofs.Window.{slot_lt}
use Rattle.arbitration.proofs.Answers.{after_cases, after_next, run_keeps}
use Rattle.arbitration.proofs.Range.{Below, after_below, start_below}
use Rattle.receiver.specs.Parts.{Parts, engine_of}
use Rattle.receiver.specs.Receiver.{next_ok, Rx, Receiver, Handled, handled, handled_by, fit, receives, receives_all}
use Rattle.receiver.specs.Demand3.{Started}
use Rattle.std.specs.Prelude.{Err}
use Rattle.packet.specs.declared.Why.{Why}
use Rattle.receiver.proofs.PartsLaws.{PartsLaws, applied_shows, laws_of}
use Rattle.receiver.proofs.Accounts.{by_frame}

module _ (P : Parts) (L : PartsLaws P) where
  abbrev S : Store
  S = P.store

  abbrev E : Engine
  E = engine_of P.rules

  -- ---- sizes stay
  abbrev Sized : Rx P → Type 0
  Sized r = P.sized r.book r.shelf ≡ true

  turn_sized : (r : Rx P) (b : P.rules.Book) → Went S E r b → Sized r → Sized (turned S E r b)
  turn_sized r b w z =
      let e : b ≡ P.rules.after r.next (slot_body (slot_of S E r r.next)) r.book = applied_shows P.rules r.next (slot_body (slot_of S E r r.next)) r.book b w.applied in
      L.sized_put b r.shelf (r.next % 64) empty_slot
      ∙ ap (λ (x : P.rules.Book). P.sized x r.shelf) e
      ∙ L.sized_after r.next (slot_body (slot_of S E r r.next)) r.book r.shelf
      ∙ z

  after_sized : (c : Rec) (r : Rx P) → Sized r → Sized (after S E c r)
  after_sized c r z =
      after_cases S E Sized c r z
      (λ _. drain_keeps S E Sized turn_sized 64 (shelved S E c r) (L.sized_put r.book r.shelf (c.number % 64) (slot_for c.number c.body) ∙ z))

  -- ---- no 6: sizes, and the next number
  pub record Fit (r : Rx P) : Type 0 where
    pub sizes : P.sized r.book r.shelf ≡ true
    pub from_1 : 1 ≤ r.next
    pub below : Below S E r

  after_fit : (c : Rec) (r : Rx P) → Bounded c → Fit r → Fit (after S E c r)
  after_fit c r b f =
      let n = after_next S E c r in
      let g = f.from_1 in
      record { sizes = after_sized c r f.sizes; from_1 = omega arith; below = after_below S E (laws_of P L) c r b f.below }

  worked_fit : (p : List ℕ) (r : Rx P) → Fit r → Fit (worked S E (P.frame p) r)
  unfolding worked
  worked_fit p r f = go (P.frame p) (L.bounded p)
    where
      go : (x : Frames Why) → Every Bounded (records_of x) → Fit (worked S E x r)
      go (bad q) b = f
      go (records cs) b = run_keeps S E Fit Bounded after_fit cs r b f

  next_fits : (r : Rx P) → Fit r → next_ok r.next ≡ true
  unfolding next_ok both
  next_fits r f = simp (le-leb 1 r.next f.from_1, le-leb r.next (last_number + 1) f.below.next_to)

  pub no_six : (k : Receiver P) → Fit k.rx → fit P k ≡ true
  unfolding fit both
  no_six k f = simp (f.sizes, next_fits k.rx f)

  -- a packet is judged by its framing alone
  packet_worked : (p : List ℕ) (k : Receiver P) → Fit k.rx → (receives P k p).after.rx ≡ worked S E (P.frame p) k.rx
  unfolding handled_by worked
  packet_worked p k f = ap (λ (x : Handled P). x.after.rx) (sym (by_frame P k p f.sizes (next_fits k.rx f))) ∙ go (P.frame p)
    where
      go : (x : Frames Why) → (handled_by P x k).after.rx ≡ worked S E x k.rx
      go (bad q) = refl
      go (records cs) = refl

  packet_fit : (p : List ℕ) (k : Receiver P) → Fit k.rx → Fit (receives P k p).after.rx
  packet_fit p k f = subst Fit (sym (packet_worked p k f)) (worked_fit p k.rx f)

  pub all_fit : (ps : List (List ℕ)) (k : Receiver P) → Fit k.rx → Fit (receives_all P ps k).rx
  unfolding receives_all
  all_fit [] k f = f
  all_fit (p ∷ ps) k f = all_fit ps (receives P k p).after (packet_fit p k f)

  -- one packet more is one call more
  pub one_call_more : (k : Receiver P) (ps : List (List ℕ)) (p : List ℕ) → receives_all P (ps ++ (p ∷ [])) k ≡ (receives P (receives_all P ps k) p).after
  unfolding receives_all
  one_call_more k [] p = refl
  one_call_more k (q ∷ ps) p = one_call_more (receives P k q).after ps p

  -- calls of `receive`, one after another, are the packets of the theory
  pub all_received : (ps : List (List ℕ)) (k : Receiver P) → Fit k.rx → (receives_all P ps k).rx ≡ theory.worked_all S E P.frame ps k.rx
  unfolding receives_all theory.worked_all
  all_received [] k f = refl
  all_received (p ∷ ps) k f =
      all_received ps (receives P k p).after (packet_fit p k f)
      ∙ ap (theory.worked_all S E P.frame ps) (packet_worked p k f)

  -- ---- the stop that a receiver has is that of its state: an accepted packet tells it anew, a refused one leaves both
  packet_stop : (p : List ℕ) (k : Receiver P) → k.stop ≡ stop S E k.rx → (receives P k p).after.stop ≡ stop S E (receives P k p).after.rx
  unfolding receives handled_by told
  packet_stop p k e = pick_ind (λ x. x.after.stop ≡ stop S E x.after.rx) (fit P k) (handled_by P (P.frame p) k) (handled P (Err (Why.Alone (refusal 6))) k) (λ _. go (P.frame p)) (λ _. e)
    where
      go : (x : Frames Why) → (handled_by P x k).after.stop ≡ stop S E (handled_by P x k).after.rx
      go (bad q) = e
      go (records cs) = refl

  pub all_stop : (ps : List (List ℕ)) (k : Receiver P) → k.stop ≡ stop S E k.rx → (receives_all P ps k).stop ≡ stop S E (receives_all P ps k).rx
  unfolding receives_all
  all_stop [] k e = e
  all_stop (p ∷ ps) k e = all_stop ps (receives P k p).after (packet_stop p k e)

  -- ---- a start meets both
  module _ (b0 : P.rules.Book) (k : Receiver P) (s : Started P b0 k) where
    pub start_fit : Fit k.rx
    start_fit =
        record {
          sizes = ap (λ (x : P.rules.Book). P.sized x k.rx.shelf) s.zeroed.book_start ∙ s.sizes_good;
          from_1 = omega (arith, s.zeroed.next_1);
          below = start_below S E (laws_of P L) b0 k.rx s.zeroed;
        }

    pub start_stop : k.stop ≡ stop S E k.rx
    start_stop = s.no_stop ∙ sym (stop_nothing S E k.rx (try_empty S E k.rx (s.zeroed.shelf_empty (k.rx.next % 64) (slot_lt k.rx.next))))

    -- from a start no packet is refused with 6
    pub never_six : (ps : List (List ℕ)) → fit P (receives_all P ps k) ≡ true
    never_six ps = no_six (receives_all P ps k) (all_fit ps k start_fit)
