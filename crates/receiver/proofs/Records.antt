-- One record of a packet: its answer, where it leads, and how far.
-- Assumes nothing.
use Prim.Native.Nat.{◌+◌, ◌≤◌}
use mathlib.Core.Path.{◌≡◌, refl, ap, ◌∙◌}
use native.Mathlib.Omega.{arith}
use Rattle.editions.specs.declared.Edition.{Edition}
use Rattle.body.proofs.Laws.{good_fits}
use Rattle.packet.proofs.Laws.{GoodRec}
use Rattle.arbitration.specs.Engine.{Engine, Store}
use Rattle.arbitration.specs.Receive.{State, records_of, judged, acted, after}
use Rattle.arbitration.specs.Receive as theory
use Rattle.arbitration.specs.Loops.{counted, total, Working, working}
use Rattle.arbitration.specs.Lists.{Bounded}
use Rattle.arbitration.specs.declared.Counts.{Counts}
use Rattle.arbitration.proofs.Answers.{after_next}
use Rattle.receiver.specs.Lent.{answer_of}
use Rattle.receiver.specs.declared.Answer.{Answer}
use Rattle.wire.specs.Records.{Rec}

counted_total : (a : theory.Answer) (t : Counts) → total (counted a t) ≡ total t + 1
counted_total theory.taken t = omega arith
counted_total theory.old t = omega arith
counted_total theory.too_far t = omega arith
counted_total theory.repeated t = omega arith
counted_total theory.differing t = omega arith

module _ (S : Store) (E : Engine) where
  abbrev W : Type 0
  W = Working S E

  -- a record answered a: the state after it
  pub offered : (c : Rec) (r : State S E) (a : Answer) → answer_of a ≡ judged S E c r → acted S E (answer_of a) c r ≡ after S E c r
  unfolding after
  offered c r a e = ap (λ (j : theory.Answer). acted S E j c r) e

  -- only a taken record changes anything
  pub unchanged : (c : Rec) (r : State S E) (a : Answer) → (a ≡ Answer.Taken → ⊥) → acted S E (answer_of a) c r ≡ r
  unchanged c r Answer.Taken n = absurd (n refl)
  unchanged c r Answer.Old n = refl
  unchanged c r Answer.TooFar n = refl
  unchanged c r Answer.Repeated n = refl
  unchanged c r Answer.Differing n = refl

  -- and with the counts that have one answer more
  pub answered : (c : Rec) (w : W) (r : State S E) (a : theory.Answer) (t : Counts) → r ≡ after S E c w.rx → a ≡ judged S E c w.rx → t ≡ counted a w.counts → ◌≡◌ {A = W} (record { rx = r; counts = t }) (working S E c w)
  answered c w r a t e f g =
      let n : t ≡ counted (judged S E c w.rx) w.counts = g ∙ ap (λ (j : theory.Answer). counted j w.counts) f in
      λ i. record { rx = e i; counts = n i }

  -- a record raises next by at most 64 and the counts by one
  pub worked_bounds : (c : Rec) (w w' : W) → w' ≡ working S E c w → (w'.rx.next ≤ w.rx.next + 64) × (total w'.counts ≤ total w.counts + 1)
  worked_bounds c w w' e =
      let n : w'.rx.next ≡ (working S E c w).rx.next = ap (λ (x : W). x.rx.next) e in
      let t : total w'.counts ≡ total (counted (judged S E c w.rx) w.counts) = ap (λ (x : W). total x.counts) e in
      (omega (arith, (after_next S E c w.rx).1), omega (arith, counted_total (judged S E c w.rx) w.counts))

-- a good record fits a slot, its number at most the last
pub good_bounded : (ed : Edition) (c : Rec) → GoodRec ed c → Bounded c
good_bounded ed c g = record { number_to = g.number_to; short = omega (arith, (good_fits ed c.body g.body_good).most) }
