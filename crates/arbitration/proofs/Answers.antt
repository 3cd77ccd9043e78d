-- A record's answer by its tests, forwards for code and backwards for the theory, and what a record and a run do to the state. By cases of the answer.
-- Assumes nothing.
use Prim.Native.Nat.{ℕ, ◌+◌, ◌≤◌, ◌<◌}
use mathlib.Core.Path.{◌≡◌, refl, ap, subst}
use mathlib.Core.Logic.{◌≢◌}
use mathlib.Core.Bool.{true, false}
use mathlib.Core.List.{List, [], ◌∷◌, ◌++◌}
use native.Mathlib.Nat.{le_trans}
use native.Mathlib.Omega.{arith}
use borrow.Author.Tests.{ltb-true, ltb-false, leb-true, leb-false, eqb-true, eqb-false, ne_eqb, eq-eqb, lt-ltb, le-ltb, le-leb, lt-leb}
use Rattle.facts.specs.Pick.{pick}
use Rattle.facts.proofs.Picks.{pick_ind}
use Rattle.wire.specs.Records.{Rec}
use Rattle.arbitration.specs.Slots.{Slot, slot_for, same_slot}
use Rattle.arbitration.specs.Engine.{Engine, Store}
use Rattle.arbitration.specs.Receive.{Answer, taken, old, too_far, repeated, differing, judge, Said, State, drain, shelved, judged, acted, after, run, said, told}
use Rattle.arbitration.specs.Lists.{Every}
use Rattle.arbitration.proofs.Turns.{drain_next}

-- ---- the tests, in their order
module _ (next : ℕ) (s : Slot) (c : Rec) where
  pub judge_old : c.number < next → judge next s c ≡ old
  unfolding judge pick
  judge_old h = rw (lt-ltb _ _ h)

  module _ (from : next ≤ c.number) where
    pub judge_far : next + 64 ≤ c.number → judge next s c ≡ too_far
    unfolding judge pick
    judge_far h = rw (le-ltb _ _ from, le-leb _ _ h)

    module _ (below : c.number < next + 64) where
      pub judge_taken : s.number ≡ 0 → judge next s c ≡ taken
      unfolding judge pick
      judge_taken h = rw (le-ltb _ _ from, lt-leb _ _ below, eq-eqb _ _ h)

      pub judge_repeated : s.number ≢ 0 → same_slot s (slot_for c.number c.body) ≡ true → judge next s c ≡ repeated
      unfolding judge pick
      judge_repeated h e = rw (le-ltb _ _ from, lt-leb _ _ below, ne_eqb _ _ h, e)

      pub judge_differing : s.number ≢ 0 → same_slot s (slot_for c.number c.body) ≡ false → judge next s c ≡ differing
      unfolding judge pick
      judge_differing h e = rw (le-ltb _ _ from, lt-leb _ _ below, ne_eqb _ _ h, e)

  -- ---- and what each answer shows
  abbrev pub Shows : Answer → Type 0
  Shows taken = (next ≤ c.number) × (c.number < next + 64) × (s.number ≡ 0)
  Shows old = c.number < next
  Shows too_far = next + 64 ≤ c.number
  Shows repeated = (next ≤ c.number) × (c.number < next + 64) × (same_slot s (slot_for c.number c.body) ≡ true)
  Shows differing = (next ≤ c.number) × (c.number < next + 64) × (s.number ≢ 0) × (same_slot s (slot_for c.number c.body) ≡ false)

  pub judge_shows : Shows (judge next s c)
  unfolding judge
  judge_shows =
      pick_ind Shows _ old _ (λ e. ltb-true _ _ e)
      (λ a. pick_ind Shows _ too_far _ (λ e. leb-true _ _ e)
      (λ b. pick_ind Shows _ taken _ (λ e. (ltb-false _ _ a, leb-false _ _ b, eqb-true _ _ e))
      (λ d. pick_ind Shows _ repeated differing
      (λ e. (ltb-false _ _ a, leb-false _ _ b, e))
      (λ e. (ltb-false _ _ a, leb-false _ _ b, eqb-false _ _ d, e)))))

  pub shows : (a : Answer) → judge next s c ≡ a → Shows a
  shows a e = subst Shows e judge_shows

module _ (S : Store) (E : Engine) where
  -- ---- one record: only a taken one changes anything
  pub after_of : (c : Rec) (r : State S E) (a : Answer) → judged S E c r ≡ a → after S E c r ≡ acted S E a c r
  unfolding after
  after_of c r a e = ap (λ (x : Answer). acted S E x c r) e

  pub after_cases : (P : State S E → Type 0) (c : Rec) (r : State S E) → P r → (judged S E c r ≡ taken → P (drain S E 64 (shelved S E c r))) → P (after S E c r)
  unfolding after
  after_cases P c r p t = go (judged S E c r) refl
    where
      go : (a : Answer) → judged S E c r ≡ a → P (acted S E a c r)
      go taken e = t e
      go old e = p
      go too_far e = p
      go repeated e = p
      go differing e = p

  -- next never falls
  pub after_next : (c : Rec) (r : State S E) → (r.next ≤ (after S E c r).next) × ((after S E c r).next ≤ r.next + 64)
  after_next c r = after_cases (λ (q : State S E). (r.next ≤ q.next) × (q.next ≤ r.next + 64)) c r (omega arith, omega arith) (λ e. drain_next S E 64 (shelved S E c r))

  -- ---- runs: what every record keeps, the run keeps
  pub run_keeps : (P : State S E → Type 0) (Q : Rec → Type 0) → ((c : Rec) (r : State S E) → Q c → P r → P (after S E c r))
      → (cs : List Rec) (r : State S E) → Every Q cs → P r → P (run S E cs r)
  unfolding run
  run_keeps P Q step [] r h p = p
  run_keeps P Q step (c ∷ cs) r h p = run_keeps P Q step cs (after S E c r) h.1 (step c r h.0 p)

  pub run_append : (a b : List Rec) (r : State S E) → run S E (a ++ b) r ≡ run S E b (run S E a r)
  unfolding run
  run_append [] b r = refl
  run_append (c ∷ cs) b r = run_append cs b (after S E c r)

  pub said_append : (a b : List Rec) (r : State S E) → said S E (a ++ b) r ≡ said S E a r ++ said S E b (run S E a r)
  unfolding said run
  said_append [] b r = refl
  said_append (c ∷ cs) b r = ap (λ (l : List Said). record { number = c.number; answer = judged S E c r } ∷ l) (said_append cs b (after S E c r))

  pub run_next : (cs : List Rec) (r : State S E) → r.next ≤ (run S E cs r).next
  unfolding run
  run_next [] r = omega arith
  run_next (c ∷ cs) r = le_trans (after_next c r).0 (run_next cs (after S E c r))

  -- "how many messages were applied (the growth of next)"
  pub applied_grows : (cs : List Rec) (r : State S E) → r.next + (told S E cs r).applied ≡ (told S E cs r).next_number
  unfolding told
  applied_grows cs r = omega (arith, run_next cs r)
