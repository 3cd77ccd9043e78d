-- A taken message lies in its slot as it came until it is applied, whatever comes meanwhile; and what a copy of it is answered hangs on its bytes alone, not on
-- what they mean: the same bytes repeat (13), any others differ (14).
-- Assumes nothing.
use Prim.Native.Nat.{ℕ, ◌+◌, ◌≤◌, ◌<◌}
use mathlib.Core.Path.{◌≡◌, refl, sym, ap, ◌∙◌}
use mathlib.Core.Logic.{◌≢◌}
use mathlib.Core.Bool.{Bool, true, false}
use mathlib.Core.List.{List}
use native.Mathlib.Omega.{arith}
use lib.ListN.{length}
use Rattle.wire.specs.Records.{Rec, rec}
use Rattle.arbitration.specs.Slots.{Slot, slot_for, slot_body, same_slot}
use Rattle.arbitration.specs.Engine.{Engine, Store, Laws}
use Rattle.arbitration.specs.Receive.{taken, old, repeated, differing, State, slot_of, judged, after, run}
use Rattle.arbitration.specs.Lists.{Every}
use Rattle.arbitration.proofs.SlotLaws.{body_back, same_refl, same_eq}
use Rattle.arbitration.proofs.Answers.{judge_old, judge_repeated, judge_differing, shows, after_of}
use Rattle.arbitration.proofs.Settled.{Fitting, LastsBy, taken_lasts, run_lasts}

-- one slot holds one body
same_body : (n : ℕ) (b c : List ℕ) → length b ≤ 64 → length c ≤ 64 → slot_for n b ≡ slot_for n c → b ≡ c
same_body n b c lb lc e = sym (body_back n b lb) ∙ ap slot_body e ∙ body_back n c lc

module _ (S : Store) (E : Engine) where
  -- ---- a copy whose number is below next: 11, and nothing changes
  pub copy_old : (r : State S E) (n : ℕ) (c : List ℕ) → n < r.next → (judged S E (rec n c) r ≡ old) × (after S E (rec n c) r ≡ r)
  copy_old r n c l =
      let e : judged S E (rec n c) r ≡ old = judge_old r.next (slot_of S E r n) (rec n c) l in
      (e, after_of S E (rec n c) r old e)

  -- ---- a copy of a message that waits in its slot
  module _ (r : State S E) (n : ℕ) (b : List ℕ) (waits : slot_of S E r n ≡ slot_for n b) (from_1 : 1 ≤ n) (from : r.next ≤ n) (below : n < r.next + 64) where
    used : (slot_of S E r n).number ≢ 0
    used e = let q : (slot_of S E r n).number ≡ n = ap (λ (s : Slot). s.number) waits in omega arith

    -- all bytes alike: 13, and nothing changes
    pub copy_repeats : (judged S E (rec n b) r ≡ repeated) × (after S E (rec n b) r ≡ r)
    copy_repeats =
        let e : judged S E (rec n b) r ≡ repeated = judge_repeated r.next (slot_of S E r n) (rec n b) from below used (rw waits (same_refl (slot_for n b))) in
        (e, after_of S E (rec n b) r repeated e)

    module _ (c : List ℕ) (lb : length b ≤ 64) (lc : length c ≤ 64) where
      -- a repeat has every byte alike
      pub repeat_alike : judged S E (rec n c) r ≡ repeated → b ≡ c
      repeat_alike e = same_body n b c lb lc (sym waits ∙ same_eq (slot_of S E r n) (slot_for n c) (shows r.next (slot_of S E r n) (rec n c) repeated e).2)

      -- any other bytes: 14, and nothing changes
      pub copy_differs : b ≢ c → (judged S E (rec n c) r ≡ differing) × (after S E (rec n c) r ≡ r)
      copy_differs d = go (same_slot (slot_for n b) (slot_for n c)) refl
        where
          go : (t : Bool) → same_slot (slot_for n b) (slot_for n c) ≡ t → (judged S E (rec n c) r ≡ differing) × (after S E (rec n c) r ≡ r)
          go true e = absurd (d (same_body n b c lb lc (same_eq (slot_for n b) (slot_for n c) e)))
          go false e =
              let q : judged S E (rec n c) r ≡ differing = judge_differing r.next (slot_of S E r n) (rec n c) from below used (rw waits e) in
              (q, after_of S E (rec n c) r differing q)

  -- ---- "kept on the shelf as they came": next has passed n, or its slot holds message n with body b
  abbrev pub AsItCame : ℕ → List ℕ → State S E → Type 0
  AsItCame n b r = LastsBy S E (λ s. s ≡ slot_for n b) n r

  module _ (L : Laws S E) where
    -- so it is with a record that is taken
    pub taken_as_it_came : (c : Rec) (r : State S E) → Fitting c → S.Ok r.shelf → judged S E c r ≡ taken → AsItCame c.number c.body (after S E c r)
    taken_as_it_came c r fit o e = taken_lasts S E L (λ s. s ≡ slot_for c.number c.body) c r (λ s q. ap (λ (x : Slot). x.number) q) fit o e refl

    -- and stays, whatever records come
    pub stays_as_it_came : (n : ℕ) (b : List ℕ) (cs : List Rec) (r : State S E) → 1 ≤ n → Every Fitting cs → AsItCame n b r → AsItCame n b (run S E cs r)
    stays_as_it_came n b cs r p h v = run_lasts S E L (λ s. s ≡ slot_for n b) n (λ s q. ap (λ (x : Slot). x.number) q) cs r p h v
