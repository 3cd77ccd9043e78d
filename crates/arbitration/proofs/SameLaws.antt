-- Related books give the same answers, the same next, the same shelf and related books on every run: each turn tries the same slot and ends alike.
-- Assumes nothing.
use Prim.Native.Nat.{ℕ, zero, suc, ◌+◌, ◌-◌, ◌%◌, ◌≤◌}
use mathlib.Core.Path.{◌≡◌, refl, ap, ap₂}
use mathlib.Core.Bool.{Bool, true, false}
use mathlib.Core.List.{List, [], ◌∷◌}
use lib.ListN.{length}
use lib.Dec.{leb, eqb}
use native.Mathlib.Omega.{arith}
use Rattle.facts.specs.Pick.{pick, both}
use Rattle.wire.specs.Records.{Rec}
use Rattle.arbitration.specs.Slots.{Slot, empty_slot, slot_body}
use Rattle.arbitration.specs.Engine.{Applied, ok, broke, Engine, Store}
use Rattle.arbitration.specs.Receive.{Answer, taken, old, too_far, repeated, differing, Said, Try, nothing, stuck, goes, of_applied, good_slot, highest, counts_of, State, try, stop, turned, drain, shelved, judged, acted, after, run, said, told}
use Rattle.arbitration.specs.Lists.{msg, WellFormed, made}
use Rattle.arbitration.specs.Refresh.{Event, refreshed, after_e, run_e}
use Rattle.arbitration.specs.Same.{Alike, both_ok, both_broke, Sim, Twin, twin, Twins, end, same, anew}
use Rattle.arbitration.proofs.Turns.{slot_good, drain_next}
use Rattle.arbitration.proofs.Answers.{after_next, run_next}

pub data TryAlike {A B : Type 0} (R : A → B → Type 0) : Try A → Try B → Type 0 where
  no_one : TryAlike R nothing nothing
  both_stuck : (q : ℕ) → TryAlike R (stuck q) (stuck q)
  both_go : {a : A} {b : B} → R a b → TryAlike R (goes a) (goes b)

pub alike_try : {A B : Type 0} {R : A → B → Type 0} {x : Applied A} {y : Applied B} → Alike R x y → TryAlike R (of_applied x) (of_applied y)
alike_try (both_ok h) = both_go h
alike_try (both_broke q) = both_stuck q

pub pick_alike : {A B : Type 0} {R : A → B → Type 0} (t : Bool) {x x' : Try A} {y y' : Try B} → (t ≡ true → TryAlike R x y) → (t ≡ false → TryAlike R x' y') → TryAlike R (pick t x x') (pick t y y')
unfolding pick
pick_alike true h g = h refl
pick_alike false h g = g refl

-- lists worked from related books
pub made_twin : (E F : Engine) (M : Sim E F) (ms : List (List ℕ)) → WellFormed E.good ms → (s : ℕ) {b : E.Book} {b' : F.Book} → M.R b b' → (k : ℕ) → s + k ≤ length ms → Alike M.R (made E ms s b k) (made F ms s b' k)
unfolding made
made_twin E F M ms wf s h zero l = both_ok h
made_twin E F M ms wf s h (suc k) l = go (made_twin E F M ms wf s h k (omega arith))
  where
    go : {x : Applied E.Book} {y : Applied F.Book} → Alike M.R x y
        → Alike M.R (elim x [ ok x ↦ E.apply (s + suc k) (msg ms (s + suc k)) x | broke q ↦ broke q ]) (elim y [ ok x ↦ F.apply (s + suc k) (msg ms (s + suc k)) x | broke q ↦ broke q ])
    go (both_ok {a = x} {b = y} g) = M.step (s + suc k) (msg ms (s + suc k)) x y (omega arith) (wf (s + suc k - 1) (omega arith)) g
    go (both_broke q) = both_broke q

module _ (S : Store) (E F : Engine) (M : Sim E F) where
  good_twin : (s : Slot) → good_slot F s ≡ good_slot E s
  unfolding good_slot
  good_twin s = ap (both (leb s.len 64)) (M.good_same (slot_body s))

  pub try_twin : {r : State S E} {r' : State S F} → 1 ≤ r.next → Twin S E F M r r' → TryAlike M.R (try S E r) (try S F r')
  unfolding try
  try_twin v (twin n s {x = x} {y = y} h) =
      rw good_twin
      (pick_alike (eqb (S.get s (n % 64)).number 0) (λ _. no_one)
      (λ _. pick_alike (eqb (S.get s (n % 64)).number n)
      (λ _. pick_alike (good_slot E (S.get s (n % 64))) (λ g. alike_try (M.step n _ x y v (slot_good E _ g) h)) (λ _. both_stuck 27))
      (λ _. both_stuck 27)))

  turn_twin : {r : State S E} {r' : State S F} {x : E.Book} {y : F.Book} → Twin S E F M r r' → M.R x y → Twin S E F M (turned S E r x) (turned S F r' y)
  turn_twin (twin n s g) h = twin (n + 1) (S.put s (n % 64) empty_slot) h

  pub drain_twin : (f : ℕ) {r : State S E} {r' : State S F} → 1 ≤ r.next → Twin S E F M r r' → Twin S E F M (drain S E f r) (drain S F f r')
  unfolding drain
  drain_twin zero v t = t
  drain_twin (suc f) {r} {r'} v t = go (try_twin v t) (λ q q' w u. drain_twin f w u)
    where
      go : {a : Try E.Book} {b : Try F.Book} → TryAlike M.R a b → ((q : State S E) (q' : State S F) → 1 ≤ q.next → Twin S E F M q q' → Twin S E F M (drain S E f q) (drain S F f q'))
          → Twin S E F M (elim a [ nothing ↦ r | stuck q ↦ r | goes b ↦ drain S E f (turned S E r b) ]) (elim b [ nothing ↦ r' | stuck q ↦ r' | goes b ↦ drain S F f (turned S F r' b) ])
      go no_one ih = t
      go (both_stuck q) ih = t
      go (both_go h) ih = ih _ _ (omega arith) (turn_twin t h)

  shelved_twin : (c : Rec) {r : State S E} {r' : State S F} → Twin S E F M r r' → Twin S E F M (shelved S E c r) (shelved S F c r')
  shelved_twin c (twin n s h) = twin n _ h

  judged_twin : (c : Rec) {r : State S E} {r' : State S F} → Twin S E F M r r' → judged S E c r ≡ judged S F c r'
  judged_twin c (twin n s h) = refl

  pub after_twin : (c : Rec) {r : State S E} {r' : State S F} → 1 ≤ r.next → Twin S E F M r r' → Twin S E F M (after S E c r) (after S F c r')
  unfolding after
  after_twin c {r} {r'} v t = rw (← (judged_twin c t)) (go (judged S E c r))
    where
      go : (a : Answer) → Twin S E F M (acted S E a c r) (acted S F a c r')
      go taken = drain_twin 64 v (shelved_twin c t)
      go old = t
      go too_far = t
      go repeated = t
      go differing = t

  -- next only grows
  still : (c : Rec) (r : State S E) → 1 ≤ r.next → 1 ≤ (after S E c r).next
  still c r v = omega (arith, (after_next S E c r).0)

  still_all : (cs : List Rec) (r : State S E) → 1 ≤ r.next → 1 ≤ (run S E cs r).next
  still_all cs r v = omega (arith, run_next S E cs r)

  -- ---- every run
  pub run_twin : (cs : List Rec) {r : State S E} {r' : State S F} → 1 ≤ r.next → Twin S E F M r r' → Twin S E F M (run S E cs r) (run S F cs r')
  unfolding run
  run_twin [] v t = t
  run_twin (c ∷ cs) {r} v t = run_twin cs (still c r v) (after_twin c v t)

  pub said_twin : (cs : List Rec) {r : State S E} {r' : State S F} → 1 ≤ r.next → Twin S E F M r r' → said S E cs r ≡ said S F cs r'
  unfolding said
  said_twin [] v t = refl
  said_twin (c ∷ cs) {r} v t = ap₂ (λ (a : Answer) (l : List Said). record { number = c.number; answer = a } ∷ l) (judged_twin c t) (said_twin cs (still c r v) (after_twin c v t))

  pub stop_twin : {r : State S E} {r' : State S F} → 1 ≤ r.next → Twin S E F M r r' → stop S E r ≡ stop S F r'
  unfolding stop
  stop_twin {r} {r'} v t = go (try_twin v t)
    where
      go : {a : Try E.Book} {b : Try F.Book} → TryAlike M.R a b → ◌≡◌ {A = ℕ} (elim a [ nothing ↦ 0 | stuck q ↦ q | goes b ↦ 0 ]) (elim b [ nothing ↦ 0 | stuck q ↦ q | goes b ↦ 0 ])
      go no_one = refl
      go (both_stuck q) = refl
      go (both_go h) = refl

  pub next_twin : {r : State S E} {r' : State S F} → Twin S E F M r r' → (r.next ≡ r'.next) × (r.shelf ≡ r'.shelf)
  next_twin (twin n s h) = (refl, refl)

  -- the packet's answer is the same, whole
  pub told_twin : (cs : List Rec) {r : State S E} {r' : State S F} → 1 ≤ r.next → Twin S E F M r r' → told S E cs r ≡ told S F cs r'
  unfolding told
  told_twin cs {r} {r'} v t =
      let e = run_twin cs v t in
      λ i. record {
        counts = counts_of (said_twin cs v t i);
        next_number = (next_twin e).0 i;
        applied = (next_twin e).0 i - (next_twin t).0 i;
        top = highest S 64 ((next_twin e).1 i);
        stopped = stop_twin (still_all cs r v) e i;
      }

  -- ---- with refreshes
  refreshed_twin : (s : ℕ) {x : E.Book} {y : F.Book} {r : State S E} {r' : State S F} → M.R x y → Twin S E F M r r' → Twin S E F M (refreshed S E s x r) (refreshed S F s y r')
  refreshed_twin s g (twin n sh h) = twin (s + 1) _ g

  pub run_e_twin : {es : List (Event S E)} {fs : List (Event S F)} {r : State S E} {r' : State S F} → Twins S E F M es fs → 1 ≤ r.next → Twin S E F M r r' → Twin S E F M (run_e S E es r) (run_e S F fs r')
  unfolding run_e after_e
  run_e_twin end v t = t
  run_e_twin {r = r} (same c u) v t = run_e_twin u (still c r v) (after_twin c v t)
  run_e_twin {r = r} (anew s {x = x} g u) v t =
      let w : 1 ≤ (refreshed S E s x r).next = omega arith in
      run_e_twin u (omega (arith, (drain_next S E 64 (refreshed S E s x r)).0)) (drain_twin 64 w (refreshed_twin s g t))
