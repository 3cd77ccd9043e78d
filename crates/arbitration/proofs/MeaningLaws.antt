-- Records that mean the same leave receivers with the same next, alike books and the same stop, whichever bytes came first, and are answered the same but for second copies: each
-- turn tries slots that mean the same, and where one copy repeats and the other differs neither changes anything.
-- Assumes nothing.
use Prim.Native.Nat.{ℕ, zero, suc, max, ◌+◌, ◌-◌, ◌%◌, ◌≤◌, ◌<◌}
use mathlib.Core.Path.{◌≡◌, refl, sym, ap, subst, ◌∙◌}
use mathlib.Core.Logic.{◌≢◌, ◌⊎◌, inl, inr}
use mathlib.Core.Bool.{Bool, true, false}
use mathlib.Core.List.{List, [], ◌∷◌}
use native.Mathlib.Omega.{arith}
use native.Mathlib.Decide.{ℕ_discrete}
use borrow.Author.Tests.{eqb-true, eqb-false}
use lib.Dec.{eqb, ltb, leb}
use lib.ListN.{length}
use Rattle.facts.specs.Pick.{pick}
use Rattle.wire.specs.Records.{Rec, rec}
use Rattle.arbitration.specs.Slots.{Slot, empty_slot, slot_for, slot_body, same_slot, Fits}
use Rattle.arbitration.specs.Engine.{Applied, ok, broke, Engine, Store, StoreLaws, Laws}
use Rattle.arbitration.specs.Receive.{Answer, taken, old, too_far, repeated, differing, judge, Said, counts_of, no_counts, Try, nothing, stuck, goes, of_applied, good_slot, highest, State, try, stop, turned, drain, shelved, judged, acted, after, run, said, told}
use Rattle.arbitration.specs.Lists.{Every, Numbered, Bounded, Copy, msg, WellFormed, Zeroed, Answered}
use Rattle.arbitration.specs.Loops.{counted}
use Rattle.arbitration.specs.Same.{Alike, both_ok, both_broke}
use Rattle.arbitration.specs.Meaning.{Means, Meant, none, more, SameBook, Faithful, SlotMeans, Close, close, Agrees, AnswerAlike, same_answer, repeat_differs, differs_repeat, SaidAlike, none_said, more_said, CountsAlike, ToldAlike}
use Rattle.arbitration.specs.declared.Counts.{Counts}
use Rattle.arbitration.proofs.Window.{slot_lt}
use Rattle.arbitration.proofs.SlotLaws.{empty_fits, body_back}
use Rattle.arbitration.proofs.Turns.{short_good}
use Rattle.arbitration.proofs.Tallies.{plus, counts_added}
use Rattle.arbitration.proofs.Invariant.{Follows, msg_good, msg_short}
use Rattle.arbitration.proofs.Packets.{every_map}
use Rattle.arbitration.proofs.Range.{bounded_fits}
use Rattle.arbitration.proofs.SameLaws.{TryAlike, no_one, both_stuck, both_go, alike_try, pick_alike}
use Rattle.arbitration.proofs.Settled.{Fitting, Held, Lasts, answered_kept}
use Rattle.arbitration.proofs.Halves.{Made, Named, Ready, run_ready, reached, first_half}

-- ---- one engine: what applies the same is alike
alike_itself : {A : Type 0} (x : Applied A) → Alike (λ (a b : A). a ≡ b) x x
alike_itself (ok a) = both_ok refl
alike_itself (broke q) = both_broke q

module _ (E : Engine) where
  alike_same : (n : ℕ) (b c : List ℕ) (x y : E.Book) → E.apply n c x ≡ E.apply n b x → x ≡ y → Alike (SameBook E) (E.apply n b x) (E.apply n c y)
  alike_same n b c x y e h =
      subst (λ (z : E.Book). Alike (SameBook E) (E.apply n b x) (E.apply n c z)) h
      (subst (Alike (SameBook E) (E.apply n b x)) (sym e) (alike_itself (E.apply n b x)))

  -- bodies mean the same to one engine that are judged and applied the same
  pub means_same : (b c : List ℕ) → E.good c ≡ E.good b → ((n : ℕ) (k : E.Book) → E.apply n c k ≡ E.apply n b k) → Means E E (SameBook E) b c
  means_same b c g h = record { as_good = g; as_applied = λ n x y v w e. alike_same n b c x y (h n x) e }

  slot_itself : (s : Slot) → SlotMeans E E (SameBook E) s s
  slot_itself s = record { number_same = refl; as_good = λ v. refl; as_applied = λ x y v g e. alike_same s.number (slot_body s) (slot_body s) x y refl e }

-- ---- what is answered
-- of two slots with the same number: only the last test looks at the bytes
judge_alike : (next n : ℕ) (b c : List ℕ) (s t : Slot) → t.number ≡ s.number → AnswerAlike (judge next s (rec n b)) (judge next t (rec n c))
unfolding judge pick
judge_alike next n b c s t e =
    subst (λ (x : ℕ). AnswerAlike (judge next s (rec n b)) (by_tests (eqb x 0) (same_slot t (slot_for n c)))) (sym e)
    (go (ltb n next) (leb (next + 64) n) (eqb s.number 0) (same_slot s (slot_for n b)) (same_slot t (slot_for n c)))
  where
    by_tests : Bool → Bool → Answer
    by_tests u v = pick (ltb n next) old (pick (leb (next + 64) n) too_far (pick u taken (pick v repeated differing)))

    go : (a d u v w : Bool) → AnswerAlike (pick a old (pick d too_far (pick u taken (pick v repeated differing)))) (pick a old (pick d too_far (pick u taken (pick w repeated differing))))
    go true d u v w = same_answer old
    go false true u v w = same_answer too_far
    go false false true v w = same_answer taken
    go false false false true true = same_answer repeated
    go false false false true false = repeat_differs
    go false false false false true = differs_repeat
    go false false false false false = same_answer differing

-- counts, one answer after another
counts_itself : (c : Counts) → CountsAlike c c
counts_itself c = record { taken_same = refl; old_same = refl; far_same = refl; seconds_same = refl }

plus_alike : (a b c d : Counts) → CountsAlike a b → CountsAlike c d → CountsAlike (plus a c) (plus b d)
plus_alike a b c d h g = record {
  taken_same = λ i. h.taken_same i + g.taken_same i;
  old_same = λ i. h.old_same i + g.old_same i;
  far_same = λ i. h.far_same i + g.far_same i;
  seconds_same = omega (arith, h.seconds_same, g.seconds_same);
}

one_alike : {a b : Answer} → AnswerAlike a b → CountsAlike (counted a no_counts) (counted b no_counts)
one_alike (same_answer a) = counts_itself (counted a no_counts)
one_alike repeat_differs = record { taken_same = refl; old_same = refl; far_same = refl; seconds_same = refl }
one_alike differs_repeat = record { taken_same = refl; old_same = refl; far_same = refl; seconds_same = refl }

pub counts_alike : {l m : List Said} → SaidAlike l m → CountsAlike (counts_of l) (counts_of m)
counts_alike none_said = counts_itself (counts_of [])
counts_alike (more_said n {a = a} {b = b} {l = l} {m = m} e h) =
    rw (← (counts_added a n l), ← (counts_added b n m)) (plus_alike (counted a no_counts) (counted b no_counts) (counts_of l) (counts_of m) (one_alike e) (counts_alike h))

-- ---- what a slot has to offer at a number
abbrev try_of : (E : Engine) → Slot → ℕ → E.Book → Try E.Book
try_of E s n k = pick (eqb s.number 0) nothing (pick (eqb s.number n) (pick (good_slot E s) (of_applied (E.apply n (slot_body s) k)) (stuck 27)) (stuck 27))

module _ (E F : Engine) (R : E.Book → F.Book → Type 0) where
  -- slots that hold nothing
  slots_empty : (s t : Slot) → s.number ≡ 0 → t.number ≡ 0 → SlotMeans E F R s t
  slots_empty s t a b = record { number_same = b ∙ sym a; as_good = λ v. absurd (omega arith); as_applied = λ x y v. absurd (omega arith) }

  -- the slots of two records
  slots_for : (n : ℕ) (b c : List ℕ) → length b ≤ 64 → length c ≤ 64 → Means E F R b c → SlotMeans E F R (slot_for n b) (slot_for n c)
  slots_for n b c lb lc m =
      let x : slot_body (slot_for n b) ≡ b = body_back n b lb in
      let y : slot_body (slot_for n c) ≡ c = body_back n c lc in
      let good : good_slot E (slot_for n b) ≡ E.good b = short_good E (slot_for n b) lb ∙ ap E.good x in
      record {
        number_same = refl;
        as_good = λ v. short_good F (slot_for n c) lc ∙ ap F.good y ∙ m.as_good ∙ sym good;
        as_applied = λ k l v g r. rw (x, y) (m.as_applied n k l v (sym good ∙ g) r);
      }

  -- a body is asked for where the slot is not empty and has the number, so at one from 1
  tried : (s t : Slot) (n : ℕ) (x : E.Book) (y : F.Book) → SlotMeans E F R s t → R x y → TryAlike R (try_of E s n x) (try_of F t n y)
  tried s t n x y m r =
      subst (λ (z : ℕ). TryAlike R (try_of E s n x) (pick (eqb z 0) nothing (pick (eqb z n) (pick (good_slot F t) (of_applied (F.apply n (slot_body t) y)) (stuck 27)) (stuck 27)))) (sym m.number_same)
      (pick_alike (eqb s.number 0) (λ _. no_one) (λ a. pick_alike (eqb s.number n) (λ e. held (not_zero (eqb-false s.number 0 a)) (eqb-true s.number n e)) (λ _. both_stuck 27)))
    where
      not_zero : s.number ≢ 0 → 1 ≤ s.number
      not_zero h = omega arith

      held : 1 ≤ s.number → s.number ≡ n → TryAlike R (pick (good_slot E s) (of_applied (E.apply n (slot_body s) x)) (stuck 27)) (pick (good_slot F t) (of_applied (F.apply n (slot_body t) y)) (stuck 27))
      held v e =
          subst (λ (z : Bool). TryAlike R (pick (good_slot E s) (of_applied (E.apply n (slot_body s) x)) (stuck 27)) (pick z (of_applied (F.apply n (slot_body t) y)) (stuck 27))) (sym (m.as_good v))
          (pick_alike (good_slot E s)
          (λ g. alike_try (subst (λ (z : ℕ). Alike R (E.apply z (slot_body s) x) (F.apply z (slot_body t) y)) e (m.as_applied x y v g r)))
          (λ _. both_stuck 27))

-- ---- what close receivers agree in
module _ (S : Store) (E F : Engine) (R : E.Book → F.Book → Type 0) where
  pub try_close : {r : State S E} {q : State S F} → Close S E F R r q → TryAlike R (try S E r) (try S F q)
  unfolding try
  try_close (close n {x = x} {y = y} {s = s} {t = t} g o p h) = tried E F R (S.get s (n % 64)) (S.get t (n % 64)) n x y (h (n % 64) (slot_lt n)) g

  pub judged_close : {r : State S E} {q : State S F} (n : ℕ) (b c : List ℕ) → Close S E F R r q → AnswerAlike (judged S E (rec n b) r) (judged S F (rec n c) q)
  judged_close n b c (close i {s = s} {t = t} g o p h) = judge_alike i n b c (S.get s (n % 64)) (S.get t (n % 64)) (h (n % 64) (slot_lt n)).number_same

  highest_same : (s t : S.Shelf) → ((i : ℕ) → i < 64 → SlotMeans E F R (S.get s i) (S.get t i)) → (i : ℕ) → i ≤ 64 → highest S i t ≡ highest S i s
  unfolding highest
  highest_same s t h zero l = refl
  highest_same s t h (suc i) l = λ j. max (highest_same s t h i (omega arith) j) ((h i l).number_same j)

  pub close_agrees : {r : State S E} {q : State S F} → Close S E F R r q → Agrees S E F R r q
  unfolding stop
  close_agrees {r} {q} d = record { next_same = nexts d; books_alike = books d; stop_same = stops (try_close d); top_same = tops d }
    where
      nexts : {r : State S E} {q : State S F} → Close S E F R r q → q.next ≡ r.next
      nexts (close n g o p h) = refl

      books : {r : State S E} {q : State S F} → Close S E F R r q → R r.book q.book
      books (close n g o p h) = g

      stops : {a : Try E.Book} {b : Try F.Book} → TryAlike R a b → ◌≡◌ {A = ℕ} (elim b [ nothing ↦ 0 | stuck x ↦ x | goes b ↦ 0 ]) (elim a [ nothing ↦ 0 | stuck x ↦ x | goes b ↦ 0 ])
      stops no_one = refl
      stops (both_stuck x) = refl
      stops (both_go g) = refl

      tops : {r : State S E} {q : State S F} → Close S E F R r q → highest S 64 q.shelf ≡ highest S 64 r.shelf
      tops (close n {s = s} {t = t} g o p h) = highest_same s t h 64 (omega arith)

  -- two starts from alike books, whatever stands in their empty slots
  pub zeroed_close : {b0 : E.Book} {c0 : F.Book} {r : State S E} {q : State S F} → R b0 c0 → Zeroed S E b0 r → Zeroed S F c0 q → Close S E F R r q
  zeroed_close {b0} {c0} {r} {q} g z w =
      subst (λ (n : ℕ). Close S E F R r (record { next = n; shelf = q.shelf; book = q.book })) (z.next_1 ∙ sym w.next_1)
      (close r.next (rw (z.book_start, w.book_start) g) z.ok_shelf w.ok_shelf
      (λ i l. slots_empty E F R (S.get r.shelf i) (S.get q.shelf i) (z.shelf_empty i l) (w.shelf_empty i l)))

-- ---- they stay close
module _ (S : Store) (E F : Engine) (R : E.Book → F.Book → Type 0) (L : StoreLaws S) where
  -- slots after puts into the same slot
  put_close : (s t : S.Shelf) (i : ℕ) (x y : Slot) → S.Ok s → S.Ok t → i < 64 → Fits x → Fits y → SlotMeans E F R x y
      → ((j : ℕ) → j < 64 → SlotMeans E F R (S.get s j) (S.get t j)) → (j : ℕ) → j < 64 → SlotMeans E F R (S.get (S.put s i x) j) (S.get (S.put t i y) j)
  put_close s t i x y o p l fx fy m h j k = go (ℕ_discrete j i)
    where
      go : Dec (j ≡ i) → SlotMeans E F R (S.get (S.put s i x) j) (S.get (S.put t i y) j)
      go (yes e) = rw (e, L.get_same s i x o l fx, L.get_same t i y p l fy) m
      go (no n) = rw (L.get_other s i j x o l k n fx, L.get_other t i j y p l k n fy) (h j k)

  turn_close : {r : State S E} {q : State S F} {x : E.Book} {y : F.Book} → R x y → Close S E F R r q → Close S E F R (turned S E r x) (turned S F q y)
  turn_close g (close n {s = s} {t = t} _ o p h) =
      close (n + 1) g (L.ok_put s (n % 64) empty_slot o (slot_lt n) empty_fits) (L.ok_put t (n % 64) empty_slot p (slot_lt n) empty_fits)
      (put_close s t (n % 64) empty_slot empty_slot o p (slot_lt n) empty_fits empty_fits (slots_empty E F R empty_slot empty_slot refl refl) h)

  pub drain_close : (f : ℕ) {r : State S E} {q : State S F} → Close S E F R r q → Close S E F R (drain S E f r) (drain S F f q)
  unfolding drain
  drain_close zero c = c
  drain_close (suc f) {r} {q} c = go (try_close S E F R c) (λ r' q' d. drain_close f d)
    where
      go : {a : Try E.Book} {b : Try F.Book} → TryAlike R a b → ((r' : State S E) (q' : State S F) → Close S E F R r' q' → Close S E F R (drain S E f r') (drain S F f q'))
          → Close S E F R (elim a [ nothing ↦ r | stuck x ↦ r | goes b ↦ drain S E f (turned S E r b) ]) (elim b [ nothing ↦ q | stuck x ↦ q | goes b ↦ drain S F f (turned S F q b) ])
      go no_one ih = c
      go (both_stuck x) ih = c
      go (both_go g) ih = ih _ _ (turn_close g c)

  -- ---- one record
  shelve_close : {r : State S E} {q : State S F} (n : ℕ) (b c : List ℕ) → Bounded (rec n b) → Bounded (rec n c) → Means E F R b c → Close S E F R r q → Close S E F R (shelved S E (rec n b) r) (shelved S F (rec n c) q)
  shelve_close n b c wb wc m (close i {s = s} {t = t} g o p h) =
      close i g (L.ok_put s (n % 64) (slot_for n b) o (slot_lt n) (bounded_fits (rec n b) wb)) (L.ok_put t (n % 64) (slot_for n c) p (slot_lt n) (bounded_fits (rec n c) wc))
      (put_close s t (n % 64) (slot_for n b) (slot_for n c) o p (slot_lt n) (bounded_fits (rec n b) wb) (bounded_fits (rec n c) wc) (slots_for E F R n b c wb.short wc.short m) h)

  -- only a taken record changes anything, and what is taken here is taken there
  pub after_close : {r : State S E} {q : State S F} (n : ℕ) (b c : List ℕ) → Bounded (rec n b) → Bounded (rec n c) → Means E F R b c → Close S E F R r q → Close S E F R (after S E (rec n b) r) (after S F (rec n c) q)
  unfolding after
  after_close {r} {q} n b c wb wc m d = go (judged_close S E F R n b c d)
    where
      go : {x y : Answer} → AnswerAlike x y → Close S E F R (acted S E x (rec n b) r) (acted S F y (rec n c) q)
      go (same_answer taken) = drain_close 64 (shelve_close n b c wb wc m d)
      go (same_answer old) = d
      go (same_answer too_far) = d
      go (same_answer repeated) = d
      go (same_answer differing) = d
      go repeat_differs = d
      go differs_repeat = d

  -- ---- a run
  pub run_close : {r : State S E} {q : State S F} (bs cs : List Rec) → Meant E F R bs cs → Every Bounded bs → Every Bounded cs → Close S E F R r q → Close S E F R (run S E bs r) (run S F cs q)
  unfolding run
  run_close [] [] none hb hc d = d
  run_close [] (y ∷ cs) m hb hc d = elim m [ ]
  run_close (x ∷ bs) [] m hb hc d = elim m [ ]
  run_close {r = r} {q = q} (x ∷ bs) (y ∷ cs) (more n {b = b} {c = c} m ms) hb hc d = run_close {r = after S E (rec n b) r} {q = after S F (rec n c) q} bs cs ms hb.1 hc.1 (after_close n b c hb.0 hc.0 m d)

  pub said_close : {r : State S E} {q : State S F} (bs cs : List Rec) → Meant E F R bs cs → Every Bounded bs → Every Bounded cs → Close S E F R r q → SaidAlike (said S E bs r) (said S F cs q)
  unfolding said
  said_close [] [] none hb hc d = none_said
  said_close [] (y ∷ cs) m hb hc d = elim m [ ]
  said_close (x ∷ bs) [] m hb hc d = elim m [ ]
  said_close {r = r} {q = q} (x ∷ bs) (y ∷ cs) (more n {b = b} {c = c} m ms) hb hc d = more_said n (judged_close S E F R n b c d) (said_close {r = after S E (rec n b) r} {q = after S F (rec n c) q} bs cs ms hb.1 hc.1 (after_close n b c hb.0 hc.0 m d))

  pub counts_close : {r : State S E} {q : State S F} (bs cs : List Rec) → Meant E F R bs cs → Every Bounded bs → Every Bounded cs → Close S E F R r q → CountsAlike (counts_of (said S E bs r)) (counts_of (said S F cs q))
  counts_close bs cs m hb hc d = counts_alike (said_close bs cs m hb hc d)

  -- the packet's answer
  pub told_close : {r : State S E} {q : State S F} (bs cs : List Rec) → Meant E F R bs cs → Every Bounded bs → Every Bounded cs → Close S E F R r q → ToldAlike (told S E bs r) (told S F cs q)
  unfolding told
  told_close bs cs m hb hc d =
      let a = close_agrees S E F R d in
      let e = close_agrees S E F R (run_close bs cs m hb hc d) in
      record { counts_alike = counts_close bs cs m hb hc d; next_same = e.next_same; applied_same = λ i. e.next_same i - a.next_same i; top_same = e.top_same; stopped_same = e.stop_same }

-- ---- one receiver
module _ (S : Store) (E : Engine) where
  -- any receiver is close to itself
  pub close_itself : (r : State S E) → S.Ok r.shelf → Close S E E (SameBook E) r r
  close_itself r o = close r.next refl o o (λ i l. slot_itself E (S.get r.shelf i))

  -- the same receiver, given records that mean the same, whatever it answers to them
  pub meant_alike : StoreLaws S → (r : State S E) (bs cs : List Rec) → S.Ok r.shelf → Meant E E (SameBook E) bs cs → Every Bounded bs → Every Bounded cs → Agrees S E E (SameBook E) (run S E bs r) (run S E cs r)
  meant_alike L r bs cs o m hb hc = close_agrees S E E (SameBook E) (run_close S E E (SameBook E) L bs cs m hb hc (close_itself r o))

-- ---- demand 3 of copies that mean what the list's messages mean: a run of them is close to the run of the true copies
true_of : List (List ℕ) → List Rec → List Rec
true_of ms [] = []
true_of ms (c ∷ cs) = rec c.number (msg ms c.number) ∷ true_of ms cs

module _ (S : Store) (E : Engine) (L : Laws S E) where
  lasts_close : (n : ℕ) {r q : State S E} → Close S E E (SameBook E) r q → Lasts S E n q → Lasts S E n r
  unfolding Lasts Held
  lasts_close n (close i {s = s} {t = t} g o p h) (_, inl l) = (o, inl l)
  lasts_close n (close i {s = s} {t = t} g o p h) (_, inr e) = (o, inr (sym (h (n % 64) (slot_lt n)).number_same ∙ e))

  module _ (ms : List (List ℕ)) (wf : WellFormed E.good ms) where
    true_meant : (cs : List Rec) → Every (Faithful E ms) cs → Meant E E (SameBook E) (true_of ms cs) cs
    unfolding true_of
    true_meant [] h = none
    true_meant (c ∷ cs) h = more c.number h.0.means (true_meant cs h.1)

    true_copies : (cs : List Rec) → Every Numbered cs → Every (Faithful E ms) cs → Every (Copy ms) (true_of ms cs)
    unfolding true_of
    true_copies [] n h = tt
    true_copies (c ∷ cs) n h =
        ((record { number_from = n.0.number_from; number_to = n.0.number_to }, record { in_list = h.0.in_list; same = refl }), true_copies cs n.1 h.1)

    true_bounded : (cs : List Rec) → Every Numbered cs → Every (Faithful E ms) cs → Every Bounded (true_of ms cs)
    unfolding true_of
    true_bounded [] n h = tt
    true_bounded (c ∷ cs) n h =
        (record { number_to = n.0.number_to; short = msg_short S E L ms wf c.number n.0.number_from h.0.in_list }, true_bounded cs n.1 h.1)

    -- what means a good message is good, so it fits
    all_bounded : (cs : List Rec) → Every Numbered cs → Every (Faithful E ms) cs → Every Bounded cs
    all_bounded [] n h = tt
    all_bounded (c ∷ cs) n h =
        let good : E.good c.body ≡ true = h.0.means.as_good ∙ msg_good S E L ms wf c.number n.0.number_from h.0.in_list in
        (record { number_to = n.0.number_to; short = L.engine.good_fits c.body good }, all_bounded cs n.1 h.1)

    module _ (s0 : ℕ) (b0 : E.Book) (r0 : State S E) (cs : List Rec) (y : Ready S E ms s0 b0 r0) (n : Every Numbered cs) (h : Every (Faithful E ms) cs) where
      w : Every Bounded cs
      w = all_bounded cs n h

      abbrev ideal : State S E
      ideal = run S E (true_of ms cs) r0

      start_ok : S.Ok r0.shelf
      unfolding Follows
      start_ok = y.follows.1.ok_shelf

      near : Close S E E (SameBook E) ideal (run S E cs r0)
      near = run_close S E E (SameBook E) L.store (true_of ms cs) cs (true_meant cs h) (true_bounded cs n h) w (close_itself S E r0 start_ok)

      same : Agrees S E E (SameBook E) ideal (run S E cs r0)
      same = close_agrees S E E (SameBook E) near

      pub faithful_first : Made S E ms s0 b0 (run S E cs r0)
      faithful_first =
          let m : Made S E ms s0 b0 ideal = first_half S E L ms wf s0 b0 r0 (true_of ms cs) y (true_copies cs n h) in
          record { k = m.k; next_is = same.next_same ∙ m.next_is; within = m.within; book_is = m.book_is ∙ ap ok same.books_alike }

      named_too : Named S E ms s0 b0 ideal → Named S E ms s0 b0 (run S E cs r0)
      named_too m =
          record {
            k = m.k;
            next_is = same.next_same ∙ m.next_is;
            in_list = m.in_list;
            made_k = m.made_k ∙ ap ok same.books_alike;
            rule_named = rw same.stop_same m.rule_named;
            breaks = m.breaks ∙ ap broke (sym same.stop_same);
          }

      pub faithful_second : (j : ℕ) → ((i : ℕ) → s0 < i → i ≤ j → Answered S E i cs r0) → (j < (run S E cs r0).next) ⊎ Named S E ms s0 b0 (run S E cs r0)
      faithful_second j all =
          go (reached S E L ms wf s0 b0 ideal j (run_ready S E L ms wf s0 b0 (true_of ms cs) r0 (true_copies cs n h) y)
          (λ past l. lasts_close ideal.next near (answered_kept S E L ideal.next cs r0 (omega arith) (every_map Bounded Fitting bounded_fits cs w) start_ok (all ideal.next past l))))
        where
          go : (j < ideal.next) ⊎ Named S E ms s0 b0 ideal → (j < (run S E cs r0).next) ⊎ Named S E ms s0 b0 (run S E cs r0)
          go (inl l) = inl (rw same.next_same l)
          go (inr m) = inr (named_too m)
