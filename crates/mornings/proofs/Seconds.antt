-- What is the same stays the same under a function, so a repeat stays a repeat; and where a differing copy becomes one, the function has made it and the first copy, which waits in its slot, the same.
-- Assumes nothing.
use Prim.Native.Nat.{ℕ, zero, suc, ◌+◌, ◌%◌, ◌≤◌, ◌<◌}
use mathlib.Core.Path.{◌≡◌, refl, sym, ap, subst, ◌∙◌}
use mathlib.Core.Logic.{◌≢◌, ◌⊎◌, inl, inr}
use mathlib.Core.Bool.{Bool, true, false, true≢false}
use mathlib.Core.List.{List, [], ◌∷◌}
use native.Mathlib.Omega.{arith}
use native.Mathlib.Decide.{ℕ_discrete}
use borrow.Author.Tests.{eqb-false}
use lib.Dec.{eqb, ltb, leb}
use lib.ListN.{length, get_or}
use lib.Seq.{ext_get_or}
use Rattle.facts.specs.Pick.{pick}
use Rattle.wire.specs.Records.{Rec, rec}
use Rattle.arbitration.specs.Slots.{Slot, empty_slot, slot_for, slot_body, same_slot, Fits}
use Rattle.arbitration.specs.Engine.{Engine, Store, StoreLaws}
use Rattle.arbitration.specs.Receive.{Answer, taken, old, too_far, repeated, differing, judge, Said, counts_of, no_counts, Try, nothing, stuck, goes, good_slot, State, slot_of, turned, drain, shelved, judged, acted, after, run, said}
use Rattle.arbitration.specs.Lists.{Every, Numbered, Bounded, Zeroed}
use Rattle.arbitration.specs.Loops.{counted}
use Rattle.arbitration.specs.Meaning.{Means, Meant, more, SlotMeans, Close, close}
use Rattle.arbitration.specs.declared.Counts.{Counts}
use Rattle.arbitration.proofs.Window.{slot_lt}
use Rattle.arbitration.proofs.SlotLaws.{empty_fits, body_back, same_refl, same_eq}
use Rattle.arbitration.proofs.Turns.{short_good}
use Rattle.arbitration.proofs.Tallies.{plus, counts_added}
use Rattle.arbitration.proofs.Range.{bounded_fits}
use Rattle.arbitration.proofs.SameLaws.{TryAlike, no_one, both_stuck, both_go}
use Rattle.arbitration.proofs.MeaningLaws.{try_close, zeroed_close}
use Rattle.retype.specs.Retyped.{Asked, is_update, retyped}
use Rattle.retype.proofs.Laws.{ButFor20, retyped_same, retyped_length, retyped_no, update_kept}
use Rattle.mornings.specs.Seconds.{rec_by, recs_by, StaysShort, SlotTo, both_empty, both_hold, Kept, Firm, Merged, AnswerTo, as_before, now_repeats, SaidTo, nothing_said, said_next, CountsTo, SomeMerged, this_one, one_behind, DifferIn20}

-- one slot holds one number and one body
one_body : (m n : ℕ) (b c : List ℕ) → length b ≤ 64 → length c ≤ 64 → slot_for m b ≡ slot_for n c → b ≡ c
one_body m n b c lb lc e = sym (body_back m b lb) ∙ ap slot_body e ∙ body_back n c lc

one_number : (m n : ℕ) (b c : List ℕ) → slot_for m b ≡ slot_for n c → m ≡ n
one_number m n b c e = ap (λ (s : Slot). s.number) e

-- ---- one record
module _ (f : List ℕ → List ℕ) (short : StaysShort f) (n : ℕ) (b : List ℕ) (lb : length b ≤ 64) (s t : Slot) where
  number_to : SlotTo f s t → t.number ≡ s.number
  number_to (both_empty p q) = q ∙ sym p
  number_to (both_hold m b0 v l p q) = ap (λ (x : Slot). x.number) q ∙ sym (ap (λ (x : Slot). x.number) p)

  -- the same bytes before are the same bytes after
  still_repeats : s.number ≢ 0 → SlotTo f s t → same_slot s (slot_for n b) ≡ true → same_slot t (slot_for n (f b)) ≡ true
  still_repeats z (both_empty p q) e = absurd (z p)
  still_repeats z (both_hold m b0 v l p q) e =
      let k : slot_for m b0 ≡ slot_for n b = sym p ∙ same_eq s (slot_for n b) e in
      let number : m ≡ n = one_number m n b0 b k in
      let body : b0 ≡ b = one_body m n b0 b l lb k in
      let is : t ≡ slot_for n (f b) = q ∙ (λ i. slot_for (number i) (f (body i))) in
      subst (λ (x : Slot). same_slot x (slot_for n (f b)) ≡ true) (sym is) (same_refl (slot_for n (f b)))

  -- and where they are the same after alone, f has made them so
  now_merged : s.number ≢ 0 → SlotTo f s t → same_slot s (slot_for n b) ≡ false → same_slot t (slot_for n (f b)) ≡ true → Merged f s (rec n b)
  now_merged z (both_empty p q) d e = absurd (z p)
  now_merged z (both_hold m b0 v l p q) d e =
      let k : slot_for m (f b0) ≡ slot_for n (f b) = sym q ∙ same_eq t (slot_for n (f b)) e in
      let number : m ≡ n = one_number m n (f b0) (f b) k in
      let waits : s ≡ slot_for n b0 = p ∙ ap (λ (x : ℕ). slot_for x b0) number in
      record {
        first = b0;
        first_short = l;
        waits = waits;
        other = λ h. true≢false (sym (subst (λ (x : Slot). same_slot x (slot_for n b) ≡ true) (sym (waits ∙ ap (slot_for n) h)) (same_refl (slot_for n b))) ∙ d);
        made_same = one_body m n (f b0) (f b) (short b0 l) (short b lb) k;
      }

  judge_to : (next : ℕ) → SlotTo f s t → AnswerTo f s (rec n b) (judge next s (rec n b)) (judge next t (rec n (f b)))
  unfolding judge pick
  judge_to next h =
      subst (λ (x : ℕ). AnswerTo f s (rec n b) (judge next s (rec n b)) (by_tests (eqb x 0) (same_slot t (slot_for n (f b))))) (sym (number_to h))
      (go (ltb n next) (leb (next + 64) n) (eqb s.number 0) (same_slot s (slot_for n b)) (same_slot t (slot_for n (f b))) refl refl refl)
    where
      by_tests : Bool → Bool → Answer
      by_tests u v = pick (ltb n next) old (pick (leb (next + 64) n) too_far (pick u taken (pick v repeated differing)))

      go : (x d u v w : Bool) → eqb s.number 0 ≡ u → same_slot s (slot_for n b) ≡ v → same_slot t (slot_for n (f b)) ≡ w
          → AnswerTo f s (rec n b) (pick x old (pick d too_far (pick u taken (pick v repeated differing)))) (pick x old (pick d too_far (pick u taken (pick w repeated differing))))
      go true d u v w p q r = as_before old
      go false true u v w p q r = as_before too_far
      go false false true v w p q r = as_before taken
      go false false false true true p q r = as_before repeated
      go false false false true false p q r = absurd (true≢false (sym (still_repeats (eqb-false s.number 0 p) h q) ∙ r))
      go false false false false true p q r = now_repeats (now_merged (eqb-false s.number 0 p) h q r)
      go false false false false false p q r = as_before differing

-- ---- counts, one answer after another
one_to : {f : List ℕ → List ℕ} {s : Slot} {c : Rec} {a b : Answer} → AnswerTo f s c a b → CountsTo (counted a no_counts) (counted b no_counts)
one_to (as_before a) = record { alike = record { taken_same = refl; old_same = refl; far_same = refl; seconds_same = refl }; repeats_stay = omega arith }
one_to (now_repeats m) = record { alike = record { taken_same = refl; old_same = refl; far_same = refl; seconds_same = refl }; repeats_stay = omega arith }

plus_to : (a b c d : Counts) → CountsTo a b → CountsTo c d → CountsTo (plus a c) (plus b d)
plus_to a b c d h g =
    record {
      alike = record {
        taken_same = λ i. h.alike.taken_same i + g.alike.taken_same i;
        old_same = λ i. h.alike.old_same i + g.alike.old_same i;
        far_same = λ i. h.alike.far_same i + g.alike.far_same i;
        seconds_same = omega (arith, h.alike.seconds_same, g.alike.seconds_same);
      };
      repeats_stay = omega (arith, h.repeats_stay, g.repeats_stay);
    }

module _ (f : List ℕ → List ℕ) (S : Store) (E : Engine) where
  pub counts_to : {r : State S E} {cs : List Rec} {l m : List Said} → SaidTo f S E r cs l m → CountsTo (counts_of l) (counts_of m)
  counts_to (nothing_said r) = record { alike = record { taken_same = refl; old_same = refl; far_same = refl; seconds_same = refl }; repeats_stay = omega arith }
  counts_to (said_next r c {a = a} {b = b} {l = l} {m = m} e h) =
      rw (← (counts_added a c.number l), ← (counts_added b c.number m)) (plus_to (counted a no_counts) (counted b no_counts) (counts_of l) (counts_of m) (one_to e) (counts_to h))

  -- where any count is other than before, some record is one that only f made the same as its first copy
  pub counts_or_merged : {r : State S E} {cs : List Rec} {l m : List Said} → SaidTo f S E r cs l m → (counts_of m ≡ counts_of l) ⊎ SomeMerged f S E r cs
  counts_or_merged (nothing_said r) = inl refl
  counts_or_merged (said_next r c (now_repeats e) h) = inr (this_one r c e)
  counts_or_merged (said_next r c {cs = cs} {l = l} {m = m} (as_before a) h) = go (counts_or_merged h)
    where
      go : (counts_of m ≡ counts_of l) ⊎ SomeMerged f S E (after S E c r) cs → (counts_of (record { number = c.number; answer = a } ∷ m) ≡ counts_of (record { number = c.number; answer = a } ∷ l)) ⊎ SomeMerged f S E r (c ∷ cs)
      go (inl e) = inl (sym (counts_added a c.number m) ∙ ap (plus (counted a no_counts)) e ∙ counts_added a c.number l)
      go (inr e) = inr (one_behind r c e)

-- ---- pairs of slots after puts into the same slot
module _ (S : Store) (L : StoreLaws S) (P : Slot → Slot → Type 0) where
  put_both : (s t : S.Shelf) (i : ℕ) (x y : Slot) → S.Ok s → S.Ok t → i < 64 → Fits x → Fits y → P x y
      → ((j : ℕ) → j < 64 → P (S.get s j) (S.get t j)) → (j : ℕ) → j < 64 → P (S.get (S.put s i x) j) (S.get (S.put t i y) j)
  put_both s t i x y o p l fx fy m h j k = go (ℕ_discrete j i)
    where
      go : Dec (j ≡ i) → P (S.get (S.put s i x) j) (S.get (S.put t i y) j)
      go (yes e) = rw (e, L.get_same s i x o l fx, L.get_same t i y p l fy) m
      go (no n) = rw (L.get_other s i j x o l k n fx, L.get_other t i j y p l k n fy) (h j k)

-- ---- what meant records have in their front
module _ (E F : Engine) (R : E.Book → F.Book → Type 0) where
  meant_first : {b c : Rec} {bs cs : List Rec} → Meant E F R (b ∷ bs) (c ∷ cs) → Means E F R b.body c.body
  meant_first (more n m ms) = m

  meant_rest : {b c : Rec} {bs cs : List Rec} → Meant E F R (b ∷ bs) (c ∷ cs) → Meant E F R bs cs
  meant_rest (more n m ms) = ms

  -- the slots of two records (as in MeaningLaws)
  means_for : (n : ℕ) (b c : List ℕ) → length b ≤ 64 → length c ≤ 64 → Means E F R b c → SlotMeans E F R (slot_for n b) (slot_for n c)
  means_for n b c lb lc m =
      let x : slot_body (slot_for n b) ≡ b = body_back n b lb in
      let y : slot_body (slot_for n c) ≡ c = body_back n c lc in
      let good : good_slot E (slot_for n b) ≡ E.good b = short_good E (slot_for n b) lb ∙ ap E.good x in
      record {
        number_same = refl;
        as_good = λ v. short_good F (slot_for n c) lc ∙ ap F.good y ∙ m.as_good ∙ sym good;
        as_applied = λ k l v g r. rw (x, y) (m.as_applied n k l v (sym good ∙ g) r);
      }

  means_none : SlotMeans E F R empty_slot empty_slot
  means_none = record { number_same = refl; as_good = λ v. absurd (omega arith); as_applied = λ x y v. absurd (omega arith) }

-- ---- they stay so
module _ (f : List ℕ → List ℕ) (short : StaysShort f) (S : Store) (E F : Engine) (R : E.Book → F.Book → Type 0) where
  -- what is answered to one record
  pub judged_to : {r : State S E} {q : State S F} (c : Rec) → length c.body ≤ 64 → Firm f S E F R r q → AnswerTo f (slot_of S E r c.number) c (judged S E c r) (judged S F (rec_by f c) q)
  judged_to {r} {q} c lb d = go d.near (d.kept (c.number % 64) (slot_lt c.number))
    where
      go : {r : State S E} {q : State S F} → Close S E F R r q → SlotTo f (slot_of S E r c.number) (slot_of S F q c.number) → AnswerTo f (slot_of S E r c.number) c (judged S E c r) (judged S F (rec_by f c) q)
      go (close n {s = s} {t = t} _ o p h) k = judge_to f short c.number c.body lb (S.get s (c.number % 64)) (S.get t (c.number % 64)) n k

  -- two starts from alike books
  pub started_to : {b0 : E.Book} {c0 : F.Book} {r : State S E} {q : State S F} → R b0 c0 → Zeroed S E b0 r → Zeroed S F c0 q → Firm f S E F R r q
  started_to g z w = record { near = zeroed_close S E F R g z w; kept = λ i l. both_empty (z.shelf_empty i l) (w.shelf_empty i l) }

  module _ (L : StoreLaws S) where
    turn_to : {r : State S E} {q : State S F} {x : E.Book} {y : F.Book} → R x y → Close S E F R r q → Kept f S r.shelf q.shelf → Firm f S E F R (turned S E r x) (turned S F q y)
    turn_to g (close n {s = s} {t = t} _ o p h) k =
        record {
          near = close (n + 1) g (L.ok_put s (n % 64) empty_slot o (slot_lt n) empty_fits) (L.ok_put t (n % 64) empty_slot p (slot_lt n) empty_fits)
              (put_both S L (SlotMeans E F R) s t (n % 64) empty_slot empty_slot o p (slot_lt n) empty_fits empty_fits (means_none E F R) h);
          kept = put_both S L (SlotTo f) s t (n % 64) empty_slot empty_slot o p (slot_lt n) empty_fits empty_fits (both_empty refl refl) k;
        }

    -- both apply the message of next, or neither does
    drain_to : (g : ℕ) {r : State S E} {q : State S F} → Firm f S E F R r q → Firm f S E F R (drain S E g r) (drain S F g q)
    unfolding drain
    drain_to zero d = d
    drain_to (suc g) {r} {q} d = go (try_close S E F R d.near) (λ r' q' e. drain_to g e)
      where
        go : {a : Try E.Book} {b : Try F.Book} → TryAlike R a b → ((r' : State S E) (q' : State S F) → Firm f S E F R r' q' → Firm f S E F R (drain S E g r') (drain S F g q'))
            → Firm f S E F R (elim a [ nothing ↦ r | stuck x ↦ r | goes b ↦ drain S E g (turned S E r b) ]) (elim b [ nothing ↦ q | stuck x ↦ q | goes b ↦ drain S F g (turned S F q b) ])
        go no_one ih = d
        go (both_stuck x) ih = d
        go (both_go e) ih = ih _ _ (turn_to e d.near d.kept)

    shelve_to : {r : State S E} {q : State S F} (n : ℕ) (b : List ℕ) → 1 ≤ n → Bounded (rec n b) → Bounded (rec n (f b)) → Means E F R b (f b) → Close S E F R r q → Kept f S r.shelf q.shelf
        → Firm f S E F R (shelved S E (rec n b) r) (shelved S F (rec n (f b)) q)
    shelve_to n b v wb wc m (close i {s = s} {t = t} g o p h) k =
        let fb : Fits (slot_for n b) = bounded_fits (rec n b) wb in
        let fc : Fits (slot_for n (f b)) = bounded_fits (rec n (f b)) wc in
        record {
          near = close i g (L.ok_put s (n % 64) (slot_for n b) o (slot_lt n) fb) (L.ok_put t (n % 64) (slot_for n (f b)) p (slot_lt n) fc)
              (put_both S L (SlotMeans E F R) s t (n % 64) (slot_for n b) (slot_for n (f b)) o p (slot_lt n) fb fc (means_for E F R n b (f b) wb.short wc.short m) h);
          kept = put_both S L (SlotTo f) s t (n % 64) (slot_for n b) (slot_for n (f b)) o p (slot_lt n) fb fc (both_hold n b v wb.short refl refl) k;
        }

    bounded_to : (c : Rec) → Bounded c → Bounded (rec_by f c)
    bounded_to c w = record { number_to = w.number_to; short = short c.body w.short }

    pub after_to : {r : State S E} {q : State S F} (c : Rec) → Numbered c → Bounded c → Means E F R c.body (f c.body) → Firm f S E F R r q → Firm f S E F R (after S E c r) (after S F (rec_by f c) q)
    unfolding after
    after_to {r} {q} c v w m d = go (judged_to c w.short d)
      where
        go : {x y : Answer} → AnswerTo f (slot_of S E r c.number) c x y → Firm f S E F R (acted S E x c r) (acted S F y (rec_by f c) q)
        go (as_before taken) = drain_to 64 (shelve_to c.number c.body v.number_from w (bounded_to c w) m d.near d.kept)
        go (as_before old) = d
        go (as_before too_far) = d
        go (as_before repeated) = d
        go (as_before differing) = d
        go (now_repeats e) = d

    -- ---- a run
    pub run_to : {r : State S E} {q : State S F} (cs : List Rec) → Meant E F R cs (recs_by f cs) → Every Numbered cs → Every Bounded cs → Firm f S E F R r q → Firm f S E F R (run S E cs r) (run S F (recs_by f cs) q)
    unfolding run
    run_to [] m v w d = d
    run_to {r = r} {q = q} (c ∷ cs) m v w d = run_to {r = after S E c r} {q = after S F (rec_by f c) q} cs (meant_rest E F R m) v.1 w.1 (after_to c v.0 w.0 (meant_first E F R m) d)

    -- every answer
    pub said_to : {r : State S E} {q : State S F} (cs : List Rec) → Meant E F R cs (recs_by f cs) → Every Numbered cs → Every Bounded cs → Firm f S E F R r q → SaidTo f S E r cs (said S E cs r) (said S F (recs_by f cs) q)
    unfolding said
    said_to {r} [] m v w d = nothing_said r
    said_to {r} {q} (c ∷ cs) m v w d = said_next r c (judged_to c w.0.short d) (said_to {r = after S E c r} {q = after S F (rec_by f c) q} cs (meant_rest E F R m) v.1 w.1 (after_to c v.0 w.0 (meant_first E F R m) d))

    -- and how many got each: a repeat before is one after
    pub said_counts : {r : State S E} {q : State S F} (cs : List Rec) → Meant E F R cs (recs_by f cs) → Every Numbered cs → Every Bounded cs → Firm f S E F R r q → CountsTo (counts_of (said S E cs r)) (counts_of (said S F (recs_by f cs) q))
    said_counts cs m v w d = counts_to f S E (said_to cs m v w d)

-- ---- bodies retyped
module _ (a : Asked) where
  pub retyped_short : StaysShort (retyped a)
  retyped_short b l = omega (arith, retyped_length a b)

  -- what is retyped to the same was the same but for byte 20
  pub same_but_20 : (b c : List ℕ) → retyped a b ≡ retyped a c → ButFor20 b c
  same_but_20 b c e k n = sym (retyped_same a c k n) ∙ ap (λ (x : List ℕ). get_or x k 0) (sym e) ∙ retyped_same a b k n

  -- and if it was not the same, in that byte of two Symbol Updates: no other body is changed
  pub differ_in_20 : (b c : List ℕ) → b ≢ c → retyped a b ≡ retyped a c → DifferIn20 b c
  differ_in_20 b c d e =
      let len : length c ≡ length b = sym (retyped_length a c) ∙ ap length (sym e) ∙ retyped_length a b in
      let kind : is_update b ≡ is_update c = sym (update_kept a b) ∙ ap is_update e ∙ update_kept a c in
      let is : is_update b ≡ true = sure (is_update b) refl kind in
      record { update = is; update' = sym kind ∙ is; length_same = len; but_for_20 = same_but_20 b c e; byte_20 = λ h. d (ext_get_or 0 b c (sym len) (λ k l. at h k (ℕ_discrete k 20))) }
    where
      sure : (t : Bool) → is_update b ≡ t → is_update b ≡ is_update c → is_update b ≡ true
      sure true u kind = u
      sure false u kind = absurd (d (sym (retyped_no a b u) ∙ e ∙ retyped_no a c (sym kind ∙ u)))

      at : get_or b 20 0 ≡ get_or c 20 0 → (k : ℕ) → Dec (k ≡ 20) → get_or b k 0 ≡ get_or c k 0
      at h k (yes n) = rw n h
      at h k (no n) = sym (same_but_20 b c e k n)

  -- a second copy that is answered 14 before and 13 after: byte 20 alone is other than in the first copy, which waits in its slot
  pub merged_in_20 : (s : Slot) (c : Rec) → (m : Merged (retyped a) s c) → DifferIn20 m.first c.body
  merged_in_20 s c m = differ_in_20 m.first c.body m.other m.made_same
