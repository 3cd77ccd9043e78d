-- Demand 3 with refreshes: a taken refresh starts the invariant again from its own base, with what is left of the shelf, and loses no number that came.
-- Assumes nothing.
use Prim.Native.Nat.{ℕ, zero, suc, ◌+◌, ◌-◌, ◌%◌, ◌≤◌, ◌<◌}
use mathlib.Core.Path.{◌≡◌, refl, sym, ap, subst, ◌∙◌}
use mathlib.Core.Logic.{◌⊎◌, inl, inr}
use mathlib.Core.Bool.{Bool, true, false}
use mathlib.Core.List.{List}
use lib.ListN.{length}
use lib.Dec.{leb}
use native.Mathlib.Omega.{arith}
use native.Mathlib.Nat.{add-zero, add-suc}
use native.Mathlib.Decide.{ℕ_discrete}
use borrow.Author.Tests.{leb-true, leb-false}
use Rattle.facts.specs.Pick.{pick}
use Rattle.wire.specs.Le.{Bytes}
use Rattle.wire.proofs.Bytewise.{bytes_zeros}
use Rattle.arbitration.specs.Slots.{Slot, empty_slot}
use Rattle.arbitration.specs.Engine.{ok, Engine, Store, StoreLaws, Laws}
use Rattle.arbitration.specs.Receive.{State, slot_of, drain, after}
use Rattle.arbitration.specs.Lists.{msg, WellFormed, made}
use Rattle.arbitration.specs.Refresh.{cleared, refreshed, Event, after_e, run_e, Base, based, Fair, end, copy, anew, AnsweredE, here, by_refresh, later, Ideal, ideal}
use Rattle.arbitration.proofs.Window.{slot_lt}
use Rattle.arbitration.proofs.SlotLaws.{empty_fits, put_at}
use Rattle.arbitration.proofs.Invariant.{Shelved, free, held, Follows, copy_fits, made_before, made_keeps, drain_inv}
use Rattle.arbitration.proofs.Settled.{Held, Lasts, drained, drain_kept, after_kept, here_kept}
use Rattle.arbitration.proofs.Carried.{Carried}
use Rattle.arbitration.proofs.Halves.{Made, Named, Ready, follows_made, after_ready, reached}

-- ---- a cleared shelf
-- what a slot became
pub data Left (s : ℕ) (was now : Slot) : Type 0 where
  gone : was.number ≤ s → now ≡ empty_slot → Left s was now
  kept : s < was.number → now ≡ was → Left s was now

module _ (S : Store) where
  pub record Clear (s n : ℕ) (sh sh' : S.Shelf) : Type 0 where
    pub ok_shelf : S.Ok sh'
    pub done : (i : ℕ) → i < n → Left s (S.get sh i) (S.get sh' i)
    pub rest : (i : ℕ) → n ≤ i → i < 64 → S.get sh' i ≡ S.get sh i

module _ (S : Store) (L : StoreLaws S) where
  pub cleared_clear : (s n : ℕ) (sh : S.Shelf) → n ≤ 64 → S.Ok sh → Clear S s n sh (cleared S s n sh)
  unfolding cleared pick
  cleared_clear s zero sh h o = record { ok_shelf = o; done = λ i l. absurd (omega arith); rest = λ i l m. refl }
  cleared_clear s (suc n) sh h o = go (cleared S s n sh) (cleared_clear s n sh (omega arith) o) (leb (S.get (cleared S s n sh) n).number s) refl
    where
      go : (c : S.Shelf) → Clear S s n sh c → (t : Bool) → leb (S.get c n).number s ≡ t → Clear S s (suc n) sh (pick t (S.put c n empty_slot) c)
      go c v true e =
          let was : S.get c n ≡ S.get sh n = v.rest n (omega arith) (omega arith) in
          let low : (S.get sh n).number ≤ s = subst (λ (x : Slot). x.number ≤ s) was (leb-true (S.get c n).number s e) in
          record {
            ok_shelf = L.ok_put c n empty_slot v.ok_shelf (omega arith) empty_fits;
            done = λ i l.
                put_at S L c n empty_slot v.ok_shelf (omega arith) empty_fits (Left s (S.get sh i)) i (omega arith)
                (λ q. gone (subst (λ (j : ℕ). (S.get sh j).number ≤ s) (sym q) low) refl)
                (λ d. v.done i (omega arith));
            rest = λ i l m. put_at S L c n empty_slot v.ok_shelf (omega arith) empty_fits (λ x. x ≡ S.get sh i) i m (λ q. absurd (omega arith)) (λ d. v.rest i (omega arith) m);
          }
      go c v false e =
          let was : S.get c n ≡ S.get sh n = v.rest n (omega arith) (omega arith) in
          let high : s < (S.get sh n).number = subst (λ (x : Slot). s < x.number) was (leb-false (S.get c n).number s e) in
          record { ok_shelf = v.ok_shelf; done = λ i l. at i l (ℕ_discrete i n) was high; rest = λ i l m. v.rest i (omega arith) m }
        where
          at : (i : ℕ) → i < suc n → Dec (i ≡ n) → S.get c n ≡ S.get sh n → s < (S.get sh n).number → Left s (S.get sh i) (S.get c i)
          at i l (yes q) was high = subst (λ (j : ℕ). Left s (S.get sh j) (S.get c j)) (sym q) (kept high was)
          at i l (no q) was high = v.done i (omega arith)

module _ (S : Store) (E : Engine) (L : Laws S E) where
  -- ---- one refresh
  pub refresh_inv : (ms : List (List ℕ)) (s0 : ℕ) (b0 : E.Book) (s : ℕ) (b : E.Book) (r : State S E) → r.next ≤ s + 1 → s ≤ length ms → Follows S E ms s0 b0 r → Follows S E ms s b (refreshed S E s b r)
  unfolding Follows made
  refresh_inv ms s0 b0 s b r h l (k, v) = (
    0,
    record {
      ok_shelf = w.ok_shelf;
      next_is = omega arith;
      within = omega arith;
      book_is = refl;
      slots = λ i m. at i (w.done i m) (v.slots i m);
    },
  )
    where
      w : Clear S s 64 r.shelf (cleared S s 64 r.shelf)
      w = cleared_clear S L.store s 64 r.shelf (omega arith) v.ok_shelf

      at : (i : ℕ) {was now : Slot} → Left s was now → Shelved ms r.next i was → Shelved ms (s + 1) i now
      at i (gone p q) z = free (ap (λ (x : Slot). x.number) q)
      at i (kept p q) (free z) = absurd (omega arith)
      at i {was} (kept p q) (held m a2 a3 a4 a5 a6) =
          let e : was.number ≡ m = ap (λ (x : Slot). x.number) a6 in
          held m (omega arith) (omega arith) a4 a5 (q ∙ a6)

  pub refresh_ready : (ms : List (List ℕ)) (wf : WellFormed E.good ms) (s0 : ℕ) (b0 : E.Book) (s : ℕ) (b : E.Book) (r : State S E) → r.next ≤ s + 1 → s ≤ length ms
      → Ready S E ms s0 b0 r → Ready S E ms s b (drain S E 64 (refreshed S E s b r))
  unfolding Follows
  refresh_ready ms wf s0 b0 s b r h l y =
      let v : Follows S E ms s b (refreshed S E s b r) = refresh_inv ms s0 b0 s b r h l y.follows in
      record { follows = drain_inv S E L ms wf s b 64 (refreshed S E s b r) v; settled = drained S E L (refreshed S E s b r) v.1.ok_shelf }

  refresh_kept : (n s : ℕ) (b : E.Book) (r : State S E) → r.next ≤ s + 1 → Lasts S E n r → Lasts S E n (refreshed S E s b r)
  unfolding Lasts Held
  refresh_kept n s b r h (o, k) = (w.ok_shelf, go k (w.done (n % 64) (slot_lt n)))
    where
      w : Clear S s 64 r.shelf (cleared S s 64 r.shelf)
      w = cleared_clear S L.store s 64 r.shelf (omega arith) o

      go : (n < r.next) ⊎ ((slot_of S E r n).number ≡ n) → {now : Slot} → Left s (slot_of S E r n) now → (n < s + 1) ⊎ (now.number ≡ n)
      go (inl l) x = inl (omega arith)
      go (inr e) (gone p q) = inl (omega arith)
      go (inr e) (kept p q) = inr (ap (λ (x : Slot). x.number) q ∙ e)

  -- the shelf still holds bytes, and next is past 0
  pub refresh_carried : (s : ℕ) (b : E.Book) (r : State S E) → Carried S E r → Carried S E (refreshed S E s b r)
  refresh_carried s b r v = record { ok_shelf = w.ok_shelf; from_1 = omega arith; slots = λ i h. at (w.done i h) (v.slots i h) }
    where
      w : Clear S s 64 r.shelf (cleared S s 64 r.shelf)
      w = cleared_clear S L.store s 64 r.shelf (omega arith) v.ok_shelf

      at : {was now : Slot} → Left s was now → Bytes was.bytes → Bytes now.bytes
      at (gone p q) h = subst (λ (x : Slot). Bytes x.bytes) (sym q) (bytes_zeros 64)
      at (kept p q) h = subst (λ (x : Slot). Bytes x.bytes) (sym q) h

  behind : (n s : ℕ) (b : E.Book) (r : State S E) → S.Ok r.shelf → n ≤ s → Lasts S E n (refreshed S E s b r)
  unfolding Lasts Held
  behind n s b r o h = ((cleared_clear S L.store s 64 r.shelf (omega arith) o).ok_shelf, inl (omega arith))

  -- ---- runs with refreshes
  module _ (ms : List (List ℕ)) (wf : WellFormed E.good ms) where
    run_e_ready : (a : Base S E) (es : List (Event S E)) (r : State S E) → Fair S E ms es r → Ready S E ms a.at a.of r → Ready S E ms (based S E es a).at (based S E es a).of (run_e S E es r)
    unfolding run_e based after_e
    run_e_ready a es r end y = y
    run_e_ready a es r (copy {c = c} {es = fs} h t) y = run_e_ready a fs (after S E c r) t (after_ready S E L ms wf a.at a.of c r h y)
    run_e_ready a es r (anew {s = s} {b = b} {es = fs} h l t) y =
        run_e_ready (record { at = s; of = b }) fs (drain S E 64 (refreshed S E s b r)) t (refresh_ready ms wf a.at a.of s b r h l y)

    run_e_kept : (n : ℕ) (es : List (Event S E)) (r : State S E) → 1 ≤ n → Fair S E ms es r → Lasts S E n r → Lasts S E n (run_e S E es r)
    unfolding run_e after_e
    run_e_kept n es r p end k = k
    run_e_kept n es r p (copy {c = c} {es = fs} h t) k = run_e_kept n fs (after S E c r) p t (after_kept S E L n c r p (copy_fits S E L ms wf c h) k)
    run_e_kept n es r p (anew {s = s} {b = b} {es = fs} h l t) k =
        run_e_kept n fs (drain S E 64 (refreshed S E s b r)) p t (drain_kept S E L n 64 (refreshed S E s b r) (refresh_kept n s b r h k))

    answered_e_kept : (n : ℕ) (a : Base S E) (es : List (Event S E)) (r : State S E) → 1 ≤ n → Fair S E ms es r → Ready S E ms a.at a.of r → AnsweredE S E n es r → Lasts S E n (run_e S E es r)
    unfolding run_e after_e Follows
    answered_e_kept n a es r p end y x = elim x [ ]
    answered_e_kept n a es r p (copy {c = c} {es = fs} h t) y (here e w) =
        run_e_kept n fs (after S E c r) p t
        (subst (λ (m : ℕ). Lasts S E m (after S E c r)) e (here_kept S E L c r y.follows.1.ok_shelf (copy_fits S E L ms wf c h) w))
    answered_e_kept n a es r p (copy {c = c} {es = fs} h t) y (later x) =
        answered_e_kept n a fs (after S E c r) p t (after_ready S E L ms wf a.at a.of c r h y) x
    answered_e_kept n a es r p (anew {s = s} {b = b} {es = fs} h l t) y (by_refresh m) =
        run_e_kept n fs (drain S E 64 (refreshed S E s b r)) p t (drain_kept S E L n 64 (refreshed S E s b r) (behind n s b r y.follows.1.ok_shelf m))
    answered_e_kept n a es r p (anew {s = s} {b = b} {es = fs} h l t) y (later x) =
        answered_e_kept n (record { at = s; of = b }) fs (drain S E 64 (refreshed S E s b r)) p t (refresh_ready ms wf a.at a.of s b r h l y) x

    -- the book is the last refresh's with what came after s
    pub refreshed_first : (a : Base S E) (es : List (Event S E)) (r0 : State S E) → Ready S E ms a.at a.of r0 → Fair S E ms es r0
        → Made S E ms (based S E es a).at (based S E es a).of (run_e S E es r0)
    refreshed_first a es r0 y f = follows_made S E ms _ _ (run_e S E es r0) (run_e_ready a es r0 f y).follows

    pub refreshed_second : (a : Base S E) (es : List (Event S E)) (r0 : State S E) (j : ℕ) → Ready S E ms a.at a.of r0 → Fair S E ms es r0
        → ((n : ℕ) → 0 < n → n ≤ j → (n ≤ a.at) ⊎ AnsweredE S E n es r0)
        → (j < (run_e S E es r0).next) ⊎ Named S E ms (based S E es a).at (based S E es a).of (run_e S E es r0)
    unfolding Lasts Held Follows
    refreshed_second a es r0 j y f all =
        reached S E L ms wf _ _ (run_e S E es r0) j (run_e_ready a es r0 f y) (λ past l. from (omega arith) (all _ (omega arith) l))
      where
        from : 1 ≤ (run_e S E es r0).next → ((run_e S E es r0).next ≤ a.at) ⊎ AnsweredE S E (run_e S E es r0).next es r0 → Lasts S E (run_e S E es r0).next (run_e S E es r0)
        from p (inl l) = run_e_kept (run_e S E es r0).next es r0 p f (y.follows.1.ok_shelf, inl (omega (arith, y.follows.1.next_is)))
        from p (inr x) = answered_e_kept (run_e S E es r0).next a es r0 p f y x

-- ---- without rank or place
-- lists of good messages that are made of bytes
module _ (E : Engine) (I : Ideal E) (ms : List (List ℕ)) (wf : WellFormed E.good ms) (bytes : (n : ℕ) → Bytes (msg ms n)) where
  ideal_suc : (a : I.View) (n : ℕ) (z : I.View) → ideal E I ms a n ≡ ok z → ideal E I ms a (suc n) ≡ I.step (suc n) (msg ms (suc n)) z
  unfolding ideal
  ideal_suc a n z e = rw (e, ideal)

  made_sound : (s : ℕ) (b : E.Book) (k : ℕ) (x : E.Book) → s + k ≤ length ms → I.Sound b → made E ms s b k ≡ ok x → I.Sound x
  made_sound s b k x l o e =
      made_keeps E ms s b (λ _. I.Sound) o
      (λ j y z h v. I.keeps (s + suc j) (msg ms (s + suc j)) y z (omega arith) (bytes (s + suc j)) (wf (s + suc j - 1) (omega arith)) v) k x l e

  -- if the refresh is the list's state at s (as a view), then what the receiver made after it is the list's state too
  pub made_ideal : (a : I.View) (s : ℕ) (b : E.Book) (k : ℕ) (x : E.Book) → s + k ≤ length ms → I.Sound b → ideal E I ms a s ≡ ok (I.view b) → made E ms s b k ≡ ok x → ideal E I ms a (s + k) ≡ ok (I.view x)
  unfolding made ideal
  made_ideal a s b zero x l o p e = rw add-zero (cc)
  made_ideal a s b (suc k) x l o p e =
      let w = made_before E ms s b k x e in
      ap (ideal E I ms a) (add-suc s k) ∙ ideal_suc a (s + k) (I.view w.0) (made_ideal a s b k w.0 (omega arith) o p w.1)
      ∙ subst (λ (n : ℕ). I.step n (msg ms n) (I.view w.0) ≡ ok (I.view x)) (add-suc s k) (I.law (s + suc k) (msg ms (s + suc k)) w.0 x (omega arith) (bytes (s + suc k)) (wf (s + suc k - 1) (omega arith)) (made_sound s b k w.0 (omega arith) o w.1) w.2)

  -- two receivers, refreshed where they like, agree in the view
  pub agree_ideal : (S : Store) (a : I.View) (s s' : ℕ) (b b' : E.Book) (r r' : State S E)
      → I.Sound b → I.Sound b' → ideal E I ms a s ≡ ok (I.view b) → ideal E I ms a s' ≡ ok (I.view b') → Made S E ms s b r → Made S E ms s' b' r' → r.next ≡ r'.next → I.view r.book ≡ I.view r'.book
  agree_ideal S a s s' b b' r r' o o' p p' m m' e =
      let q : s + m.k ≡ s' + m'.k = omega arith in
      let x : ideal E I ms a (s + m.k) ≡ ok (I.view r.book) = made_ideal a s b m.k r.book m.within o p m.book_is in
      let y : ideal E I ms a (s' + m'.k) ≡ ok (I.view r'.book) = made_ideal a s' b' m'.k r'.book m'.within o' p' m'.book_is in
      cc (x, y, q)
