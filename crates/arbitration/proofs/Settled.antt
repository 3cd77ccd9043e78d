-- 64 turns are enough, on any shelf: after f turns fewer the slots of the window's last numbers are free, and at 0 so is that of next. And no number
-- that was answered as taken, repeated or old is lost: it is behind next, or its slot holds it.
-- Assumes nothing.
use Prim.Native.Nat.{ℕ, zero, suc, ◌+◌, ◌%◌, ◌≤◌, ◌<◌}
use mathlib.Core.Path.{◌≡◌, refl, sym, ap, subst, ◌∙◌}
use mathlib.Core.Logic.{◌≢◌, ◌⊎◌, inl, inr}
use mathlib.Core.List.{List, [], ◌∷◌}
use native.Mathlib.Omega.{arith}
use Rattle.wire.specs.Records.{Rec}
use Rattle.arbitration.specs.Slots.{Slot, empty_slot, slot_for, Fits}
use Rattle.arbitration.specs.Engine.{Engine, Store, Laws}
use Rattle.arbitration.specs.Receive.{Answer, taken, old, too_far, repeated, differing, Try, nothing, stuck, goes, State, slot_of, try, turned, drain, shelved, judged, after, run, said}
use Rattle.arbitration.specs.Lists.{Every, Arrived, by_taken, by_old, by_repeated, here, later, Answered}
use Rattle.arbitration.proofs.Window.{slot_lt, slot_wrap}
use Rattle.arbitration.proofs.SlotLaws.{empty_fits, same_number, put_at}
use Rattle.arbitration.proofs.Turns.{nothing≢goes, stuck≢goes, Went, try_goes, drain_keeps}
use Rattle.arbitration.proofs.Answers.{shows, after_of, after_cases, run_keeps}

-- a record that its slot can hold
abbrev pub Fitting : Rec → Type 0
Fitting c = Fits (slot_for c.number c.body)

module _ (S : Store) (E : Engine) where
  -- nothing more can be applied
  unfoldable pub Settled : State S E → Type 0
  Settled r = (b : E.Book) → try S E r ≢ goes b

  -- f turns are enough: from next + f on, the window's slots are free
  pub record Enough (f : ℕ) (r : State S E) : Type 0 where
    pub ok_shelf : S.Ok r.shelf
    pub rest_free : (m : ℕ) → r.next + f ≤ m → m < r.next + 64 → (slot_of S E r m).number ≡ 0

  -- ---- a number that came is behind next, or its slot is one of which P holds; the shelf has its size
  abbrev pub LastsBy : (Slot → Type 0) → ℕ → State S E → Type 0
  LastsBy P n r = S.Ok r.shelf × ((n < r.next) ⊎ P (slot_of S E r n))

  -- a number that came is behind next or on the shelf
  unfoldable pub Held : ℕ → State S E → Type 0
  Held n r = (n < r.next) ⊎ ((slot_of S E r n).number ≡ n)

  unfoldable pub Lasts : ℕ → State S E → Type 0
  Lasts n r = S.Ok r.shelf × Held n r

module _ (S : Store) (E : Engine) (L : Laws S E) where
  turn_enough : (f : ℕ) (r : State S E) (b : E.Book) → Enough S E (suc f) r → Enough S E f (turned S E r b)
  turn_enough f r b n =
      record {
        ok_shelf = L.store.ok_put _ _ empty_slot n.ok_shelf (slot_lt r.next) empty_fits;
        rest_free = λ m h l.
            put_at S L.store r.shelf (r.next % 64) empty_slot n.ok_shelf (slot_lt r.next) empty_fits (λ s. s.number ≡ 0) (m % 64) (slot_lt m)
            (λ e. refl)
            (λ d. n.rest_free m (omega arith) (omega (arith, slot_wrap r.next)));
      }

  drain_settles : (f : ℕ) (r : State S E) → Enough S E f r → Settled S E (drain S E f r)
  unfolding drain Settled
  drain_settles zero r n = λ b e. (try_goes S E r b e).number_not_0 (n.rest_free r.next (omega arith) (omega arith))
  drain_settles (suc f) r n = go (try S E r) refl (λ r' n'. drain_settles f r' n')
    where
      go : (t : Try E.Book) → try S E r ≡ t → ((r' : State S E) → Enough S E f r' → Settled S E (drain S E f r')) → Settled S E (elim t [ nothing ↦ r | stuck q ↦ r | goes b ↦ drain S E f (turned S E r b) ])
      go nothing e ih = λ b q. nothing≢goes (sym e ∙ q)
      go (stuck s) e ih = λ b q. stuck≢goes (sym e ∙ q)
      go (goes x) e ih = ih (turned S E r x) (turn_enough f r x n)

  pub drained : (r : State S E) → S.Ok r.shelf → Settled S E (drain S E 64 r)
  drained r o = drain_settles 64 r (record { ok_shelf = o; rest_free = λ m h l. absurd (omega arith) })

  pub after_settled : (c : Rec) (r : State S E) → Fitting c → S.Ok r.shelf → Settled S E r → Settled S E (after S E c r)
  after_settled c r fit o s = after_cases S E (Settled S E) c r s (λ e. drained (shelved S E c r) (L.store.ok_put _ _ _ o (slot_lt c.number) fit))

  -- ---- a number that came is kept, by anything that tells its slot's number
  module _ (P : Slot → Type 0) (n : ℕ) (numbered : (s : Slot) → P s → s.number ≡ n) where
    turn_lasts : (r : State S E) (b : E.Book) → Went S E r b → LastsBy S E P n r → LastsBy S E P n (turned S E r b)
    turn_lasts r b w (o, h) = (
      L.store.ok_put _ _ empty_slot o (slot_lt r.next) empty_fits,
      put_at S L.store r.shelf (r.next % 64) empty_slot o (slot_lt r.next) empty_fits (λ s. (n < r.next + 1) ⊎ P s) (n % 64) (slot_lt n) (gone h) (λ d. still h),
    )
      where
        gone : (n < r.next) ⊎ P (slot_of S E r n) → n % 64 ≡ r.next % 64 → (n < r.next + 1) ⊎ P empty_slot
        gone (inl l) e = inl (omega arith)
        gone (inr s) e =
            let q : n ≡ r.next = sym (numbered (slot_of S E r n) s) ∙ ap (λ (i : ℕ). (S.get r.shelf i).number) e ∙ w.number_is in
            inl (omega arith)

        still : (n < r.next) ⊎ P (slot_of S E r n) → (n < r.next + 1) ⊎ P (slot_of S E r n)
        still (inl l) = inl (omega arith)
        still (inr s) = inr s

    pub drain_lasts : (f : ℕ) (r : State S E) → LastsBy S E P n r → LastsBy S E P n (drain S E f r)
    drain_lasts f r v = drain_keeps S E (LastsBy S E P n) turn_lasts f r v

    -- another record that is taken lies in a slot that was empty
    shelve_lasts : (c : Rec) (r : State S E) → 1 ≤ n → Fitting c → judged S E c r ≡ taken → LastsBy S E P n r → LastsBy S E P n (shelved S E c r)
    shelve_lasts c r p fit e (o, h) = (
      L.store.ok_put _ _ _ o (slot_lt c.number) fit,
      put_at S L.store r.shelf (c.number % 64) (slot_for c.number c.body) o (slot_lt c.number) fit (λ s. (n < r.next) ⊎ P s) (n % 64) (slot_lt n) (gone h) (λ d. h),
    )
      where
        gone : (n < r.next) ⊎ P (slot_of S E r n) → n % 64 ≡ c.number % 64 → (n < r.next) ⊎ P (slot_for c.number c.body)
        gone (inl l) q = inl l
        gone (inr s) q =
            let z : n ≡ 0 = sym (numbered (slot_of S E r n) s) ∙ ap (λ (i : ℕ). (S.get r.shelf i).number) q ∙ (shows r.next (slot_of S E r c.number) c taken e).2 in
            absurd (omega arith)

    pub after_lasts : (c : Rec) (r : State S E) → 1 ≤ n → Fitting c → LastsBy S E P n r → LastsBy S E P n (after S E c r)
    after_lasts c r p fit v = after_cases S E (LastsBy S E P n) c r v (λ e. drain_lasts 64 (shelved S E c r) (shelve_lasts c r p fit e v))

    pub run_lasts : (cs : List Rec) (r : State S E) → 1 ≤ n → Every Fitting cs → LastsBy S E P n r → LastsBy S E P n (run S E cs r)
    run_lasts cs r p h v = run_keeps S E (LastsBy S E P n) Fitting (λ c r fit v. after_lasts c r p fit v) cs r h v

  -- a record that is taken lasts by its own slot
  pub taken_lasts : (P : Slot → Type 0) (c : Rec) (r : State S E) → ((s : Slot) → P s → s.number ≡ c.number) → Fitting c → S.Ok r.shelf → judged S E c r ≡ taken
      → P (slot_for c.number c.body) → LastsBy S E P c.number (after S E c r)
  taken_lasts P c r numbered fit o e p =
      rw (after_of S E c r taken e)
      (drain_lasts P c.number numbered 64 (shelved S E c r) (
        L.store.ok_put _ _ _ o (slot_lt c.number) fit,
        inr (subst P (sym (L.store.get_same r.shelf (c.number % 64) _ o (slot_lt c.number) fit)) p),
      ))

  pub drain_kept : (n f : ℕ) (r : State S E) → Lasts S E n r → Lasts S E n (drain S E f r)
  unfolding Lasts Held
  drain_kept n f r v = drain_lasts (λ s. s.number ≡ n) n (λ s e. e) f r v

  pub after_kept : (n : ℕ) (c : Rec) (r : State S E) → 1 ≤ n → Fitting c → Lasts S E n r → Lasts S E n (after S E c r)
  unfolding Lasts Held
  after_kept n c r p fit v = after_lasts (λ s. s.number ≡ n) n (λ s e. e) c r p fit v

  -- what is answered so is kept from there on
  pub here_kept : (c : Rec) (r : State S E) → S.Ok r.shelf → Fitting c → Arrived (judged S E c r) → Lasts S E c.number (after S E c r)
  unfolding Lasts Held
  here_kept c r o fit w = go (judged S E c r) refl w
    where
      go : (a : Answer) → judged S E c r ≡ a → Arrived a → Lasts S E c.number (after S E c r)
      go taken e by_taken = taken_lasts (λ s. s.number ≡ c.number) c r (λ s q. q) fit o e refl
      go old e by_old = rw (after_of S E c r old e) (o, inl (shows r.next (slot_of S E r c.number) c old e))
      go too_far e x = elim x [ ]
      go differing e x = elim x [ ]
      go repeated e by_repeated = rw (after_of S E c r repeated e) (o, inr (same_number _ _ (shows r.next (slot_of S E r c.number) c repeated e).2))

  -- ---- a run of records that fit their slots, whatever their bodies say
  after_ok : (c : Rec) (r : State S E) → Fitting c → S.Ok r.shelf → S.Ok (after S E c r).shelf
  after_ok c r fit o =
      after_cases S E (λ (q : State S E). S.Ok q.shelf) c r o
      (λ _. drain_keeps S E (λ (q : State S E). S.Ok q.shelf) (λ q b w p. L.store.ok_put _ _ empty_slot p (slot_lt q.next) empty_fits) 64 (shelved S E c r)
      (L.store.ok_put _ _ _ o (slot_lt c.number) fit))

  pub answered_kept : (n : ℕ) (cs : List Rec) (r : State S E) → 1 ≤ n → Every Fitting cs → S.Ok r.shelf → Answered S E n cs r → Lasts S E n (run S E cs r)
  unfolding run said Lasts Held
  answered_kept n [] r p h o x = elim x [ ]
  answered_kept n (c ∷ cs) r p h o (here e w) =
      run_lasts (λ s. s.number ≡ n) n (λ s q. q) cs (after S E c r) p h.1
      (subst (λ (m : ℕ). Lasts S E m (after S E c r)) e (here_kept c r o h.0 w))
  answered_kept n (c ∷ cs) r p h o (later a) = answered_kept n cs (after S E c r) p h.1 (after_ok c r h.0 o) a
