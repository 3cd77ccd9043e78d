-- Demand 3's first half, step by step: the book is what the list makes, and a slot holds nothing or the true copy of a number in the window. Shelving a
-- true copy keeps that, and applying the message of next moves it one message on.
-- Assumes nothing.
use Prim.Native.Nat.{ℕ, zero, suc, ◌+◌, ◌-◌, ◌%◌, ◌≤◌, ◌<◌}
use mathlib.Core.Path.{◌≡◌, refl, sym, ap, subst, ◌∙◌}
use mathlib.Core.Logic.{◌≢◌}
use mathlib.Core.Bool.{true, false≢true}
use mathlib.Core.List.{List, [], ◌∷◌}
use lib.ListN.{length}
use native.Mathlib.Omega.{arith}
use Rattle.wire.specs.Records.{Rec}
use Rattle.arbitration.specs.Slots.{Slot, empty_slot, slot_for, slot_body, same_slot, Fits}
use Rattle.arbitration.specs.Engine.{Applied, ok, broke, Engine, Store, Laws}
use Rattle.arbitration.specs.Receive.{taken, differing, State, slot_of, turned, drain, shelved, judged, after}
use Rattle.arbitration.specs.Lists.{Every, msg, WellFormed, Copies, Numbered, Copy, made, Zeroed}
use Rattle.arbitration.proofs.Window.{same_slot_lem, slot_lt}
use Rattle.arbitration.proofs.SlotLaws.{empty_fits, slot_for_fits, body_back, same_refl, put_at}
use Rattle.arbitration.proofs.Turns.{Went, drain_keeps}
use Rattle.arbitration.proofs.Answers.{Shows, shows, after_cases}

pub every_copy : (ms : List (List ℕ)) (cs : List Rec) → Every Numbered cs → Copies ms cs → Every (Copy ms) cs
every_copy ms [] n h = tt
every_copy ms (c ∷ cs) n h = ((n.0, h.0), every_copy ms cs n.1 h.1)

-- what slot i may hold
pub data Shelved (ms : List (List ℕ)) (next i : ℕ) (s : Slot) : Type 0 where
  free : s.number ≡ 0 → Shelved ms next i s
  held : (m : ℕ) → next ≤ m → m < next + 64 → m % 64 ≡ i → m ≤ length ms → s ≡ slot_for m (msg ms m) → Shelved ms next i s

pub made_suc : (E : Engine) (ms : List (List ℕ)) (s : ℕ) (b : E.Book) (k : ℕ) (x : E.Book) → made E ms s b k ≡ ok x → made E ms s b (suc k) ≡ E.apply (s + suc k) (msg ms (s + suc k)) x
unfolding made
made_suc E ms s b k x e = rw e

broke≢ok : {B : Type 0} {q : ℕ} {b : B} → ◌≡◌ {A = Applied B} (broke q) (ok b) → ⊥
broke≢ok e = let z : ◌≡◌ {A = ℕ} 0 1 = cc in omega arith

pub ok_inj : {B : Type 0} {a b : B} → ok a ≡ ok b → a ≡ b
ok_inj e = cc

-- the book that one message more was applied to
pub made_before : (E : Engine) (ms : List (List ℕ)) (s : ℕ) (b : E.Book) (k : ℕ) (x : E.Book) → made E ms s b (suc k) ≡ ok x
    → (y : E.Book) × (made E ms s b k ≡ ok y) × (E.apply (s + suc k) (msg ms (s + suc k)) y ≡ ok x)
unfolding made
made_before E ms s b k x e = go (made E ms s b k) refl
  where
    go : (t : Applied E.Book) → made E ms s b k ≡ t → (y : E.Book) × (made E ms s b k ≡ ok y) × (E.apply (s + suc k) (msg ms (s + suc k)) y ≡ ok x)
    go (broke q) m = absurd (broke≢ok (rw (m, made) at e))
    go (ok y) m = (y, m, sym (made_suc E ms s b k y m) ∙ e)

-- what each message of a list keeps as it applies, the list keeps
pub made_keeps : (E : Engine) (ms : List (List ℕ)) (s : ℕ) (b : E.Book) (P : ℕ → E.Book → Type 0) → P 0 b
    → ((k : ℕ) (x y : E.Book) → s + suc k ≤ length ms → P k x → E.apply (s + suc k) (msg ms (s + suc k)) x ≡ ok y → P (suc k) y)
    → (k : ℕ) (x : E.Book) → s + k ≤ length ms → made E ms s b k ≡ ok x → P k x
unfolding made
made_keeps E ms s b P base step zero x l e = subst (P 0) (ok_inj e) base
made_keeps E ms s b P base step (suc k) x l e =
    let w = made_before E ms s b k x e in
    step k w.0 x l (made_keeps E ms s b P base step k w.0 (omega arith) w.1) w.2

module _ (S : Store) (E : Engine) (ms : List (List ℕ)) (s0 : ℕ) (b0 : E.Book) where
  -- k messages after the base s0 are applied
  pub record Inv (k : ℕ) (r : State S E) : Type 0 where
    pub ok_shelf : S.Ok r.shelf
    pub next_is : r.next ≡ s0 + suc k
    pub within : s0 + k ≤ length ms
    pub book_is : made E ms s0 b0 k ≡ ok r.book
    pub slots : (i : ℕ) → i < 64 → Shelved ms r.next i (S.get r.shelf i)

  unfoldable pub Follows : State S E → Type 0
  Follows r = (k : ℕ) × Inv k r

  -- an occupied slot of next holds the message of next
  pub record Mine (k : ℕ) (r : State S E) : Type 0 where
    pub in_list : s0 + suc k ≤ length ms
    pub slot_is : slot_of S E r r.next ≡ slot_for r.next (msg ms (s0 + suc k))
    pub body_is : slot_body (slot_of S E r r.next) ≡ msg ms (s0 + suc k)

module _ (S : Store) (E : Engine) (L : Laws S E) (ms : List (List ℕ)) (wf : WellFormed E.good ms) where
  -- a message of the list is good, and fits a slot
  pub msg_good : (n : ℕ) → 1 ≤ n → n ≤ length ms → E.good (msg ms n) ≡ true
  msg_good n h l = wf (n - 1) (omega arith)

  pub msg_short : (n : ℕ) → 1 ≤ n → n ≤ length ms → length (msg ms n) ≤ 64
  msg_short n h l = L.engine.good_fits (msg ms n) (msg_good n h l)

  pub copy_fits : (c : Rec) → Copy ms c → Fits (slot_for c.number c.body)
  copy_fits c (n, t) =
      slot_for_fits c.number c.body (omega (arith, n.number_to)) (rw t.same (msg_short c.number n.number_from t.in_list))

  module _ (s0 : ℕ) (b0 : E.Book) where
    pub mine : {k : ℕ} {r : State S E} → Inv S E ms s0 b0 k r → (slot_of S E r r.next).number ≢ 0 → Mine S E ms s0 b0 k r
    mine {k} {r} v h =
        elim (v.slots (r.next % 64) (slot_lt r.next)) [
          | free z ↦ absurd (h z)
          | held m p2 p3 p4 p5 p6 ↦ go (same_slot_lem r.next m r.next p2 p3 (omega arith) (omega arith) p4) p5 p6
        ]
      where
        go : {m : ℕ} → m ≡ r.next → m ≤ length ms → slot_of S E r r.next ≡ slot_for m (msg ms m) → Mine S E ms s0 b0 k r
        go {m} e l q =
            let nx : r.next ≡ s0 + suc k = v.next_is in
            let il : s0 + suc k ≤ length ms = omega arith in
            let w : slot_of S E r r.next ≡ slot_for r.next (msg ms (s0 + suc k)) = q ∙ cc (e, nx) in
            record { in_list = il; slot_is = w; body_is = ap slot_body w ∙ body_back r.next (msg ms (s0 + suc k)) (msg_short (s0 + suc k) (omega arith) il) }

    -- one turn of the drain: one message further
    pub turn_inv : {k : ℕ} {r : State S E} {b : E.Book} → Inv S E ms s0 b0 k r → Went S E r b → Inv S E ms s0 b0 (suc k) (turned S E r b)
    turn_inv {k} {r} {b} v w =
        let me : Mine S E ms s0 b0 k r = mine v w.number_not_0 in
        let nx : r.next ≡ s0 + suc k = v.next_is in
        record {
          ok_shelf = L.store.ok_put _ _ empty_slot v.ok_shelf (slot_lt r.next) empty_fits;
          next_is = omega arith;
          within = me.in_list;
          book_is = made_suc E ms s0 b0 k r.book v.book_is ∙ cc (w.applied, nx, me.body_is);
          slots = λ i h. put_at S L.store r.shelf (r.next % 64) empty_slot v.ok_shelf (slot_lt r.next) empty_fits (Shelved ms (r.next + 1) i) i h (λ e. free refl) (λ n. on i n (v.slots i h));
        }
      where
        on : (i : ℕ) → i ≢ r.next % 64 → {s : Slot} → Shelved ms r.next i s → Shelved ms (r.next + 1) i s
        on i n (free z) = free z
        on i n (held m p2 p3 p4 p5 p6) = held m (omega arith) (omega arith) p4 p5 p6

    -- a true copy is shelved
    pub shelve_inv : {k : ℕ} {c : Rec} {r : State S E} → Copy ms c → Inv S E ms s0 b0 k r → judged S E c r ≡ taken → Inv S E ms s0 b0 k (shelved S E c r)
    shelve_inv {k} {c} {r} cp v e =
        let f = shows r.next (slot_of S E r c.number) c taken e in
        let fit : Fits (slot_for c.number c.body) = copy_fits c cp in
        record {
          ok_shelf = L.store.ok_put _ _ _ v.ok_shelf (slot_lt c.number) fit;
          next_is = v.next_is;
          within = v.within;
          book_is = v.book_is;
          slots = λ i h. put_at S L.store r.shelf (c.number % 64) (slot_for c.number c.body) v.ok_shelf (slot_lt c.number) fit (Shelved ms r.next i) i h
              (λ q. held c.number f.0 f.1 (sym q) cp.1.in_list (ap (slot_for c.number) cp.1.same))
              (λ n. v.slots i h);
        }

    pub drain_inv : (f : ℕ) (r : State S E) → Follows S E ms s0 b0 r → Follows S E ms s0 b0 (drain S E f r)
    unfolding Follows
    drain_inv f r v = drain_keeps S E (λ (r : State S E). (k : ℕ) × Inv S E ms s0 b0 k r) (λ r b w v. (suc v.0, turn_inv v.1 w)) f r v

    pub after_inv : (c : Rec) (r : State S E) → Copy ms c → Follows S E ms s0 b0 r → Follows S E ms s0 b0 (after S E c r)
    unfolding Follows
    after_inv c r cp v = after_cases S E (Follows S E ms s0 b0) c r v (λ e. drain_inv 64 (shelved S E c r) (v.0, shelve_inv cp v.1 e))

    -- with true copies no record is answered as differing
    pub never_differing : (c : Rec) (r : State S E) → Copy ms c → Follows S E ms s0 b0 r → judged S E c r ≢ differing
    unfolding Follows
    never_differing c r cp (k, v) e = go (shows r.next (slot_of S E r c.number) c differing e) (v.slots (c.number % 64) (slot_lt c.number))
      where
        go : Shows r.next (slot_of S E r c.number) c differing → Shelved ms r.next (c.number % 64) (slot_of S E r c.number) → ⊥
        go (f, b, n, d) (free z) = n z
        go (f, b, n, d) (held m p2 p3 p4 p5 p6) =
            let q : m ≡ c.number = same_slot_lem r.next m c.number p2 p3 f b p4 in
            let w : slot_of S E r c.number ≡ slot_for c.number c.body = p6 ∙ cc (q, cp.1.same) in
            false≢true (sym d ∙ ap (λ (x : Slot). same_slot x (slot_for c.number c.body)) w ∙ same_refl (slot_for c.number c.body))

  -- a start follows any list
  pub start_follows : (b0 : E.Book) (r : State S E) → Zeroed S E b0 r → Follows S E ms 0 b0 r
  unfolding Follows made
  start_follows b0 r s = (
    0,
    record {
      ok_shelf = s.ok_shelf;
      next_is = omega (arith, s.next_1);
      within = omega arith;
      book_is = ap ok (sym s.book_start);
      slots = λ i h. free (s.shelf_empty i h);
    },
  )
