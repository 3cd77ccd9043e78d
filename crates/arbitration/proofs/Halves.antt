-- Demand 3 over a run of records, from any base: the invariant is the first half; with what is kept and settled at the end it gives the second.
-- Assumes nothing.
use Prim.Native.Nat.{ℕ, suc, ◌+◌, ◌≤◌, ◌<◌}
use mathlib.Core.Path.{◌≡◌, refl, ap, ◌∙◌}
use mathlib.Core.Logic.{◌≢◌, ◌⊎◌, inl, inr}
use mathlib.Core.Bool.{true, false}
use mathlib.Core.List.{List, [], ◌∷◌}
use lib.ListN.{length}
use lib.Dec.{eqb}
use native.Mathlib.Nat.{zero-add}
use native.Mathlib.Omega.{arith}
use native.Mathlib.Decide.{dec_lt}
use Rattle.facts.specs.Pick.{pick}
use Rattle.facts.specs.Sums.{sum_by, only_if, count_by}
use Rattle.wire.specs.Records.{Rec}
use Rattle.arbitration.specs.Slots.{Slot, slot_body}
use Rattle.arbitration.specs.Engine.{Applied, ok, broke, Engine, Store, Laws}
use Rattle.arbitration.specs.Receive.{Answer, taken, old, too_far, repeated, differing, code_of, count, of_applied, good_slot, State, slot_of, try, stop, judged, after, run, said}
use Rattle.arbitration.specs.Lists.{Every, Copy, msg, WellFormed, made, Zeroed, Answered}
use Rattle.arbitration.proofs.Window.{slot_lt}
use Rattle.arbitration.proofs.Turns.{short_good, try_good, try_goes, stop_stuck}
use Rattle.arbitration.proofs.Answers.{run_keeps}
use Rattle.arbitration.proofs.Invariant.{Inv, Follows, Mine, mine, msg_good, msg_short, copy_fits, made_suc, after_inv, never_differing, start_follows}
use Rattle.arbitration.proofs.Packets.{every_map}
use Rattle.arbitration.proofs.Settled.{Settled, Fitting, Held, Lasts, after_settled, answered_kept}

module _ (S : Store) (E : Engine) where
  -- the book made by k messages behind the base s, next being s + k + 1
  pub record Made (ms : List (List ℕ)) (s : ℕ) (b : E.Book) (r : State S E) : Type 0 where
    pub k : ℕ
    pub next_is : r.next ≡ s + suc k
    pub within : s + k ≤ length ms
    pub book_is : made E ms s b k ≡ ok r.book

  -- the same, and the stop is the rule that one message more breaks
  pub record Named (ms : List (List ℕ)) (s : ℕ) (b : E.Book) (r : State S E) : Type 0 where
    pub k : ℕ
    pub next_is : r.next ≡ s + suc k
    pub in_list : s + suc k ≤ length ms
    pub made_k : made E ms s b k ≡ ok r.book
    pub rule_named : 1 ≤ stop S E r
    pub breaks : made E ms s b (suc k) ≡ broke (stop S E r)

-- two receivers on one list, with equal k
pub agree : (S : Store) (E : Engine) (ms : List (List ℕ)) (s0 : ℕ) (b0 : E.Book) (r r' : State S E) → Made S E ms s0 b0 r → Made S E ms s0 b0 r' → r.next ≡ r'.next → r.book ≡ r'.book
agree S E ms s0 b0 r r' m m' e =
    let q : m.k ≡ m'.k = omega arith in
    cc (m.book_is, m'.book_is, q)

module _ (S : Store) (E : Engine) (ms : List (List ℕ)) (s0 : ℕ) (b0 : E.Book) where
  -- where a run may begin: the book is the base's with what came after it, and nothing more can be applied
  pub record Ready (r : State S E) : Type 0 where
    pub follows : Follows S E ms s0 b0 r
    pub settled : Settled S E r

  pub follows_made : (r : State S E) → Follows S E ms s0 b0 r → Made S E ms s0 b0 r
  unfolding Follows
  follows_made r v = record { k = v.0; next_is = v.1.next_is; within = v.1.within; book_is = v.1.book_is }

not_14 : (a : Answer) → a ≢ differing → eqb (code_of a) 14 ≡ false
not_14 taken n = refl
not_14 old n = refl
not_14 too_far n = refl
not_14 repeated n = refl
not_14 differing n = absurd (n refl)

module _ (S : Store) (E : Engine) (L : Laws S E) (ms : List (List ℕ)) (wf : WellFormed E.good ms) (s0 : ℕ) (b0 : E.Book) where
  -- a true copy keeps a receiver ready
  pub after_ready : (c : Rec) (r : State S E) → Copy ms c → Ready S E ms s0 b0 r → Ready S E ms s0 b0 (after S E c r)
  unfolding Follows
  after_ready c r cp y =
      record {
        follows = after_inv S E L ms wf s0 b0 c r cp y.follows;
        settled = after_settled S E L c r (copy_fits S E L ms wf c cp) y.follows.1.ok_shelf y.settled;
      }

  pub run_ready : (cs : List Rec) (r : State S E) → Every (Copy ms) cs → Ready S E ms s0 b0 r → Ready S E ms s0 b0 (run S E cs r)
  run_ready cs r h y = run_keeps S E (Ready S E ms s0 b0) (Copy ms) after_ready cs r h y

  -- with true copies 14 is never answered
  pub none_differs : (cs : List Rec) (r : State S E) → Every (Copy ms) cs → Follows S E ms s0 b0 r → count 14 (said S E cs r) ≡ 0
  unfolding said count count_by sum_by only_if pick
  none_differs [] r h v = refl
  none_differs (c ∷ cs) r h v =
      rw (not_14 (judged S E c r) (never_differing S E L ms wf s0 b0 c r h.0 v))
      (zero-add _ ∙ none_differs cs (after S E c r) h.1 (after_inv S E L ms wf s0 b0 c r h.0 v))

  -- a settled receiver whose slot for next holds next names the rule that the list itself breaks there
  pub names : (r : State S E) → Ready S E ms s0 b0 r → (slot_of S E r r.next).number ≡ r.next → Named S E ms s0 b0 r
  unfolding Follows Settled
  names r y e = go y.follows (E.apply r.next (slot_body (slot_of S E r r.next)) r.book) refl
    where
      go : (k : ℕ) × Inv S E ms s0 b0 k r → (a : Applied E.Book) → E.apply r.next (slot_body (slot_of S E r r.next)) r.book ≡ a → Named S E ms s0 b0 r
      go (k, v) a w = by a w
        where
          nx : r.next ≡ s0 + suc k
          nx = v.next_is

          not_0 : (slot_of S E r r.next).number ≢ 0
          not_0 = λ z. omega (arith, v.next_is)

          me : Mine S E ms s0 b0 k r
          me = mine S E L ms wf s0 b0 v not_0

          is_good : good_slot E (slot_of S E r r.next) ≡ true
          is_good =
              let n : (slot_of S E r r.next).len ≡ length (msg ms (s0 + suc k)) = ap (λ (x : Slot). x.len) me.slot_is in
              let l : (slot_of S E r r.next).len ≤ 64 = omega (arith, msg_short S E L ms wf (s0 + suc k) (omega arith) me.in_list) in
              short_good E (slot_of S E r r.next) l ∙ (ap E.good me.body_is ∙ msg_good S E L ms wf (s0 + suc k) (omega arith) me.in_list)

          full : try S E r ≡ of_applied (E.apply r.next (slot_body (slot_of S E r r.next)) r.book)
          full = try_good S E r not_0 e is_good

          by : (a : Applied E.Book) → E.apply r.next (slot_body (slot_of S E r r.next)) r.book ≡ a → Named S E ms s0 b0 r
          by (ok b) q = absurd (y.settled b (full ∙ ap of_applied q))
          by (broke q) w =
              record {
                k = k;
                next_is = nx;
                in_list = me.in_list;
                made_k = v.book_is;
                rule_named = rw (stop_stuck S E r q (full ∙ ap of_applied w)) (L.engine.rule_pos _ _ _ q w);
                breaks = rw (stop_stuck S E r q (full ∙ ap of_applied w)) (made_suc E ms s0 b0 k r.book v.book_is ∙ cc (nx, me.body_is, w));
              }

  -- next is past j; or, where what is answered as next is kept, its message is named
  pub reached : (r : State S E) (j : ℕ) → Ready S E ms s0 b0 r → (s0 < r.next → r.next ≤ j → Lasts S E r.next r) → (j < r.next) ⊎ Named S E ms s0 b0 r
  unfolding Lasts Held Follows
  reached r j y all = go (dec_lt j r.next)
    where
      past : s0 < r.next
      past = omega (arith, y.follows.1.next_is)

      slot : S.Ok r.shelf × ((r.next < r.next) ⊎ ((slot_of S E r r.next).number ≡ r.next)) → (slot_of S E r r.next).number ≡ r.next
      slot (o, inl l) = absurd (omega arith)
      slot (o, inr e) = e

      go : Dec (j < r.next) → (j < r.next) ⊎ Named S E ms s0 b0 r
      go (yes l) = inl l
      go (no l) = inr (names r y (slot (all past (omega arith))))

  pub first_half : (r0 : State S E) (cs : List Rec) → Ready S E ms s0 b0 r0 → Every (Copy ms) cs → Made S E ms s0 b0 (run S E cs r0)
  first_half r0 cs y h = follows_made S E ms s0 b0 (run S E cs r0) (run_ready cs r0 h y).follows

  pub second_half : (r0 : State S E) (cs : List Rec) (j : ℕ) → Ready S E ms s0 b0 r0 → Every (Copy ms) cs → ((n : ℕ) → s0 < n → n ≤ j → Answered S E n cs r0)
      → (j < (run S E cs r0).next) ⊎ Named S E ms s0 b0 (run S E cs r0)
  unfolding Follows
  second_half r0 cs j y h all =
      reached (run S E cs r0) j (run_ready cs r0 h y)
      (λ past l. answered_kept S E L (run S E cs r0).next cs r0 (omega arith) (every_map (Copy ms) Fitting (copy_fits S E L ms wf) cs h) y.follows.1.ok_shelf (all _ past l))

-- a start is ready for any list
pub start_ready : (S : Store) (E : Engine) (L : Laws S E) (ms : List (List ℕ)) (wf : WellFormed E.good ms) (b0 : E.Book) (r : State S E) → Zeroed S E b0 r → Ready S E ms 0 b0 r
unfolding Settled
start_ready S E L ms wf b0 r s =
    record {
      follows = start_follows S E L ms wf b0 r s;
      settled = λ b e. (try_goes S E r b e).number_not_0 (s.shelf_empty _ (slot_lt r.next));
    }
