-- A taken refresh (request 8: "Taking it copies the second set .., sets next to s + 1, empties shelf slots numbered s or lower, works the rest"). A run is
-- then a list of events: a record came, or a refresh was taken.
use Rattle.std.specs.Prelude.{ℕ, zero, suc, ◌+◌, ◌≤◌, ◌≡◌, true, List, [], ◌∷◌, length, leb}
use Rattle.facts.specs.Pick.{pick}
use Rattle.wire.specs.Le.{Bytes}
use Rattle.wire.specs.Records.{Rec}
use Rattle.arbitration.specs.Slots.{empty_slot}
use Rattle.arbitration.specs.Engine.{Applied, ok, broke, Engine, Store}
use Rattle.arbitration.specs.Receive.{State, drain, judged, after}
use Rattle.arbitration.specs.Lists.{Copy, Arrived, msg}

-- the first n slots, with those "numbered s or lower" emptied
unfoldable pub cleared : (S : Store) → ℕ → ℕ → S.Shelf → S.Shelf
cleared S s zero sh = sh
cleared S s (suc n) sh = pick (leb (S.get (cleared S s n sh) n).number s) (S.put (cleared S s n sh) n empty_slot) (cleared S s n sh)

module _ (S : Store) (E : Engine) where
  -- the book b of the refresh, next s + 1, and what is left of the shelf
  abbrev pub refreshed : ℕ → E.Book → State S E → State S E
  refreshed s b r = record { next = s + 1; shelf = cleared S s 64 r.shelf; book = b }

  -- what happens to a receiver: a record came, or a refresh at s with the book b was taken
  pub data Event : Type 0 where
    came : Rec → Event
    renewed : ℕ → E.Book → Event

  unfoldable pub after_e : Event → State S E → State S E
  after_e (came c) r = after S E c r
  after_e (renewed s b) r = drain S E 64 (refreshed s b r)

  unfoldable pub run_e : List Event → State S E → State S E
  run_e [] r = r
  run_e (e ∷ es) r = run_e es (after_e e r)

  -- where a list goes on: the last refresh taken, or what the run began with
  pub record Base : Type 0 where
    pub at : ℕ
    pub of : E.Book

  unfoldable pub based : List Event → Base → Base
  based [] a = a
  based (came c ∷ es) a = based es a
  based (renewed s b ∷ es) a = based es (record { at = s; of = b })

  -- records that are true copies, and refreshes of the list that are not refused: "a common s below next less 1 .. is refused (new 33)"
  pub data Fair (ms : List (List ℕ)) : List Event → State S E → Type 0 where
    end : {r : State S E} → Fair ms [] r
    copy : {c : Rec} {es : List Event} {r : State S E} → Copy ms c → Fair ms es (after S E c r) → Fair ms (came c ∷ es) r
    anew : {s : ℕ} {b : E.Book} {es : List Event} {r : State S E} → r.next ≤ s + 1 → s ≤ length ms → Fair ms es (drain S E 64 (refreshed s b r)) → Fair ms (renewed s b ∷ es) r

  -- answered as taken, repeated or old; "every number up to s counts as answered old"
  pub data AnsweredE (n : ℕ) : List Event → State S E → Type 0 where
    here : {c : Rec} {es : List Event} {r : State S E} → c.number ≡ n → Arrived (judged S E c r) → AnsweredE n (came c ∷ es) r
    by_refresh : {s : ℕ} {b : E.Book} {es : List Event} {r : State S E} → n ≤ s → AnsweredE n (renewed s b ∷ es) r
    later : {e : Event} {es : List Event} {r : State S E} → AnsweredE n es (after_e e r) → AnsweredE n (e ∷ es) r

-- "said of symbols, statuses and orders without rank or place in a table": a view of the book, and what a message does to the view "with room for all of it".
-- Its laws are asked for messages that a run applies: numbered from 1, of bytes, and good
pub record Ideal (E : Engine) : Type 1 where
  pub View : Type 0
  pub view : E.Book → View
  pub step : ℕ → List ℕ → View → Applied View
  pub Sound : E.Book → Type 0
  pub keeps : (n : ℕ) (b : List ℕ) (x y : E.Book) → 1 ≤ n → Bytes b → E.good b ≡ true → Sound x → E.apply n b x ≡ ok y → Sound y
  pub law : (n : ℕ) (b : List ℕ) (x y : E.Book) → 1 ≤ n → Bytes b → E.good b ≡ true → Sound x → E.apply n b x ≡ ok y → step n b (view x) ≡ ok (view y)

-- "the list's state .., worked from message 1 as if never refreshed"
unfoldable pub ideal : (E : Engine) (I : Ideal E) → List (List ℕ) → I.View → ℕ → Applied I.View
ideal E I ms a zero = ok a
ideal E I ms a (suc k) = elim (ideal E I ms a k) [ ok x ↦ I.step (suc k) (msg ms (suc k)) x | broke q ↦ broke q ]
