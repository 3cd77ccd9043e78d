-- Two receivers over different packets: packet by packet the same numbers, and bodies that mean the same to books that are alike (arbitration/Meaning), as where a recording of one
-- edition is written anew in another. Their parts are any two with one kind of shelf.
use Rattle.std.specs.Prelude.{◌≡◌, Bool, List, [], ◌∷◌, ℕ, Result, Ok, Err}
use Rattle.wire.specs.Records.{Rec, Frames, bad, records}
use Rattle.packet.specs.declared.Why.{Why}
use Rattle.arbitration.specs.Engine.{Store}
use Rattle.arbitration.specs.Meaning.{Meant, Close, CountsAlike}
use Rattle.receiver.specs.Parts.{Rules, Parts, engine_of}
use Rattle.receiver.specs.Receiver.{Receiver, Handled}
use Rattle.receiver.specs.declared.Account.{Account}

-- the parts of both, and which of their books are alike
pub record Two : Type 1 where
  pub store : Store
  pub rules : Rules
  pub rules' : Rules
  pub frame : List ℕ → Frames Why
  pub frame' : List ℕ → Frames Why
  pub sized : rules.Book → store.Shelf → Bool
  pub sized' : rules'.Book → store.Shelf → Bool
  pub R : rules.Book → rules'.Book → Type 0

abbrev pub one_of : Two → Parts
one_of X = record { store = X.store; rules = X.rules; frame = X.frame; sized = X.sized }

abbrev pub other_of : Two → Parts
other_of X = record { store = X.store; rules = X.rules'; frame = X.frame'; sized = X.sized' }

-- ---- what they are given
-- two packets as each reads its own: both are refused, for whatever reasons, or their records mean the same
pub data FramesAlike (X : Two) : Frames Why → Frames Why → Type 0 where
  both_bad : (v w : Why) → FramesAlike X (bad v) (bad w)
  both_good : {bs cs : List Rec} → Meant (engine_of X.rules) (engine_of X.rules') X.R bs cs → FramesAlike X (records bs) (records cs)

-- packets, one by one
pub data PacketsAlike (X : Two) : List (List ℕ) → List (List ℕ) → Type 0 where
  no_packets : PacketsAlike X [] []
  one_more : (p p' : List ℕ) {ps ps' : List (List ℕ)} → FramesAlike X (X.frame p) (X.frame' p') → PacketsAlike X ps ps' → PacketsAlike X (p ∷ ps) (p' ∷ ps')

-- ---- what they answer
-- of what an account tells, how many second copies were repeated and how many differed is left open, but not how many there were
pub record AccountAlike (a b : Account) : Type 0 where
  pub counts_alike : CountsAlike a.counts b.counts
  pub next_same : b.next ≡ a.next
  pub applied_same : b.applied ≡ a.applied
  pub highest_same : b.highest ≡ a.highest
  pub stop_same : b.stop ≡ a.stop

-- an answer that is no account
pub data Refusing : Result Account Why → Type 0 where
  refusing : (w : Why) → Refusing (Err w)

-- both accept, or both refuse, by whichever numbers
pub data ReceivedAlike : Result Account Why → Result Account Why → Type 0 where
  both_accepted : {a b : Account} → AccountAlike a b → ReceivedAlike (Ok a) (Ok b)
  both_refused : {a b : Result Account Why} → Refusing a → Refusing b → ReceivedAlike a b

-- ---- where they stand
-- with close shelves and books (the same next with them) and the same stop; each has an edition of its own, which no packet changes
pub record Alongside (X : Two) (k : Receiver (one_of X)) (k' : Receiver (other_of X)) : Type 0 where
  pub near : Close X.store (engine_of X.rules) (engine_of X.rules') X.R k.rx k'.rx
  pub stop_same : k'.stop ≡ k.stop

-- one call each
pub record HandledAlike (X : Two) (h : Handled (one_of X)) (h' : Handled (other_of X)) : Type 0 where
  pub answers_alike : ReceivedAlike h.answer h'.answer
  pub still : Alongside X h.after h'.after
