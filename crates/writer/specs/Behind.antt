-- What request 4 says of packets that are written: "Reading what was written gives the fields back", of the whole packet, and record by record.
use Rattle.std.specs.Prelude.{ℕ, ◌+◌, ◌≡◌, List, [], ◌∷◌, ◌++◌, length, take, drop, Result, Ok, Err}
use Rattle.editions.specs.declared.Edition.{Edition}
use Rattle.wire.specs.Records.{Rec, rec, records}
use Rattle.packet.specs.Packet.{frames_from, framing}
use Rattle.writer.specs.Append.{Writing, writing, appended}
use Rattle.packet.specs.declared.Why.{Why}

-- a record that was written behind the first `at` bytes of m, l being the answer and w the memory afterwards
pub record Grown (ed : Edition) (m : List ℕ) (at n : ℕ) (b : List ℕ) (l : ℕ) (w : List ℕ) : Type 0 where
  -- the records of the packet so far, none where it is empty
  pub old : List Rec
  pub old_are : frames_from ed at (take at m) ≡ records old
  -- the packet is good, its records "those before and the new one"
  pub reads : framing ed (take l w) ≡ records (old ++ (rec n b ∷ []))
  -- the answer is its length; nothing in front of the record is changed, and nothing behind it
  pub length_is : l ≡ at + (10 + length b)
  pub front_stays : take at w ≡ take at m
  pub rest_stays : drop l w ≡ drop l m
  pub size_stays : length w ≡ length m

-- records one after another, each behind the last one's answer; what refuses one ends it
unfoldable pub next_to : (List ℕ → ℕ → Writing) → Writing → Writing
next_to more w = go w.answer
  where
    go : Result ℕ Why → Writing
    go (Ok l) = more w.memory l
    go (Err r) = w

unfoldable pub appended_all : Edition → List Rec → List ℕ → ℕ → Writing
appended_all ed [] m at = writing (Ok at) m
appended_all ed (c ∷ cs) m at = next_to (appended_all ed cs) (appended ed m at c.number c.body)
