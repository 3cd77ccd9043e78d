-- Request 4 of document 02, "Teachers want to compose a morning", of a recording: what was written and what a reader of recordings finds.
use Rattle.std.specs.Prelude.{ℕ, ◌+◌, ◌≡◌, List, [], ◌∷◌, ◌++◌, length, take, drop, Ok}
use Rattle.editions.specs.declared.Edition.{Edition}
use Rattle.packet.specs.Packet.{read_packet}
use Rattle.trips.specs.Records.{length_first}
use Rattle.writer.specs.Append.{Writing, writing, packet_appended}
use Rattle.writer.specs.Behind.{next_to}
use Rattle.recording.specs.Whole.{packets_of, rest_of}

-- packets as a writer lays them down, "each behind a 2-byte length"
unfoldable pub recording_bytes : List (List ℕ) → List ℕ
recording_bytes [] = []
recording_bytes (p ∷ ps) = length_first p ++ recording_bytes ps

-- packets one after another, each behind the last one's answer; what refuses one ends it
unfoldable pub packets_appended : Edition → List (List ℕ) → List ℕ → ℕ → Writing
packets_appended ed [] m at = writing (Ok at) m
packets_appended ed (p ∷ ps) m at = next_to (packets_appended ed ps) (packet_appended ed m at p)

-- packets that a reader of the edition takes
abbrev pub AllTaken : Edition → List (List ℕ) → Type 0
AllTaken ed [] = Unit {0}
AllTaken ed (p ∷ ps) = ((n : ℕ) × (read_packet ed p ≡ Ok n)) × AllTaken ed ps

-- a packet p that was written behind the first `at` bytes of m, which are whole packets; l is the answer and w the memory afterwards
pub record OneMore (m : List ℕ) (at : ℕ) (p : List ℕ) (l : ℕ) (w : List ℕ) : Type 0 where
  -- a reader finds the packets before and the new one, and nothing behind them: the recording is not cut
  pub packets_are : packets_of (take l w) ≡ packets_of (take at m) ++ (p ∷ [])
  pub none_left : rest_of (take l w) ≡ []
  -- nothing in front of it is changed, and nothing behind it
  pub length_is : l ≡ at + (2 + length p)
  pub front_stays : take at w ≡ take at m
  pub rest_stays : drop l w ≡ drop l m
  pub size_stays : length w ≡ length m
