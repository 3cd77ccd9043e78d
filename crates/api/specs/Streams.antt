-- What the calls for a recording in chunks answer: a stream is fourteen lent numbers, and the meaning is that of `recording`.
use Rattle.std.specs.Prelude.{ℕ, ◌%◌, List, [], ◌∷◌, ◌++◌, get_or}
use Rattle.receiver.specs.Lent.{state_numbers}
use Rattle.fields.specs.Fields.{bad_at}
use Rattle.recording.specs.declared.Stream.{Stream}
use Rattle.recording.specs.Stream.{Feeding, fed_number}
use Rattle.api.specs.Told.{told}
use Rattle.api.specs.Calls.{state_in, Call, call}

-- the receiver's state; bytes held, bytes to pass over, bad packets; records taken, old, too far, repeated, differing over all accepted packets; number and offset of the last bad packet
abbrev pub stream_numbers : Stream → List ℕ
stream_numbers k =
    state_numbers k.receiver
    ++ (k.held ∷ k.skip ∷ k.bad
    ∷ k.totals.taken ∷ k.totals.old ∷ k.totals.far ∷ k.totals.repeated ∷ k.totals.differing
    ∷ k.last.number ∷ k.last.at ∷ [])

-- a stream in fourteen lent numbers: the first four as of a receiver's state, so that the second is the low 32 bits of its number, the stop the low 8 and the edition that of any number; the last bad packet's number is the low 8 of its own
abbrev pub stream_from : List ℕ → Stream
stream_from l =
    record {
      receiver = state_in l;
      held = get_or l 4 0;
      skip = get_or l 5 0;
      bad = get_or l 6 0;
      last = bad_at (get_or l 12 0 % 256) (get_or l 13 0);
      totals = record { taken = get_or l 7 0; old = get_or l 8 0; far = get_or l 9 0; repeated = get_or l 10 0; differing = get_or l 11 0 };
    }

-- ---- a stream over a receiver
-- any state is taken: one that is refused is refused by 6 when it is fed
unfoldable pub open_answer : Stream → Call
open_answer k = call 0 (stream_numbers k)

-- ---- a chunk
-- its number, the stream lent for it, the tables, the index and the buffer
pub record FeedCall : Type 0 where
  pub number : ℕ
  pub stream : List ℕ
  pub orders : List ℕ
  pub symbols : List ℕ
  pub shelf : List ℕ
  pub index : List ℕ
  pub hold : List ℕ

abbrev pub feed_call : ℕ → List ℕ → List ℕ → List ℕ → List ℕ → List ℕ → List ℕ → FeedCall
feed_call n l o s h ix w = record { number = n; stream = l; orders = o; symbols = s; shelf = h; index = ix; hold = w }

unfoldable pub feed_answer : Feeding → List ℕ → FeedCall
feed_answer f l = feed_call (fed_number f.answer) (told stream_numbers f.answer l) f.orders f.symbols f.shelf f.index f.hold
