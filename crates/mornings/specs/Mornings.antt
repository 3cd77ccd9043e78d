-- "One morning's recording to suit every edition we teach" (document 00): what is said of a recording and of what `convert` makes of it.
use Rattle.std.specs.Prelude.{ℕ, ◌≡◌, Bool, true, false, List, [], map, Result, Ok, Err}
use Rattle.editions.specs.declared.Edition.{Edition}
use Rattle.receiver.specs.Lent.{Lent, orders_of, symbols_of, state_of}
use Rattle.fields.specs.declared.Refusal.{Refusal}
use Rattle.recording.specs.declared.Stream.{Stream}
use Rattle.recording.specs.Stream.{cut, Feeding}
use Rattle.recording.specs.Whole.{fed_all, opened_over}
use Rattle.answer_sheet.specs.declared.Recording.{Recording}
use Rattle.answer_sheet.specs.Lines.{Line}
use Rattle.answer_sheet.specs.Sheet.{lines_of}
use Rattle.retype.specs.Retyped.{Asked}
use Rattle.conversion.specs.Piece.{passed, piece_of}
use Rattle.mornings.specs.Tables.{entries_to}

-- ---- what is converted
-- a packet, and a recording, of the edition `from`
abbrev pub packet_to : Edition → Asked → List ℕ → List ℕ
packet_to from a p = (passed from a p).packet

abbrev pub packets_to : Edition → Asked → List (List ℕ) → List (List ℕ)
packets_to from a ps = map (packet_to from a) ps

abbrev pub recording_to : Edition → Asked → List ℕ → List ℕ
recording_to from a t = (piece_of from a t).bytes

-- ---- what is the same
-- two receivers, one of which was given what the other was given, converted: state, order table and, but for byte 20 of its entries, the symbol table
pub record SameMorning (a : Asked) (k k' : Lent) : Type 0 where
  pub next : (state_of k').next ≡ (state_of k).next
  pub clock : (state_of k').clock ≡ (state_of k).clock
  pub stop : (state_of k').stop ≡ (state_of k).stop
  pub orders : orders_of k' ≡ orders_of k
  pub symbols : symbols_of k' ≡ entries_to a (symbols_of k)

-- ---- the sheet of a recording
abbrev pub whole_or_cut : Bool → Recording
whole_or_cut true = Recording.Cut
whole_or_cut false = Recording.Whole

-- the lines of what a recording was fed to (a stream that was opened over a start's tables is never refused: `never_refused` of recording/FromStart)
unfoldable pub lines_after : Feeding → List Line
lines_after x = go x.answer
  where
    go : Result Stream Refusal → List Line
    go (Ok k) = lines_of (whole_or_cut (cut k)) k.bad k.receiver x.orders x.symbols
    go (Err r) = []

-- the sheet of a recording in an edition, in chunks of any size, from a start with tables of o numbers and s bytes, a shelf of h, an index of i numbers or none, and a buffer w
abbrev pub sheet_in : Edition → ℕ → ℕ → ℕ → ℕ → List ℕ → List (List ℕ) → List Line
sheet_in ed o s h i w chunks = lines_after (fed_all chunks (opened_over ed o s h i w))
