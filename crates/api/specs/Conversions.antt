-- What the two calls that convert answer: a number, the packet or piece after it, and the counts (docs/CONVERT.md).
use Rattle.std.specs.Prelude.{ℕ, List, [], ◌∷◌}
use Rattle.conversion.specs.declared.Tally.{Tally}
use Rattle.conversion.specs.Packet.{Conversion}
use Rattle.conversion.specs.Piece.{Turned, pieced_number}
use Rattle.api.specs.Told.{why_code, code_of, told}

-- its number, with the offset above it where reading has one, the bytes that were converted in place, and the counts lent for it
pub record ConvertCall : Type 0 where
  pub number : ℕ
  pub bytes : List ℕ
  pub counts : List ℕ

abbrev pub convert_call : ℕ → List ℕ → List ℕ → ConvertCall
convert_call n b l = record { number = n; bytes = b; counts = l }

-- ---- a packet
-- Symbol Updates rewritten; a refusal leaves the lent number as it is
unfoldable pub convert_answer : Conversion → List ℕ → ConvertCall
convert_answer x l = convert_call (code_of why_code x.answer) x.packet (told (λ n. n ∷ []) x.answer l)

-- ---- a piece
-- the bytes of whole packets, Symbol Updates rewritten, packets passed on unread, packets barred
abbrev pub piece_numbers : ℕ × Tally → List ℕ
piece_numbers (n, t) = n ∷ t.updates ∷ t.unread ∷ t.barred ∷ []

unfoldable pub piece_answer : Turned → List ℕ → ConvertCall
piece_answer x l = convert_call (pieced_number x.answer) x.bytes (told piece_numbers x.answer l)
