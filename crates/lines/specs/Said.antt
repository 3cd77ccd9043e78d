-- What a line that is read as a record says: its number, its message, and each of its fields, those that are written and those that are left out (docs/TEXT.md, "What a line says", "Messages").
use Rattle.std.specs.Prelude.{ℕ, suc, ◌-◌, ◌≤◌, ◌<◌, ◌≡◌, Bool, true, List, [], ◌∷◌, length, take, drop, get_or, ltb, bytes_eq, Option, Some, None, is_some}
use Rattle.facts.specs.Limits.{last_number}
use Rattle.facts.specs.Pick.{pick, both}
use Rattle.facts.specs.Sums.{count_by}
use Rattle.editions.specs.declared.Edition.{Edition}
use Rattle.kinds.specs.Table.{type_of, kind_length}
use Rattle.kinds.specs.declared.Kind.{Kind}
use Rattle.body.specs.Read.{good_body}
use Rattle.packet.specs.Record.{number_ok}
use Rattle.spans.specs.Spans.{Word, words_at, uncommented, place_of}
use Rattle.figures.specs.Figures.{number_in}
use Rattle.values.specs.Values.{value_in}
use Rattle.keys.specs.Keys.{name_of, entries_of, key_at, form_at, blank_body, zeros}
use Rattle.keys.specs.declared.Form.{Form}
use Rattle.line_out.specs.Lines.{part}

-- ---- what is written of a field
-- "The key of a word is what stands before its first `=`" (61 is `=`)
unfoldable pub key_in : List ℕ → List ℕ
key_in s = take (place_of 61 s) s

-- ".. the value what stands behind it, and may have more of them"
unfoldable pub behind_key : List ℕ → List ℕ
behind_key s = drop (suc (place_of 61 s)) s

-- "each as `key=value`, one word each": a word that names field i has an `=`, and before it the key of that field
unfoldable pub names : Edition → Kind → ℕ → Word → Bool
names ed k i w = both (ltb (place_of 61 w.bytes) (length w.bytes)) (bytes_eq (key_at ed k i) (key_in w.bytes))

-- the value of the word that names field i; none where the field is left out
unfoldable pub value_for : Edition → Kind → ℕ → List Word → Option (List ℕ)
value_for ed k i [] = None
value_for ed k i (w ∷ ws) = pick (names ed k i w) (Some (behind_key w.bytes)) (value_for ed k i ws)

-- every word names a field of the message
abbrev pub AllNamed : Edition → Kind → List Word → Type 0
AllNamed ed k [] = Unit {0}
AllNamed ed k (w ∷ ws) = ((i : ℕ) × (i < length (entries_of ed k)) × (names ed k i w ≡ true)) × AllNamed ed k ws

-- ---- the bytes of a field
-- "what a field that is left out has", the bytes v; a field that is written has what its value says, by "the form of its value"
unfoldable pub bytes_by : Form → List ℕ → Option (List ℕ) → Option (List ℕ)
bytes_by f v None = Some v
bytes_by f v (Some s) = value_in f.style f.width s

-- the bytes that field i has to have, by the words behind the name; its default is its part of the blank body
unfoldable pub said_of : Edition → Kind → List Word → ℕ → Option (List ℕ)
said_of ed k ws i = bytes_by (form_at ed k i) (part (form_at ed k i) (blank_body ed k)) (value_for ed k i ws)

-- ---- the line
-- what a line s says that is read as a record of number n, whose body is the first m bytes of b
pub record Says (ed : Edition) (s : List ℕ) (n m : ℕ) (b : List ℕ) : Type 0 where
  -- "its sequence number, the name of its message, and its fields in any order", up to a comment
  pub first : Word
  pub second : Word
  pub words : List Word
  pub line : uncommented (words_at 0 s) ≡ first ∷ (second ∷ words)
  -- "The sequence number is digits, from 1 to 1,000,000,000,000"
  pub digits : number_in last_number first.bytes ≡ Some n
  pub number : number_ok n ≡ true
  -- a message, by its name: its length and its type byte
  pub kind : Kind
  pub message : type_of kind ≡ 0 → ⊥
  pub name : second.bytes ≡ name_of kind
  pub long : m ≡ kind_length kind
  pub type : get_or b 0 0 ≡ type_of kind
  -- "Each key is written at most once", and is one of this message
  pub known : AllNamed ed kind words
  pub once : (i : ℕ) → i < length (entries_of ed kind) → count_by (names ed kind i) words ≤ 1
  -- "A field without a default has to be written"
  pub needed : (i : ℕ) → i < length (entries_of ed kind) → (form_at ed kind i).needed ≡ true → is_some (value_for ed kind i words) ≡ true
  -- each field has what was written, or its default; behind the last one are zeros, up to the 42 bytes of the longest body
  pub fields : (i : ℕ) → i < length (entries_of ed kind) → said_of ed kind words i ≡ Some (part (form_at ed kind i) b)
  pub behind : drop m b ≡ zeros (42 - m)
  -- "The message must be one that the reader of the edition takes"
  pub good : good_body ed (take m b) ≡ true
