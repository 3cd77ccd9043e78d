-- The line of a record (docs/TEXT.md, "What is written").
use Rattle.std.specs.Prelude.{ℕ, Bool, not, ◌||◌, List, [], ◌∷◌, ◌++◌, length, take, drop, get_or, bytes_eq}
use Rattle.facts.specs.Pick.{pick}
use Rattle.editions.specs.declared.Edition.{Edition}
use Rattle.wire.specs.Le.{padded}
use Rattle.kinds.specs.Table.{kind_of}
use Rattle.kinds.specs.declared.Kind.{Kind}
use Rattle.text.specs.Text.{decimal_of, first_texts}
use Rattle.values.specs.Values.{value_text}
use Rattle.keys.specs.Keys.{Entry, name_of, entries_of, no_entry, blank_body}
use Rattle.keys.specs.declared.Form.{Form}

-- the bytes of a field in a body
abbrev pub part : Form → List ℕ → List ℕ
part f b = take f.width (drop f.at b)

-- "each field .., but those that may be left out and have their default"
unfoldable pub is_shown : Form → List ℕ → List ℕ → Bool
is_shown f b blank = f.needed || not (bytes_eq (part f b) (part f blank))

-- "a space, the key, `=` and the value" (32 is a space, 61 is `=`)
unfoldable pub field_by : Entry → List ℕ → List ℕ → List ℕ
field_by f b blank = pick (is_shown f.form b blank) (32 ∷ (f.key ++ (61 ∷ value_text f.form.style (part f.form b)))) []

-- the same of field i of a message
abbrev pub field_text : Edition → Kind → List ℕ → ℕ → List ℕ
field_text ed k b i = field_by (get_or (entries_of ed k) i no_entry) b (blank_body ed k)

-- "its number, a space, the name", and the fields of a body b, which may be any 42 bytes
unfoldable pub line_by : Edition → Kind → ℕ → List ℕ → List ℕ
line_by ed k n b = decimal_of n ++ (32 ∷ (name_of k ++ first_texts (field_text ed k b) (length (entries_of ed k))))

-- the line of a record, without its line feed: the message goes by the body's first byte, and bytes that a body does not have count as zeros
unfoldable pub record_line : Edition → ℕ → List ℕ → List ℕ
record_line ed n b = line_by ed (kind_of (get_or b 0 0)) n (padded b 0 42)
