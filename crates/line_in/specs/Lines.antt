-- What a line says (docs/TEXT.md, "What a line says"): a record, or where it is wrong and what was expected there.
use Rattle.std.specs.Prelude.{ℕ, suc, ◌+◌, ◌&&◌, ◌==◌, List, [], ◌∷◌, length, take, drop, get_or, slice_get, set, replicate, Option, Some, None, is_some, is_none, unwrap_or, Result, Ok, Err, position, zip}
use Rattle.std.proofs.lemmas.List.Edits.{sets}
use Rattle.facts.specs.Limits.{last_number}
use Rattle.facts.specs.Pick.{pick}
use Rattle.editions.specs.declared.Edition.{Edition}
use Rattle.kinds.specs.Table.{kind_length}
use Rattle.kinds.specs.declared.Kind.{Kind}
use Rattle.fields.specs.declared.Fault.{Fault}
use Rattle.body.specs.Read.{judge_body}
use Rattle.spans.specs.Spans.{Word, opened, is_note, uncommented, line_most}
use Rattle.figures.specs.Figures.{number_in}
use Rattle.values.specs.Values.{value_in}
use Rattle.keys.specs.Keys.{Entry, kind_named, entries_of, form_at, key_named, blank_body}
use Rattle.line_in.specs.declared.Expected.{Expected}
use Rattle.line_in.specs.declared.Slip.{Slip}
use Rattle.line_in.specs.declared.Draft.{Draft}
use Rattle.line_in.specs.declared.Line.{Line}
use Rattle.line_in.specs.Slips.{slip_at}

-- ---- the fields
-- no message has more fields
abbrev pub most_fields : ℕ
most_fields = 10

-- a record whose fields are all left out
abbrev pub blank_draft : Edition → Kind → Draft
blank_draft ed k = record { edition = ed; kind = k; length = kind_length k; body = blank_body ed k; columns = replicate most_fields None }

abbrev pub entries : Draft → List Entry
entries d = entries_of d.edition d.kind

-- field i with the bytes that its value says, which stands at a place of the line; "its value has not the field's form": told at "the first byte behind the `=`"
unfoldable pub take_value : Option (List ℕ) → ℕ → ℕ → ℕ → Draft → Result Draft Slip
take_value None i at place d = Err (slip_at place (Expected.Value d.kind i))
take_value (Some v) i at place d = Ok (record d { body = sets d.body at v; columns = set d.columns i (Some (suc place)) })

-- "its key stood before": told at the word's first byte
unfoldable pub take_field : Draft → ℕ → ℕ → ℕ → List ℕ → Result Draft Slip
take_field d i at place s =
    let f = form_at d.edition d.kind i in
    pick (is_some (get_or d.columns i None)) (Err (slip_at at (Expected.Once d.kind i))) (take_value (value_in f.style f.width s) i f.at place d)

-- "what stands before it is no key of this message"; the `=` is at place p of the word
unfoldable pub take_keyed : Option ℕ → ℕ → Word → Draft → Result Draft Slip
take_keyed None p w d = Err (slip_at w.at (Expected.Key d.kind))
take_keyed (Some i) p w d = take_field d i w.at (w.at + p + 1) (drop (p + 1) w.bytes)

-- "The key of a word is what stands before its first `=`, the value what stands behind it"; "it has no `=`"
unfoldable pub take_parted : Option ℕ → Word → Draft → Result Draft Slip
take_parted None w d = Err (slip_at w.at (Expected.Key d.kind))
take_parted (Some p) w d = take_keyed (key_named d.edition d.kind (take p w.bytes)) p w d

-- 61 is `=`
unfoldable pub take_word : Word → Draft → Result Draft Slip
take_word w d = take_parted (position (λ x. x == 61) w.bytes) w d

-- "then word by word, from the left"
unfoldable pub take_all : List Word → Result Draft Slip → Result Draft Slip
take_all [] t = t
take_all (w ∷ ws) (Err x) = Err x
take_all (w ∷ ws) (Ok d) = take_all ws (take_word w d)

-- "a field that has to be written was not: the first in the table"
unfoldable pub missing : Draft → Option ℕ
missing d = position (λ p. p.0.form.needed && is_none p.1) (zip (entries d) d.columns)

-- ---- the record
-- the field whose first byte is at a place of the body
abbrev pub field_at : Edition → Kind → ℕ → Option ℕ
field_at ed k place = position (λ f. f.form.at == place) (entries_of ed k)

-- told at the first byte of the field's value; a field that was left out, none of whose defaults is out of range, would be told behind the line
unfoldable pub range_at : Option ℕ → Draft → ℕ → Slip
range_at None d end = slip_at end (Expected.Range d.kind 0)
range_at (Some i) d end = record { column = unwrap_or (get_or d.columns i None) (suc end); expected = Expected.Range d.kind i }

-- "a field is out of range: the first by its place in the body", told at "the first byte of its value"
unfoldable pub range_slip : Draft → ℕ → ℕ → Slip
range_slip d place end = range_at (field_at d.edition d.kind place) d end

-- the body, whose fields are all written: a record, where the reader of the edition takes it, or out of range
unfoldable pub judged_as : Result Kind Fault → ℕ → ℕ → Draft → Result Line Slip
judged_as (Ok k) n end d = Ok (Line.Record n d.body d.length)
judged_as (Err f) n end d = Err (range_slip d f.at end)

-- "The message must be one that the reader of the edition takes"
unfoldable pub judged : ℕ → ℕ → Draft → Result Line Slip
judged n end d = judged_as (judge_body d.edition (take d.length d.body)) n end d

unfoldable pub whole : Option ℕ → ℕ → ℕ → Draft → Result Line Slip
whole (Some i) n end d = Err (slip_at end (Expected.Needed d.kind i))
whole None n end d = judged n end d

unfoldable pub finished : ℕ → ℕ → Draft → Result Line Slip
finished n end d = whole (missing d) n end d

unfoldable pub ended : ℕ → ℕ → Result Draft Slip → Result Line Slip
ended n end (Err x) = Err x
ended n end (Ok d) = finished n end d

-- ---- the line
-- "The sequence number is digits, from 1 to 1,000,000,000,000"
unfoldable pub numbered : Option ℕ → ℕ → Result ℕ Slip
numbered None at = Err (slip_at at Expected.Number)
numbered (Some n) at = pick (n == 0) (Err (slip_at at Expected.Number)) (Ok n)

unfoldable pub number_of : Word → Result ℕ Slip
number_of w = numbered (number_in last_number w.bytes) w.at

-- "the second word is no name"
unfoldable pub named : Option Kind → ℕ → Result Kind Slip
named None at = Err (slip_at at Expected.Name)
named (Some k) at = Ok k

-- "there is no second word", told behind the line's last byte
unfoldable pub kind_of : Option Word → ℕ → Result Kind Slip
kind_of None end = Err (slip_at end Expected.Name)
kind_of (Some w) end = pick (is_note w) (Err (slip_at end Expected.Name)) (named (kind_named w.bytes) w.at)

-- the message and its fields, behind a number
unfoldable pub of_kind : Edition → ℕ → Result Kind Slip → List Word → ℕ → Result Line Slip
of_kind ed n (Err x) ws end = Err x
of_kind ed n (Ok k) ws end = ended n end (take_all (uncommented ws) (Ok (blank_draft ed k)))

unfoldable pub of_number : Edition → Result ℕ Slip → List Word → ℕ → Result Line Slip
of_number ed (Err x) ws end = Err x
of_number ed (Ok n) ws end = of_kind ed n (kind_of (slice_get ws 0) end) (drop 1 ws) end

unfoldable pub read_record : Edition → Word → List Word → ℕ → Result Line Slip
read_record ed w ws end = of_number ed (number_of w) ws end

-- "A line without a word is a blank line", "A line that is a comment stands for nothing", "Any other line is a record"
unfoldable pub of_words : Edition → List Word → ℕ → Result Line Slip
of_words ed [] end = Ok Line.Blank
of_words ed (w ∷ ws) end = pick (is_note w) (Ok Line.Comment) (read_record ed w ws end)

unfoldable pub of_line : Edition → Option (List Word) → ℕ → Result Line Slip
of_line ed None end = Err (slip_at line_most Expected.Shorter)
of_line ed (Some ws) end = of_words ed ws end

-- what a line s says
unfoldable pub read_line : Edition → List ℕ → Result Line Slip
read_line ed s = of_line ed (opened s) (length s)
