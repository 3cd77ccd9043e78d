-- Where the field is written four texts go one behind another, else none.
-- Assumes nothing.
use Rattle.std.proofs.Common.{◌≡◌, [], ◌∷◌, ◌++◌, true, false, refl, ap, rules}
use Rattle.facts.specs.Pick.{pick}
use Rattle.text.proofs.Laws.{wrote_none, wrote_then, wrote_as}
use Rattle.values.specs.Values.{value_text}
use Rattle.keys.specs.Rows.{entry_of}
use Rattle.line_out.specs.Lines.{part, is_shown, field_by}
use Rattle.line_out.proofs.put_field.Goals as goal

pub returns-then-not-is_shown : goal.returns-then-not-is_shown
unfolding field_by pick
returns-then-not-is_shown c =
    let a = c.args in
    let no_text : is_shown a.row.now.form a.b.now a.blank.now ≡ false = search rules in
    let left : [] ≡ field_by (entry_of a.row.now) a.b.now a.blank.now = rw no_text refl in
    wrote_as left (wrote_none (search rules))

pub returns : goal.returns
unfolding field_by pick
returns c =
    let a = c.args in
    let f = entry_of a.row.now in
    let shown : is_shown f.form a.b.now a.blank.now ≡ true = search rules in
    let written : 32 ∷ (f.key ++ (61 ∷ value_text f.form.style (part f.form a.b.now))) ≡ field_by f a.b.now a.blank.now = rw shown refl in
    wrote_as written (wrote_then c.byte-o.ensures (wrote_then (wrote_as c.as_bytes.ensures.value c.bytes-p.ensures) (wrote_then c.byte-q.ensures (wrote_as (ap (value_text f.form.style) c.part.ensures) c.put_value.ensures))))
