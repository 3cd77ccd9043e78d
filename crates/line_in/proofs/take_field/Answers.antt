-- What the value said stands in the field's place, and the column of the value beside it.
-- Assumes nothing.
use Rattle.std.proofs.Common.{◌≡◌, get_or, None, is_some, is_err, false, rules, arith}
use Rattle.line_in.proofs.Laws.{field_taken}
use Rattle.line_in.proofs.take_field.Goals as goal

pub returns : goal.returns
returns c =
    let a = c.args in
    let f = c.form_at-f in
    let free : is_some (get_or a.draft.columns a.i None) ≡ false = search rules in
    let well : is_err c.value_in.result ≡ false = search rules in
    field_taken a.draft a.i a.at a.place f.result a.value.now c.value_in.new.field c.value_in.result f.ensures.form (omega (arith, f.ensures.inside)) free c.value_in.ensures.told c.value_in.ensures.kept well
