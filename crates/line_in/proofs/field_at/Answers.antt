-- The first row that begins at the place.
-- Assumes nothing.
use Rattle.std.proofs.Common.{◌==◌, rules, tests, sym, ap, position, ◌∙◌}
use Rattle.std.proofs.lemmas.Iterator.{YieldsList-from_slice}
use Rattle.std.proofs.lemmas.Iterator.Search.{position_from_yields_List}
use Rattle.keys.specs.Rows.{entry_of}
use Rattle.keys.proofs.RowLaws.{position-map}
use Rattle.line_in.proofs.field_at.Goals as goal

pub returns : goal.returns
returns c =
    let rows = c.rows.result.now in
    position_from_yields_List (λ r. r.form.at == c.args.place) _ _ _ c.position.ensures.ran (YieldsList-from_slice rows cc) (λ x b q k. search (rules, tests))
    ∙ sym (position-map (λ f. f.form.at == c.args.place) entry_of rows)
    ∙ ap (position (λ f. f.form.at == c.args.place)) c.rows.ensures
