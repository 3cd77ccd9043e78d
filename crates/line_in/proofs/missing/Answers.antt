-- The first row that has to be written and has no column.
-- Assumes nothing.
use Rattle.std.proofs.Common.{◌&&◌, is_none, rules, tests, sym, ap, position, zip, List, ◌∙◌}
use Rattle.std.proofs.lemmas.Iterator.{YieldsList-from_slice, YieldsList-from_zip}
use Rattle.std.proofs.lemmas.Iterator.Search.{position_from_yields_List}
use Rattle.keys.specs.Keys.{Entry}
use Rattle.keys.specs.Rows.{entry_of}
use Rattle.keys.proofs.RowLaws.{position-zip}
use Rattle.line_in.specs.Lines.{missing}
use Rattle.line_in.proofs.missing.Goals as goal

pub returns : goal.returns
unfolding missing
returns c =
    let d = c.args.draft.now in
    let rows = c.rows.result.now in
    position_from_yields_List (λ p. p.0.form.needed && is_none p.1) c.position.new.self _ _ c.position.ensures.ran (YieldsList-from_zip (YieldsList-from_slice rows cc) (YieldsList-from_slice d.columns cc)) (λ x b q k. search (rules, tests))
    ∙ sym (position-zip (λ p. p.0.form.needed && is_none p.1) entry_of rows d.columns)
    ∙ ap (λ (es : List Entry). position (λ p. p.0.form.needed && is_none p.1) (zip es d.columns)) c.rows.ensures
