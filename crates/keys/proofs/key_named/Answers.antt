-- The first row with that key.
-- Assumes nothing.
use Rattle.std.proofs.Common.{rules, tests, bytes_eq, sym, ap, position, ◌∙◌}
use Rattle.std.proofs.lemmas.Iterator.{YieldsList-from_slice}
use Rattle.std.proofs.lemmas.Iterator.Search.{position_from_yields_List}
use Rattle.keys.specs.Rows.{entry_of}
use Rattle.keys.proofs.RowLaws.{position-map}
use Rattle.keys.proofs.key_named.Goals as goal

pub returns : goal.returns
returns c =
    position_from_yields_List (λ r. bytes_eq r.key.now c.args.w.now) _ _ _ c.position.ensures.ran (YieldsList-from_slice c.rows.result.now cc) (λ x b q k. search (rules, tests))
    ∙ sym (position-map (λ f. bytes_eq f.key c.args.w.now) entry_of c.rows.result.now)
    ∙ ap (position (λ f. bytes_eq f.key c.args.w.now)) c.rows.ensures
