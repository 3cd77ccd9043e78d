-- The first message with that name.
-- Assumes nothing.
use Rattle.std.proofs.Common.{rules, tests, bytes_eq, sym, ◌∙◌}
use Rattle.std.proofs.lemmas.Iterator.{YieldsList-from_slice}
use Rattle.std.proofs.lemmas.Iterator.Consumers.{YieldsList-from_copied}
use Rattle.std.proofs.lemmas.Iterator.Search.{find_from_yields_List}
use Rattle.std.proofs.lemmas.Iterator.Adapters.{option_map_id}
use Rattle.keys.specs.Keys.{name_of, kinds}
use Rattle.keys.proofs.kind_named.Goals as goal

pub returns : goal.returns
returns c = sym (option_map_id _) ∙ find_from_yields_List (λ k. bytes_eq (name_of k) c.args.w.now) _ _ _ c.find.ensures.ran (YieldsList-from_copied (YieldsList-from_slice kinds cc)) (λ x b q k. search (rules, tests))
