-- The version is stored in front of zeros.
-- Assumes nothing.
use mathlib.Core.Path.{ap, ◌∙◌}
use lib.ListN.{length}
use Rattle.wire.proofs.Laws.{length_padded}
use Rattle.fields.specs.declared.SystemState.{SystemState}
use Rattle.numbers.specs.Numbers.{state_text}
use Rattle.numbers.proofs.Texts.{version_laid}
use Rattle.numbers.proofs.state_text.Goals as goal

pub returns : goal.returns
returns c = c.put_at.ensures ∙ (version_laid c.state_of-m.result.version (ap (λ (m : SystemState). length m.version) c.state_of-m.ensures ∙ length_padded _ 5 8) ∙ ap state_text c.state_of-m.ensures)
