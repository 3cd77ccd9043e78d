-- Numbers or-ed are 0 exactly if each is.
-- Assumes nothing.
use Rattle.std.proofs.Common.{rules, ◌≡◌, ap, ◌∙◌}
use Rattle.std.specs.Prelude.{fold, bit_or}
use lib.Dec.{eqb}
use Rattle.index.proofs.Cases.{zeros_or}
use Rattle.index.proofs.none_in.Goals as goal

pub returns : goal.returns
returns c =
    let e : c.fold.result ≡ fold bit_or 0 c.args.eight.now = search rules in
    ap (λ n. eqb n 0) e ∙ zeros_or 0 c.args.eight.now
