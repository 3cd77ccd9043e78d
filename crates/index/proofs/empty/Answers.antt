-- Zeros up to the hints or, in a shorter memory, to its end.
-- Assumes nothing.
use Rattle.std.proofs.Common.{rules, ◌≡◌, ◌++◌, List, ℕ, drop, take, replicate, length, ap, ◌∙◌}
use Rattle.index.proofs.Cases.{zeroed_end}
use Rattle.index.proofs.empty.Goals as goal

pub returns : goal.returns
returns c =
    let end = c.min-end.result in
    let e : c.fill.new.self ≡ replicate (length (take end c.args.ix.now)) 0 = search rules in
    ap (λ (l : List ℕ). l ++ drop end c.args.ix.now) e ∙ zeroed_end c.args.ix.now end c.min-end.ensures
