-- One record more, or none where nothing is left.
-- Assumes nothing.
use Rattle.std.proofs.Common.{rules, ◌≡◌, ◌+◌, ◌∷◌, length, List, ℕ, Bor, drop, ap, sym, refl, ◌∙◌}
use native.Mathlib.Omega.{arith}
use Rattle.packet.specs.Record.{head_of}
use Rattle.receiver.specs.Lying.{lying}
use Rattle.receiver.proofs.Lying.{lying_next, lying_none, cut_off}
use Rattle.receiver.proofs.walk.RecordsIterator.next.Goals as goal

pub returns-then-is_empty-clause-steps : goal.returns-then-is_empty-clause-steps
returns-then-is_empty-clause-steps c = let e = lying_none c.args.self.now.rest.now (search rules) in (e, e)

pub returns-clause-steps : goal.returns-clause-steps
returns-clause-steps c =
    let t = c.args.self.now.rest.now in
    let left : c.unwrap_or-self.result.now ≡ drop (10 + (head_of t).len) t =
    ap (λ (x : Bor (List ℕ)). x.now) c.unwrap_or-self.ensures ∙ cut_off t (10 + c.at-len.result) c.get.result _ refl c.get.ensures.lookup ∙ ap (λ n. drop (10 + n) t) c.at-len.ensures in
    lying_next t (search rules) ∙ (λ i. record { number = sym c.at.ensures i; body = sym c.body_at.ensures i } ∷ lying (sym left i))

pub returns-clause-goes : goal.returns-clause-goes
returns-clause-goes c = record { on = λ h. (tt, tt, omega (arith, ap length (returns-clause-steps c))); keeps = tt; rests = λ h. tt }
