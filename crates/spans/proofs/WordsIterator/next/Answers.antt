-- What stands before the first byte that is no blank is passed over, and the word ends at the first blank behind it.
-- Assumes nothing.
use Rattle.std.proofs.Common.{◌≡◌, [], ◌∷◌, ◌+◌, ◌-◌, not, length, drop, take, Some, ap, sym, ◌∙◌, rules, arith, position, take_all, length-drop, tests}
use Rattle.std.proofs.lemmas.Iterator.{YieldsList-from_slice}
use Rattle.std.proofs.lemmas.Iterator.Search.{position_from_yields_List}
use Rattle.spans.specs.Spans.{blank, words_at, word}
use Rattle.spans.specs.Left.{words_left}
use Rattle.spans.proofs.Laws.{words_none, words_first}
use Rattle.spans.proofs.WordsIterator.next.Goals as goal

pub returns-in_err-start-clause-steps : goal.returns-in_err-start-clause-steps
returns-in_err-start-clause-steps c =
    let line = c.args.self.now in
    let none : words_left line ≡ [] = words_none line.at line.rest.now (sym (position_from_yields_List (λ x. not (blank x)) _ _ _ c.position.ensures.ran (YieldsList-from_slice line.rest.now cc) (λ x b q k. search (rules, tests))) ∙ c.in_err-start.was) in
    rw c.from_residual.ensures (none, none)

first_word : (c : goal.After-result-1) → words_left c.args.self.now ≡ word (c.args.self.now.at + c.in_ok-start.start) c.split_at.result.0.now ∷ words_at (c.args.self.now.at + c.in_ok-start.start + c.unwrap_or-end.result) c.split_at.result.1.now
first_word c =
    let line = c.args.self.now in
    let n = c.in_ok-start.start in
    let f = take (length line.rest.now - n) (drop n line.rest.now) in
    let p : position (λ x. not (blank x)) line.rest.now ≡ Some n = sym (position_from_yields_List (λ x. not (blank x)) _ _ _ c.position.ensures.ran (YieldsList-from_slice line.rest.now cc) (λ x b q k. search (rules, tests))) ∙ c.in_ok-start.was in
    let q : c.position-2.result ≡ position blank f = position_from_yields_List blank _ _ _ c.position-2.ensures.ran (YieldsList-from_slice _ cc) (λ x b q k. search (rules, tests)) in
    let whole : f ≡ drop n line.rest.now = take_all _ _ (rw length-drop (omega arith)) in
    words_first line.at n c.unwrap_or-end.result line.rest.now f _ _ p whole (search rules) c.split_at.ensures.front c.split_at.ensures.back

pub returns-clause-steps : goal.returns-clause-steps
returns-clause-steps c = first_word c

pub returns-clause-goes : goal.returns-clause-goes
returns-clause-goes c = let shorter = ap length (first_word c) in search rules
