-- Each byte of the ticker as it is shown, and of those the bytes before the spaces at its end.
-- Assumes nothing.
use Prim.Native.Nat.{ℕ, ◌<◌}
use mathlib.Core.Path.{◌≡◌, sym, ◌∙◌}
use mathlib.Core.List.{map}
use lib.ListN.{length-map, get_or}
use borrow.Author.Rules.{rules}
use Rattle.std.proofs.lemmas.List.{ext_get_or, get_or-map, take-map}
use Rattle.text.specs.Text.{shown_of, ticker_of}
use Rattle.text.proofs.ticker.Goals as goal

pub returns : goal.returns
unfolding ticker_of
returns c =
    let t = c.args.t in
    let k : (i : ℕ) → i < 11 → get_or c.map.result i 0 ≡ shown_of (get_or t i 0) = λ i h. let w = c.map.ensures.items.at i 0 0 h in search rules in
    let e : c.map.result ≡ map shown_of t =
    ext_get_or 0 c.map.result (map shown_of t) (search (rules, length-map)) (λ i h. k i (search rules) ∙ sym (get_or-map shown_of t i 0 0 (search rules))) in
    let b = rw (e, take-map) at c.bytes.ensures in
    rw c.trimmed-n.ensures.1 at b
