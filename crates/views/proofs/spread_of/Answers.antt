-- The nearest place of a side is its best price, and where there is none the side is empty.
-- Assumes nothing.
use mathlib.Core.Path.{◌≡◌}
use Prim.Native.Nat.{◌-◌}
use native.Mathlib.Omega.{arith}
use lib.IntN.{pos, ◌-ℤ◌}
use mir.Syntax.{w64}
use mir.ValLaws.{to_z-of_z}
use Rattle.facts.specs.Limits.{most_price}
use Rattle.rows.specs.Rows.{rows}
use Rattle.views.proofs.Laws.{place_found}
use Rattle.views.proofs.Signs.{minus_fits}
use Rattle.views.proofs.Spreads.{no_bid, no_offer, two_sided}
use borrow.Author.Rules.{rules}
use Rattle.views.proofs.spread_of.Goals as goal

pub returns-in_err-bid : goal.returns-in_err-bid
returns-in_err-bid c = search (rules, no_bid)

pub returns-in_err-offer : goal.returns-in_err-offer
returns-in_err-offer c = search (rules, no_offer)

pub overflow_sub-bid : goal.overflow_sub-bid
overflow_sub-bid c = (place_found c.key_of.result 0 (rows c.args.orders.now) c.in_ok-bid.bid (search rules)).1

pub minus-requires : goal.minus-requires
minus-requires c = let f = (place_found c.key_of-2.result 0 (rows c.args.orders.now) c.in_ok-offer.offer (search rules)).1 in (omega arith, omega arith)

pub returns : goal.returns
returns c =
    let a = c.args in
    let b = c.in_ok-bid.bid in
    let o = c.in_ok-offer.offer in
    let p = two_sided a.symbol (rows a.orders.now) b (search rules) o (search rules) in
    let f = (place_found c.key_of-2.result 0 (rows a.orders.now) o (search rules)).1 in
    let m : c.minus.result ≡ pos o -ℤ pos (most_price - b) = c.minus.ensures in
    rw (m, to_z-of_z w64 _ (minus_fits o (most_price - b) f (omega arith))) p
