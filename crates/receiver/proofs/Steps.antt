-- Steps of a receiver at work, one after another: what they keep, what one of them makes by the edition that all of them keep, and the records that they are given.
-- Assumes nothing.
use Prim.Native.Nat.{ℕ, ◌≤◌}
use mathlib.Core.Path.{◌≡◌, sym, ap, subst, ◌∙◌}
use mathlib.Core.Bool.{Bool}
use mathlib.Core.List.{List}
use native.Mathlib.Omega.{arith}
use lib.ListN.{length}
use Rattle.facts.specs.Limits.{packet_most}
use Rattle.editions.specs.declared.Edition.{Edition}
use Rattle.packet.specs.Packet.{framing}
use Rattle.packet.proofs.Good.{framing_size}
use Rattle.arbitration.specs.Lists.{Every}
use Rattle.arbitration.specs.Receive.{records_of}
use Rattle.arbitration.specs.Loops.{Turned}
use Rattle.shelf.specs.Store.{shelf_store}
use Rattle.receiver.specs.Lent.{ledger_engine, Rx, GoodPacket}
use Rattle.receiver.specs.AtWork.{Kept, Good}
use Rattle.receiver.specs.Lying.{lying}
use Rattle.receiver.proofs.Lying.{length_lie, lying_framed}
use Rattle.receiver.proofs.Records.{good_bounded}
use Rattle.receiver.proofs.Real.{every_framed}
use Rattle.receiver.specs.declared.at_work.Receiver.{Receiver}

pub kept_then : (u v w : Receiver) → Kept u v → Kept v w → Kept u w
kept_then u v w a b = record {
  orders = b.orders ∙ a.orders;
  symbols = b.symbols ∙ a.symbols;
  shelf = b.shelf ∙ a.shelf;
  index = b.index ∙ a.index;
  edition = b.edition ∙ a.edition;
}

pub turned_as : (e f : Edition) (r r' : Rx) (on : Bool) → e ≡ f → Turned shelf_store (ledger_engine e) r r' on → Turned shelf_store (ledger_engine f) r r' on
turned_as e f r r' on same t = subst (λ (x : Edition). Turned shelf_store (ledger_engine x) r r' on) same t

-- the records that lie in a good packet: few, good, and those that its framing found
pub record GoodLying (ed : Edition) (p : List ℕ) : Type 0 where
  pub few : length (lying p) ≤ packet_most
  pub framed : lying p ≡ records_of (framing ed p)
  pub good : Every (Good ed) (lying p)

pub good_lying : (ed : Edition) (p : List ℕ) → GoodPacket ed p → GoodLying ed p
good_lying ed p g =
    let s = framing_size ed p g.cs g.framing_is in
    let framed : lying p ≡ records_of (framing ed p) = lying_framed ed (length p) p g.cs s.2 ∙ sym (ap records_of g.framing_is) in
    let good : Every (Good ed) (records_of (framing ed p)) =
    every_framed ed (Good ed) (λ c h. record { number_from = h.number_from; bounded = good_bounded ed c h; body_good = h.body_good }) p
    in record { few = omega (arith, length_lie (length p) p, s.1); framed = framed; good = subst (Every (Good ed)) (sym framed) good }
