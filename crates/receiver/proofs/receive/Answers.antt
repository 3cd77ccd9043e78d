-- The tests come in the order of `receives`: sizes, next, then the packet's own framing.
-- Assumes nothing.
use mathlib.Core.Path.{sym, ◌∙◌}
use Rattle.book.specs.Book.{book}
use Rattle.book.specs.Ledger.{ledger}
use Rattle.packet.proofs.Good.{good_framing}
use Rattle.receiver.specs.Lent.{real, lent}
use Rattle.receiver.proofs.Accounts.{refused_sizes, refused_next, by_frame, refused_packet, next_most, framed_bad}
use Rattle.receiver.proofs.Real.{real_laws}
use Rattle.receiver.proofs.receive.Goals as goal
use Rattle.receiver.proofs.receive.Goals.{then-not-sized-via-then-not-sized, then-not-sized-via-else-not-sized+then-not-next_ok}

pub returns-then-not-sized : goal.returns-then-not-sized
returns-then-not-sized c =
    let a = c.args in
    let k = lent a.orders.now a.symbols.now a.shelf.now a.index.now a.state in
    elim c.then-not-sized.branch [
      | then-not-sized-via-then-not-sized v ↦ refused_sizes (real a.state.edition) k a.p.now (sym c.sizes_ok-sized.ensures ∙ v.if-not-sized.true)
      | then-not-sized-via-else-not-sized+then-not-next_ok v ↦ refused_next (real a.state.edition) k a.p.now (sym c.sizes_ok-sized.ensures ∙ v.if-not-sized.false) (sym v.next_ok.ensures ∙ v.if-not-next_ok.true)
    ]

pub accept-requires-clause-next : goal.accept-requires-clause-next
accept-requires-clause-next c = next_most c.args.state.next (sym c.next_ok.ensures ∙ c.if-not-next_ok.false)

pub accept-requires-clause-good : goal.accept-requires-clause-good
accept-requires-clause-good c = let g = good_framing c.args.state.edition c.args.p.now _ (sym c.read_packet.ensures ∙ c.in-Ok.is) in record { cs = g.0; framing_is = g.1 }

pub accept-requires-clause-shelf : goal.accept-requires-clause-shelf
accept-requires-clause-shelf c =
    let a = c.args in
    (real_laws a.state.edition).sized_ok (ledger (book a.orders.now a.symbols.now a.state.clock) a.index.now) a.shelf.now (sym c.sizes_ok-sized.ensures ∙ c.if-not-sized.false)

pub returns-in-Err : goal.returns-in-Err
returns-in-Err c =
    let a = c.args in
    refused_packet (real a.state.edition) (lent a.orders.now a.symbols.now a.shelf.now a.index.now a.state) a.p.now (sym c.sizes_ok-sized.ensures ∙ c.if-not-sized.false) (sym c.next_ok.ensures ∙ c.if-not-next_ok.false) _ (framed_bad a.state.edition a.p.now _ (sym c.read_packet.ensures ∙ c.in-Err.is))

pub returns-in-Ok : goal.returns-in-Ok
returns-in-Ok c =
    let a = c.args in
    c.accept.ensures ∙ by_frame (real a.state.edition) (lent a.orders.now a.symbols.now a.shelf.now a.index.now a.state) a.p.now (sym c.sizes_ok-sized.ensures ∙ c.if-not-sized.false) (sym c.next_ok.ensures ∙ c.if-not-next_ok.false)
