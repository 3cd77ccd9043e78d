-- The loop keeps: the answer to the whole is the answer to what is left from `at` on, with the records and bytes so far before it.
-- Assumes nothing.
use mathlib.Core.Path.{sym, ap, ◌∙◌}
use Prim.Native.Nat.{◌+◌, ◌<◌}
use Rattle.std.proofs.Common.{rules}
use Rattle.std.proofs.lemmas.Result.{err_from_is_err_and}
use Rattle.std.specs.Prelude.{Err}
use Rattle.packet.specs.declared.Why.{Why}
use Rattle.packet.proofs.read_packet.Goals.{then-is_empty-via-then-is_empty, then-is_empty-via-else-is_empty+then-p-gt-PACKET_MOST}
use native.Mathlib.Omega.{arith}
use lib.ListN.{length}
use Rattle.packet.specs.Packet.{frames_from, told}
use Rattle.packet.proofs.Laws.{more_none, at_good, at_bad, at_end, packet_is, packet_empty, packet_long, mapped, moved_ok, moved_err}
use Rattle.packet.proofs.read_packet.Goals as goal

pub returns-then-is_empty : goal.returns-then-is_empty
returns-then-is_empty c =
    elim c.then-is_empty.branch [
      | then-is_empty-via-then-is_empty w ↦ packet_empty c.args.e c.args.p.now (grind arith)
      | then-is_empty-via-else-is_empty+then-p-gt-PACKET_MOST w ↦ packet_long c.args.e c.args.p.now w.if-p-gt-PACKET_MOST.true
    ]

pub loop-at-init : goal.loop-at-init
loop-at-init c = (omega arith, omega arith, more_none (told (frames_from c.args.e (length c.args.p.now) c.args.p.now)))

pub map_err-requires : goal.map_err-requires
map_err-requires c f i =
    let g = at_bad c.args.e c.args.p.now c.loop-at.at c.loop-at.records c.read_record.result c.loop-at-test.true c.read_record.ensures f i in
    let m : c.loop-at.at + f.at < 18446744073709551616 = omega (arith, g.0) in
    search rules

pub returns-in_err-h : goal.returns-in_err-h
returns-in_err-h c =
    let p = err_from_is_err_and c.from_residual.result c.from_residual.ensures.1 in
    let m = mapped c.loop-at.at c.read_record.result c.map_err.result _ c.map_err.ensures.cases (λ f g k. search rules) in
    let b = moved_err c.loop-at.at c.read_record.result _ (sym m ∙ c.in_err-h.was) in
    let g = at_bad c.args.e c.args.p.now c.loop-at.at c.loop-at.records c.read_record.result c.loop-at-test.true c.read_record.ensures b.0 b.1 in
    p.1 ∙ ap (λ (w : Why). Err w) (p.2 ∙ ap Why.Placed b.2) ∙ sym (packet_is c.args.e c.args.p.now (grind arith) c.if-p-gt-PACKET_MOST.false ∙ c.loop-at.invariant.2 ∙ g.1)

pub overflow_add-at : goal.overflow_add-at
overflow_add-at c =
    let m = mapped c.loop-at.at c.read_record.result c.map_err.result _ c.map_err.ensures.cases (λ f g k. search rules) in
    let g = at_good c.args.e c.args.p.now c.loop-at.at c.loop-at.records c.read_record.result c.loop-at-test.true c.read_record.ensures _ (moved_ok c.loop-at.at c.read_record.result _ (sym m ∙ c.in_ok-h.was)) in
    omega (arith, g.0)

pub overflow_add-at-in-loop-at : goal.overflow_add-at-in-loop-at
overflow_add-at-in-loop-at c =
    let m = mapped c.loop-at.at c.read_record.result c.map_err.result _ c.map_err.ensures.cases (λ f g k. search rules) in
    let g = at_good c.args.e c.args.p.now c.loop-at.at c.loop-at.records c.read_record.result c.loop-at-test.true c.read_record.ensures _ (moved_ok c.loop-at.at c.read_record.result _ (sym m ∙ c.in_ok-h.was)) in
    omega (arith, g.0)

pub loop-at-preserved : goal.loop-at-preserved
loop-at-preserved c =
    let m = mapped c.loop-at.at c.read_record.result c.map_err.result _ c.map_err.ensures.cases (λ f g k. search rules) in
    let g = at_good c.args.e c.args.p.now c.loop-at.at c.loop-at.records c.read_record.result c.loop-at-test.true c.read_record.ensures _ (moved_ok c.loop-at.at c.read_record.result _ (sym m ∙ c.in_ok-h.was)) in
    (g.0, omega arith, c.loop-at.invariant.2 ∙ g.1)

pub returns : goal.returns
returns c = sym (packet_is c.args.e c.args.p.now (grind arith) c.if-p-gt-PACKET_MOST.false ∙ c.loop-at.invariant.2 ∙ at_end c.args.e c.args.p.now c.loop-at.at c.loop-at.records c.loop-at-test.false)
