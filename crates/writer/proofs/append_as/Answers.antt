-- Beyond the memory, or what the reader says of the packet so far, or the record (beyond, refused_here, good_here): refused, the memory is as it was (put_own_refused); else the record stands in it (put_own_stored).
-- Assumes nothing.
use mathlib.Core.Path.{refl, sym, ap, ◌∙◌}
use Prim.Native.Nat.{◌+◌}
use native.Mathlib.Omega.{arith}
use lib.ListN.{length}
use Rattle.packet.specs.declared.Why.{Why}
use Rattle.std.specs.Prelude.{Err}
use Rattle.std.proofs.lemmas.Result.{err_from_is_err_and}
use Rattle.writer.proofs.Laws.{unless_ok, unless_err, allowed, put_own_refused, put_own_stored, beyond, refused_here, good_here}
use Rattle.writer.specs.Append.{message_number, writing, appended_as}
use Rattle.writer.proofs.append_as.Goals as goal

pub returns-then-memory-used : goal.returns-then-memory-used
unfolding appended_as
returns-then-memory-used c = beyond _ _ c.args.memory.now c.args.used _ c.if-memory-used.true

pub returns-in_err-so_far : goal.returns-in_err-so_far
unfolding appended_as
returns-in_err-so_far c =
    let p = err_from_is_err_and c.from_residual.result c.from_residual.ensures.1 in
    ap (λ r. writing r c.args.memory.now) (p.1 ∙ ap (λ (w : Why). Err w) p.2) ∙ refused_here _ _ c.args.memory.now c.args.used _ _ c.if-memory-used.false (sym c.so_far.ensures ∙ c.in_err-so_far.was)

pub returns-in_err-allowed : goal.returns-in_err-allowed
unfolding appended_as
returns-in_err-allowed c =
    let p = err_from_is_err_and c.from_residual-in_err-allowed.result c.from_residual-in_err-allowed.ensures.1 in
    let q = unless_err _ _ (sym c.allowed.ensures ∙ c.in_err-allowed.was) in
    ap (λ r. writing r c.args.memory.now) (p.1 ∙ ap (λ (w : Why). Err w) (p.2 ∙ ap Why.Alone q.1))
    ∙ put_own_refused (message_number c.args.message) c.args.number c.args.memory.now c.args.used c.args.body.now _ refl q.0
    ∙ good_here _ _ c.args.memory.now c.args.used _ _ c.if-memory-used.false (sym c.so_far.ensures ∙ c.in_ok-so_far.was)

pub put_record-requires : goal.put_record-requires
put_record-requires c =
    let a = allowed (message_number c.args.message) c.args.number (length c.args.memory.now) (c.args.used + (10 + length c.args.body.now)) (unless_ok _ _ (sym c.allowed.ensures ∙ c.in_ok-allowed.was)) in
    record { room = a.in_room; small = omega (arith, a.in_packet) }

pub overflow_add-result-2 : goal.overflow_add-result-2
overflow_add-result-2 c = omega (arith, (allowed (message_number c.args.message) c.args.number (length c.args.memory.now) (c.args.used + (10 + length c.args.body.now)) (unless_ok _ _ (sym c.allowed.ensures ∙ c.in_ok-allowed.was))).in_packet)

pub returns : goal.returns
unfolding appended_as
returns c =
    put_own_stored (message_number c.args.message) c.args.number c.args.memory.now c.args.used c.args.body.now _ _ refl (unless_ok _ _ (sym c.allowed.ensures ∙ c.in_ok-allowed.was)) c.put_record.ensures
    ∙ good_here _ _ c.args.memory.now c.args.used _ _ c.if-memory-used.false (sym c.so_far.ensures ∙ c.in_ok-so_far.was)
