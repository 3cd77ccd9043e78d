-- The bytes of a read stand behind those before it.
use Rattle.std.proofs.Common.{◌≡◌, ◌+◌, rules, take, drop, ap, sym, subst, ◌∙◌, ◌++◌}
use Rattle.std.specs.Io.KnownBytes.{Consumes}
use Rattle.std.proofs.KnownBytes.{Consumes-trans}
use lib.Seq.{take-add}
use Rattle.streams.proofs.read_full.Goals as goal

pub loop-done-preserved : goal.loop-done-preserved
loop-done-preserved g c =
    let read = c.in_ok-n.ensures in
    let new = c.read_behind.new.buf in
    let done = c.loop-done.done in
    let n = c.in_ok-n.n in
    let joined : take done c.loop-done.buf ++ take n (drop done new) ≡ take (done + n) new =
    ap (λ l. l ++ take n (drop done new)) (sym read.front) ∙ sym (take-add done n new) in
    (search rules, read.fits, subst (Consumes _ _) joined (Consumes-trans _ _ _ _ _ c.loop-done.invariant.2 read.bytes))
