-- The two bytes of the length are the number that they say, and the packet follows them.
-- Assumes nothing.
use Rattle.std.proofs.Common.{◌≡◌, ℕ, List, [], ◌∷◌, ◌++◌, ◌+◌, ◌*◌, ◌%◌, ◌/◌, ◌<◌, ◌≤◌, length, get_or, take, sym, ap, ◌∙◌, subst, arith}
use Rattle.std.specs.Io.KnownBytes.{Consumes}
use Rattle.std.proofs.KnownBytes.{Consumes-trans}
use Rattle.std.proofs.lemmas.Result.{err_from_is_err_and}
use lib.ListN.{length-take}
use lib.Seq.{take_all, take_at}
use Rattle.streams.specs.Streams.{framed}
use Rattle.streams.proofs.read_packet.Goals as goal

two_bytes : (b : List ℕ) (n : ℕ) → length b ≡ 2 → get_or b 0 0 < 256 → get_or b 1 0 < 256 → n ≡ get_or b 0 0 + get_or b 1 0 * 256 → b ≡ n % 256 ∷ n / 256 ∷ []
two_bytes [] n l h k e = cc
two_bytes (x ∷ []) n l h k e = cc
two_bytes (x ∷ y ∷ []) n l h k e =
    let low : x ≡ n % 256 = omega (arith, h, k, e) in
    let high : y ≡ n / 256 = omega (arith, h, k, e) in
    λ i. low i ∷ high i ∷ []
two_bytes (x ∷ y ∷ z ∷ b) n l h k e = cc

framed_so : (b new rest : List ℕ) (n m k : ℕ) → b ≡ n % 256 ∷ n / 256 ∷ [] → 2 ≤ m → length new ≡ n → n ≤ k → take m b ++ take k new ≡ framed n (new ++ rest)
framed_so b new rest n m k e l w h =
    (λ i. take_all m b (omega (arith, ap length e)) i ++ take_all k new (omega arith) i)
    ∙ ap (λ (x : List ℕ). x ++ new) e
    ∙ ap (λ (x : List ℕ). n % 256 ∷ n / 256 ∷ x) (sym (take_at new rest n w))

pub returns-clause-bytes : goal.returns-clause-bytes
returns-clause-bytes g c =
    let b = c.read_full.new.buf in
    let new = c.read_full-2.new.buf in
    let n = c.from-n.result in
    let fits = c.if-branch-lt2 in
    let size : length b ≡ 2 = omega arith in
    let said : n ≡ get_or b 0 0 + get_or b 1 0 * 256 = c.from-n.ensures ∙ c.from_le_bytes.ensures in
    let two = two_bytes b n size fits.element_fits.fits fits.element_fits2.fits said in
    let wide : length new ≡ n = omega (arith, c.read_full-2.auto.buf, length-take n c.args.held.now, c.from_le_bytes.type_inv) in
    subst (Consumes _ _) (framed_so b new _ n _ _ two fits.false wide c.if-branch-n.false) (Consumes-trans _ _ _ _ _ c.in_ok-read_full.ensures.bytes c.in_ok-read_full-2.ensures.bytes)

pub returns-in_err-read_full-2-clause-lost : goal.returns-in_err-read_full-2-clause-lost
returns-in_err-read_full-2-clause-lost g c =
    let failed = c.from_residual-in_err-read_full-2 in
    let p = err_from_is_err_and failed.result failed.ensures.1 in
    rw p.1 (_, Consumes-trans _ _ _ _ _ c.in_ok-read_full.ensures.bytes c.in_err-read_full-2.ensures.lost.1)
