-- Two chunks give what they give as one: the state and the buffer that `feed` leaves are all that the bytes so far have made, by recursion on the bytes.
-- Assumes nothing.
use Prim.Native.Nat.{ℕ, ◌+◌, ◌-◌, ◌≤◌}
use mathlib.Core.Path.{◌≡◌, sym, ap, ◌∙◌}
use mathlib.Core.Bool.{true, false}
use mathlib.Core.Logic.{◌⊎◌, inl, inr}
use mathlib.Core.List.{List, [], ◌∷◌, ◌++◌}
use native.Mathlib.Omega.{arith}
use lib.ListN.{length, take, drop, replicate, length-append, length-replicate}
use lib.Seq.{take-append_seam, length-take-le}
use lib.Dec.{ltb, eqb}
use borrow.Author.Tests.{ltb-true, ltb-false}
use Rattle.facts.specs.Pick.{pick}
use Rattle.facts.specs.Limits.{packet_most, hold_least}
use Rattle.facts.proofs.Picks.{pick_cases, pick_ind}
use Rattle.wire.specs.Le.{field}
use Rattle.fields.specs.Fields.{refusal}
use Rattle.arbitration.specs.Stream.{each}
use Rattle.arbitration.proofs.StreamLaws.{feed_append}
use Rattle.receiver.specs.declared.State.{State}
use Rattle.recording.specs.Stream.{Standing, Hearing, hearing, heard, hearer, byte, standing_of, hearing_of, opened, cut, feedable, Feeding, feeding, stream_in, took, fed}
use Rattle.recording.specs.Carve.{passed, grown, carve}
use Rattle.recording.specs.Whole.{rest_of}
use Rattle.recording.specs.declared.Stream.{Stream}
use Rattle.std.specs.Prelude.{Ok, Err}
use Rattle.recording.proofs.Exits.{buffer_fits}
use Rattle.recording.proofs.Heard.{cut_rest}

-- ---- a buffer of w bytes, 1,502 or more, is never outgrown
module _ (w : ℕ) (big : hold_least ≤ w) where
  abbrev InBuffer : Hearing → Type 0
  InBuffer x = length x.unfinished ≤ w

  grown_in : (u : List ℕ) (k : Standing) → InBuffer (grown hearer u k)
  unfolding grown
  grown_in u k =
      pick_ind InBuffer (ltb (length u) 2) (hearing u 0 k) _ (λ t. omega (arith, ltb-true (length u) 2 t))
      (λ _. pick_ind InBuffer (ltb packet_most (field u 0 2)) (hearing [] (field u 0 2) k) _ (λ _. omega arith)
      (λ s. pick_ind InBuffer (ltb (length u) (2 + field u 0 2)) (hearing u 0 k) (hearing [] 0 (heard (take (field u 0 2) (drop 2 u)) k)) (λ t. omega (arith, ltb-true (length u) (2 + field u 0 2) t, ltb-false packet_most (field u 0 2) s)) (λ _. omega arith)))

  byte_in : (b : ℕ) (x : Hearing) → InBuffer x → InBuffer (byte b x)
  unfolding carve passed
  byte_in b x h = pick_ind InBuffer (eqb x.skip 0) (grown hearer (x.unfinished ++ (b ∷ [])) x.kept) (passed hearer 1 x) (λ _. grown_in (x.unfinished ++ (b ∷ [])) x.kept) (λ _. h)

  pub all_in : (bs : List ℕ) (x : Hearing) → InBuffer x → InBuffer (each byte bs x)
  unfolding each
  all_in [] x h = h
  all_in (b ∷ bs) x h = all_in bs (byte b x) (byte_in b x h)

-- ---- what is left between two chunks is all that counts
module _ (w : ℕ) (y : Hearing) (k : Stream) (o s h ix w' : List ℕ) (left : took w y ≡ feeding (Ok k) o s h ix w') where
  pub same_stream : stream_in y ≡ k
  unfolding took
  same_stream = let e : Ok (stream_in y) ≡ Ok k = ap (λ (v : Feeding). v.answer) left in cc

  pub again : hearing_of k o s h ix w' ≡ y
  unfolding took
  again =
      sym (λ i. hearing_of (same_stream i) (left i).orders (left i).symbols (left i).shelf (left i).index (left i).hold)
      ∙ ap (λ u. hearing u y.skip y.kept) (take-append_seam y.unfinished (replicate (w - length y.unfinished) 0))

  pub same_size : length y.unfinished ≤ w → length w' ≡ w
  unfolding took
  same_size l =
      sym (ap (λ (v : Feeding). length v.hold) left)
      ∙ rw (length-append, length-replicate) (omega arith)

-- a stream that was not refused took the chunk's bytes
module _ (k k' : Stream) (o s h ix w o' s' h' ix' w' a : List ℕ) (e : fed k o s h ix w a ≡ feeding (Ok k') o' s' h' ix' w') where
  fed_bytes : (feedable k (length o) (length s) (length h) (length ix) (length w) ≡ true) × (took (length w) (each byte a (hearing_of k o s h ix w)) ≡ feeding (Ok k') o' s' h' ix' w')
  unfolding fed
  fed_bytes = go (pick_cases e)
    where
      go : ((feedable k (length o) (length s) (length h) (length ix) (length w) ≡ true) × (took (length w) (each byte a (hearing_of k o s h ix w)) ≡ feeding (Ok k') o' s' h' ix' w')) ⊎ ((feedable k (length o) (length s) (length h) (length ix) (length w) ≡ false) × (feeding (Err (refusal 6)) o s h ix w ≡ feeding (Ok k') o' s' h' ix' w')) → (feedable k (length o) (length s) (length h) (length ix) (length w) ≡ true) × (took (length w) (each byte a (hearing_of k o s h ix w)) ≡ feeding (Ok k') o' s' h' ix' w')
      go (inl q) = q
      go (inr q) =
          let r : Err (refusal 6) ≡ Ok k' = ap (λ (v : Feeding). v.answer) q.1 in
          let z : ◌≡◌ {A = ℕ} 0 1 = cc in absurd (omega arith)

  -- a and then b is a ++ b, wherever the stream that a left is not refused
  pub fed_then : (b : List ℕ) → feedable k' (length o') (length s') (length h') (length ix') (length w') ≡ true → fed k' o' s' h' ix' w' b ≡ fed k o s h ix w (a ++ b)
  unfolding fed pick
  fed_then b f =
      let x : Hearing = hearing_of k o s h ix w in
      let y : Hearing = each byte a x in
      let q = fed_bytes in
      let room = buffer_fits k (length o) (length s) (length h) (length ix) (length w) q.0 in
      let few : length y.unfinished ≤ length w = all_in (length w) room.1 a x (rw (length-take-le k.held w room.0) room.0) in
      let size : length w' ≡ length w = same_size (length w) y k' o' s' h' ix' w' q.1 few in
      let back : hearing_of k' o' s' h' ix' w' ≡ y = again (length w) y k' o' s' h' ix' w' q.1 in
      ap (λ t. pick t (took (length w') (each byte b (hearing_of k' o' s' h' ix' w'))) (feeding (Err (refusal 6)) o' s' h' ix' w')) f
      ∙ (λ i. took (size i) (each byte b (back i)))
      ∙ ap (took (length w)) (sym (feed_append byte a b x))
      ∙ ap (λ t. pick t (took (length w) (each byte (a ++ b) x)) (feeding (Err (refusal 6)) o s h ix w)) (sym q.0)

-- "a recording that ends inside a length or packet gives `recording=cut`": an opened stream that took t is cut where anything is left of t behind its packets, and only there
pub fed_cut : (q : State) (k : Stream) (o s h ix w o' s' h' ix' w' t : List ℕ) → fed (opened q) o s h ix w t ≡ feeding (Ok k) o' s' h' ix' w' → cut k ≡ ltb 0 (length (rest_of t))
fed_cut q k o s h ix w o' s' h' ix' w' t e =
    let y : Hearing = each byte t (hearing_of (opened q) o s h ix w) in
    let left = (fed_bytes (opened q) k o s h ix w o' s' h' ix' w' t e).1 in
    ap cut (sym (same_stream (length w) y k o' s' h' ix' w' left)) ∙ cut_rest t (standing_of (opened q) o s h ix)
