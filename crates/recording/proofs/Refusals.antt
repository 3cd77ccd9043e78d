-- A feed is refused by 6 or not at all, and a refusal leaves all that was lent: the two sides of its one test.
-- Assumes nothing.
use Prim.Native.Nat.{ℕ}
use mathlib.Core.Path.{◌≡◌, refl}
use mathlib.Core.List.{List}
use lib.ListN.{length}
use Rattle.facts.specs.Pick.{pick}
use Rattle.facts.proofs.Picks.{pick_ind, pick_map}
use Rattle.fields.specs.Fields.{refusal}
use Rattle.recording.specs.Stream.{feedable, Feeding, feeding, took, fed, fed_number}
use Rattle.recording.specs.declared.Stream.{Stream}
use Rattle.std.specs.Prelude.{Err}

module _ (k : Stream) (o s h ix w chunk : List ℕ) where
  pub feed_number : fed_number (fed k o s h ix w chunk).answer ≡ pick (feedable k (length o) (length s) (length h) (length ix) (length w)) 0 6
  unfolding fed took fed_number
  feed_number = pick_map (λ (x : Feeding). fed_number x.answer) (feedable k (length o) (length s) (length h) (length ix) (length w)) _ _

  -- "Each refusal returns its number alone; tables, output and state keep every byte"
  pub feed_keeps : (fed_number (fed k o s h ix w chunk).answer ≡ 0 → ⊥) → fed k o s h ix w chunk ≡ feeding (Err (refusal 6)) o s h ix w
  unfolding fed took fed_number
  feed_keeps = pick_ind (λ x. (fed_number x.answer ≡ 0 → ⊥) → x ≡ feeding (Err (refusal 6)) o s h ix w) (feedable k (length o) (length s) (length h) (length ix) (length w)) _ (feeding (Err (refusal 6)) o s h ix w) (λ _ n. absurd (n refl)) (λ _ _. refl)
