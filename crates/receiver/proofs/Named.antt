-- What a record of a good packet needs to be taken, wherever it lies. docs/EXCEPTIONS.md names it.
-- Assumes nothing.
use Prim.Native.Nat.{ℕ, ◌≤◌, ◌<◌}
use mathlib.Core.Bool.{true}
use mathlib.Core.List.{List}
use mathlib.Core.Path.{◌≡◌, sym, subst}
use lib.ListN.{length, drop}
use Rattle.editions.specs.declared.Edition.{Edition}
use Rattle.body.specs.Read.{good_body}
use Rattle.packet.specs.Record.{head_of, body_of, rec_of}
use Rattle.packet.specs.declared.Head.{Head}
use Rattle.packet.specs.Packet.{frames_from}
use Rattle.packet.proofs.Laws.{GoodRec}
use Rattle.packet.proofs.Good.{Step, step}
use Rattle.arbitration.specs.Lists.{Bounded}
use Rattle.receiver.proofs.Records.{good_bounded}
use Rattle.wire.specs.Records.{Rec, records, rec}

-- the record that the code read at a place
pub same_record : (p : List ℕ) (at : ℕ) (h : Head) (b : List ℕ) → h ≡ head_of (drop at p) → b ≡ body_of (drop at p) → rec h.number b ≡ rec_of (drop at p)
same_record p at h b e f = λ i. record { number = (e i).number; body = f i }

module _ (ed : Edition) (p : List ℕ) (at : ℕ) (inside_p : at < length p) (left : List Rec) (frames : frames_from ed (length p) (drop at p) ≡ records left) where
  walk : Step ed p at left
  walk = step ed p at left inside_p frames

  pub next_good : (h : Head) (b : List ℕ) → h ≡ head_of (drop at p) → b ≡ body_of (drop at p) → (1 ≤ h.number) × Bounded (rec h.number b) × (good_body ed b ≡ true)
  next_good h b e f =
      let g : GoodRec ed (rec h.number b) = subst (GoodRec ed) (sym (same_record p at h b e f)) walk.good in
      (g.number_from, good_bounded ed (rec h.number b) g, g.body_good)
