-- What a packet of a recording becomes: its records in the edition asked for, or a packet that is refused again.
-- Assumes nothing.
use Prim.Native.Nat.{ℕ, ◌+◌}
use mathlib.Core.Path.{◌≡◌, refl, ap, ◌∙◌}
use mathlib.Core.Bool.{true}
use mathlib.Core.List.{List}
use Rattle.editions.specs.declared.Edition.{Edition}
use Rattle.wire.specs.Records.{bad, records}
use Rattle.fields.specs.Fields.{bad_at}
use Rattle.packet.specs.Packet.{Framing, framing}
use Rattle.retype.specs.Types.{types_ok}
use Rattle.retype.specs.Retyped.{Asked}
use Rattle.conversion.specs.Piece.{passed_by, passed}
use Rattle.conversion.specs.Kept.{Becomes, taken, refused, Barring}
use Rattle.conversion.proofs.Rewriting.{rewritten_good}
use Rattle.conversion.proofs.Barring.{barred_refused}
use Rattle.packet.specs.declared.Why.{Why}

module _ (from : Edition) (a : Asked) (p : List ℕ) where
  -- by what both readers say of it
  passed_by_lem : (x y : Framing) → framing from p ≡ x → framing a.to p ≡ y → (passed from a p).packet ≡ (passed_by a x y p).packet
  unfolding passed
  passed_by_lem x y e f = λ i. (passed_by a (e i) (f i) p).packet

  pub becomes : types_ok a.to a.all a.others ≡ true → Becomes from a p
  unfolding passed_by
  becomes ok = go (framing from p) (framing a.to p) refl refl
    where
      go : (x y : Framing) → framing from p ≡ x → framing a.to p ≡ y → Becomes from a p
      go (records cs) y e f = taken cs e (ap (framing a.to) (passed_by_lem (records cs) y e f) ∙ rewritten_good a from ok p cs e)
      go (bad w) (bad v) e f = refused w v e (ap (framing a.to) (passed_by_lem (bad w) (bad v) e f) ∙ f)
      go (bad w) (records cs) e f =
          let b : Barring from a w p = barred_refused a p w cs from e f in
          refused w (Why.Placed (bad_at 4 (b.at + 1))) e (ap (framing a.to) (passed_by_lem (bad w) (records cs) e f) ∙ b.barred_so)
