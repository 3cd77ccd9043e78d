-- A packet that is passed on is counted, and what is asked for is refused by 6 first. docs/PORT.md names both.
-- Assumes nothing.
use mathlib.Core.Path.{◌≡◌, refl, sym, ap, ◌∙◌}
use mathlib.Core.Bool.{false}
use mathlib.Core.List.{List}
use Prim.Native.Nat.{ℕ, ◌+◌}
use native.Mathlib.Nat.{add-zero}
use lib.ListN.{length}
use Rattle.facts.specs.Pick.{pick}
use Rattle.retype.specs.Types.{whole_exceptions}
use Rattle.retype.specs.Retyped.{Asked}
use Rattle.conversion.specs.Packet.{judged_first}
use Rattle.conversion.specs.Piece.{tally, tally_of, plus}
use Rattle.conversion.specs.declared.Passed.{Passed}
use Rattle.conversion.specs.declared.Tally.{Tally}

module _ (t : Tally) (x : Passed) where
  pub count_unread : x ≡ Passed.Unread → tally t.updates (t.unread + 1) t.barred ≡ plus t (tally_of x)
  count_unread e = (λ i. tally (sym (add-zero t.updates) i) (t.unread + 1) (sym (add-zero t.barred) i)) ∙ ap (λ (y : Passed). plus t (tally_of y)) (sym e)

module _ {A : Type 0} (a : Asked) (refuses : ℕ → A) (x : A) where
  pub first_6 : whole_exceptions (length a.others) ≡ false → refuses 6 ≡ judged_first a refuses x
  unfolding judged_first pick
  first_6 h = rw h refl
