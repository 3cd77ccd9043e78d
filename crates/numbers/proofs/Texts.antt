-- The text of a message is a run of fields too, so that layout's laws give it back: each part is read where it was laid.
-- Assumes nothing.
use Prim.Native.Nat.{ℕ}
use mathlib.Core.Path.{◌≡◌, refl, sym, ap, ◌∙◌}
use mathlib.Core.List.{List, [], ◌∷◌, ◌++◌}
use native.Mathlib.Nat.{zero-add}
use native.Mathlib.Omega.{arith}
use lib.ListN.{length, get_or, drop, replicate, set}
use lib.Seq.{sets, sets-eq}
use denote.Enum.Declared.{tag_of}
use types.Run.{OneOf, miss}
use Rattle.wire.specs.Le.{padded}
use Rattle.wire.proofs.Laws.{get_or_padded}
use Rattle.editions.specs.declared.Edition.{Edition}
use Rattle.layout.specs.Shape.{Shape, text, Values, AllFit, cut, joined}
use Rattle.layout.proofs.Laws.{cut_joined}
use Rattle.layout.proofs.Stored.{stored_joined}
use Rattle.kinds.specs.contracts.Kind.{the_type}
use Rattle.kinds.specs.declared.Kind.{Kind}
use Rattle.fields.specs.Fields.{decoded}
use Rattle.numbers.specs.Numbers.{text_of, no_text}

-- ---- a Symbol Update: ticker, opening, closing, one byte
abbrev pub update_shapes : List Shape
update_shapes = text 11 ∷ text 8 ∷ text 8 ∷ text 1 ∷ []

module _ (t o c : List ℕ) (x : ℕ) (tl : length t ≡ 11) (ol : length o ≡ 8) (cl : length c ≡ 8) where
  abbrev pub parts : Values update_shapes
  parts = (t, (o, (c, (x ∷ [], tt))))

  fit : AllFit update_shapes parts
  fit = (tl, (ol, (cl, (refl, tt))))

  abbrev pub laid : List ℕ
  laid = t ++ (o ++ (c ++ (x ∷ [])))

  -- stored one behind the other
  pub laid_is : set (sets (sets (sets (replicate 28 0) 0 t) 11 o) 19 c) 27 x ≡ laid
  unfolding joined
  laid_is = stored_joined update_shapes parts (replicate 28 0) 0 fit refl

  -- and read back
  pub update_parts : cut update_shapes laid 0 ≡ parts
  unfolding joined
  update_parts = cut_joined update_shapes parts [] 0 refl fit

  pub last_back : get_or laid 27 0 ≡ x
  last_back = sym (get_or_padded laid 27 1 0 (omega arith)) ∙ ap (λ (p : Values update_shapes). get_or p.1.1.1.0 0 0) update_parts

-- ---- a System State: its version, and zeros
module _ (v : List ℕ) (l : length v ≡ 8) where
  pub version_laid : sets (replicate 28 0) 0 v ≡ v ++ replicate 20 0
  version_laid = sets-eq v (replicate 28 0) 0 (rw l (omega arith)) ∙ ap (λ (n : ℕ). v ++ drop n (replicate 28 0)) (zero-add (length v) ∙ l)

  pub version_back : padded (v ++ replicate 20 0) 0 8 ≡ v
  unfolding joined
  version_back = ap (λ (p : Values (text 8 ∷ text 20 ∷ [])). p.0) (cut_joined (text 8 ∷ text 20 ∷ []) (v, (replicate 20 0, tt)) [] 0 refl (l, (refl, tt)))

-- ---- any other message has none
pub rest_text : (ed : Edition) (k : Kind) (b : List ℕ) → OneOf (0 ∷ 3 ∷ 4 ∷ 5 ∷ 6 ∷ 7 ∷ 8 ∷ 9 ∷ 10 ∷ 11 ∷ []) (tag_of the_type k) → no_text ≡ text_of ed (decoded k b) b
unfolding decoded
rest_text ed Kind.SystemTime b h = refl
rest_text ed Kind.SymbolUpdate b h = absurd (miss (0 ∷ 3 ∷ 4 ∷ 5 ∷ 6 ∷ 7 ∷ 8 ∷ 9 ∷ 10 ∷ 11 ∷ []) 1 tt h)
rest_text ed Kind.SystemState b h = absurd (miss (0 ∷ 3 ∷ 4 ∷ 5 ∷ 6 ∷ 7 ∷ 8 ∷ 9 ∷ 10 ∷ 11 ∷ []) 2 tt h)
rest_text ed Kind.TradingStatus b h = refl
rest_text ed Kind.SymbolClear b h = refl
rest_text ed Kind.Add b h = refl
rest_text ed Kind.Modify b h = refl
rest_text ed Kind.Delete b h = refl
rest_text ed Kind.Execution b h = refl
rest_text ed Kind.Trade b h = refl
rest_text ed Kind.TradeCancel b h = refl
rest_text ed Kind.Unknown b h = refl
