-- Where a bad field lies (request 5): behind the type byte and within the body, since the fields of a message fill it and each has a byte.
-- Assumes nothing.
use Prim.Native.Nat.{ℕ, ◌+◌, ◌≤◌, ◌<◌}
use mathlib.Core.Path.{◌≡◌, refl, sym, subst}
use mathlib.Core.Bool.{Bool, true}
use mathlib.Core.List.{List, [], ◌∷◌}
use mathlib.Core.Logic.{inl, inr}
use native.Mathlib.Omega.{arith}
use lib.ListN.{length, get_or}
use lib.Dec.{leb}
use borrow.Author.Tests.{leb-true}
use Rattle.facts.specs.Limits.{entry_size}
use Rattle.facts.specs.Pick.{both}
use Rattle.facts.proofs.Picks.{both_true}
use Rattle.editions.specs.declared.Edition.{Edition}
use Rattle.layout.specs.Shape.{Shape, width, total, Values}
use Rattle.layout.specs.Layout.{shapes, fields_in}
use Rattle.layout.proofs.Laws.{tiles}
use Rattle.kinds.specs.Table.{kind_of}
use Rattle.kinds.specs.declared.Kind.{Kind}
use Rattle.fields.specs.declared.Fault.{Fault}
use Rattle.body.specs.Faults.{Tests, tests}
use Rattle.body.specs.Read.{judge_body}
use Rattle.body.specs.Places.{FirstBad, BadField, BadBody}
use Rattle.std.specs.Prelude.{Result, Err}
use Rattle.body.proofs.Laws.{Framed, framed_is, JudgedAs, judge_sound}

-- no field is empty
wide : List Shape → Bool
wide [] = true
wide (s ∷ ss) = both (leb 1 (width s)) (wide ss)

all_wide : (k : Kind) → wide (shapes k) ≡ true
unfolding wide both
all_wide Kind.SystemTime = refl
all_wide Kind.SymbolUpdate = refl
all_wide Kind.SystemState = refl
all_wide Kind.TradingStatus = refl
all_wide Kind.SymbolClear = refl
all_wide Kind.Add = refl
all_wide Kind.Modify = refl
all_wide Kind.Delete = refl
all_wide Kind.Execution = refl
all_wide Kind.Trade = refl
all_wide Kind.TradeCancel = refl
all_wide Kind.Unknown = refl

within : (ss : List Shape) (ts : Tests ss) (vs : Values ss) (at n : ℕ) → wide ss ≡ true → FirstBad ss ts vs at n → (at ≤ n) × (n < at + total ss)
unfolding wide
within [] ts vs at n w f = absurd f
within (s ∷ ss) ts vs at n w (inl f) = let l = leb-true 1 (width s) (both_true w).0 in (omega (arith, f.1), omega (arith, f.1, l))
within (s ∷ ss) ts vs at n w (inr f) =
    let r = within ss ts.1 vs.1 (at + width s) n (both_true {a = leb 1 (width s)} w).1 f.1 in
    (omega (arith, r.0), omega (arith, r.1))

pub field_within : (ed : Edition) (b : List ℕ) (n : ℕ) → BadField ed b n → (1 ≤ n) × (n < length b)
field_within ed b n f =
    let k : Kind = kind_of (get_or b 0 0) in
    let w : Framed k b = framed_is b f.whole in
    let t = tiles k (omega (arith, w.some, w.length_is)) in
    let r = within (shapes k) (tests ed k) (fields_in k b) 1 n (all_wide k) f.first in
    (r.0, omega (arith, r.1, t, w.length_is))

-- 3 and 4 lie at the body's start or within it, so at its end at most
pub body_within : (ed : Edition) (b : List ℕ) (f : Fault) → BadBody ed b f → f.at ≤ length b
body_within ed b f (inl h) = omega (arith, h.1)
body_within ed b f (inr h) = omega (arith, (field_within ed b f.at h.1).1)

-- and no body of the table is long
pub body_small : (ed : Edition) (b : List ℕ) (f : Fault) → BadBody ed b f → f.at ≤ entry_size
body_small ed b f (inl h) = omega (arith, h.1)
body_small ed b f (inr h) = omega (arith, (field_within ed b f.at h.1).1, (framed_is b h.1.whole).most)

pub judged_within : (ed : Edition) (b : List ℕ) (f : Fault) → Err f ≡ judge_body ed b → f.at ≤ length b
judged_within ed b f e = body_within ed b f (subst (λ (r : Result Kind Fault). JudgedAs ed r b) (sym e) (judge_sound ed b))

pub judged_small : (ed : Edition) (b : List ℕ) (f : Fault) → Err f ≡ judge_body ed b → f.at ≤ entry_size
judged_small ed b f e = body_small ed b f (subst (λ (r : Result Kind Fault). JudgedAs ed r b) (sym e) (judge_sound ed b))
