-- What a choice by a test says of its parts, and the one law by which a contract that is an equation admits no second outcome.
-- Assumes nothing.
use mathlib.Core.Path.{◌≡◌, refl, sym, ◌∙◌}
use mathlib.Core.Bool.{Bool, true, false}
use mathlib.Core.Logic.{◌⊎◌, inl, inr}
use Rattle.facts.specs.Pick.{pick, both, either}

-- a call whose outcome is equated with a definition of what came in has one outcome
pub no_second {ℓ} : {A : Type ℓ} {x y z : A} → x ≡ z → y ≡ z → x ≡ y
no_second p q = p ∙ sym q

-- a test that cannot hold, and one that cannot fail
pub refuted : (b : Bool) → (b ≡ true → ⊥) → false ≡ b
refuted true h = absurd (h refl)
refuted false h = refl

pub upheld : (b : Bool) → (b ≡ false → ⊥) → b ≡ true
upheld true h = refl
upheld false h = absurd (h refl)

-- which of the two it was
pub pick_cases {ℓ} : {A : Type ℓ} {t : Bool} {x y z : A} → pick t x y ≡ z → ((t ≡ true) × (x ≡ z)) ⊎ ((t ≡ false) × (y ≡ z))
unfolding pick
pick_cases {t = true} e = inl (refl, e)
pick_cases {t = false} e = inr (refl, e)

-- what holds of both choices, each under its test, holds of the choice
pub pick_ind : {A : Type 0} (P : A → Type 0) (t : Bool) (x y : A) → (t ≡ true → P x) → (t ≡ false → P y) → P (pick t x y)
unfolding pick
pick_ind P true x y f g = f refl
pick_ind P false x y f g = g refl

pub pick_map : {A B : Type 0} (f : A → B) (t : Bool) (x y : A) → f (pick t x y) ≡ pick t (f x) (f y)
unfolding pick
pick_map f true x y = refl
pick_map f false x y = refl

pub both_true : {a b : Bool} → both a b ≡ true → (a ≡ true) × (b ≡ true)
unfolding both
both_true {a = true} h = (refl, h)
both_true {a = false} h = (h, cc)

pub either_true : {a b : Bool} → either a b ≡ true → (a ≡ true) ⊎ (b ≡ true)
unfolding either
either_true {a = true} h = inl refl
either_true {a = false} h = inr h

pub either_none : (a : Bool) → either a false ≡ a
unfolding either
either_none true = refl
either_none false = refl
