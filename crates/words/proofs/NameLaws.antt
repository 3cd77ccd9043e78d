-- A name by its length and its bytes, one by one.
-- Assumes nothing.
use Rattle.std.proofs.Common.{◌≡◌, ℕ, ◌⊎◌, inl, inr, List, [], ◌∷◌, length, get_or, Bool, true, false, refl, ap, ◌∙◌, Some, None, nat_eq}
use lib.Pointwise.{pointwise, bytes_decides}
use Rattle.facts.specs.Pick.{pick, both, either}
use Rattle.facts.specs.Same.{same_bytes}
use Rattle.facts.proofs.SameLaws.{same_bytes_eq, same_told}
use Rattle.editions.specs.declared.Edition.{Edition}
use Rattle.words.specs.Words.{name13, name13a, name13b, edition_named}

-- a list of so many bytes, byte by byte
three : (w : List ℕ) → length w ≡ 3 → w ≡ get_or w 0 0 ∷ get_or w 1 0 ∷ get_or w 2 0 ∷ []
three (a ∷ b ∷ c ∷ []) n = refl
three [] n = cc
three (a ∷ []) n = cc
three (a ∷ b ∷ []) n = cc
three (a ∷ b ∷ c ∷ d ∷ w) n = cc

five : (w : List ℕ) → length w ≡ 5 → w ≡ get_or w 0 0 ∷ get_or w 1 0 ∷ get_or w 2 0 ∷ get_or w 3 0 ∷ get_or w 4 0 ∷ []
five (a ∷ b ∷ c ∷ d ∷ e ∷ []) n = refl
five [] n = cc
five (a ∷ []) n = cc
five (a ∷ b ∷ []) n = cc
five (a ∷ b ∷ c ∷ []) n = cc
five (a ∷ b ∷ c ∷ d ∷ []) n = cc
five (a ∷ b ∷ c ∷ d ∷ e ∷ f ∷ w) n = cc

pub named_13 : (w : List ℕ) → length w ≡ 3 → get_or w 0 0 ≡ 49 → get_or w 1 0 ≡ 46 → get_or w 2 0 ≡ 51 → edition_named w ≡ Some Edition.V13
unfolding edition_named pick same_bytes both
named_13 w n p q r =
    let e : w ≡ name13 = rw (← p, ← q, ← r) (three w n) in
    ap edition_named e

pub named_13b : (w : List ℕ) → length w ≡ 5 → get_or w 0 0 ≡ 49 → get_or w 1 0 ≡ 46 → get_or w 2 0 ≡ 51 → get_or w 3 0 ≡ 46 → (get_or w 4 0 ≡ 97) ⊎ (get_or w 4 0 ≡ 98) → edition_named w ≡ Some Edition.V13b
unfolding edition_named pick same_bytes both either
named_13b w n p q r s (inl t) =
    let e : w ≡ name13a = five w n ∙ (λ i. p i ∷ q i ∷ r i ∷ s i ∷ t i ∷ []) in
    ap edition_named e
named_13b w n p q r s (inr t) =
    let e : w ≡ name13b = five w n ∙ (λ i. p i ∷ q i ∷ r i ∷ s i ∷ t i ∷ []) in
    ap edition_named e

-- any other name is none
abbrev Starts : List ℕ → Type 0
Starts w = (get_or w 0 0 ≡ 49) × (get_or w 1 0 ≡ 46) × (get_or w 2 0 ≡ 51)

starts : (w r : List ℕ) → w ≡ 49 ∷ 46 ∷ 51 ∷ r → Starts w
starts w r e = (ap (λ (l : List ℕ). get_or l 0 0) e, ap (λ (l : List ℕ). get_or l 1 0) e, ap (λ (l : List ℕ). get_or l 2 0) e)

pub named_only : (w : List ℕ) → (edition_named w ≡ None) ⊎ ((length w ≡ 3) × Starts w) ⊎ ((length w ≡ 5) × Starts w × (get_or w 3 0 ≡ 46) × ((get_or w 4 0 ≡ 97) ⊎ (get_or w 4 0 ≡ 98)))
unfolding edition_named pick either
named_only w = go (same_bytes w name13) (same_bytes w name13a) (same_bytes w name13b) refl refl refl
  where
    go : (x y z : Bool) → same_bytes w name13 ≡ x → same_bytes w name13a ≡ y → same_bytes w name13b ≡ z → (edition_named w ≡ None) ⊎ ((length w ≡ 3) × Starts w) ⊎ ((length w ≡ 5) × Starts w × (get_or w 3 0 ≡ 46) × ((get_or w 4 0 ≡ 97) ⊎ (get_or w 4 0 ≡ 98)))
    go true y z e f g = let h = same_bytes_eq w name13 e in inr (inl (ap length h, starts w [] h))
    go false true z e f g =
        let h = same_bytes_eq w name13a f in
        inr (inr (ap length h, starts w (46 ∷ 97 ∷ []) h, ap (λ (l : List ℕ). get_or l 3 0) h, inl (ap (λ (l : List ℕ). get_or l 4 0) h)))
    go false false true e f g =
        let h = same_bytes_eq w name13b g in
        inr (inr (ap length h, starts w (46 ∷ 98 ∷ []) h, ap (λ (l : List ℕ). get_or l 3 0) h, inr (ap (λ (l : List ℕ). get_or l 4 0) h)))
    go false false false e f g = inl (rw (e, f, g) refl)

-- the library's test of two slices
pub same_eq : (xs ys : List ℕ) → same_bytes xs ys ≡ pointwise nat_eq xs ys
same_eq xs ys = same_told (pointwise nat_eq xs ys) xs ys (bytes_decides xs ys).0 (bytes_decides xs ys).1
