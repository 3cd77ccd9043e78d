-- A flat list cut into pieces of one width (document 01: "a lent run of 64-bit numbers, five to a row", "entries of 42 bytes", "64 slots of 74 bytes").
use Rattle.std.specs.Prelude.{ℕ, zero, suc, ◌*◌, ◌/◌, List, [], ◌∷◌, ◌++◌, length, take, drop, ltb}
use Rattle.std.proofs.lemmas.List.Edits.{sets}
use Rattle.facts.specs.Pick.{pick}

-- the first n pieces of width w
unfoldable pub cut : {A : Type 0} → ℕ → ℕ → List A → List (List A)
cut w zero t = []
cut w (suc n) t = take w t ∷ cut w n (drop w t)

-- all whole pieces; a rest shorter than w is left out
unfoldable pub pieces : {A : Type 0} → ℕ → List A → List (List A)
pieces w t = cut w (length t / w) t

-- pieces back to back
unfoldable pub join : {A : Type 0} → List (List A) → List A
join [] = []
join (x ∷ xs) = x ++ join xs

-- s in the place of piece i, where there is one; else t as it is
unfoldable pub put_piece : {A : Type 0} → ℕ → List A → ℕ → List A → List A
put_piece w t i s = pick (ltb i (length t / w)) (sets t (w * i) s) t
