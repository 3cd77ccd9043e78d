-- Parts of bytes are bytes, by the list's own recursion; zeros past the end are bytes too.
-- Assumes nothing.
use Prim.Native.Nat.{ℕ, zero, suc, ◌+◌}
use mathlib.Core.List.{List, [], ◌∷◌, ◌++◌}
use native.Mathlib.Omega.{arith}
use lib.ListN.{take, drop, replicate}
use lib.Seq.{get_or-drop}
use Rattle.wire.specs.Le.{Bytes, padded}

pub bytes_take : (n : ℕ) (b : List ℕ) → Bytes b → Bytes (take n b)
bytes_take zero b h i = omega arith
bytes_take (suc n) [] h i = h i
bytes_take (suc n) (x ∷ b) h zero = h 0
bytes_take (suc n) (x ∷ b) h (suc i) = bytes_take n b (λ j. h (suc j)) i

pub bytes_drop : (n : ℕ) (b : List ℕ) → Bytes b → Bytes (drop n b)
bytes_drop n b h i = rw get_or-drop (h (n + i))

pub bytes_zeros : (n : ℕ) → Bytes (replicate n 0)
bytes_zeros zero i = omega arith
bytes_zeros (suc n) zero = omega arith
bytes_zeros (suc n) (suc i) = bytes_zeros n i

bytes_append : (a b : List ℕ) → Bytes a → Bytes b → Bytes (a ++ b)
bytes_append [] b h k i = k i
bytes_append (x ∷ a) b h k zero = h 0
bytes_append (x ∷ a) b h k (suc i) = bytes_append a b (λ j. h (suc j)) k i

pub bytes_padded : (b : List ℕ) (at n : ℕ) → Bytes b → Bytes (padded b at n)
unfolding padded
bytes_padded b at n h = bytes_take n (drop at b ++ replicate n 0) (bytes_append (drop at b) (replicate n 0) (bytes_drop at b h) (bytes_zeros n))
