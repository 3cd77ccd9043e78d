-- Texts one after another are the same from the front as from the back, and as long as all of them; what joins solid text is solid.
-- Assumes nothing.
use Prim.Native.Nat.{ℕ, zero, suc, ◌+◌, ◌*◌, ◌≤◌}
use mathlib.Core.Path.{◌≡◌, sym, ap, ◌∙◌}
use mathlib.Core.List.{List, [], ◌++◌, append-nil, append_assoc}
use native.Mathlib.Nat.{add-zero, zero-add}
use native.Mathlib.Omega.{arith}
use lib.ListN.{length, length-append}
use Rattle.text.specs.Text.{first_texts}

-- ---- from the front: n texts, of which the first is f i
unfoldable pub texts_from : (ℕ → List ℕ) → ℕ → ℕ → List ℕ
texts_from f i zero = []
texts_from f i (suc n) = f i ++ texts_from f (suc i) n

module _ (f : ℕ → List ℕ) where
  texts_split : (i n : ℕ) → first_texts f (i + n) ≡ first_texts f i ++ texts_from f i n
  unfolding first_texts texts_from
  texts_split i zero = rw (add-zero i, append-nil (first_texts f i))
  texts_split i (suc n) =
      let e : i + suc n ≡ suc i + n = omega arith in
      ap (first_texts f) e ∙ texts_split (suc i) n ∙ append_assoc (first_texts f i) (f i) (texts_from f (suc i) n)

  pub texts_front : (n : ℕ) → first_texts f n ≡ texts_from f 0 n
  unfolding first_texts
  texts_front n = ap (first_texts f) (sym (zero-add n)) ∙ texts_split 0 n

  -- ---- how long they are, where each has at most m bytes
  pub texts_short : (m : ℕ) → ((i : ℕ) → length (f i) ≤ m) → (n : ℕ) → length (first_texts f n) ≤ m * n
  unfolding first_texts
  texts_short m h zero = omega arith
  texts_short m h (suc n) = omega (arith, length-append (first_texts f n) (f n), h n, texts_short m h n)
