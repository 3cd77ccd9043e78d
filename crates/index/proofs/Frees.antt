-- While each block's count is that of its free rows, the lowest free row is in the first block whose count is not 0. Whatever the counts say, a row that is found is free.
-- Assumes nothing.
use mathlib.Core.Path.{◌≡◌, refl, sym, ap, ◌∙◌}
use mathlib.Core.List.{List, [], ◌∷◌}
use mathlib.Core.Bool.{Bool, true, false}
use mathlib.Core.Logic.{⊎_elim}
use Prim.Native.Nat.{ℕ, zero, suc, ◌+◌, ◌-◌, ◌*◌, ◌/◌, ◌≤◌, ◌<◌}
use native.Mathlib.Decide.{ℕ_discrete}
use native.Mathlib.Omega.{arith}
use lib.ListN.{length, get_or, drop, length-drop}
use lib.Seq.{get_or-drop}
use borrow.Author.Tests.{lt-ltb, eqb-true}
use Rattle.facts.specs.Pick.{pick, both}
use Rattle.facts.specs.Search.{first}
use Rattle.std.specs.Prelude.{Option, Some, None}
use Rattle.facts.proofs.Picks.{pick_cases}
use Rattle.facts.proofs.Searches.{first_at, none_first}
use Rattle.rows.specs.declared.Row.{Row}
use Rattle.rows.specs.Rows.{zero_row, free}
use Rattle.rows.specs.Find.{find_free}
use Rattle.index.specs.Index.{blocks, count_of, block_from, lowest_free}
use Rattle.index.specs.Indexed.{count_at, is_free_below, Indexed}
use Rattle.index.proofs.Cases.{blocks_is, free_none, free_at, never}
use Rattle.index.proofs.Counts.{no_count}

-- ---- the blocks before the one found, or all of them, count 0
blocks_before : (n : ℕ) (ix : List ℕ) (b k j : ℕ) → block_from n ix b ≡ Some k → b ≤ j → j < k → count_of ix j ≡ 0
unfolding block_from
blocks_before zero ix b k j e a c = never (sym e)
blocks_before (suc n) ix b k j e a c =
    ⊎_elim
    (λ w. go (eqb-true (count_of ix b) 0 w.0) (λ d. blocks_before n ix (suc b) k j w.1 d c) (ℕ_discrete j b))
    (λ w. let kb : b ≡ k = cc w.1 in absurd (omega arith))
    (pick_cases e)
  where
    go : count_of ix b ≡ 0 → (suc b ≤ j → count_of ix j ≡ 0) → Dec (j ≡ b) → count_of ix j ≡ 0
    go z rest (yes q) = ap (count_of ix) q ∙ z
    go z rest (no q) = rest (omega arith)

blocks_none : (n : ℕ) (ix : List ℕ) (b j : ℕ) → block_from n ix b ≡ None → b ≤ j → j < b + n → count_of ix j ≡ 0
unfolding block_from
blocks_none zero ix b j e a c = absurd (omega arith)
blocks_none (suc n) ix b j e a c =
    ⊎_elim
    (λ w. go (eqb-true (count_of ix b) 0 w.0) (λ d. blocks_none n ix (suc b) j w.1 d (omega arith)) (ℕ_discrete j b))
    (λ w. never w.1)
    (pick_cases e)
  where
    go : count_of ix b ≡ 0 → (suc b ≤ j → count_of ix j ≡ 0) → Dec (j ≡ b) → count_of ix j ≡ 0
    go z rest (yes q) = ap (count_of ix) q ∙ z
    go z rest (no q) = rest (omega arith)

-- ---- a search may begin behind elements that fail
first_skip : {A : Type 0} (p : A → Bool) (d : A) (n k : ℕ) (xs : List A) → ((j : ℕ) → j < n → j < length xs → p (get_or xs j d) ≡ false) → first p k xs ≡ first p (k + n) (drop n xs)
unfolding first pick
first_skip p d zero k xs h = let e : k + 0 ≡ k = omega arith in rw e
first_skip p d (suc n) k [] h = refl
first_skip p d (suc n) k (x ∷ xs) h =
    let e : k + suc n ≡ suc k + n = omega arith in
    rw (h 0 (omega arith) (omega arith), e) (first_skip p d n (suc k) xs (λ j a b. h (suc j) (omega arith) (omega arith)))

module _ (ix : List ℕ) (rs : List Row) (x : Indexed ix rs) where
  block_full : (j : ℕ) → j < length rs → count_of ix (j / 64) ≡ 0 → free (get_or rs j zero_row) ≡ false
  unfolding is_free_below both
  block_full j h z =
      let f = x.few in
      let c : count_at (is_free_below (length rs) rs) 64 (64 * (j / 64)) ≡ 0 = sym (x.all.counts (j / 64) (omega arith)) ∙ z in
      let e : is_free_below (length rs) rs j ≡ false = no_count (is_free_below (length rs) rs) 64 (64 * (j / 64)) c j (omega arith) (omega arith) in
      rw (lt-ltb j (length rs) h) at e

  pub lowest_is : lowest_free ix rs ≡ find_free rs
  unfolding find_free
  lowest_is = go (block_from blocks ix 0) refl
    where
      go : (a : Option ℕ) → block_from blocks ix 0 ≡ a → lowest_free ix rs ≡ first free 0 rs
      go (Some b) e =
          let s : 0 + 64 * b ≡ 64 * b = omega arith in
          let w = first_skip free zero_row (64 * b) 0 rs (λ j a l. block_full j l (blocks_before blocks ix 0 b (j / 64) e (omega arith) (omega arith))) in
          free_at ix rs b e ∙ sym (rw s at w)
      go None e =
          let f = x.few in
          free_none ix rs e ∙ sym (none_first free 0 rs zero_row (λ j l. block_full j l (blocks_none blocks ix 0 (j / 64) e (omega arith) (omega (arith, blocks_is)))))

-- for any index: a row that is found lies in the table and is free
pub lowest_free_row : (ix : List ℕ) (rs : List Row) (i : ℕ) → lowest_free ix rs ≡ Some i → (i < length rs) × (free (get_or rs i zero_row) ≡ true)
lowest_free_row ix rs i e = go (block_from blocks ix 0) refl
  where
    go : (a : Option ℕ) → block_from blocks ix 0 ≡ a → (i < length rs) × (free (get_or rs i zero_row) ≡ true)
    go (Some b) f =
        let w = first_at free (64 * b) (drop (64 * b) rs) i zero_row (sym (free_at ix rs b f) ∙ e) in
        let s : 64 * b + (i - 64 * b) ≡ i = omega (arith, w.0) in
        (omega (arith, w.0, w.1, length-drop (64 * b) rs), ap (λ (k : ℕ). free (get_or rs k zero_row)) (sym s) ∙ ap free (sym (get_or-drop (64 * b) rs (i - 64 * b) zero_row)) ∙ w.2)
    go None f = never (sym e ∙ free_none ix rs f)
