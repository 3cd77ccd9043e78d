-- A number is twice its half and what is left of it, so a key gives back its symbol and side, and no other pair with a side of 0 or 1 has that key.
-- Assumes nothing.
use mathlib.Core.Path.{◌≡◌, sym}
use mathlib.Core.Bool.{true}
use Prim.Native.Nat.{ℕ, ◌≤◌, ◌<◌}
use native.Mathlib.Omega.{arith}
use lib.Dec.{eqb}
use Rattle.facts.proofs.Picks.{pick_ind}
use Rattle.rows.specs.declared.Row.{Row}
use Rattle.rows.specs.Keys.{key_for, symbol_in, side_in, side_of}
use Rattle.rows.specs.Rows.{live}
use Rattle.rows.specs.Find.{of_key}
use Rattle.rows.proofs.Judged.{live_ranges, key_is, of_key_lem}

-- ---- made and taken apart
module _ (s d : ℕ) (h : d ≤ 1) where
  pub symbol_back : symbol_in (key_for s d) ≡ s
  symbol_back = omega arith

  pub side_back : side_in (key_for s d) ≡ d
  side_back = omega arith

pub key_back : (k : ℕ) → key_for (symbol_in k) (side_in k) ≡ k
key_back k = omega arith

pub side_small : (x : ℕ) → side_of x ≤ 1
unfolding side_of
side_small x = pick_ind (λ n. n ≤ 1) (eqb x 66) 0 1 (λ _. omega arith) (λ _. omega arith)

pub side_most : (k : ℕ) → side_in k ≤ 1
side_most k = omega arith

-- ---- every live row belongs to exactly one symbol and side
pub record Home (r : Row) : Type 0 where
  pub symbol : ℕ
  pub side : ℕ
  pub symbol_below : symbol < 4294967296
  pub side_below : side ≤ 1
  pub its : of_key (key_for symbol side) r ≡ true
  pub only : (s d : ℕ) → d ≤ 1 → of_key (key_for s d) r ≡ true → (s ≡ symbol) × (d ≡ side)

pub one_home : (r : Row) → live r ≡ true → Home r
one_home r l =
    record {
      symbol = symbol_in r.key;
      side = side_in r.key;
      symbol_below = (live_ranges r l).symbol;
      side_below = side_most r.key;
      its = of_key_lem (key_for (symbol_in r.key) (side_in r.key)) r (sym (key_back r.key)) l;
      only = λ s d h e. let q = (key_is (key_for s d) r e).0 in (omega (arith, q), omega (arith, q));
    }
