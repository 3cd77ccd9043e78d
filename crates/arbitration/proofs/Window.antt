-- Numbers modulo 64 inside a window of 64: arithmetic.
-- Assumes nothing.
use Prim.Native.Nat.{ℕ, ◌+◌, ◌%◌, ◌≤◌, ◌<◌}
use mathlib.Core.Path.{◌≡◌}
use native.Mathlib.Omega.{arith}

-- two numbers of one window that share a slot are one number
pub same_slot_lem : (next a b : ℕ) → next ≤ a → a < next + 64 → next ≤ b → b < next + 64 → a % 64 ≡ b % 64 → a ≡ b
same_slot_lem next a b h1 h2 h3 h4 e = omega arith

pub slot_lt : (a : ℕ) → a % 64 < 64
slot_lt a = omega arith

pub slot_wrap : (a : ℕ) → (a + 64) % 64 ≡ a % 64
slot_wrap a = omega arith
