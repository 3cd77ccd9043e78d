-- Each form is told by its tests, and a part that a reader was lent is the part that the definition reads.
-- Assumes nothing.
use Prim.Native.Nat.{ℕ, ◌+◌, ◌-◌, ◌≤◌, ◌<◌}
use mathlib.Core.Path.{◌≡◌}
use mathlib.Core.Bool.{true, false}
use mathlib.Core.List.{List, ◌++◌}
use lib.ListN.{length, take, drop, replicate}
use borrow.Author.Tests.{lt-ltb, le-ltb}
use Rattle.facts.specs.Pick.{pick}
use Rattle.facts.proofs.Picks.{pick_cases}
use mathlib.Core.Logic.{⊎_elim}
use Rattle.text.specs.Text.{decimal_of}
use Rattle.spans.specs.Spans.{place_of}
use Rattle.figures.specs.Figures.{number_in, most_dollars, millionths_in, priced, price_at, price_in, coloned, hours_in, clock_in, hours_text, clock_text}
use Rattle.std.specs.Prelude.{Some}
use Rattle.figures.proofs.NumberLaws.{number_most}

-- ---- millionths
module _ (s : List ℕ) where
  pub millionths_most : (x : ℕ) → millionths_in s ≡ Some x → x ≤ 999999
  unfolding millionths_in
  millionths_most x e = ⊎_elim (λ w. number_most 999999 (s ++ replicate (6 - length s) 48) x w.1) (λ w. absurd (cc w.1)) (pick_cases e)

-- ---- prices, the full stop at p
pub price_split : (s : List ℕ) (p : ℕ) → place_of 46 s ≡ p → p < length s → price_in s ≡ priced (number_in most_dollars (take p s)) (millionths_in (drop (p + 1) s))
unfolding price_in price_at
price_split s p e h = rw (e, lt-ltb p (length s) h)

-- ---- times
module _ (s : List ℕ) where
  pub clock_hours : coloned s ≡ true → clock_in s ≡ hours_in s
  unfolding clock_in pick
  clock_hours h = rw h

  pub clock_number : coloned s ≡ false → clock_in s ≡ number_in 4294967295 s
  unfolding clock_in pick
  clock_number h = rw h

pub clock_day : (n : ℕ) → n < 86400 → hours_text n ≡ clock_text n
unfolding clock_text pick
clock_day n h = rw (lt-ltb n 86400 h)

pub clock_past : (n : ℕ) → 86400 ≤ n → decimal_of n ≡ clock_text n
unfolding clock_text pick
clock_past n h = rw (le-ltb n 86400 h)
