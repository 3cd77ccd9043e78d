-- What is written of a field is read back as its bytes, since bytes are the little-endian number that they say and each form says its numbers back.
-- Assumes nothing.
use Prim.Native.Nat.{ℕ, suc, ◌^◌, ◌≤◌, ◌<◌}
use mathlib.Core.Path.{◌≡◌, refl, sym, ap, ◌∙◌}
use mathlib.Core.Bool.{Bool, true, false, true≢false}
use mathlib.Core.List.{List, ◌++◌, append-nil}
use native.Mathlib.Omega.{arith}
use lib.ListN.{length, drop_of_length-le}
use lib.Seq.{take_all, sets, sets-eq}
use lib.Dec.{eqb}
use borrow.Author.Tests.{eqb-true}
use Rattle.facts.specs.Pick.{pick}
use Rattle.wire.specs.Le.{le, to_le, field, Bytes}
use Rattle.wire.proofs.Laws.{field_below, length_to_le, to_le_le}
use Rattle.words.specs.Types.{all_from}
use Rattle.text.proofs.DecimalLaws.{decimal_le}
use Rattle.figures.specs.Figures.{number_in, price_in, clock_in}
use Rattle.std.specs.Prelude.{Option, Some, None, ◌||◌}
use Rattle.figures.proofs.Laws.{number_back, price_back, clock_back, decimal_solid, price_solid, clock_solid, price_short, clock_short}
use Rattle.letters.proofs.Laws.{text_back, text_solid, text_short, text_length}
use Rattle.styles.specs.declared.Style.{Style}
use Rattle.values.specs.Values.{most_of, in_bytes, value_in, value_text}
use Rattle.values.specs.Suits.{Suits}
use Rattle.styles.specs.Widths.{suited}

-- ---- bytes and the number that they say
-- a number stored over the whole of a field
pub over_whole : (l : List ℕ) (n : ℕ) → sets l 0 (to_le (length l) n) ≡ to_le (length l) n
over_whole l n =
    let v : List ℕ = to_le (length l) n in
    let long : length v ≡ length l = length_to_le (length l) n in
    sets-eq v l 0 (omega arith) ∙ (ap (λ (t : List ℕ). v ++ t) (drop_of_length-le l (omega arith)) ∙ append-nil v)

field_whole : (v : List ℕ) (w : ℕ) → length v ≤ w → field v 0 w ≡ le v
unfolding field
field_whole v w h = ap le (take_all w v h)

le_below : (v : List ℕ) → Bytes v → le v < 256 ^ length v
le_below v b = rw (field_whole v (length v) (omega arith)) at (field_below v b 0 (length v))

-- a number of eight bytes or fewer, read back, is those bytes
bytes_back : (v : List ℕ) → Bytes v → length v ≤ 8 → (g : Option ℕ) → g ≡ Some (field v 0 8) → in_bytes (length v) g ≡ Some v
bytes_back v b h g e = rw (e, field_whole v 8 h) (ap Some (to_le_le v b))

bytes_length : (w : ℕ) (g : Option ℕ) (v : List ℕ) → in_bytes w g ≡ Some v → length v ≡ w
bytes_length w (Some n) v e = let s : v ≡ to_le w n = cc in ap length s ∙ length_to_le w n
bytes_length w None v e = cc

-- each width of a number has room for what its bytes can say, and for no more
suited_most : (w : ℕ) → suited w ≡ true → (w ≤ 8) × (256 ^ w ≤ suc (most_of w))
unfolding suited most_of pick
suited_most w h = go (eqb w 1) (eqb w 2) (eqb w 4) (eqb w 8) refl refl refl refl (sym h)
  where
    go : (a b d e : Bool) → eqb w 1 ≡ a → eqb w 2 ≡ b → eqb w 4 ≡ d → eqb w 8 ≡ e → true ≡ (a || (b || (d || e))) → (w ≤ 8) × (256 ^ w ≤ suc (most_of w))
    go true b d e p q r t h = rw (eqb-true w 1 p) (omega arith, omega arith)
    go false true d e p q r t h = rw (eqb-true w 2 q) (omega arith, omega arith)
    go false false true e p q r t h = rw (eqb-true w 4 r) (omega arith, omega arith)
    go false false false true p q r t h = rw (eqb-true w 8 t) (omega arith, omega arith)
    go false false false false p q r t h = absurd (true≢false h)

-- ---- written and read back
pub value_back : (st : Style) (v : List ℕ) → Bytes v → Suits st v → value_in st (length v) (value_text st v) ≡ Some v
unfolding value_in value_text
value_back Style.Number v b s =
    let m = suited_most (length v) s in
    bytes_back v b m.0 _ (number_back (most_of (length v)) (field v 0 8) (omega (arith, m.1, le_below v b, field_whole v 8 m.0)))
value_back Style.Price v b s = bytes_back v b (omega (arith, s.0)) _ (price_back (field v 0 8) s.1)
value_back Style.Clock v b s =
    let h : length v ≤ 8 = omega (arith, s) in
    let l : le v < 256 ^ 4 = rw s at (le_below v b) in
    bytes_back v b h _ (clock_back (field v 0 8) (omega (arith, l, field_whole v 8 h)))
value_back Style.Text v b s = text_back v b

-- ---- what a line can have as one word, and how long
pub value_solid : (st : Style) (v : List ℕ) → Bytes v → (1 ≤ length (value_text st v)) × (all_from 33 126 (value_text st v) ≡ true)
unfolding value_text
value_solid Style.Number v b = decimal_solid (field v 0 8)
value_solid Style.Price v b = price_solid (field v 0 8)
value_solid Style.Clock v b = clock_solid (field v 0 8)
value_solid Style.Text v b = text_solid v b

eight_below : (v : List ℕ) → Bytes v → field v 0 8 < 2 ^ 64
eight_below v b = field_below v b 0 8

pub value_short : (st : Style) (v : List ℕ) → Bytes v → length v ≤ 11 → length (value_text st v) ≤ 24
unfolding value_text
value_short Style.Number v b h = omega (arith, decimal_le (field v 0 8) (eight_below v b))
value_short Style.Price v b h = price_short (field v 0 8) (eight_below v b)
value_short Style.Clock v b h = clock_short (field v 0 8) (eight_below v b)
value_short Style.Text v b h = omega (arith, text_short v)

-- ---- what was read fills its field
pub value_length : (st : Style) (w : ℕ) (s v : List ℕ) → value_in st w s ≡ Some v → length v ≡ w
unfolding value_in
value_length Style.Number w s v e = bytes_length w (number_in (most_of w) s) v e
value_length Style.Price w s v e = bytes_length w (price_in s) v e
value_length Style.Clock w s v e = bytes_length w (clock_in s) v e
value_length Style.Text w s v e = text_length w s v e
