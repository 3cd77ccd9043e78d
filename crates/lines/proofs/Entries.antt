-- What the table of the fields says, by one walk over the fields of each message: no key begins as a comment does, and a price of a good body is in range, so that the bytes of each field are such as its value can say.
-- Assumes nothing.
use Prim.Native.Nat.{ℕ, zero, suc, ◌+◌, ◌≤◌, ◌<◌}
use mathlib.Core.Path.{◌≡◌, refl, ap, ◌∙◌}
use mathlib.Core.Bool.{Bool, true, false, not}
use mathlib.Core.List.{List, [], ◌∷◌}
use native.Mathlib.Nat.{le_of_suc-le-suc, not-suc-le-zero}
use native.Mathlib.Omega.{arith}
use lib.ListN.{length, take, drop, get_or, length-drop}
use lib.Seq.{length-take-le, take-take}
use lib.Dec.{eqb, leb}
use borrow.Author.Tests.{leb-true, eqb-true, not-true}
use Rattle.facts.specs.Limits.{most_price}
use Rattle.facts.specs.Pick.{both}
use Rattle.facts.proofs.Picks.{both_true}
use Rattle.editions.specs.declared.Edition.{Edition}
use Rattle.wire.specs.Le.{le, field, padded}
use Rattle.wire.proofs.Laws.{length_padded, field_padded}
use Rattle.kinds.specs.declared.Kind.{Kind}
use Rattle.layout.specs.Layout.{shapes, fields_in}
use Rattle.body.specs.Faults.{tests}
use Rattle.body.specs.Ranges.{price_ok}
use Rattle.body.proofs.Laws.{AllHold}
use Rattle.values.specs.Suits.{Suits}
use Rattle.styles.specs.declared.Style.{Style}
use Rattle.styles.specs.Widths.{suited, wide}
use Rattle.keys.proofs.Every.{of_any}
use Rattle.keys.proofs.Laws.{fields_inside, suits_width}
use Rattle.keys.specs.Keys.{Entry, entries_of, no_entry, key_at, form_at, name_of}

-- ---- "A word that begins with `#` (35) begins a comment": no key and no name does
unfoldable unmarked : List Entry → Bool
unmarked [] = true
unmarked (f ∷ fs) = both (not (eqb (get_or f.key 0 0) 35)) (unmarked fs)

unmarked_at : (es : List Entry) (i : ℕ) → unmarked es ≡ true → eqb (get_or (get_or es i no_entry).key 0 0) 35 ≡ false
unfolding unmarked
unmarked_at [] i h = refl
unmarked_at (f ∷ fs) zero h = not-true (eqb (get_or f.key 0 0) 35) (both_true {a = not (eqb (get_or f.key 0 0) 35)} {b = unmarked fs} h).0
unmarked_at (f ∷ fs) (suc i) h = unmarked_at fs i (both_true {a = not (eqb (get_or f.key 0 0) 35)} {b = unmarked fs} h).1

all_unmarked : (ed : Edition) (k : Kind) → unmarked (entries_of ed k) ≡ true
unfolding unmarked both
all_unmarked = of_any (λ ed k. unmarked (entries_of ed k)) refl

pub key_unmarked : (ed : Edition) (k : Kind) (i : ℕ) → eqb (get_or (key_at ed k i) 0 0) 35 ≡ false
key_unmarked ed k i = unmarked_at (entries_of ed k) i (all_unmarked ed k)

pub name_unmarked : (k : Kind) → eqb (get_or (name_of k) 0 0) 35 ≡ false
name_unmarked k = not-true (eqb (get_or (name_of k) 0 0) 35) (of_any (λ ed k. not (eqb (get_or (name_of k) 0 0) 35)) refl Edition.V13 k)

-- ---- prices: what is at the place of a field
abbrev Fit : Style → ℕ → List ℕ → Type 0
Fit Style.Number at b = Unit {0}
Fit Style.Price at b = field b at 8 ≤ most_price
Fit Style.Clock at b = Unit {0}
Fit Style.Text at b = Unit {0}

abbrev Fits : List Entry → List ℕ → Type 0
Fits [] b = Unit {0}
Fits (f ∷ fs) b = Fit f.form.style f.form.at b × Fits fs b

fits_at : (es : List Entry) (b : List ℕ) (i : ℕ) → Fits es b → i < length es → Fit (get_or es i no_entry).form.style (get_or es i no_entry).form.at b
fits_at [] b i h l = absurd (not-suc-le-zero l)
fits_at (f ∷ fs) b zero h l = h.0
fits_at (f ∷ fs) b (suc i) h l = fits_at fs b i h.1 (le_of_suc-le-suc l)

price_most : (n : ℕ) → price_ok n ≡ true → n ≤ most_price
unfolding price_ok
price_most n h = leb-true n most_price (both_true {a = leb 1 n} {b = leb n most_price} h).1

all_fit : (ed : Edition) (k : Kind) (b : List ℕ) → AllHold (shapes k) (tests ed k) (fields_in k b) → Fits (entries_of ed k) b
all_fit ed Kind.SystemTime b h = (tt, tt)
all_fit Edition.V13 Kind.SymbolUpdate b h = (tt, (tt, (tt, (tt, (tt, (tt, (tt, (tt, (tt, (tt, tt))))))))))
all_fit Edition.V13b Kind.SymbolUpdate b h = (tt, (tt, (tt, (tt, (tt, (tt, (tt, (tt, (tt, (tt, tt))))))))))
all_fit ed Kind.SystemState b h = (tt, (tt, (tt, (tt, tt))))
all_fit ed Kind.TradingStatus b h = (tt, (tt, (tt, (tt, (tt, tt)))))
all_fit ed Kind.SymbolClear b h = (tt, (tt, tt))
all_fit ed Kind.Add b h = (tt, (tt, (tt, (tt, (price_most (field b 18 8) h.1.1.1.1.0, (tt, (tt, tt)))))))
all_fit ed Kind.Modify b h = (tt, (tt, (tt, (price_most (field b 17 8) h.1.1.1.0, (tt, (tt, tt))))))
all_fit ed Kind.Delete b h = (tt, (tt, (tt, tt)))
all_fit ed Kind.Execution b h = (tt, (tt, (tt, (tt, (price_most (field b 25 8) h.1.1.1.1.0, (tt, (tt, tt)))))))
all_fit ed Kind.Trade b h = (tt, (tt, (tt, (tt, (price_most (field b 18 8) h.1.1.1.1.0, (tt, (tt, tt)))))))
all_fit ed Kind.TradeCancel b h = (tt, (tt, (tt, (tt, (price_most (field b 18 8) h.1.1.1.1.0, (tt, tt))))))
all_fit ed Kind.Unknown b h = tt

-- a part that is there has its width
pub part_length : (c : List ℕ) (at w n : ℕ) → length c ≡ n → at + w ≤ n → length (take w (drop at c)) ≡ w
part_length c at w n e h = length-take-le w (drop at c) (rw length-drop (omega arith))

fit_suits : (st : Style) (at w : ℕ) (b : List ℕ) → at + w ≤ 42 → wide st w ≡ true → Fit st at b → Suits st (take w (drop at (padded b 0 42)))
unfolding field wide suited
fit_suits Style.Number at w b l h f = rw (part_length (padded b 0 42) at w 42 (length_padded b 0 42) l) h
fit_suits Style.Price at w b l h f =
    let e : w ≡ 8 = eqb-true w 8 h in
    let len : length (take w (drop at (padded b 0 42))) ≡ w = part_length (padded b 0 42) at w 42 (length_padded b 0 42) l in
    let same : field (take w (drop at (padded b 0 42))) 0 8 ≡ field b at 8 = ap (λ (m : ℕ). field (take m (drop at (padded b 0 42))) 0 8) e ∙ (ap le (take-take 8 8 (drop at (padded b 0 42)) (omega arith)) ∙ field_padded b 42 at 8 (omega arith)) in
    (len ∙ e, rw same f)
fit_suits Style.Clock at w b l h f = part_length (padded b 0 42) at w 42 (length_padded b 0 42) l ∙ eqb-true w 4 h
fit_suits Style.Text at w b l h f = tt

-- a good body's fields can be said
pub field_suits : (ed : Edition) (k : Kind) (b : List ℕ) → AllHold (shapes k) (tests ed k) (fields_in k b) → (i : ℕ) → i < length (entries_of ed k) → Suits (form_at ed k i).style (take (form_at ed k i).width (drop (form_at ed k i).at (padded b 0 42)))
field_suits ed k b h i l = fit_suits (form_at ed k i).style (form_at ed k i).at (form_at ed k i).width b (fields_inside ed k i) (suits_width ed k i l) (fits_at (entries_of ed k) b i (all_fit ed k b h) l)
