-- One text printed behind another is one text.
-- Assumes nothing.
use Prim.Native.Nat.{ℕ, ◌+◌, ◌≤◌}
use mathlib.Core.Path.{◌≡◌, refl, ◌∙◌}
use mathlib.Core.List.{List, [], ◌++◌}
use native.Mathlib.Numerals.{add-one}
use lib.ListN.{length}
use Rattle.text.specs.Text.{last_place, first_texts}
use Rattle.text.proofs.Laws.{wrote_none, wrote_then, wrote_last}
use Rattle.answer_sheet.specs.Page.{Printed}
use Rattle.answer_sheet.specs.declared.Page.{Page}

pub printed_none : {p : Page} → length p.buf.now ≤ last_place → Printed p [] p
printed_none l = record { wrote = wrote_none l; same = refl }

pub printed_then : {p q r : Page} {t u : List ℕ} → Printed p t q → Printed q u r → Printed p (t ++ u) r
printed_then x y = record { wrote = wrote_then x.wrote y.wrote; same = y.same ∙ x.same }

pub printed_as : {p q : Page} {t u : List ℕ} → t ≡ u → Printed p t q → Printed p u q
printed_as e x = rw e at x

-- behind the last text nothing comes
pub printed_last : {p q : Page} {t : List ℕ} → Printed p t q → Printed p (t ++ []) q
printed_last x = record { wrote = wrote_last x.wrote; same = x.same }

-- a loop's texts: none yet, and one more
pub printed_no_texts : (f : ℕ → List ℕ) {p : Page} → length p.buf.now ≤ last_place → Printed p (first_texts f 0) p
unfolding first_texts
printed_no_texts f l = printed_none l

pub printed_more : (f : ℕ → List ℕ) {i : ℕ} {p q r : Page} → Printed p (first_texts f i) q → Printed q (f i) r → Printed p (first_texts f (i + 1)) r
unfolding first_texts
printed_more f x y = rw add-one (printed_then x y)
