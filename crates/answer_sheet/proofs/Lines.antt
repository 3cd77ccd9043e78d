-- A text made of one text for each element of a list is written element by element, and a sheet's text is made of its lines.
-- Assumes nothing.
use Prim.Native.Nat.{ℕ, zero, suc, ◌≤◌, ◌<◌}
use mathlib.Core.Path.{◌≡◌, refl, sym, ap, ◌∙◌}
use mathlib.Core.List.{List, [], ◌∷◌, ◌++◌, map, append_assoc, append-nil, map-map}
use native.Mathlib.Omega.{arith}
use lib.ListN.{length, get_or, take}
use lib.Seq.{take-suc, take_all}
use Rattle.facts.specs.Pieces.{join}
use Rattle.views.specs.declared.Level.{Level}
use Rattle.text.specs.Text.{decimal_of, line_of, first_texts}
use Rattle.answer_sheet.specs.Page.{Printed}
use Rattle.answer_sheet.specs.declared.Page.{Page}
use Rattle.answer_sheet.proofs.Pages.{printed_then, printed_as}
use Rattle.answer_sheet.specs.Lines.{Line, line_text, text_of}
use Rattle.answer_sheet.specs.Sheet.{marked_of, level_value}

-- ---- texts of a list
module _ {A : Type 0} (f : A → List ℕ) where
  join_snoc : (xs : List A) (x : A) → join (map f (xs ++ (x ∷ []))) ≡ join (map f xs) ++ f x
  unfolding join
  join_snoc [] x = append-nil (f x)
  join_snoc (y ∷ xs) x = ap (λ (l : List ℕ). f y ++ l) (join_snoc xs x) ∙ sym (append_assoc (f y) (join (map f xs)) (f x))

  -- where g i is f of element i, the first n of each are f of the first n elements
  pub texts_of : (g : ℕ → List ℕ) (xs : List A) (d : A) (n : ℕ) → n ≤ length xs → ((i : ℕ) → i < n → g i ≡ f (get_or xs i d)) → first_texts g n ≡ join (map f (take n xs))
  unfolding first_texts join
  texts_of g xs d zero l h = refl
  texts_of g xs d (suc n) l h =
      let t : take (suc n) xs ≡ take n xs ++ (get_or xs n d ∷ []) = take-suc xs n d (omega arith) in
      rw t (ap (λ (x : List ℕ). x ++ g n) (texts_of g xs d n (omega arith) (λ i s. h i (omega arith))) ∙ (ap (λ (x : List ℕ). join (map f (take n xs)) ++ x) (h n (omega arith)) ∙ sym (join_snoc (take n xs) (get_or xs n d))))

  pub texts_of_all : (g : ℕ → List ℕ) (xs : List A) (d : A) → ((i : ℕ) → i < length xs → g i ≡ f (get_or xs i d)) → first_texts g (length xs) ≡ join (map f xs)
  texts_of_all g xs d h = texts_of g xs d (length xs) (omega arith) h ∙ ap (λ (l : List A). join (map f l)) (take_all (length xs) xs (omega arith))

-- ---- lines joined
pub text_then : (a c : List Line) → text_of (a ++ c) ≡ text_of a ++ text_of c
unfolding text_of join
text_then [] c = refl
text_then (l ∷ a) c = ap (λ (t : List ℕ). line_text l ++ t) (text_then a c) ∙ sym (append_assoc (line_text l) (text_of a) (text_of c))

pub text_join : {A : Type 0} (f : A → List Line) (xs : List A) → text_of (join (map f xs)) ≡ join (map (λ x. text_of (f x)) xs)
unfolding text_of join
text_join f [] = refl
text_join f (x ∷ xs) = text_then (f x) (join (map f xs)) ∙ ap (λ (t : List ℕ). text_of (f x) ++ t) (text_join f xs)

pub text_map : {A : Type 0} (f : A → Line) (xs : List A) → text_of (map f xs) ≡ join (map (λ x. line_text (f x)) xs)
unfolding text_of
text_map f xs = ap join (map-map line_text f xs)

-- lines printed behind a line, and behind lines
pub lines_first : (l : Line) (ls : List Line) {p q r : Page} → Printed p (line_text l) q → Printed q (text_of ls) r → Printed p (text_of (l ∷ ls)) r
unfolding text_of join
lines_first l ls x y = printed_then x y

pub lines_then : (a c : List Line) {p q r : Page} → Printed p (text_of a) q → Printed q (text_of c) r → Printed p (text_of (a ++ c)) r
lines_then a c x y = printed_as (sym (text_then a c)) (printed_then x y)

-- two lines, then others, then one more
pub lines_between : (a b c : Line) (ls : List Line) → line_text a ++ (line_text b ++ (text_of ls ++ line_text c)) ≡ text_of (a ∷ b ∷ (ls ++ (c ∷ [])))
unfolding text_of join
lines_between a b c ls = ap (λ (t : List ℕ). line_text a ++ (line_text b ++ t)) (sym (text_then ls (c ∷ []) ∙ ap (λ (t : List ℕ). text_of ls ++ t) (append-nil (line_text c))))

-- three numbers, the last with the line feed behind it
pub level_text : (key : List ℕ) (l : Level) → key ++ (marked_of l.price 32 ++ (marked_of l.shares 32 ++ marked_of l.orders 10)) ≡ line_of key (level_value l)
unfolding line_of level_value marked_of
level_text key l =
    let p = marked_of l.price 32 in
    let s = marked_of l.shares 32 in
    let o = decimal_of l.orders in
    ap (λ (t : List ℕ). key ++ t) (sym (append_assoc p (s ++ o) (10 ∷ []) ∙ ap (λ (t : List ℕ). p ++ t) (append_assoc s o (10 ∷ []))))
