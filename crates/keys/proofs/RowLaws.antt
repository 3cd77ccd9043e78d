-- The code's rows and the definition's fields, place by place.
-- Assumes nothing.
use Rattle.std.proofs.Common.{◌≡◌, refl, sym, ap, subst, ◌∙◌, Bool, not, cond, List, [], ◌∷◌, map, ℕ, ◌+◌, ◌≤◌, ◌<◌, length, get_or, position, zip, suc}
use Rattle.std.specs.List.{prefix_len}
use Rattle.std.proofs.lemmas.List.{length-map, get_or_default}
use Rattle.std.proofs.Math.ListN.{get_or-map}
use Rattle.editions.specs.declared.Edition.{Edition}
use Rattle.kinds.specs.declared.Kind.{Kind}
use Rattle.keys.specs.Keys.{Entry, entries_of, no_entry, form_at}
use Rattle.keys.specs.Rows.{entry_of}
use Rattle.keys.specs.declared.Row.{Row}
use Rattle.keys.proofs.Laws.{fields_inside}

prefix_len-map : {A B : Type 0} (p : B → Bool) (f : A → B) (xs : List A) → prefix_len p (map f xs) ≡ prefix_len (λ x. p (f x)) xs
prefix_len-map p f [] = refl
prefix_len-map p f (x ∷ xs) = ap (λ (n : ℕ). cond (p (f x)) (1 + n) 0) (prefix_len-map p f xs)

pub position-map : {A B : Type 0} (p : B → Bool) (f : A → B) (xs : List A) → position p (map f xs) ≡ position (λ x. p (f x)) xs
position-map p f xs = rw (prefix_len-map (λ y. not (p y)) f xs, length-map xs f) refl

prefix_len-zip : {A B C : Type 0} (p : B × C → Bool) (f : A → B) (xs : List A) (ys : List C) → prefix_len p (zip (map f xs) ys) ≡ prefix_len (λ q. p (f q.0, q.1)) (zip xs ys)
prefix_len-zip p f [] ys = refl
prefix_len-zip p f (x ∷ xs) [] = refl
prefix_len-zip p f (x ∷ xs) (y ∷ ys) = ap (λ (n : ℕ). cond (p (f x, y)) (1 + n) 0) (prefix_len-zip p f xs ys)

length-zip_map : {A B C : Type 0} (f : A → B) (xs : List A) (ys : List C) → length (zip (map f xs) ys) ≡ length (zip xs ys)
length-zip_map f [] ys = refl
length-zip_map f (x ∷ xs) [] = refl
length-zip_map f (x ∷ xs) (y ∷ ys) = ap suc (length-zip_map f xs ys)

pub position-zip : {A B C : Type 0} (p : B × C → Bool) (f : A → B) (xs : List A) (ys : List C) → position p (zip (map f xs) ys) ≡ position (λ q. p (f q.0, q.1)) (zip xs ys)
position-zip p f xs ys = rw (prefix_len-zip (λ q. not (p q)) f xs ys, length-zip_map f xs ys) refl

pub rows_many : (ed : Edition) (k : Kind) (rows : List Row) → map entry_of rows ≡ entries_of ed k → length rows ≡ length (entries_of ed k)
rows_many ed k rows e = sym (length-map rows entry_of) ∙ ap length e

module _ (ed : Edition) (k : Kind) (rows : List Row) (e : map entry_of rows ≡ entries_of ed k) (d : Row) (i : ℕ) (h : i < length rows) where
  pub row_is : entry_of (get_or rows i d) ≡ get_or (entries_of ed k) i no_entry
  row_is = sym (get_or-map entry_of rows i d) ∙ get_or_default (map entry_of rows) i (entry_of d) no_entry (rw length-map h) ∙ ap (λ (es : List Entry). get_or es i no_entry) e

  pub form_is : (get_or rows i d).form ≡ form_at ed k i
  form_is = ap (λ (f : Entry). f.form) row_is

  pub row_inside : (get_or rows i d).form.at + (get_or rows i d).form.width ≤ 42
  row_inside =
      let inside : Entry → Type 0 = λ f. f.form.at + f.form.width ≤ 42 in
      subst inside (sym row_is) (fields_inside ed k i)
