-- How a body was judged decides what is told of it.
-- Assumes nothing.
use Prim.Native.Nat.{ℕ}
use mathlib.Core.Path.{◌≡◌, sym, ap, ◌∙◌}
use mathlib.Core.List.{List}
use lib.ListN.{get_or}
use Rattle.std.specs.Prelude.{Result, Ok, Err}
use Rattle.editions.specs.declared.Edition.{Edition}
use Rattle.kinds.specs.Table.{type_of}
use Rattle.kinds.specs.declared.Kind.{Kind}
use Rattle.fields.specs.Fields.{decoded, body_number}
use Rattle.fields.specs.declared.Fault.{Fault}
use Rattle.body.specs.Read.{with_offset, judge_body, judged_number, message, read_body}
use Rattle.body.proofs.Laws.{read_sound, judge_number}
use Rattle.numbers.specs.Numbers.{typed, kind_in, text_of}
use Rattle.numbers.proofs.Types.{type_told}
use Rattle.api.specs.Calls.{fill_call}
use Rattle.api.specs.Messages.{body_answer}

module _ (ed : Edition) (b l x : List ℕ) (r : Result Kind Fault) (e : r ≡ judge_body ed b) where
  pub body_refused : (f : Fault) → r ≡ Err f → (n : ℕ) → n ≡ with_offset f → fill_call n l x ≡ body_answer ed (judge_body ed b) (read_body ed b) b l x
  unfolding body_answer
  body_refused f q n g = ap (λ (y : ℕ). fill_call y l x) g ∙ ap (λ (y : Result Kind Fault). body_answer ed y (read_body ed b) b l x) (sym q ∙ e)

  -- its numbers w, by the type that the body starts with, and its text z, of what is decoded of its kind
  pub body_told : (k : Kind) → r ≡ Ok k → (w z : List ℕ) → w ≡ typed ed (get_or b 0 0) (decoded k b) b → z ≡ text_of ed (decoded k b) b → fill_call 0 w z ≡ body_answer ed (judge_body ed b) (read_body ed b) b l x
  unfolding body_answer read_body message
  body_told k q w z g h =
      let good : judge_body ed b ≡ Ok k = sym e ∙ q in
      let same : read_body ed b ≡ decoded k b = ap (λ (y : Result Kind Fault). message y b) good in
      let none : body_number (read_body ed b) ≡ 0 = sym (judge_number ed b) ∙ ap judged_number good in
      let type_is : get_or b 0 0 ≡ type_of (kind_in (read_body ed b)) = sym (type_told ed (read_body ed b) b (read_sound ed b) none) in
      (λ j. fill_call 0 ((g ∙ (λ i. typed ed (type_is i) (sym same i) b)) j) ((h ∙ (λ i. text_of ed (sym same i) b)) j))
      ∙ ap (λ (y : Result Kind Fault). body_answer ed y (read_body ed b) b l x) (sym good)
