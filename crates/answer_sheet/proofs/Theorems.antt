-- What a sheet promises besides its definition: each answer's number, that a refusal leaves the buffer, that a large buffer holds the whole, and that the book and the views mean the same key.
-- Assumes nothing.
use Prim.Native.Nat.{ℕ, ◌≤◌}
use mathlib.Core.Path.{◌≡◌, refl, ap, ◌∙◌}
use mathlib.Core.Bool.{true, false}
use mathlib.Core.List.{List, ◌++◌, append-nil}
use native.Mathlib.Omega.{arith}
use lib.ListN.{length, take, drop, drop_of_length-le}
use lib.Seq.{take_all, take_at, drop_at}
use Rattle.facts.specs.Pick.{pick}
use Rattle.facts.proofs.Picks.{pick_map}
use Rattle.fields.specs.declared.AddOrder.{AddOrder}
use Rattle.rows.specs.Keys.{side_of}
use Rattle.book.specs.Plan.{row_for}
use Rattle.views.specs.Ladder.{key_of}
use Rattle.views.specs.declared.Side.{Side}
use Rattle.receiver.specs.declared.State.{State}
use Rattle.answer_sheet.specs.declared.Recording.{Recording}
use Rattle.std.specs.Prelude.{Result, Ok}
use Rattle.fields.specs.declared.Refusal.{Refusal}
use Rattle.answer_sheet.specs.Sheet.{sheet_of, sheet_ok, sheet_most, Sheet, sheet_and, stored, sheet_view, sheet_number}
use Rattle.answer_sheet.proofs.Bound.{Machine, sheet_le}

-- a text that stands whole at the front of a buffer, with the rest as it was
pub record Stands (t b : List ℕ) (a : Result ℕ Refusal) (b' : List ℕ) : Type 0 where
  pub answer_is : a ≡ Ok (length t)
  pub text_stands : take (length t) b' ≡ t
  pub rest_stands : drop (length t) b' ≡ drop (length t) b

module _ (word : Recording) (bad : ℕ) (s : State) (orders symbols b : List ℕ) where
  -- 6 or nothing
  pub sheet_number_lem : sheet_number (sheet_view word bad s orders symbols b).answer ≡ pick (sheet_ok s orders symbols) 0 6
  unfolding sheet_view stored sheet_number
  sheet_number_lem = pick_map (λ (x : Sheet). sheet_number x.answer) (sheet_ok s orders symbols) _ _

  -- "Each refusal returns its number alone; tables, output and state keep every byte"
  pub refused_kept : sheet_ok s orders symbols ≡ false → (sheet_view word bad s orders symbols b).buf ≡ b
  unfolding sheet_view pick
  refused_kept e = rw e

  module _ (a : Result ℕ Refusal) (b' : List ℕ) (e : sheet_and a b' ≡ sheet_view word bad s orders symbols b) where
    -- an accepted sheet tells how long it is, and stands as far as the buffer reaches
    sheet_told : sheet_ok s orders symbols ≡ true → sheet_and a b' ≡ stored (sheet_of word bad s orders symbols) b
    unfolding sheet_view pick
    sheet_told ok = e ∙ rw ok

    -- a sheet no longer than the buffer stands whole
    pub sheet_fits : sheet_ok s orders symbols ≡ true → length (sheet_of word bad s orders symbols) ≤ length b → Stands (sheet_of word bad s orders symbols) b a b'
    unfolding stored
    sheet_fits ok h =
        let x = sheet_of word bad s orders symbols in
        let w = sheet_told ok in
        let v : b' ≡ x ++ drop (length x) b = ap (λ (y : Sheet). y.buf) w ∙ ap (λ (y : List ℕ). y ++ drop (length x) b) (take_all (length b) x h) in
        record { answer_is = ap (λ (y : Sheet). y.answer) w; text_stands = ap (take (length x)) v ∙ take_at x (drop (length x) b) (length x) refl; rest_stands = ap (drop (length x)) v ∙ drop_at x (drop (length x) b) (length x) refl }

    -- of a longer one the buffer's whole length stands, and the answer tells that it did not fit
    pub sheet_cut : sheet_ok s orders symbols ≡ true → length b ≤ length (sheet_of word bad s orders symbols)
        → (a ≡ Ok (length (sheet_of word bad s orders symbols))) × (b' ≡ take (length b) (sheet_of word bad s orders symbols))
    unfolding stored
    sheet_cut ok h =
        let x = sheet_of word bad s orders symbols in
        let w = sheet_told ok in
        (ap (λ (y : Sheet). y.answer) w, ap (λ (y : Sheet). y.buf) w ∙ (rw (drop_of_length-le b {i = length x} h) (append-nil (take (length b) x))))

    -- a buffer of that many bytes holds every sheet whole
    pub sheet_whole : sheet_ok s orders symbols ≡ true → Machine bad s symbols → sheet_most ≤ length b → Stands (sheet_of word bad s orders symbols) b a b'
    sheet_whole ok m l = sheet_fits ok (omega (arith, sheet_le word bad s orders symbols ok m))

-- ---- the key of a row
-- "symbol ID times 2 plus side (buy 0, sell 1)": what the book writes for an Add is what the views ask for, `B` and `S` alike
pub buy_key_agrees : (m : AddOrder) (n : ℕ) → m.side ≡ 66 → (row_for m n).key ≡ key_of Side.Buy m.symbol
unfolding row_for side_of key_of pick
buy_key_agrees m n e = rw e (omega arith)

pub sell_key_agrees : (m : AddOrder) (n : ℕ) → m.side ≡ 83 → (row_for m n).key ≡ key_of Side.Sell m.symbol
unfolding row_for side_of key_of pick
sell_key_agrees m n e = rw e
