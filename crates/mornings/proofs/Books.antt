-- A message does to a book of the other edition what it did to the first: it is read as the same message, the searches find the same places, and the entry that it leaves is retyped as its body is.
-- Assumes nothing.
use Prim.Native.Nat.{ℕ}
use mathlib.Core.Path.{◌≡◌, refl, ap, ◌∙◌}
use mathlib.Core.Bool.{true}
use mathlib.Core.List.{List}
use Rattle.editions.specs.declared.Edition.{Edition}
use Rattle.fields.specs.declared.Body.{Body}
use Rattle.fields.specs.declared.Symbol.{Symbol}
use Rattle.body.specs.Read.{read_body, good_body}
use Rattle.symbols.specs.Entries.{id_of}
use Rattle.book.specs.declared.Clock.{Clock}
use Rattle.std.specs.Prelude.{Ok, Err}
use Rattle.book.specs.Plan.{Plan, Finds, plan_by}
use Rattle.book.specs.Book.{Book, book, effect, scans, planned, carried, applied}
use Rattle.orders.specs.Work.{committed}
use Rattle.retype.specs.Types.{types_ok}
use Rattle.retype.specs.Retyped.{Asked, new_byte, retyped}
use Rattle.retype.proofs.Laws.{with_20, retyped_read}
use Rattle.mornings.specs.Tables.{book_to}
use Rattle.mornings.proofs.Entries.{symbol_to, find_to, place_to, entered_to}

-- of a message's bytes the plan asks the symbol ID of an update alone, and of an update's fields none
plan_bytes : (m : Body) (y n : ℕ) (b c : List ℕ) (t : Clock) (f : Finds) → id_of c ≡ id_of b → plan_by (with_20 m y) n c t f ≡ plan_by m n b t f
unfolding plan_by
plan_bytes (Body.SystemTime s) y n b c t f e = refl
plan_bytes (Body.SymbolUpdate m) y n b c t f e = ap (λ (id : ℕ). plan_by (Body.SymbolUpdate m) n b t (record { order = f.order; free_row = f.free_row; entry = f.entry; room = λ (x : ℕ). f.room id })) e
plan_bytes (Body.Add m) y n b c t f e = refl
plan_bytes (Body.Modify m) y n b c t f e = refl
plan_bytes (Body.Delete m) y n b c t f e = refl
plan_bytes (Body.Execution m) y n b c t f e = refl
plan_bytes (Body.SymbolClear m) y n b c t f e = refl
plan_bytes (Body.SystemState m) y n b c t f e = refl
plan_bytes (Body.TradingStatus m) y n b c t f e = refl
plan_bytes (Body.Trade m) y n b c t f e = refl
plan_bytes (Body.TradeCancel m) y n b c t f e = refl
plan_bytes (Body.Bad r) y n b c t f e = refl

module _ (from : Edition) (a : Asked) (b : List ℕ) (g : good_body from b ≡ true) (ok : types_ok a.to a.all a.others ≡ true) where
  -- the same searches find the same
  scans_to : (k : Book) → scans (book_to a k) ≡ scans k
  scans_to k = λ i. record { order = (scans k).order; free_row = (scans k).free_row; entry = λ (id : ℕ). find_to a id k.symbols i; room = λ (id : ℕ). place_to a id k.symbols i }

  planned_to : (n : ℕ) (k : Book) → planned a.to n (retyped a b) (book_to a k) ≡ planned from n b k
  unfolding planned
  planned_to n k =
      let id : id_of (retyped a b) ≡ id_of b = ap (λ (s : Symbol). s.id) (symbol_to a b) in
      (λ i. plan_by (retyped_read from a b g ok i) n (retyped a b) k.clock (scans_to k i))
      ∙ plan_bytes (read_body from b) (new_byte a b) n b (retyped a b) k.clock (scans k) id

  carried_to : (p : Plan) (k : Book) → carried p (retyped a b) (book_to a k) ≡ effect (carried p b k).rule (book_to a (carried p b k).after)
  unfolding carried
  carried_to (Err n) k = refl
  carried_to (Ok w) k = ap (λ (s : List ℕ). effect 0 (book (committed w.orders k.orders) s w.clock)) (entered_to a from b g w.symbols k.symbols)

  pub applied_to : (n : ℕ) (k : Book) → applied a.to n (retyped a b) (book_to a k) ≡ effect (applied from n b k).rule (book_to a (applied from n b k).after)
  unfolding applied
  applied_to n k = ap (λ (p : Plan). carried p (retyped a b) (book_to a k)) (planned_to n k) ∙ carried_to (planned from n b k) k
