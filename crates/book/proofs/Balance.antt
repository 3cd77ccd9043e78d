-- Where shares come from and go to: by what each message puts, live shares of its symbol move by what it brings less what it takes, and those of
-- any other symbol stay (document 02, No. 12: "Shares that came equal shares executed, withdrawn and live").
-- Assumes nothing.
use mathlib.Core.Path.{◌≡◌, refl, sym, ap, ◌∙◌}
use mathlib.Core.Bool.{Bool, true, false}
use mathlib.Core.List.{List}
use Prim.Native.Nat.{ℕ, ◌+◌, ◌-◌, ◌≤◌}
use native.Mathlib.Omega.{arith}
use lib.Dec.{eqb}
use borrow.Author.Tests.{eqb-true}
use Rattle.facts.specs.Pick.{pick}
use Rattle.std.specs.Prelude.{Option, Some, None}
use Rattle.editions.specs.declared.Edition.{Edition}
use Rattle.wire.specs.Le.{Bytes}
use Rattle.fields.specs.declared.Body.{Body}
use Rattle.body.specs.Read.{read_body}
use Rattle.body.proofs.Laws.{read_sound}
use Rattle.rows.specs.declared.Row.{Row}
use Rattle.rows.specs.Rows.{rows, live}
use Rattle.rows.specs.Find.{find_order, held_at}
use Rattle.rows.specs.Shares.{live_shares, under}
use Rattle.rows.proofs.Shares.{under_none}
use Rattle.orders.specs.Work.{moves}
use Rattle.orders.proofs.Applied.{row}
use Rattle.orders.proofs.Shares.{add_shares, modify_shares, delete_shares, execute_shares, clear_shares}
use Rattle.book.specs.Plan.{row_for}
use Rattle.book.specs.Book.{Book, order_in, applied}
use Rattle.book.proofs.Steps.{Names, clear, add, modify, delete, execution}
use Rattle.book.proofs.Theorems.{row_symbol, row_live, add_entered, modify_done, modify_live, delete_done, execution_done, execution_covered, clear_done}

-- what a message brings and takes, from what was found for it: the order that it names, and the live shares of its symbol
pub record Moved : Type 0 where
  pub came : ℕ
  pub executed : ℕ
  pub withdrawn : ℕ

abbrev pub moved : ℕ → ℕ → ℕ → Moved
moved c e w = record { came = c; executed = e; withdrawn = w }

-- growth and shrinkage by Modify, and what a Delete withdraws
unfoldable pub resized : Option (ℕ × Row) → ℕ → Moved
resized None size = moved 0 0 0
resized (Some (i, r)) size = moved (size - r.size) 0 (r.size - size)

-- "shares that came (Adds, and growth by Modify), shares executed (Order Executions alone), shares withdrawn (Deletes, Clears, and shrinkage by Modify)"
unfoldable pub moved_by : Body → Option (ℕ × Row) → ℕ → Moved
moved_by (Body.Add m) order shares = moved m.size 0 0
moved_by (Body.Modify m) order shares = resized order m.size
moved_by (Body.Delete m) order shares = resized order 0
moved_by (Body.Execution m) order shares = moved 0 m.size 0
moved_by (Body.SymbolClear m) order shares = moved 0 0 shares
moved_by (Body.SystemTime s) order shares = moved 0 0 0
moved_by (Body.SymbolUpdate m) order shares = moved 0 0 0
moved_by (Body.SystemState m) order shares = moved 0 0 0
moved_by (Body.TradingStatus m) order shares = moved 0 0 0
moved_by (Body.Trade m) order shares = moved 0 0 0
moved_by (Body.TradeCancel m) order shares = moved 0 0 0
moved_by (Body.Bad r) order shares = moved 0 0 0

-- the order that a message names; 0 where it names none
abbrev pub order_of : Body → ℕ
order_of (Body.Add m) = m.order
order_of (Body.Modify m) = m.order
order_of (Body.Delete m) = m.order
order_of (Body.Execution m) = m.order
order_of (Body.SymbolClear m) = 0
order_of (Body.SystemTime s) = 0
order_of (Body.SymbolUpdate m) = 0
order_of (Body.SystemState m) = 0
order_of (Body.TradingStatus m) = 0
order_of (Body.Trade m) = 0
order_of (Body.TradeCancel m) = 0
order_of (Body.Bad r) = 0

-- ---- the shares of a symbol, before (x) and after (y) a message of symbol own
abbrev pub Balanced : ℕ → ℕ → ℕ → ℕ → Moved → Type 0
Balanced s own x y d = y + under s own (d.executed + d.withdrawn) ≡ x + under s own d.came

came_balanced : (s own x y a : ℕ) → y ≡ x + under s own a → Balanced s own x y (moved a 0 0)
unfolding under pick
came_balanced s own x y a e = go (eqb own s) e
  where
    go : (t : Bool) → y ≡ x + pick t a 0 → y + pick t 0 0 ≡ x + pick t a 0
    go true e = omega arith
    go false e = omega arith

gone_balanced : (s own x y a b c : ℕ) → a + b ≡ c → y + under s own c ≡ x → Balanced s own x y (moved 0 a b)
unfolding under pick
gone_balanced s own x y a b c p e = go (eqb own s) e
  where
    go : (t : Bool) → y + pick t c 0 ≡ x → y + pick t (a + b) 0 ≡ x + pick t 0 0
    go true e = omega arith
    go false e = omega arith

resized_balanced : (s own x y : ℕ) (i : ℕ) (r : Row) (size : ℕ) → y + under s own r.size ≡ x + under s own size → Balanced s own x y (resized (Some (i, r)) size)
unfolding under pick resized
resized_balanced s own x y i r size e = go (eqb own s) e
  where
    go : (t : Bool) → y + pick t r.size 0 ≡ x + pick t size 0 → y + pick t (0 + (r.size - size)) 0 ≡ x + pick t (size - r.size) 0
    go true e = omega arith
    go false e = omega arith

held_is : (order : ℕ) (t : List ℕ) (i : ℕ) → find_order order (rows t) ≡ Some i → order_in order t ≡ Some (i, (row t i))
unfolding held_at
held_is order t i e = rw e

under_own : (s own : ℕ) (f : ℕ → ℕ) → under s own (f own) ≡ under s own (f s)
unfolding under pick
under_own s own f = go (eqb own s) refl
  where
    go : (t : Bool) → eqb own s ≡ t → pick t (f own) 0 ≡ pick t (f s) 0
    go true e = ap f (eqb-true own s e)
    go false e = refl

module _ (ed : Edition) (s n : ℕ) (b : List ℕ) (k : Book) (ranked : 1 ≤ n) (bytes : Bytes b) (z : (applied ed n b k).rule ≡ 0) where
  abbrev before : ℕ
  before = live_shares s (rows k.orders)

  abbrev after : ℕ
  after = live_shares s (rows (applied ed n b k).after.orders)

  balance_by : {m : Body} {own : ℕ} → Names m own → read_body ed b ≡ m → Balanced s own before after (moved_by m (order_in (order_of m) k.orders) (live_shares own (rows k.orders)))
  unfolding moved_by row_for
  balance_by (add m) e =
      let q = add_shares s (row_for m n) k.orders (applied ed n b k).after.orders (add_entered ed m n b k e z) (row_live ed m n b bytes ranked (rw e at (read_sound ed b))) in
      came_balanced s m.symbol before after m.size (q ∙ ap (λ x. before + under s x m.size) (row_symbol ed m n))
  balance_by (modify m) e =
      let d = modify_done ed m n b k e z in
      let q =
      modify_shares s m.order m.symbol m.price m.size (moves m.flags) n k.orders (applied ed n b k).after.orders d
      (ap live (sym d.became.here) ∙ modify_live ed m n b k e z bytes ranked) in
      rw (held_is m.order k.orders d.place d.lowest_live) (resized_balanced s m.symbol before after d.place (row k.orders d.place) m.size q)
  balance_by (delete m) e =
      let d = delete_done ed m n b k e z in
      let q = delete_shares s m.order m.symbol k.orders (applied ed n b k).after.orders d in
      rw (held_is m.order k.orders d.place d.lowest_live)
      (resized_balanced s m.symbol before after d.place (row k.orders d.place) 0 (omega (arith, q, under_none s m.symbol)))
  balance_by (execution m) e =
      let d = execution_done ed m n b k e z in
      gone_balanced s m.symbol before after m.size 0 m.size (omega arith)
      (execute_shares s m.order m.symbol m.size k.orders (applied ed n b k).after.orders d (execution_covered ed m n b k e z))
  balance_by (clear m) e =
      let q : after + under s m.symbol before ≡ before = rw (clear_done ed m n b k e z) (clear_shares s m.symbol k.orders) in
      gone_balanced s m.symbol before after 0 (live_shares m.symbol (rows k.orders)) (live_shares m.symbol (rows k.orders)) (omega arith)
      (rw (under_own s m.symbol (λ x. live_shares x (rows k.orders))) q)

  -- a message that names a symbol and applied
  pub balance : (own : ℕ) → Names (read_body ed b) own → Balanced s own before after (moved_by (read_body ed b) (order_in (order_of (read_body ed b)) k.orders) (live_shares own (rows k.orders)))
  balance own h = balance_by h refl
