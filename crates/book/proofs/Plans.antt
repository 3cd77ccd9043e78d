-- What a plan says of the searches behind it: each guard on the way came out one way.
-- Assumes nothing.
use mathlib.Core.Path.{◌≡◌, refl, sym, ap, ◌∙◌}
use mathlib.Core.List.{List}
use mathlib.Core.Logic.{⊎_elim}
use Prim.Native.Nat.{ℕ, ◌≤◌}
use lib.ListN.{get_or}
use lib.Dec.{eqb, ltb}
use mathlib.Core.Bool.{Bool, true, false}
use Rattle.facts.specs.Pick.{pick}
use borrow.Author.Tests.{ltb-false, eqb-true}
use Rattle.facts.proofs.Picks.{pick_cases, pick_ind}
use Rattle.std.specs.Prelude.{Option, Some, None, Ok, Err}
use Rattle.fields.specs.declared.OrderExecution.{OrderExecution}
use Rattle.rows.specs.declared.Row.{Row}
use Rattle.rows.specs.Rows.{zero_row, symbol_of}
use Rattle.rows.specs.Find.{held_at}
use Rattle.orders.specs.declared.RowWork.{RowWork}
use Rattle.orders.specs.Work.{reduced}
use Rattle.book.specs.declared.Clock.{Clock}
use Rattle.book.specs.declared.Works.{Works}
use Rattle.book.specs.declared.Rule.{Rule}
use Rattle.book.specs.declared.Rule.TheVariants.{UnknownSymbol, AlreadyLive, NotLive, OtherSymbol, AboveSize, NoRow}
use Rattle.book.specs.Plan.{Plan, works, on_rows, of_known, target, upon, room_for, execute_at, update_plan}

pub never_goes : {B : Type 0} {r : Rule} {w : Works} → ◌≡◌ {A = Plan} (Err r) (Ok w) → B
never_goes e = cc

-- ---- 20
pub goes_known : (entry : Option ℕ) (f : ℕ → Plan) (w : Works) → of_known entry f ≡ Ok w → (e : ℕ) × (entry ≡ Some e) × (f e ≡ Ok w)
unfolding of_known
goes_known (Some e) f w h = (e, refl, h)
goes_known None f w h = never_goes h

-- ---- 22, 23
pub record Owned (order : Option (ℕ × Row)) (symbol : ℕ) (p : Plan) (f : ℕ → Row → Plan) : Type 0 where
  pub place : ℕ
  pub held : Row
  pub order_found : order ≡ Some (place, held)
  pub its_symbol : symbol_of held ≡ symbol
  pub goes : f place held ≡ p

pub goes_owned : (order : Option (ℕ × Row)) (symbol : ℕ) (f : ℕ → Row → Plan) (w : Works) → upon (target order symbol) f ≡ Ok w → Owned order symbol (Ok w) f
unfolding target upon pick
goes_owned None symbol f w h = never_goes h
goes_owned (Some (i, r)) symbol f w h = go (eqb (symbol_of r) symbol) refl h
  where
    go : (t : Bool) → eqb (symbol_of r) symbol ≡ t → upon (pick t (Ok (i, r)) (Err OtherSymbol)) f ≡ Ok w → Owned (Some (i, r)) symbol (Ok w) f
    go true e h = record { place = i; held = r; order_found = refl; its_symbol = eqb-true (symbol_of r) symbol e; goes = h }
    go false e h = never_goes h

-- what the search for the order found
pub held_live : (at : Option ℕ) (rs : List Row) (i : ℕ) (r : Row) → held_at at rs ≡ Some (i, r) → (at ≡ Some i) × (r ≡ get_or rs i zero_row)
unfolding held_at
held_live (Some j) rs i r e =
    let x : ◌≡◌ {A = ℕ × Row} (j, get_or rs j zero_row) (i, r) = cc in
    let p : j ≡ i = ap (λ y. y.0) x in
    let q : get_or rs j zero_row ≡ r = ap (λ y. y.1) x in
    (ap Some p, sym q ∙ ap (λ k. get_or rs k zero_row) p)
held_live None rs i r e = cc

pub held_nowhere : (at : Option ℕ) (rs : List Row) → held_at at rs ≡ None → at ≡ None
unfolding held_at
held_nowhere (Some j) rs e = cc
held_nowhere None rs e = refl

-- ---- 21, 25
pub goes_room : (c : Clock) (new : Row) (order : Option (ℕ × Row)) (free : Option ℕ) (w : Works) → room_for c new order free ≡ Ok w
    → (order ≡ None) × ((j : ℕ) × (free ≡ Some j) × (works c (RowWork.Put j new) None ≡ w))
unfolding room_for
goes_room c new (Some (i, r)) free w h = never_goes h
goes_room c new None None w h = never_goes h
goes_room c new None (Some j) w h = (refl, (j, refl, cc))

-- ---- 24
pub goes_execute : (c : Clock) (m : OrderExecution) (i : ℕ) (r : Row) (w : Works) → execute_at c m i r ≡ Ok w
    → (m.size ≤ r.size) × (works c (RowWork.Put i (reduced m.size r)) None ≡ w)
goes_execute c m i r w h = ⊎_elim (λ x. never_goes x.1) (λ x. (ltb-false r.size m.size x.0, cc x.1)) (pick_cases h)

-- ---- 26
pub goes_update : (c : Clock) (place : Option ℕ) (w : Works) → update_plan c place ≡ Ok w → (i : ℕ) × (place ≡ Some i) × (works c RowWork.Keep (Some i) ≡ w)
unfolding update_plan
goes_update c (Some i) w h = (i, refl, cc)
goes_update c None w h = never_goes h

-- ---- a plan stops, or one of the order table's leaves all else as it is
pub data OnOrders (c : Clock) : Plan → Type 0 where
  stops_orders : (r : Rule) → OnOrders c (Err r)
  goes_orders : (w : RowWork) → OnOrders c (on_rows c w)

module _ (c : Clock) where
  pub known_orders : (entry : Option ℕ) (f : ℕ → Plan) → ((e : ℕ) → OnOrders c (f e)) → OnOrders c (of_known entry f)
  unfolding of_known
  known_orders (Some e) f h = h e
  known_orders None f h = stops_orders UnknownSymbol

  pub room_orders : (new : Row) (order : Option (ℕ × Row)) (free : Option ℕ) → OnOrders c (room_for c new order free)
  unfolding room_for
  room_orders new (Some (i, r)) free = stops_orders AlreadyLive
  room_orders new None None = stops_orders NoRow
  room_orders new None (Some j) = goes_orders (RowWork.Put j new)

  pub named_orders : (order : Option (ℕ × Row)) (symbol : ℕ) (f : ℕ → Row → Plan) → ((i : ℕ) (r : Row) → OnOrders c (f i r)) → OnOrders c (upon (target order symbol) f)
  unfolding target upon pick
  named_orders None symbol f h = stops_orders NotLive
  named_orders (Some (i, r)) symbol f h = go (eqb (symbol_of r) symbol)
    where
      go : (t : Bool) → OnOrders c (upon (pick t (Ok (i, r)) (Err OtherSymbol)) f)
      go true = h i r
      go false = stops_orders OtherSymbol

  pub execute_orders : (m : OrderExecution) (i : ℕ) (r : Row) → OnOrders c (execute_at c m i r)
  execute_orders m i r =
      pick_ind (OnOrders c) (ltb r.size m.size) (Err AboveSize) (on_rows c (RowWork.Put i (reduced m.size r)))
      (λ e. stops_orders AboveSize) (λ e. goes_orders (RowWork.Put i (reduced m.size r)))
