-- Which rules each kind of message can break, and no others: its plan stops only where one of its own guards stopped it.
-- Assumes nothing.
use mathlib.Core.Path.{◌≡◌, refl, sym, subst, ◌∙◌}
use mathlib.Core.Bool.{Bool, true, false}
use mathlib.Core.List.{List}
use mathlib.Core.Logic.{⊎_elim}
use Prim.Native.Nat.{ℕ}
use lib.Dec.{eqb}
use Rattle.facts.specs.Pick.{pick}
use Rattle.facts.proofs.Picks.{pick_cases}
use Rattle.std.specs.Prelude.{Option, Some, None, Ok, Err}
use Rattle.editions.specs.declared.Edition.{Edition}
use Rattle.fields.specs.declared.Body.{Body}
use Rattle.fields.specs.declared.AddOrder.{AddOrder}
use Rattle.fields.specs.declared.ModifyOrder.{ModifyOrder}
use Rattle.fields.specs.declared.DeleteOrder.{DeleteOrder}
use Rattle.fields.specs.declared.OrderExecution.{OrderExecution}
use Rattle.fields.specs.declared.SymbolUpdate.{SymbolUpdate}
use Rattle.fields.specs.declared.Fault.{Fault}
use Rattle.body.specs.Read.{read_body}
use Rattle.rows.specs.declared.Row.{Row}
use Rattle.rows.specs.Rows.{symbol_of}
use Rattle.book.specs.declared.Clock.{Clock}
use Rattle.book.specs.declared.Works.{Works}
use Rattle.book.specs.declared.Rule.{Rule}
use Rattle.book.specs.declared.Rule.TheVariants.{UnknownSymbol, AlreadyLive, NotLive, OtherSymbol, AboveSize, NoRow, NoEntry}
use Rattle.book.specs.Plan.{number_of, Plan, of_known, target, upon, row_for, room_for, add_plan, modify_at, modify_plan, delete_at, delete_plan, execute_at, execution_plan, clear_plan, update_plan, Finds, plan_by}
use Rattle.book.specs.Book.{Book, scans, planned, carried, applied}
use Rattle.book.proofs.Plans.{never_goes}
use Rattle.book.proofs.Steps.{Names, clear, add, modify, delete, execution, Group, time, update, names, other, refused, group_of, other_idle}

pub data NamesOrder : Body → Type 0 where
  by_modify : (m : ModifyOrder) → NamesOrder (Body.Modify m)
  by_delete : (m : DeleteOrder) → NamesOrder (Body.Delete m)
  by_execution : (m : OrderExecution) → NamesOrder (Body.Execution m)

pub data Breaks : Body → ℕ → Type 0 where
  unknown : {m : Body} {s : ℕ} → Names m s → Breaks m 20
  already_live : (m : AddOrder) → Breaks (Body.Add m) 21
  order_not_live : {m : Body} → NamesOrder m → Breaks m 22
  elsewhere : {m : Body} → NamesOrder m → Breaks m 23
  above : (m : OrderExecution) → Breaks (Body.Execution m) 24
  no_row : (m : AddOrder) → Breaks (Body.Add m) 25
  no_entry : (m : SymbolUpdate) → Breaks (Body.SymbolUpdate m) 26
  no_body : (r : Fault) → Breaks (Body.Bad r) 27

-- ---- each guard: it stopped the plan, or what stands behind it did
never_stops : {B : Type 0} {w : Works} {r : Rule} → ◌≡◌ {A = Plan} (Ok w) (Err r) → B
never_stops e = never_goes (sym e)

same_stop : {q r : Rule} → ◌≡◌ {A = Plan} (Err q) (Err r) → q ≡ r
same_stop e = cc

module _ (P : Rule → Type 0) (q : Rule) where
  known_stop : (entry : Option ℕ) (f : ℕ → Plan) → P UnknownSymbol → ((e : ℕ) → f e ≡ Err q → P q) → of_known entry f ≡ Err q → P q
  unfolding of_known
  known_stop (Some e) f a g h = g e h
  known_stop None f a g h = subst P (same_stop h) a

  room_stop : (c : Clock) (new : Row) (order : Option (ℕ × Row)) (free : Option ℕ) → P AlreadyLive → P NoRow → room_for c new order free ≡ Err q → P q
  unfolding room_for
  room_stop c new (Some (i, r)) free a b h = subst P (same_stop h) a
  room_stop c new None None a b h = subst P (same_stop h) b
  room_stop c new None (Some j) a b h = never_stops h

  owned_stop : (order : Option (ℕ × Row)) (symbol : ℕ) (f : ℕ → Row → Plan) → P NotLive → P OtherSymbol → ((i : ℕ) (r : Row) → f i r ≡ Err q → P q) → upon (target order symbol) f ≡ Err q → P q
  unfolding target upon pick
  owned_stop None symbol f a b g h = subst P (same_stop h) a
  owned_stop (Some (i, r)) symbol f a b g h = go (eqb (symbol_of r) symbol) h
    where
      go : (t : Bool) → upon (pick t (Ok (i, r)) (Err OtherSymbol)) f ≡ Err q → P q
      go true h = g i r h
      go false h = subst P (same_stop h) b

  execute_stop : (c : Clock) (m : OrderExecution) (i : ℕ) (r : Row) → P AboveSize → execute_at c m i r ≡ Err q → P q
  execute_stop c m i r a h = ⊎_elim (λ x. subst P (same_stop x.1) a) (λ x. never_stops x.1) (pick_cases h)

  update_stop : (c : Clock) (place : Option ℕ) → P NoEntry → update_plan c place ≡ Err q → P q
  unfolding update_plan
  update_stop c (Some i) a h = never_stops h
  update_stop c None a h = subst P (same_stop h) a

-- ---- each message
module _ (n : ℕ) (b : List ℕ) (c : Clock) (f : Finds) (q : Rule) where
  names_breaks : {m : Body} {s : ℕ} → Names m s → plan_by m n b c f ≡ Err q → Breaks m (number_of q)
  unfolding plan_by add_plan modify_plan delete_plan execution_plan clear_plan
  names_breaks (clear m) = known_stop (λ r. Breaks (Body.SymbolClear m) (number_of r)) q (f.entry m.symbol) _ (unknown (clear m)) (λ e. never_stops)
  names_breaks (add m) =
      known_stop (λ r. Breaks (Body.Add m) (number_of r)) q (f.entry m.symbol) (λ e. room_for c (row_for m n) (f.order m.order) f.free_row) (unknown (add m))
      (λ e. room_stop (λ r. Breaks (Body.Add m) (number_of r)) q c (row_for m n) (f.order m.order) f.free_row (already_live m) (no_row m))
  names_breaks (modify m) =
      known_stop (λ r. Breaks (Body.Modify m) (number_of r)) q (f.entry m.symbol) (λ e. upon (target (f.order m.order) m.symbol) (modify_at c m n)) (unknown (modify m))
      (λ e. owned_stop (λ r. Breaks (Body.Modify m) (number_of r)) q (f.order m.order) m.symbol (modify_at c m n) (order_not_live (by_modify m)) (elsewhere (by_modify m)) (λ i r. never_stops))
  names_breaks (delete m) =
      known_stop (λ r. Breaks (Body.Delete m) (number_of r)) q (f.entry m.symbol) (λ e. upon (target (f.order m.order) m.symbol) (delete_at c)) (unknown (delete m))
      (λ e. owned_stop (λ r. Breaks (Body.Delete m) (number_of r)) q (f.order m.order) m.symbol (delete_at c) (order_not_live (by_delete m)) (elsewhere (by_delete m)) (λ i r. never_stops))
  names_breaks (execution m) =
      known_stop (λ r. Breaks (Body.Execution m) (number_of r)) q (f.entry m.symbol) (λ e. upon (target (f.order m.order) m.symbol) (execute_at c m)) (unknown (execution m))
      (λ e. owned_stop (λ r. Breaks (Body.Execution m) (number_of r)) q (f.order m.order) m.symbol (execute_at c m) (order_not_live (by_execution m)) (elsewhere (by_execution m))
      (λ i r. execute_stop (λ r. Breaks (Body.Execution m) (number_of r)) q c m i r (above m)))

  group_breaks : {m : Body} → Group m → plan_by m n b c f ≡ Err q → Breaks m (number_of q)
  unfolding plan_by
  group_breaks (time s) h = never_stops h
  group_breaks (update m) h = update_stop (λ r. Breaks (Body.SymbolUpdate m) (number_of r)) q c _ (no_entry m) h
  group_breaks (names x) h = names_breaks x h
  group_breaks (other x) h = never_stops (sym (other_idle n b c f x) ∙ h)
  group_breaks (refused r) h = subst (λ x. Breaks (Body.Bad r) (number_of x)) (same_stop h) (no_body r)

-- "Each rule is tried in the order given, and the first broken one counts": a message that breaks one breaks one of its own
pub breaks : (ed : Edition) (n : ℕ) (b : List ℕ) (k : Book) → ((applied ed n b k).rule ≡ 0 → ⊥) → Breaks (read_body ed b) (applied ed n b k).rule
unfolding applied planned carried
breaks ed n b k h = go (planned ed n b k) refl h
  where
    go : (p : Plan) → planned ed n b k ≡ p → ((carried p b k).rule ≡ 0 → ⊥) → Breaks (read_body ed b) (carried p b k).rule
    go (Err q) e h = group_breaks n b k.clock (scans k) q (group_of (read_body ed b)) e
    go (Ok w) e h = absurd (h refl)
