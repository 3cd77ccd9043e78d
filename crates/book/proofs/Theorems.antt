-- What a reader expects of the whole book: each message that applied did to the one table it concerns what its work says, and the searches
-- behind its plan came out as the rules want.
-- Assumes nothing.
use mathlib.Core.Path.{◌≡◌, refl, sym, ap, subst, ◌∙◌}
use mathlib.Core.Bool.{true, false}
use mathlib.Core.List.{List}
use mathlib.Core.Logic.{⊎_elim}
use Prim.Native.Nat.{ℕ, ◌%◌, ◌≤◌, ◌<◌}
use native.Mathlib.Omega.{arith}
use native.Mathlib.Decide.{ℕ_discrete}
use lib.ListN.{set}
use borrow.Author.Tests.{eq-eqb, ne_eqb}
use Rattle.std.specs.Prelude.{Some, None, Ok}
use Rattle.editions.specs.declared.Edition.{Edition}
use Rattle.wire.specs.Le.{Bytes}
use Rattle.wire.proofs.Laws.{field_below}
use Rattle.fields.specs.declared.Body.{Body}
use Rattle.fields.specs.declared.SymbolClear.{SymbolClear}
use Rattle.fields.specs.declared.AddOrder.{AddOrder}
use Rattle.fields.specs.declared.ModifyOrder.{ModifyOrder}
use Rattle.fields.specs.declared.DeleteOrder.{DeleteOrder}
use Rattle.fields.specs.declared.OrderExecution.{OrderExecution}
use Rattle.fields.specs.declared.SymbolUpdate.{SymbolUpdate}
use Rattle.body.specs.Read.{read_body}
use Rattle.body.proofs.Laws.{Sound, read_sound}
use Rattle.rows.specs.declared.Row.{Row}
use Rattle.rows.specs.Rows.{rows, zero_row, symbol_of, free, live}
use Rattle.rows.specs.Find.{find_order, find_free, held_at, of_symbol}
use Rattle.rows.specs.Tidy.{Unique}
use Rattle.rows.proofs.Keys.{side_small}
use Rattle.rows.proofs.Judged.{ranges_live}
use Rattle.symbols.specs.Entries.{entries, entry_of, put_entry, used, id_of}
use Rattle.symbols.specs.Find.{find_symbol, known_symbol, place_for}
use Rattle.symbols.specs.Work.{entered}
use Rattle.symbols.proofs.EntryLaws.{used_body, entries_put}
use Rattle.symbols.proofs.FindLaws.{known_found}
use Rattle.symbols.proofs.UpdateLaws.{known_after, known_stays}
use Rattle.orders.specs.declared.RowWork.{RowWork}
use Rattle.orders.specs.Work.{moves, remade, less, reduced, cleared, committed}
use Rattle.orders.proofs.Applied.{row, Added, Named, Remade, put_added, put_named, modify_row}
use Rattle.orders.proofs.Clears.{clear_gone, clear_kept}
use Rattle.orders.proofs.Unique.{add_unique, modify_unique, delete_unique, execute_unique, clear_unique}
use Rattle.orders.proofs.Shares.{remade_live}
use Rattle.orders.proofs.Again.{all_executed, part_executed, gone_free, gone_nowhere, room_again}
use Rattle.book.specs.declared.Works.{Works}
use Rattle.book.specs.Plan.{Plan, works, on_rows, of_known, target, upon, row_for, room_for, add_plan, modify_at, modify_plan, delete_at, delete_plan, execute_at, execution_plan, clear_plan, plan_by}
use Rattle.book.specs.Book.{Book, order_in, scans, planned, carried, applied}
use Rattle.book.proofs.Laws.{planned_by, carried_by}
use Rattle.book.proofs.Plans.{goes_known, Owned, goes_owned, held_live, held_nowhere, goes_room, goes_execute, goes_update}
use Rattle.book.proofs.Steps.{went, broken_keeps, Names, orders_named, symbols_updated}

-- ---- a message that applied, by the case of its body: its plan, and the tables after it
record Done (ed : Edition) (m : Body) (n : ℕ) (b : List ℕ) (k : Book) : Type 0 where
  does : Works
  plan_is : plan_by m n b k.clock (scans k) ≡ Ok does
  orders_are : (applied ed n b k).after.orders ≡ committed does.orders k.orders
  symbols_are : (applied ed n b k).after.symbols ≡ entered does.symbols b k.symbols

done : (ed : Edition) (m : Body) (n : ℕ) (b : List ℕ) (k : Book) → read_body ed b ≡ m → (applied ed n b k).rule ≡ 0 → Done ed m n b k
done ed m n b k e z =
    let w = went ed n b k z in
    record { does = w.0; plan_is = planned_by ed m n b k e ∙ w.1; orders_are = ap (λ x. x.orders) w.2; symbols_are = ap (λ x. x.symbols) w.2 }

same_go : {v w : Works} → ◌≡◌ {A = Plan} (Ok v) (Ok w) → v ≡ w
same_go e = cc

-- a row put by a message that names an order
owner : (order symbol : ℕ) (k : Book) (p : Plan) (f : ℕ → Row → Plan) (x : Owned (order_in order k.orders) symbol p f)
    → (find_order order (rows k.orders) ≡ Some x.place) × (x.held ≡ row k.orders x.place)
owner order symbol k p f x = held_live (find_order order (rows k.orders)) (rows k.orders) x.place x.held x.order_found

named_by : (order symbol : ℕ) (g : Row → Row) (t u : List ℕ) (w : RowWork) (i : ℕ) (r : Row)
    → find_order order (rows t) ≡ Some i → r ≡ row t i → symbol_of r ≡ symbol → RowWork.Put i (g r) ≡ w → u ≡ committed w t → Named order symbol g t u
unfolding committed
named_by order symbol g t u w i r f q s p e =
    subst (Named order symbol g t)
    (sym (e ∙ ap (λ x. committed x t) (sym p) ∙ ap (λ x. committed (RowWork.Put i (g x)) t) q))
    (put_named order symbol g t i f (ap symbol_of (sym q) ∙ s))

-- a message that names an order: what its plan puts, and what that plan tried of the order
named_done : (ed : Edition) (m : Body) (order symbol : ℕ) (f : ℕ → Row → Plan) (g : Row → Row) (P : Row → Type 0) → ((i : ℕ) (r : Row) (w : Works) → f i r ≡ Ok w → P r × (RowWork.Put i (g r) ≡ w.orders))
    → (n : ℕ) (b : List ℕ) (k : Book) → read_body ed b ≡ m → (applied ed n b k).rule ≡ 0
    → plan_by m n b k.clock (scans k) ≡ of_known (find_symbol symbol (entries k.symbols)) (λ e. upon (target (order_in order k.orders) symbol) f)
    → (d : Named order symbol g k.orders (applied ed n b k).after.orders) × P (row k.orders d.place)
named_done ed m order symbol f g P puts n b k e z plan =
    let t = k.orders in
    let d = done ed m n b k e z in
    let known = goes_known (find_symbol symbol (entries k.symbols)) (λ e. upon (target (order_in order t) symbol) f) d.does (sym plan ∙ d.plan_is) in
    let x = goes_owned (order_in order t) symbol f d.does known.2 in
    let q = owner order symbol k (Ok d.does) f x in
    let y = puts x.place x.held d.does x.goes in
    let v = named_by order symbol g t (applied ed n b k).after.orders d.does.orders x.place x.held q.0 q.1 x.its_symbol y.1 d.orders_are in
    let i : v.place ≡ x.place = cc (v.lowest_live, q.0) in
    (v, subst P (q.1 ∙ ap (row t) (sym i)) y.0)

-- ---- Add
module _ (ed : Edition) (m : AddOrder) (n : ℕ) where
  pub row_symbol : symbol_of (row_for m n) ≡ m.symbol
  unfolding row_for
  row_symbol = omega (arith, side_small m.side)

  -- the row of a good body is live, and its rank is the message's number
  pub row_live : (b : List ℕ) → Bytes b → 1 ≤ n → Sound ed (Body.Add m) b → live (row_for m n) ≡ true
  unfolding row_for
  row_live b y l w =
      let s = row_symbol in
      let e = w.1 in
      let d = w.3 in
      ranges_live (row_for m n)
      (record {
        ranked = l;
        symbol = rw (s, e) (field_below b y 5 4);
        priced = d.price_from;
        price_top = d.price_to;
        sized = d.size_from;
        size_top = rw e (omega (arith, field_below b y 26 4));
      })

  module _ (b : List ℕ) (k : Book) (e : read_body ed b ≡ Body.Add m) where
    -- it applies where its symbol is known, its order ID is not live and a row is free
    pub add_applies : (x y : ℕ) → find_symbol m.symbol (entries k.symbols) ≡ Some x → find_order m.order (rows k.orders) ≡ None → find_free (rows k.orders) ≡ Some y → (applied ed n b k).rule ≡ 0
    unfolding plan_by add_plan of_known room_for held_at carried
    add_applies x y s o f =
        let p : planned ed n b k ≡ on_rows k.clock (RowWork.Put y (row_for m n)) = sym (planned_by ed (Body.Add m) n b k e) ∙ rw (s, o, f) refl in
        ap (λ q. q.rule) (sym (carried_by ed (on_rows k.clock (RowWork.Put y (row_for m n))) n b k p))

    module _ (z : (applied ed n b k).rule ≡ 0) where
      pub add_entered : Added (row_for m n) k.orders (applied ed n b k).after.orders
      unfolding plan_by add_plan committed row_for
      add_entered =
          let d = done ed (Body.Add m) n b k e z in
          let t = k.orders in
          let g = goes_known (find_symbol m.symbol (entries k.symbols)) (λ e. room_for k.clock (row_for m n) (order_in m.order t) (find_free (rows t))) d.does d.plan_is in
          let r = goes_room k.clock (row_for m n) (order_in m.order t) (find_free (rows t)) d.does g.2 in
          let j = r.1.0 in
          subst (Added (row_for m n) t) (sym (d.orders_are ∙ ap (λ (x : Works). committed x.orders t) (sym r.1.2)))
          (put_added (row_for m n) t j (held_nowhere (find_order m.order (rows t)) (rows t) r.0) r.1.1)

      pub add_live : Bytes b → 1 ≤ n → live (row (applied ed n b k).after.orders add_entered.place) ≡ true
      add_live y l = ap live add_entered.became.here ∙ row_live b y l (rw e at (read_sound ed b))

      pub add_rank : (row (applied ed n b k).after.orders add_entered.place).rank ≡ n
      unfolding row_for
      add_rank = ap (λ r. r.rank) add_entered.became.here

-- ---- Modify
module _ (ed : Edition) (m : ModifyOrder) (n : ℕ) (b : List ℕ) (k : Book) (e : read_body ed b ≡ Body.Modify m) (z : (applied ed n b k).rule ≡ 0) where
  pub modify_done : Named m.order m.symbol (remade m.price m.size (moves m.flags) n) k.orders (applied ed n b k).after.orders
  unfolding plan_by modify_plan
  modify_done =
      (named_done ed (Body.Modify m) m.order m.symbol (modify_at k.clock m n) (remade m.price m.size (moves m.flags) n) (λ r. r ≡ r)
      (λ i r w q. (refl, ap (λ (o : Works). o.orders) (same_go q))) n b k e z refl).0

  modify_made : Remade (row k.orders modify_done.place) (row (applied ed n b k).after.orders modify_done.place) m.price m.size (moves m.flags) n
  modify_made = modify_row m.order m.symbol m.price m.size (moves m.flags) n k.orders (applied ed n b k).after.orders modify_done

  -- "Clear: the rank stays, whatever changed"
  pub rank_stays : m.flags % 2 ≡ 0 → (row (applied ed n b k).after.orders modify_done.place).rank ≡ (row k.orders modify_done.place).rank
  unfolding moves
  rank_stays f = modify_made.kept_rank (ne_eqb (m.flags % 2) 1 (λ q. omega arith))

  -- "Flag bit 0 set: rank becomes this sequence number"
  pub rank_moves : m.flags % 2 ≡ 1 → (row (applied ed n b k).after.orders modify_done.place).rank ≡ n
  unfolding moves
  rank_moves f = modify_made.new_rank (eq-eqb (m.flags % 2) 1 f)

  -- and the order stays live
  pub modify_live : Bytes b → 1 ≤ n → live (row (applied ed n b k).after.orders modify_done.place) ≡ true
  modify_live y l =
      let w = rw e at (read_sound ed b) in
      let q = w.1 in
      let d = w.2 in
      ap live modify_done.became.here
      ∙ remade_live m.price m.size (moves m.flags) n (row k.orders modify_done.place) modify_done.was_live
      d.price_from d.price_to d.size_from (rw q (omega (arith, field_below b y 25 4))) l

-- ---- Delete: the row becomes free
module _ (ed : Edition) (m : DeleteOrder) (n : ℕ) (b : List ℕ) (k : Book) (e : read_body ed b ≡ Body.Delete m) (z : (applied ed n b k).rule ≡ 0) where
  pub delete_done : Named m.order m.symbol (λ r. zero_row) k.orders (applied ed n b k).after.orders
  unfolding plan_by delete_plan
  delete_done =
      (named_done ed (Body.Delete m) m.order m.symbol (delete_at k.clock) (λ r. zero_row) (λ r. r ≡ r)
      (λ i r w q. (refl, ap (λ (o : Works). o.orders) (same_go q))) n b k e z refl).0

  pub delete_frees : free (row (applied ed n b k).after.orders delete_done.place) ≡ true
  delete_frees = gone_free m.order m.symbol (λ r. zero_row) k.orders (applied ed n b k).after.orders delete_done refl

-- ---- Order Execution
module _ (ed : Edition) (m : OrderExecution) (n : ℕ) (b : List ℕ) (k : Book) (e : read_body ed b ≡ Body.Execution m) (z : (applied ed n b k).rule ≡ 0) where
  execution_both : (d : Named m.order m.symbol (reduced m.size) k.orders (applied ed n b k).after.orders) × (m.size ≤ (row k.orders d.place).size)
  unfolding plan_by execution_plan
  execution_both =
      named_done ed (Body.Execution m) m.order m.symbol (execute_at k.clock m) (reduced m.size) (λ r. m.size ≤ r.size)
      (λ i r w q. let y = goes_execute k.clock m i r w q in (y.0, ap (λ (o : Works). o.orders) y.1)) n b k e z refl

  pub execution_done : Named m.order m.symbol (reduced m.size) k.orders (applied ed n b k).after.orders
  execution_done = execution_both.0

  -- no more is executed than the order has
  pub execution_covered : m.size ≤ (row k.orders execution_done.place).size
  unfolding execution_done
  execution_covered = execution_both.1

  -- "at zero the order leaves"
  pub full_frees : (row k.orders execution_done.place).size ≡ m.size → free (row (applied ed n b k).after.orders execution_done.place) ≡ true
  full_frees f =
      let t = k.orders in
      let u = (applied ed n b k).after.orders in
      gone_free m.order m.symbol (reduced m.size) t u execution_done (all_executed m.order m.symbol m.size t u execution_done f)

  -- else the size falls, and nothing else
  pub part_stays : m.size < (row k.orders execution_done.place).size → row (applied ed n b k).after.orders execution_done.place ≡ less m.size (row k.orders execution_done.place)
  part_stays h = part_executed m.order m.symbol m.size k.orders (applied ed n b k).after.orders execution_done h

-- ---- Symbol Clear: no live row of the symbol is left, and every other row is as it was
module _ (ed : Edition) (m : SymbolClear) (n : ℕ) (b : List ℕ) (k : Book) (e : read_body ed b ≡ Body.SymbolClear m) (z : (applied ed n b k).rule ≡ 0) where
  pub clear_done : (applied ed n b k).after.orders ≡ cleared m.symbol k.orders
  unfolding plan_by clear_plan committed
  clear_done =
      let d = done ed (Body.SymbolClear m) n b k e z in
      let g = goes_known (find_symbol m.symbol (entries k.symbols)) (λ e. on_rows k.clock (RowWork.Clear m.symbol)) d.does d.plan_is in
      let y : works k.clock (RowWork.Clear m.symbol) None ≡ d.does = cc g.2 in
      d.orders_are ∙ ap (λ (o : Works). committed o.orders k.orders) (sym y)

  pub clear_none : (j : ℕ) → of_symbol m.symbol (row (applied ed n b k).after.orders j) ≡ false
  clear_none j = rw clear_done (clear_gone m.symbol k.orders j)

  pub clear_rest : (j : ℕ) → of_symbol m.symbol (row k.orders j) ≡ false → row (applied ed n b k).after.orders j ≡ row k.orders j
  clear_rest j h = rw clear_done (clear_kept m.symbol k.orders j h)

-- ---- Symbol Update: its symbol is known afterwards
-- its type byte marks an entry in use
pub update_used : (ed : Edition) (m : SymbolUpdate) (b : List ℕ) → read_body ed b ≡ Body.SymbolUpdate m → used b ≡ true
update_used ed m b e = let w = rw e at (read_sound ed b) in used_body b w.0.type_is

module _ (ed : Edition) (m : SymbolUpdate) (n : ℕ) (b : List ℕ) (k : Book) (e : read_body ed b ≡ Body.SymbolUpdate m) (z : (applied ed n b k).rule ≡ 0) where
  pub record Updated : Type 0 where
    pub place : ℕ
    pub found : place_for (id_of b) (entries k.symbols) ≡ Some place
    pub table_is : (applied ed n b k).after.symbols ≡ put_entry k.symbols place b

  pub update_done : Updated
  unfolding plan_by entered
  update_done =
      let d = done ed (Body.SymbolUpdate m) n b k e z in
      let g = goes_update k.clock (place_for (id_of b) (entries k.symbols)) d.does d.plan_is in
      record { place = g.0; found = g.1; table_is = d.symbols_are ∙ ap (λ (o : Works). entered o.symbols b k.symbols) (sym g.2) }

  abbrev w : Updated
  w = update_done

  pub update_known : known_symbol (id_of b) (entries (applied ed n b k).after.symbols) ≡ true
  update_known = rw (w.table_is, entries_put k.symbols w.place b) (known_after b (entries k.symbols) w.place w.found (update_used ed m b e))

-- ---- what an update at its place keeps of the entries, every message keeps
module _ (ed : Edition) (n : ℕ) (b : List ℕ) (k : Book) where
  pub entries_kept : (P : List (List ℕ) → Type 0) → ((i : ℕ) → place_for (id_of b) (entries k.symbols) ≡ Some i → used b ≡ true → P (entries k.symbols) → P (set (entries k.symbols) i (entry_of b)))
      → P (entries k.symbols) → P (entries (applied ed n b k).after.symbols)
  entries_kept P f p = go (ℕ_discrete (applied ed n b k).rule 0)
    where
      go : Dec ((applied ed n b k).rule ≡ 0) → P (entries (applied ed n b k).after.symbols)
      go (yes z) =
          ⊎_elim
          (λ e.
          let w = update_done ed e.0 n b k e.1 z in
          subst P (sym (ap entries w.table_is ∙ entries_put k.symbols w.place b)) (f w.place w.found (update_used ed e.0 b e.1) p))
          (λ e. subst (λ t. P (entries t)) (sym e) p)
          (symbols_updated ed n b k)
      go (no x) = subst (λ (u : Book). P (entries u.symbols)) (sym (broken_keeps ed n b k x)) p

  -- a known symbol stays known
  pub symbol_stays : (s : ℕ) → known_symbol s (entries k.symbols) ≡ true → known_symbol s (entries (applied ed n b k).after.symbols) ≡ true
  symbol_stays s = entries_kept (λ es. known_symbol s es ≡ true) (λ i e u h. known_stays b (entries k.symbols) i e u s h)

  -- ---- live order IDs stay unique
  unique_by : (m : Body) (s : ℕ) → Names m s → read_body ed b ≡ m → (applied ed n b k).rule ≡ 0 → Unique (rows k.orders) → Unique (rows (applied ed n b k).after.orders)
  unique_by (Body.SystemTime _) s h e z v = elim h [ ]
  unique_by (Body.SymbolUpdate _) s h e z v = elim h [ ]
  unique_by (Body.SystemState _) s h e z v = elim h [ ]
  unique_by (Body.TradingStatus _) s h e z v = elim h [ ]
  unique_by (Body.Trade _) s h e z v = elim h [ ]
  unique_by (Body.TradeCancel _) s h e z v = elim h [ ]
  unique_by (Body.Bad _) s h e z v = elim h [ ]
  unique_by (Body.SymbolClear m) s h e z v = rw (clear_done ed m n b k e z) (clear_unique k.orders v m.symbol)
  unique_by (Body.Add m) s h e z v = add_unique k.orders v (row_for m n) (applied ed n b k).after.orders (add_entered ed m n b k e z)
  unique_by (Body.Modify m) s h e z v = modify_unique k.orders v m.order m.symbol m.price m.size (moves m.flags) n (applied ed n b k).after.orders (modify_done ed m n b k e z)
  unique_by (Body.Delete m) s h e z v = delete_unique k.orders v m.order m.symbol (applied ed n b k).after.orders (delete_done ed m n b k e z)
  unique_by (Body.Execution m) s h e z v = execute_unique k.orders v m.order m.symbol m.size (applied ed n b k).after.orders (execution_done ed m n b k e z)

  -- whatever the message and its bytes
  pub unique_kept : Unique (rows k.orders) → Unique (rows (applied ed n b k).after.orders)
  unique_kept v = go (ℕ_discrete (applied ed n b k).rule 0)
    where
      go : Dec ((applied ed n b k).rule ≡ 0) → Unique (rows (applied ed n b k).after.orders)
      go (yes z) = ⊎_elim (λ x. unique_by (read_body ed b) x.0 x.1 refl z v) (λ e. rw e v) (orders_named ed n b k)
      go (no x) = rw (broken_keeps ed n b k x) v

-- ---- a returning order ID is no repeat: after a Delete, or an execution of all shares, an Add of that ID applies
module _ (ed : Edition) (k : Book) (v : Unique (rows k.orders)) (a : AddOrder) (n : ℕ) (b : List ℕ) (e : read_body ed b ≡ Body.Add a) where
  again : (order symbol : ℕ) (f : Row → Row) (u : Book) (d : Named order symbol f k.orders u.orders) → f (row k.orders d.place) ≡ zero_row
      → a.order ≡ order → known_symbol a.symbol (entries u.symbols) ≡ true → (applied ed n b u).rule ≡ 0
  again order symbol f u d g o s =
      let w = known_found a.symbol (entries u.symbols) s in
      let r = room_again order symbol f k.orders u.orders d g in
      add_applies ed a n b u e w.place r.0 w.found (rw o (gone_nowhere order symbol f k.orders u.orders d g v)) r.1

  module _ (n' : ℕ) (b' : List ℕ) (z : (applied ed n' b' k).rule ≡ 0) where
    pub add_after_delete : (m : DeleteOrder) → read_body ed b' ≡ Body.Delete m → a.order ≡ m.order → known_symbol a.symbol (entries (applied ed n' b' k).after.symbols) ≡ true
        → (applied ed n b (applied ed n' b' k).after).rule ≡ 0
    add_after_delete m e' o s = again m.order m.symbol (λ r. zero_row) (applied ed n' b' k).after (delete_done ed m n' b' k e' z) refl o s

    pub add_after_execution : (m : OrderExecution) (e' : read_body ed b' ≡ Body.Execution m) → (row k.orders (execution_done ed m n' b' k e' z).place).size ≡ m.size → a.order ≡ m.order
        → known_symbol a.symbol (entries (applied ed n' b' k).after.symbols) ≡ true → (applied ed n b (applied ed n' b' k).after).rule ≡ 0
    add_after_execution m e' f o s =
        let d = execution_done ed m n' b' k e' z in
        again m.order m.symbol (reduced m.size) (applied ed n' b' k).after d (all_executed m.order m.symbol m.size k.orders (applied ed n' b' k).after.orders d f) o s
