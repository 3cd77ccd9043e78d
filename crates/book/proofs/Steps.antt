-- What every message does alike: a plan that stops changes nothing, one that goes on leaves each table by its own work; and which of them
-- a message may change, by the case of its body.
-- Assumes nothing.
use mathlib.Core.Path.{◌≡◌, refl, sym, ap, ◌∙◌}
use mathlib.Core.Bool.{true, false}
use mathlib.Core.List.{List}
use mathlib.Core.Logic.{◌⊎◌, inl, inr, ⊎_elim}
use Prim.Native.Nat.{ℕ, ◌≤◌}
use native.Mathlib.Omega.{arith}
use lib.ListN.{length}
use Rattle.std.specs.Prelude.{Option, Some, None, Ok, Err}
use Rattle.facts.proofs.Picks.{upheld}
use Rattle.editions.specs.declared.Edition.{Edition}
use Rattle.fields.specs.Fields.{body_number}
use Rattle.fields.specs.declared.Body.{Body}
use Rattle.fields.specs.declared.TradingStatus.{TradingStatus}
use Rattle.fields.specs.declared.SymbolClear.{SymbolClear}
use Rattle.fields.specs.declared.AddOrder.{AddOrder}
use Rattle.fields.specs.declared.ModifyOrder.{ModifyOrder}
use Rattle.fields.specs.declared.DeleteOrder.{DeleteOrder}
use Rattle.fields.specs.declared.OrderExecution.{OrderExecution}
use Rattle.fields.specs.declared.Trade.{Trade}
use Rattle.fields.specs.declared.TradeCancel.{TradeCancel}
use Rattle.fields.specs.declared.SymbolUpdate.{SymbolUpdate}
use Rattle.fields.specs.declared.SystemState.{SystemState}
use Rattle.fields.specs.declared.Fault.{Fault}
use Rattle.body.specs.Read.{read_body, good_body}
use Rattle.body.proofs.Laws.{bad_number}
use Rattle.symbols.specs.Entries.{entries, id_of}
use Rattle.symbols.specs.Find.{known_symbol}
use Rattle.symbols.proofs.FindLaws.{unknown_nowhere}
use Rattle.symbols.specs.Work.{entered}
use Rattle.symbols.proofs.UpdateLaws.{entered_length}
use Rattle.orders.specs.declared.RowWork.{RowWork}
use Rattle.orders.specs.Work.{committed}
use Rattle.orders.proofs.Commits.{committed_length}
use Rattle.book.specs.declared.Clock.{Clock}
use Rattle.book.specs.declared.Works.{Works}
use Rattle.book.specs.declared.Rule.TheVariants.{UnknownSymbol, NoBody}
use Rattle.book.specs.Plan.{Plan, clock, on_rows, idle, of_known, target, upon, row_for, room_for, add_plan, modify_at, modify_plan, delete_at, delete_plan, execute_at, execution_plan, clear_plan, update_plan, Finds, plan_by}
use Rattle.book.specs.Parts.{the_second, the_symbols, the_orders, no_part, part_of}
use Rattle.book.specs.Book.{Book, book, effect, scans, planned, carried, applied}
use Rattle.book.proofs.Laws.{rule_from, rule_some, planned_by, carried_by}
use Rattle.book.proofs.Plans.{OnOrders, stops_orders, goes_orders, known_orders, room_orders, named_orders, execute_orders}

-- ---- any plan
-- the numbers of the book rules
abbrev pub Numbered : ℕ → Type 0
Numbered n = (n ≡ 0) ⊎ ((20 ≤ n) × (n ≤ 27))

module _ (b : List ℕ) (k : Book) where
  pub carried_broken : (p : Plan) → ((carried p b k).rule ≡ 0 → ⊥) → (carried p b k).after ≡ k
  unfolding carried
  carried_broken (Err n) h = refl
  carried_broken (Ok w) h = absurd (h refl)

  pub carried_orders : (p : Plan) → length (carried p b k).after.orders ≡ length k.orders
  unfolding carried
  carried_orders (Err n) = refl
  carried_orders (Ok w) = committed_length w.orders k.orders

  pub carried_symbols : (p : Plan) → length (carried p b k).after.symbols ≡ length k.symbols
  unfolding carried
  carried_symbols (Err n) = refl
  carried_symbols (Ok w) = entered_length w.symbols b k.symbols

  pub carried_numbers : (p : Plan) → Numbered (carried p b k).rule
  unfolding carried
  carried_numbers (Err r) = inr (rule_from r)
  carried_numbers (Ok w) = inl refl

  carried_went : (p : Plan) → (carried p b k).rule ≡ 0
      → (w : Works) × (p ≡ Ok w) × ((carried p b k).after ≡ book (committed w.orders k.orders) (entered w.symbols b k.symbols) w.clock)
  unfolding carried
  carried_went (Err r) z = absurd (rule_some r z)
  carried_went (Ok w) z = (w, refl, refl)

-- ---- messages that name a symbol, which alone change the order table, and the four that change none
pub data Names : Body → ℕ → Type 0 where
  clear : (m : SymbolClear) → Names (Body.SymbolClear m) m.symbol
  add : (m : AddOrder) → Names (Body.Add m) m.symbol
  modify : (m : ModifyOrder) → Names (Body.Modify m) m.symbol
  delete : (m : DeleteOrder) → Names (Body.Delete m) m.symbol
  execution : (m : OrderExecution) → Names (Body.Execution m) m.symbol

pub data Other : Body → Type 0 where
  state : (m : SystemState) → Other (Body.SystemState m)
  status : (m : TradingStatus) → Other (Body.TradingStatus m)
  trade : (m : Trade) → Other (Body.Trade m)
  cancel : (m : TradeCancel) → Other (Body.TradeCancel m)

-- what a body is, as far as the tables go
pub data Group : Body → Type 0 where
  time : (s : ℕ) → Group (Body.SystemTime s)
  update : (m : SymbolUpdate) → Group (Body.SymbolUpdate m)
  names : {m : Body} {s : ℕ} → Names m s → Group m
  other : {m : Body} → Other m → Group m
  refused : (r : Fault) → Group (Body.Bad r)

pub group_of : (m : Body) → Group m
group_of (Body.SystemTime s) = time s
group_of (Body.SymbolUpdate m) = update m
group_of (Body.SymbolClear m) = names (clear m)
group_of (Body.Add m) = names (add m)
group_of (Body.Modify m) = names (modify m)
group_of (Body.Delete m) = names (delete m)
group_of (Body.Execution m) = names (execution m)
group_of (Body.SystemState m) = other (state m)
group_of (Body.TradingStatus m) = other (status m)
group_of (Body.Trade m) = other (trade m)
group_of (Body.TradeCancel m) = other (cancel m)
group_of (Body.Bad r) = refused r

names_good : {m : Body} {s : ℕ} → Names m s → body_number m ≡ 0
names_good (clear m) = refl
names_good (add m) = refl
names_good (modify m) = refl
names_good (delete m) = refl
names_good (execution m) = refl

names_part : {m : Body} {s : ℕ} → Names m s → part_of m ≡ the_orders
unfolding part_of
names_part (clear m) = refl
names_part (add m) = refl
names_part (modify m) = refl
names_part (delete m) = refl
names_part (execution m) = refl

other_good : {m : Body} → Other m → body_number m ≡ 0
other_good (state m) = refl
other_good (status m) = refl
other_good (trade m) = refl
other_good (cancel m) = refl

other_part : {m : Body} → Other m → part_of m ≡ no_part
unfolding part_of
other_part (state m) = refl
other_part (status m) = refl
other_part (trade m) = refl
other_part (cancel m) = refl

-- a Symbol Update alone may change the symbol table
pub part_update : {m : Body} → Group m → part_of m ≡ the_symbols → (u : SymbolUpdate) × (m ≡ Body.SymbolUpdate u)
unfolding part_of
part_update (update m) q = (m, refl)
part_update (time s) q = cc
part_update (names x) q = cc (names_part x)
part_update (other x) q = cc (other_part x)
part_update (refused r) q = cc

-- ---- the plan of each
module _ (n : ℕ) (b : List ℕ) (c : Clock) (f : Finds) where
  names_orders : {m : Body} {s : ℕ} → Names m s → OnOrders c (plan_by m n b c f)
  unfolding plan_by add_plan modify_plan delete_plan execution_plan clear_plan
  names_orders (clear m) = known_orders c (f.entry m.symbol) (λ e. on_rows c (RowWork.Clear m.symbol)) (λ e. goes_orders (RowWork.Clear m.symbol))
  names_orders (add m) = known_orders c (f.entry m.symbol) (λ e. room_for c (row_for m n) (f.order m.order) f.free_row) (λ e. room_orders c (row_for m n) (f.order m.order) f.free_row)
  names_orders (modify m) =
      known_orders c (f.entry m.symbol) (λ e. upon (target (f.order m.order) m.symbol) (modify_at c m n))
      (λ e. named_orders c (f.order m.order) m.symbol (modify_at c m n) (λ i r. goes_orders _))
  names_orders (delete m) =
      known_orders c (f.entry m.symbol) (λ e. upon (target (f.order m.order) m.symbol) (delete_at c))
      (λ e. named_orders c (f.order m.order) m.symbol (delete_at c) (λ i r. goes_orders _))
  names_orders (execution m) =
      known_orders c (f.entry m.symbol) (λ e. upon (target (f.order m.order) m.symbol) (execute_at c m))
      (λ e. named_orders c (f.order m.order) m.symbol (execute_at c m) (execute_orders c m))

  names_unknown : {m : Body} {s : ℕ} → Names m s → f.entry s ≡ None → plan_by m n b c f ≡ Err UnknownSymbol
  unfolding plan_by add_plan modify_plan delete_plan execution_plan clear_plan of_known
  names_unknown (clear m) e = rw e
  names_unknown (add m) e = rw e
  names_unknown (modify m) e = rw e
  names_unknown (delete m) e = rw e
  names_unknown (execution m) e = rw e

  pub other_idle : {m : Body} → Other m → plan_by m n b c f ≡ idle c
  unfolding plan_by
  other_idle (state m) = refl
  other_idle (status m) = refl
  other_idle (trade m) = refl
  other_idle (cancel m) = refl

  pub group_bad : {m : Body} → Group m → (body_number m ≡ 0 → ⊥) → plan_by m n b c f ≡ Err NoBody
  unfolding plan_by
  group_bad (time s) h = absurd (h refl)
  group_bad (update m) h = absurd (h refl)
  group_bad (names x) h = absurd (h (names_good x))
  group_bad (other x) h = absurd (h (other_good x))
  group_bad (refused r) h = refl

-- ---- the work of a plan on each part of the book: what is left to itself stays
abbrev rows_of : Plan → RowWork
rows_of (Err n) = RowWork.Keep
rows_of (Ok w) = w.orders

abbrev entries_of : Plan → Option ℕ
entries_of (Err n) = None
entries_of (Ok w) = w.symbols

abbrev clock_of : Clock → Plan → Clock
clock_of c (Err n) = c
clock_of c (Ok w) = w.clock

carried_all : (p : Plan) (b : List ℕ) (k : Book) → (carried p b k).after ≡ book (committed (rows_of p) k.orders) (entered (entries_of p) b k.symbols) (clock_of k.clock p)
unfolding carried committed entered
carried_all (Err n) b k = refl
carried_all (Ok w) b k = refl

orders_entries : {c : Clock} {p : Plan} → OnOrders c p → (entries_of p ≡ None) × (clock_of c p ≡ c)
orders_entries (stops_orders r) = (refl, refl)
orders_entries (goes_orders w) = (refl, refl)

module _ (n : ℕ) (b : List ℕ) (c : Clock) (f : Finds) where
  update_rows : (place : Option ℕ) → (rows_of (update_plan c place) ≡ RowWork.Keep) × (clock_of c (update_plan c place) ≡ c)
  unfolding update_plan
  update_rows (Some i) = (refl, refl)
  update_rows None = (refl, refl)

  group_rows : {m : Body} → Group m → ((s : ℕ) × Names m s) ⊎ (rows_of (plan_by m n b c f) ≡ RowWork.Keep)
  unfolding plan_by
  group_rows (time s) = inr refl
  group_rows (update m) = inr (update_rows (f.room (id_of b))).0
  group_rows (names {s = s} x) = inl (s, x)
  group_rows (other x) = inr (ap rows_of (other_idle n b c f x))
  group_rows (refused r) = inr refl

  group_entries : {m : Body} → Group m → ((u : SymbolUpdate) × (m ≡ Body.SymbolUpdate u)) ⊎ (entries_of (plan_by m n b c f) ≡ None)
  unfolding plan_by
  group_entries (time s) = inr refl
  group_entries (update m) = inl (m, refl)
  group_entries (names x) = inr (orders_entries (names_orders n b c f x)).0
  group_entries (other x) = inr (ap entries_of (other_idle n b c f x))
  group_entries (refused r) = inr refl

  group_clock : {m : Body} → Group m → ((s : ℕ) × (m ≡ Body.SystemTime s)) ⊎ (clock_of c (plan_by m n b c f) ≡ c)
  unfolding plan_by
  group_clock (time s) = inl (s, refl)
  group_clock (update m) = inr (update_rows (f.room (id_of b))).1
  group_clock (names x) = inr (orders_entries (names_orders n b c f x)).1
  group_clock (other x) = inr (ap (clock_of c) (other_idle n b c f x))
  group_clock (refused r) = inr refl

-- ---- any message
module _ (ed : Edition) (n : ℕ) (b : List ℕ) (k : Book) where
  -- "the first broken one counts": and changes nothing
  pub broken_keeps : ((applied ed n b k).rule ≡ 0 → ⊥) → (applied ed n b k).after ≡ k
  unfolding applied
  broken_keeps h = carried_broken b k (planned ed n b k) h

  -- a message that breaks none: each table by its work
  pub went : (applied ed n b k).rule ≡ 0
      → (w : Works) × (planned ed n b k ≡ Ok w) × ((applied ed n b k).after ≡ book (committed w.orders k.orders) (entered w.symbols b k.symbols) w.clock)
  unfolding applied
  went z = carried_went b k (planned ed n b k) z

  pub lengths_kept : (length (applied ed n b k).after.orders ≡ length k.orders) × (length (applied ed n b k).after.symbols ≡ length k.symbols)
  unfolding applied
  lengths_kept = (carried_orders b k (planned ed n b k), carried_symbols b k (planned ed n b k))

  -- 0, or one of 20 to 27
  pub rules : Numbered (applied ed n b k).rule
  unfolding applied
  rules = carried_numbers b k (planned ed n b k)

  -- "no good body stops with 27"
  pub bad_body : good_body ed b ≡ false → (applied ed n b k).rule ≡ 27
  unfolding carried
  bad_body h = ap (λ o. o.rule) (sym (carried_by ed (Err NoBody) n b k (sym (planned_by ed (read_body ed b) n b k refl) ∙ group_bad n b k.clock (scans k) (group_of (read_body ed b)) (bad_number ed b h))))

  pub rule_good : (applied ed n b k).rule ≡ 0 → good_body ed b ≡ true
  rule_good e = upheld (good_body ed b) (λ g. omega (arith, bad_body g))

  -- ---- which part of the book a message may change
  applied_all : (applied ed n b k).after ≡ book (committed (rows_of (planned ed n b k)) k.orders) (entered (entries_of (planned ed n b k)) b k.symbols) (clock_of k.clock (planned ed n b k))
  unfolding applied
  applied_all = carried_all (planned ed n b k) b k

  -- it names a symbol, or the order table is as it was
  pub orders_named : ((s : ℕ) × Names (read_body ed b) s) ⊎ ((applied ed n b k).after.orders ≡ k.orders)
  unfolding committed planned
  orders_named =
      ⊎_elim inl (λ e. inr (ap (λ x. x.orders) applied_all ∙ ap (λ w. committed w k.orders) e))
      (group_rows n b k.clock (scans k) (group_of (read_body ed b)))

  -- it is a Symbol Update, or the symbol table is as it was
  pub symbols_updated : ((m : SymbolUpdate) × (read_body ed b ≡ Body.SymbolUpdate m)) ⊎ ((applied ed n b k).after.symbols ≡ k.symbols)
  unfolding entered planned
  symbols_updated =
      ⊎_elim inl (λ e. inr (ap (λ x. x.symbols) applied_all ∙ ap (λ w. entered w b k.symbols) e))
      (group_entries n b k.clock (scans k) (group_of (read_body ed b)))

  clock_timed : ((s : ℕ) × (read_body ed b ≡ Body.SystemTime s)) ⊎ ((applied ed n b k).after.clock ≡ k.clock)
  unfolding planned
  clock_timed = ⊎_elim inl (λ e. inr (ap (λ x. x.clock) applied_all ∙ e)) (group_clock n b k.clock (scans k) (group_of (read_body ed b)))

  -- each part of the book is left by every message but those of that part
  pub orders_kept : (part_of (read_body ed b) ≡ the_orders → ⊥) → (applied ed n b k).after.orders ≡ k.orders
  orders_kept h = ⊎_elim (λ x. absurd (h (names_part x.1))) (λ e. e) orders_named

  pub symbols_kept : (part_of (read_body ed b) ≡ the_symbols → ⊥) → (applied ed n b k).after.symbols ≡ k.symbols
  unfolding part_of
  symbols_kept h = ⊎_elim (λ e. absurd (h (ap part_of e.1))) (λ e. e) symbols_updated

  pub clock_kept : (part_of (read_body ed b) ≡ the_second → ⊥) → (applied ed n b k).after.clock ≡ k.clock
  unfolding part_of
  clock_kept h = ⊎_elim (λ x. absurd (h (ap part_of x.1))) (λ e. e) clock_timed

  pub second_set : (c : ℕ) → read_body ed b ≡ Body.SystemTime c → applied ed n b k ≡ effect 0 (book k.orders k.symbols (clock c))
  unfolding plan_by carried committed entered
  second_set c e = sym (carried_by ed (idle (clock c)) n b k (sym (planned_by ed (Body.SystemTime c) n b k e)))

  -- "The other four apply without changing a table"
  pub other_four : Other (read_body ed b) → applied ed n b k ≡ effect 0 k
  unfolding carried committed entered
  other_four h = sym (carried_by ed (idle k.clock) n b k (sym (planned_by ed (read_body ed b) n b k refl) ∙ other_idle n b k.clock (scans k) h))

  -- an unknown symbol breaks 20, whatever the order table holds
  pub unknown_symbol : (s : ℕ) → Names (read_body ed b) s → known_symbol s (entries k.symbols) ≡ false → applied ed n b k ≡ effect 20 k
  unfolding carried
  unknown_symbol s h u =
      sym (carried_by ed (Err UnknownSymbol) n b k (sym (planned_by ed (read_body ed b) n b k refl) ∙ names_unknown n b k.clock (scans k) h (unknown_nowhere s (entries k.symbols) u)))

  -- so the symbol of one that applied was known
  pub applied_known : (s : ℕ) → Names (read_body ed b) s → (applied ed n b k).rule ≡ 0 → known_symbol s (entries k.symbols) ≡ true
  applied_known s h z = upheld (known_symbol s (entries k.symbols)) (λ e. omega (arith, ap (λ o. o.rule) (unknown_symbol s h e)))
