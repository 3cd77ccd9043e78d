-- The book rules, message by message: from what the searches found to what is to be done (document 01: "Each rule is tried in the order given, and
-- the first broken one counts"). A rule's number is the paper's. Nothing here looks into a table, so whoever searches, the plan is the same.
use Rattle.std.specs.Prelude.{ℕ, List, eqb, ltb, Option, Some, None, Result, Ok, Err}
use Rattle.facts.specs.Pick.{pick}
use Rattle.fields.specs.declared.Body.{Body}
use Rattle.fields.specs.declared.AddOrder.{AddOrder}
use Rattle.fields.specs.declared.ModifyOrder.{ModifyOrder}
use Rattle.fields.specs.declared.DeleteOrder.{DeleteOrder}
use Rattle.fields.specs.declared.OrderExecution.{OrderExecution}
use Rattle.fields.specs.declared.SymbolClear.{SymbolClear}
use Rattle.rows.specs.declared.Row.{Row}
use Rattle.rows.specs.Keys.{key_for, side_of}
use Rattle.rows.specs.Rows.{zero_row, symbol_of}
use Rattle.symbols.specs.Entries.{id_of}
use Rattle.orders.specs.declared.RowWork.{RowWork}
use Rattle.orders.specs.Work.{moves, remade, reduced}
use Rattle.book.specs.declared.Clock.{Clock}
use Rattle.book.specs.declared.Works.{Works}
use Rattle.book.specs.declared.Rule.{Rule}
use Rattle.book.specs.declared.Rule.TheVariants.{UnknownSymbol, AlreadyLive, NotLive, OtherSymbol, AboveSize, NoRow, NoEntry, NoBody}

-- ---- the rules
-- their numbers in document 01
abbrev pub number_of : Rule → ℕ
number_of UnknownSymbol = 20
number_of AlreadyLive = 21
number_of NotLive = 22
number_of OtherSymbol = 23
number_of AboveSize = 24
number_of NoRow = 25
number_of NoEntry = 26
number_of NoBody = 27

-- what a message does, or the first rule that it breaks
abbrev pub Plan : Type 0
Plan = Result Works Rule

-- the order that a message names and its row, or the rule that it breaks
abbrev pub Target : Type 0
Target = Result (ℕ × Row) Rule

-- ---- what is to be done
-- what a book has by value: the current second
abbrev pub clock : ℕ → Clock
clock second = record { second = second }

-- the clock after a message, and its work on each table
abbrev pub works : Clock → RowWork → Option ℕ → Works
works c o s = record { clock = c; orders = o; symbols = s }

-- work on the order table alone
abbrev pub on_rows : Clock → RowWork → Plan
on_rows c w = Ok (works c w None)

-- work on no table
abbrev pub idle : Clock → Plan
idle c = on_rows c RowWork.Keep

-- ---- what several messages share
-- "unknown symbol 20", tried first; of a known one the place of its entry is handed on
unfoldable pub of_known : Option ℕ → (ℕ → Plan) → Plan
of_known (Some e) f = f e
of_known None f = Err UnknownSymbol

-- "order not live 22; live under another symbol 23"
unfoldable pub target : Option (ℕ × Row) → ℕ → Target
target None symbol = Err NotLive
target (Some (i, r)) symbol = pick (eqb (symbol_of r) symbol) (Ok (i, r)) (Err OtherSymbol)

-- and what is done with the order that is left
unfoldable pub upon : Target → (ℕ → Row → Plan) → Plan
upon (Err n) f = Err n
upon (Ok (i, r)) f = f i r

-- "order ID, symbol ID times 2 plus side (buy 0, sell 1), price, size, rank", "rank = sequence number"
unfoldable pub row_for : AddOrder → ℕ → Row
row_for m n = record { order = m.order; key = key_for m.symbol (side_of m.side); price = m.price; size = m.size; rank = n }

-- ---- the messages
-- "Symbol Update replaces that symbol's entry, or takes the lowest free one. None free: 26."
unfoldable pub update_plan : Clock → Option ℕ → Plan
update_plan c (Some i) = Ok (works c RowWork.Keep (Some i))
update_plan c None = Err NoEntry

-- "Add: unknown symbol 20; order ID already live 21; no free row 25. Else the lowest free row is used, rank = sequence number."
unfoldable pub room_for : Clock → Row → Option (ℕ × Row) → Option ℕ → Plan
room_for c new (Some (i, r)) free = Err AlreadyLive
room_for c new None None = Err NoRow
room_for c new None (Some j) = on_rows c (RowWork.Put j new)

unfoldable pub add_plan : Clock → AddOrder → ℕ → Option ℕ → Option (ℕ × Row) → Option ℕ → Plan
add_plan c m n entry order free = of_known entry (λ e. room_for c (row_for m n) order free)

-- "Modify: 20; order not live 22; live under another symbol 23. Price and size are replaced. Flag bit 0 set: rank becomes this sequence number.
-- Clear: the rank stays, whatever changed."
abbrev pub modify_at : Clock → ModifyOrder → ℕ → ℕ → Row → Plan
modify_at c m n i r = on_rows c (RowWork.Put i (remade m.price m.size (moves m.flags) n r))

unfoldable pub modify_plan : Clock → ModifyOrder → ℕ → Option ℕ → Option (ℕ × Row) → Plan
modify_plan c m n entry order = of_known entry (λ e. upon (target order m.symbol) (modify_at c m n))

-- "Delete: 20, 22, 23. The row becomes all zero and may be used again."
abbrev pub delete_at : Clock → ℕ → Row → Plan
delete_at c i r = on_rows c (RowWork.Put i zero_row)

unfoldable pub delete_plan : Clock → DeleteOrder → Option ℕ → Option (ℕ × Row) → Plan
delete_plan c m entry order = of_known entry (λ e. upon (target order m.symbol) (delete_at c))

-- "Order Execution: 20, 22, 23; executed size above the order's 24. The size falls; at zero the order leaves, because no Delete follows a trade (4.6)."
abbrev pub execute_at : Clock → OrderExecution → ℕ → Row → Plan
execute_at c m i r = pick (ltb r.size m.size) (Err AboveSize) (on_rows c (RowWork.Put i (reduced m.size r)))

unfoldable pub execution_plan : Clock → OrderExecution → Option ℕ → Option (ℕ × Row) → Plan
execution_plan c m entry order = of_known entry (λ e. upon (target order m.symbol) (execute_at c m))

-- "Symbol Clear (4.5): 20. Every live row of that symbol becomes all zero."
unfoldable pub clear_plan : Clock → SymbolClear → Option ℕ → Plan
clear_plan c m entry = of_known entry (λ e. on_rows c (RowWork.Clear m.symbol))

-- ---- any message
-- what the searches for it would find: the order of an ID, a free row, the entry of a symbol, and the entry that its update takes
pub record Finds : Type 0 where
  pub order : ℕ → Option (ℕ × Row)
  pub free_row : Option ℕ
  pub entry : ℕ → Option ℕ
  pub room : ℕ → Option ℕ

-- by the message m, its sequence number n, its bytes b, the clock c before it, and what was found
unfoldable pub plan_by : Body → ℕ → List ℕ → Clock → Finds → Plan
-- "System Time sets the current second."
plan_by (Body.SystemTime s) n b c f = idle (clock s)
plan_by (Body.SymbolUpdate m) n b c f = update_plan c (f.room (id_of b))
plan_by (Body.Add m) n b c f = add_plan c m n (f.entry m.symbol) (f.order m.order) f.free_row
plan_by (Body.Modify m) n b c f = modify_plan c m n (f.entry m.symbol) (f.order m.order)
plan_by (Body.Delete m) n b c f = delete_plan c m (f.entry m.symbol) (f.order m.order)
plan_by (Body.Execution m) n b c f = execution_plan c m (f.entry m.symbol) (f.order m.order)
plan_by (Body.SymbolClear m) n b c f = clear_plan c m (f.entry m.symbol)
-- "The other four apply without changing a table."
plan_by (Body.SystemState m) n b c f = idle c
plan_by (Body.TradingStatus m) n b c f = idle c
plan_by (Body.Trade m) n b c f = idle c
plan_by (Body.TradeCancel m) n b c f = idle c
-- "no good body stops with 27"
plan_by (Body.Bad r) n b c f = Err NoBody
