-- A message as eight numbers and 28 bytes (docs/WRITE.md). The numbers: its type, those of the message in the order of their places (docs/MESSAGES.md), but for a Symbol Update, then zeros. The types are
-- those of the one table ("The types and lengths of all eleven messages stand in one table"). The bytes: what is no number, then zeros.
use Rattle.std.specs.Prelude.{ℕ, List, [], ◌∷◌, ◌++◌, replicate, Option, Some, None}
use Rattle.kinds.specs.declared.Kind.{Kind}
use Rattle.kinds.specs.Table.{type_of}
use Rattle.editions.specs.declared.Edition.{Edition}
use Rattle.fields.specs.declared.TradingStatus.{TradingStatus}
use Rattle.fields.specs.declared.SymbolClear.{SymbolClear}
use Rattle.fields.specs.declared.AddOrder.{AddOrder}
use Rattle.fields.specs.declared.ModifyOrder.{ModifyOrder}
use Rattle.fields.specs.declared.DeleteOrder.{DeleteOrder}
use Rattle.fields.specs.declared.OrderExecution.{OrderExecution}
use Rattle.fields.specs.declared.Trade.{Trade}
use Rattle.fields.specs.declared.TradeCancel.{TradeCancel}
use Rattle.fields.specs.declared.SymbolUpdate.{SymbolUpdate}
use Rattle.fields.specs.declared.SystemState.{SystemState}
use Rattle.fields.specs.declared.Body.{Body}
use Rattle.body.specs.Shown.{security_in}

-- the first of the eight is the type, t in what follows
abbrev pub eight : ℕ → ℕ → ℕ → ℕ → ℕ → ℕ → ℕ → ℕ → List ℕ
eight a b c d e f g h = a ∷ b ∷ c ∷ d ∷ e ∷ f ∷ g ∷ h ∷ []

-- byte 20 of a Symbol Update is a field in 1.3 alone (request 10)
abbrev pub type_number : Option ℕ → ℕ
type_number (Some x) = x
type_number None = 0

-- Symbol Update: symbol, lot, market, the Security Type in 1.3, nanoseconds, test indicator, byte 22; those that the table and the sheet show stand first
abbrev pub update_fields : ℕ → SymbolUpdate → Option ℕ → List ℕ
update_fields t m y = eight t m.symbol.id m.symbol.lot m.symbol.market (type_number y) m.nanos m.test m.reserved

-- System State: nanoseconds, session, status
abbrev pub state_fields : ℕ → SystemState → List ℕ
state_fields t m = eight t m.nanos m.session m.status 0 0 0 0

-- Security Trading Status: nanoseconds, symbol, trading status, market, short sale restriction
abbrev pub status_fields : ℕ → TradingStatus → List ℕ
status_fields t m = eight t m.nanos m.symbol m.trading m.market m.short 0 0

-- Symbol Clear: nanoseconds, symbol
abbrev pub clear_fields : ℕ → SymbolClear → List ℕ
clear_fields t m = eight t m.nanos m.symbol 0 0 0 0 0

-- Add Order: nanoseconds, symbol, order, side, price, size, attributable ID
abbrev pub add_fields : ℕ → AddOrder → List ℕ
add_fields t m = eight t m.nanos m.symbol m.order m.side m.price m.size m.attributable

-- Modify Order: nanoseconds, symbol, order, price, size, flags
abbrev pub modify_fields : ℕ → ModifyOrder → List ℕ
modify_fields t m = eight t m.nanos m.symbol m.order m.price m.size m.flags 0

-- Delete Order: nanoseconds, symbol, order
abbrev pub delete_fields : ℕ → DeleteOrder → List ℕ
delete_fields t m = eight t m.nanos m.symbol m.order 0 0 0 0

-- Order Execution: nanoseconds, symbol, order, trade, price, size, flags
abbrev pub execution_fields : ℕ → OrderExecution → List ℕ
execution_fields t m = eight t m.nanos m.symbol m.order m.trade m.price m.size m.flags

-- Trade: nanoseconds, symbol, trade, correction, price, size, flags
abbrev pub trade_fields : ℕ → Trade → List ℕ
trade_fields t m = eight t m.nanos m.symbol m.trade m.correction m.price m.size m.flags

-- Trade Cancel: nanoseconds, symbol, trade, correction, price, size
abbrev pub cancel_fields : ℕ → TradeCancel → List ℕ
cancel_fields t m = eight t m.nanos m.symbol m.trade m.correction m.price m.size 0

-- the numbers of a message behind its type, and of the body that holds the Security Type of a Symbol Update; System Time is its second
abbrev pub typed : Edition → ℕ → Body → List ℕ → List ℕ
typed ed t (Body.SystemTime n) b = eight t n 0 0 0 0 0 0
typed ed t (Body.SymbolUpdate m) b = update_fields t m (security_in ed b)
typed ed t (Body.SystemState m) b = state_fields t m
typed ed t (Body.TradingStatus m) b = status_fields t m
typed ed t (Body.SymbolClear m) b = clear_fields t m
typed ed t (Body.Add m) b = add_fields t m
typed ed t (Body.Modify m) b = modify_fields t m
typed ed t (Body.Delete m) b = delete_fields t m
typed ed t (Body.Execution m) b = execution_fields t m
typed ed t (Body.Trade m) b = trade_fields t m
typed ed t (Body.TradeCancel m) b = cancel_fields t m
typed ed t (Body.Bad r) b = eight t 0 0 0 0 0 0 0

-- the kind of a message
abbrev pub kind_in : Body → Kind
kind_in (Body.SystemTime n) = Kind.SystemTime
kind_in (Body.SymbolUpdate m) = Kind.SymbolUpdate
kind_in (Body.SystemState m) = Kind.SystemState
kind_in (Body.TradingStatus m) = Kind.TradingStatus
kind_in (Body.SymbolClear m) = Kind.SymbolClear
kind_in (Body.Add m) = Kind.Add
kind_in (Body.Modify m) = Kind.Modify
kind_in (Body.Delete m) = Kind.Delete
kind_in (Body.Execution m) = Kind.Execution
kind_in (Body.Trade m) = Kind.Trade
kind_in (Body.TradeCancel m) = Kind.TradeCancel
kind_in (Body.Bad r) = Kind.Unknown

-- "The type byte decides the message": its type is its kind's in the table
abbrev pub fields_of : Edition → Body → List ℕ → List ℕ
fields_of ed m b = typed ed (type_of (kind_in m)) m b

-- ---- the bytes
abbrev pub text_size : ℕ
text_size = 28

-- byte 20 where it is reserved; where it is the Security Type, it stands among the numbers
abbrev pub reserved_byte : Option ℕ → ℕ → ℕ
reserved_byte (Some x) y = 0
reserved_byte None y = y

-- Symbol Update: ticker, opening, closing, byte 20
abbrev pub update_text : SymbolUpdate → Option ℕ → List ℕ
update_text m y = m.symbol.ticker ++ (m.symbol.opening ++ (m.symbol.closing ++ (reserved_byte y m.security ∷ [])))

-- System State: version
abbrev pub state_text : SystemState → List ℕ
state_text m = m.version ++ replicate 20 0

abbrev pub no_text : List ℕ
no_text = replicate text_size 0

abbrev pub text_of : Edition → Body → List ℕ → List ℕ
text_of ed (Body.SystemTime n) b = no_text
text_of ed (Body.SymbolUpdate m) b = update_text m (security_in ed b)
text_of ed (Body.SystemState m) b = state_text m
text_of ed (Body.TradingStatus m) b = no_text
text_of ed (Body.SymbolClear m) b = no_text
text_of ed (Body.Add m) b = no_text
text_of ed (Body.Modify m) b = no_text
text_of ed (Body.Delete m) b = no_text
text_of ed (Body.Execution m) b = no_text
text_of ed (Body.Trade m) b = no_text
text_of ed (Body.TradeCancel m) b = no_text
text_of ed (Body.Bad r) b = no_text
