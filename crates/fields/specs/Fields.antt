-- What each message says, read from any bytes by its layout (document 01, "Message bodies"; document 003, section 4).
use Rattle.std.specs.Prelude.{ℕ, List}
use Rattle.kinds.specs.declared.Kind.{Kind}
use Rattle.layout.specs.Message.{read_as}
use Rattle.fields.specs.Messages.{system_time, symbol_update, trading_status, symbol_clear, add_order, modify_order, delete_order, order_execution, trade, trade_cancel, system_state}
use Rattle.fields.specs.declared.TradingStatus.{TradingStatus}
use Rattle.fields.specs.declared.SymbolClear.{SymbolClear}
use Rattle.fields.specs.declared.AddOrder.{AddOrder}
use Rattle.fields.specs.declared.ModifyOrder.{ModifyOrder}
use Rattle.fields.specs.declared.DeleteOrder.{DeleteOrder}
use Rattle.fields.specs.declared.OrderExecution.{OrderExecution}
use Rattle.fields.specs.declared.Trade.{Trade}
use Rattle.fields.specs.declared.TradeCancel.{TradeCancel}
use Rattle.fields.specs.declared.Symbol.{Symbol}
use Rattle.fields.specs.declared.SymbolUpdate.{SymbolUpdate}
use Rattle.fields.specs.declared.SystemState.{SystemState}
use Rattle.fields.specs.declared.Refusal.{Refusal}
use Rattle.fields.specs.declared.Fault.{Fault}
use Rattle.fields.specs.declared.Body.{Body}

-- Security Trading Status (4.4).
abbrev pub status_of : List ℕ → TradingStatus
status_of b = read_as trading_status b

-- Symbol Clear (4.5).
abbrev pub clear_of : List ℕ → SymbolClear
clear_of b = read_as symbol_clear b

-- Add Order (4.6); the attributable ID is its four letters read as one number.
abbrev pub add_of : List ℕ → AddOrder
add_of b = read_as add_order b

-- Modify Order (4.7).
abbrev pub modify_of : List ℕ → ModifyOrder
modify_of b = read_as modify_order b

-- Delete Order (4.8).
abbrev pub delete_of : List ℕ → DeleteOrder
delete_of b = read_as delete_order b

-- Order Execution (4.9).
abbrev pub execution_of : List ℕ → OrderExecution
execution_of b = read_as order_execution b

-- Trade (4.10).
abbrev pub trade_of : List ℕ → Trade
trade_of b = read_as trade b

-- Trade Cancel (4.11).
abbrev pub cancel_of : List ℕ → TradeCancel
cancel_of b = read_as trade_cancel b

-- Symbol Update (4.2), all of its fields
abbrev pub update_of : List ℕ → SymbolUpdate
update_of b = read_as symbol_update b

-- and what the table and the sheet show of it: "Struct of symbol ID, ticker array, two eight-byte time arrays, lot and market letter"
abbrev pub symbol_of : List ℕ → Symbol
symbol_of b = (update_of b).symbol

-- byte 20 of it: "version 1.3, where byte 20 of a Symbol Update is Security Type" (document 02, No. 10); reserved from 1.3.a on
abbrev pub security_of : List ℕ → ℕ
security_of b = (update_of b).security

-- System State (4.3).
abbrev pub state_of : List ℕ → SystemState
state_of b = read_as system_state b

abbrev pub refusal : ℕ → Refusal
refusal n = record { number = n }

-- "Refusals 2 to 5 in reading shall also give the offset in the packet of the first byte at fault" (request 5); here in what was read
abbrev pub bad_at : ℕ → ℕ → Fault
bad_at n at = record { number = n; at = at }

-- the message of a body of a kind, whether its fields are in range or not; System Time (4.1) is its seconds
unfoldable pub decoded : Kind → List ℕ → Body
decoded Kind.SystemTime b = Body.SystemTime (read_as system_time b)
decoded Kind.SymbolUpdate b = Body.SymbolUpdate (update_of b)
decoded Kind.SystemState b = Body.SystemState (state_of b)
decoded Kind.TradingStatus b = Body.TradingStatus (status_of b)
decoded Kind.SymbolClear b = Body.SymbolClear (clear_of b)
decoded Kind.Add b = Body.Add (add_of b)
decoded Kind.Modify b = Body.Modify (modify_of b)
decoded Kind.Delete b = Body.Delete (delete_of b)
decoded Kind.Execution b = Body.Execution (execution_of b)
decoded Kind.Trade b = Body.Trade (trade_of b)
decoded Kind.TradeCancel b = Body.TradeCancel (cancel_of b)
decoded Kind.Unknown b = Body.Bad (bad_at 3 0)

-- document 01's number of each answer, 0 for a message
abbrev pub body_number : Body → ℕ
body_number (Body.SystemTime n) = 0
body_number (Body.SymbolUpdate m) = 0
body_number (Body.SystemState m) = 0
body_number (Body.TradingStatus m) = 0
body_number (Body.SymbolClear m) = 0
body_number (Body.Add m) = 0
body_number (Body.Modify m) = 0
body_number (Body.Delete m) = 0
body_number (Body.Execution m) = 0
body_number (Body.Trade m) = 0
body_number (Body.TradeCancel m) = 0
body_number (Body.Bad f) = f.number
