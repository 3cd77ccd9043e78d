-- Document 01's table, "Message bodies (003, section 4; offsets in bytes)", and the six messages that docs/MESSAGES.md adds to it, said apart from the layout: which bytes each field is. A number at a
-- to b is the b + 1 - a bytes from a on; so fields that were exchanged in layout, structs and code alike would not be theirs.
use Rattle.std.specs.Prelude.{ℕ, ◌+◌, ◌-◌, ◌≡◌, List, get_or}
use Rattle.wire.specs.Le.{field, padded}
use Rattle.fields.specs.declared.TradingStatus.{TradingStatus}
use Rattle.fields.specs.declared.SymbolClear.{SymbolClear}
use Rattle.fields.specs.declared.AddOrder.{AddOrder}
use Rattle.fields.specs.declared.ModifyOrder.{ModifyOrder}
use Rattle.fields.specs.declared.DeleteOrder.{DeleteOrder}
use Rattle.fields.specs.declared.OrderExecution.{OrderExecution}
use Rattle.fields.specs.declared.Trade.{Trade}
use Rattle.fields.specs.declared.TradeCancel.{TradeCancel}
use Rattle.fields.specs.declared.SymbolUpdate.{SymbolUpdate}
use Rattle.fields.specs.declared.SystemState.{SystemState}

-- the number in the bytes a to b, the bytes a to b as they are, and the byte at a
abbrev pub number : List ℕ → ℕ → ℕ → ℕ
number l a b = field l a (b + 1 - a)

abbrev pub bytes : List ℕ → ℕ → ℕ → List ℕ
bytes l a b = padded l a (b + 1 - a)

abbrev pub byte : List ℕ → ℕ → ℕ
byte l a = get_or l a 0

-- System Time: "seconds 1-4"
abbrev pub TimeAt : ℕ → List ℕ → Type 0
TimeAt second b = second ≡ number b 1 4

-- Symbol Update: "nanoseconds 1-4, symbol 5-8, ticker 9-19, reserved 20, test 21, reserved 22, lot 23-24, opening 25-32, closing 33-40, market 41"
pub record UpdateAt (m : SymbolUpdate) (b : List ℕ) : Type 0 where
  pub nanos : m.nanos ≡ number b 1 4
  pub symbol : m.symbol.id ≡ number b 5 8
  pub ticker : m.symbol.ticker ≡ bytes b 9 19
  pub security : m.security ≡ byte b 20
  pub test : m.test ≡ byte b 21
  pub reserved : m.reserved ≡ byte b 22
  pub lot : m.symbol.lot ≡ number b 23 24
  pub opening : m.symbol.opening ≡ bytes b 25 32
  pub closing : m.symbol.closing ≡ bytes b 33 40
  pub market : m.symbol.market ≡ byte b 41

-- Add Order: "nanoseconds 1-4, symbol 5-8, order 9-16, side 17, price 18-25, size 26-29, attributable ID 30-33"
pub record AddAt (m : AddOrder) (b : List ℕ) : Type 0 where
  pub nanos : m.nanos ≡ number b 1 4
  pub symbol : m.symbol ≡ number b 5 8
  pub order : m.order ≡ number b 9 16
  pub side : m.side ≡ byte b 17
  pub price : m.price ≡ number b 18 25
  pub size : m.size ≡ number b 26 29
  pub attributable : m.attributable ≡ number b 30 33

-- Modify Order: "nanoseconds 1-4, symbol 5-8, order 9-16, price 17-24, size 25-28, flags 29"
pub record ModifyAt (m : ModifyOrder) (b : List ℕ) : Type 0 where
  pub nanos : m.nanos ≡ number b 1 4
  pub symbol : m.symbol ≡ number b 5 8
  pub order : m.order ≡ number b 9 16
  pub price : m.price ≡ number b 17 24
  pub size : m.size ≡ number b 25 28
  pub flags : m.flags ≡ byte b 29

-- Delete Order: "nanoseconds 1-4, symbol 5-8, order 9-16"
pub record DeleteAt (m : DeleteOrder) (b : List ℕ) : Type 0 where
  pub nanos : m.nanos ≡ number b 1 4
  pub symbol : m.symbol ≡ number b 5 8
  pub order : m.order ≡ number b 9 16

-- System State (4.3): nanoseconds 1-4, version 5-12, session 13, status 14
pub record StateAt (m : SystemState) (b : List ℕ) : Type 0 where
  pub nanos : m.nanos ≡ number b 1 4
  pub version : m.version ≡ bytes b 5 12
  pub session : m.session ≡ byte b 13
  pub status : m.status ≡ byte b 14

-- Security Trading Status (4.4): nanoseconds 1-4, symbol 5-8, trading status 9, market 10, short sale restriction 11
pub record StatusAt (m : TradingStatus) (b : List ℕ) : Type 0 where
  pub nanos : m.nanos ≡ number b 1 4
  pub symbol : m.symbol ≡ number b 5 8
  pub trading : m.trading ≡ byte b 9
  pub market : m.market ≡ byte b 10
  pub short : m.short ≡ byte b 11

-- Symbol Clear (4.5): nanoseconds 1-4, symbol 5-8
pub record ClearAt (m : SymbolClear) (b : List ℕ) : Type 0 where
  pub nanos : m.nanos ≡ number b 1 4
  pub symbol : m.symbol ≡ number b 5 8

-- Order Execution (4.9): nanoseconds 1-4, symbol 5-8, order 9-16, trade 17-24, price 25-32, size 33-36, flags 37
pub record ExecutionAt (m : OrderExecution) (b : List ℕ) : Type 0 where
  pub nanos : m.nanos ≡ number b 1 4
  pub symbol : m.symbol ≡ number b 5 8
  pub order : m.order ≡ number b 9 16
  pub trade : m.trade ≡ number b 17 24
  pub price : m.price ≡ number b 25 32
  pub size : m.size ≡ number b 33 36
  pub flags : m.flags ≡ byte b 37

-- Trade (4.10): nanoseconds 1-4, symbol 5-8, trade 9-16, correction 17, price 18-25, size 26-29, flags 30
pub record TradeAt (m : Trade) (b : List ℕ) : Type 0 where
  pub nanos : m.nanos ≡ number b 1 4
  pub symbol : m.symbol ≡ number b 5 8
  pub trade : m.trade ≡ number b 9 16
  pub correction : m.correction ≡ byte b 17
  pub price : m.price ≡ number b 18 25
  pub size : m.size ≡ number b 26 29
  pub flags : m.flags ≡ byte b 30

-- Trade Cancel (4.11): nanoseconds 1-4, symbol 5-8, trade 9-16, correction 17, price 18-25, size 26-29
pub record CancelAt (m : TradeCancel) (b : List ℕ) : Type 0 where
  pub nanos : m.nanos ≡ number b 1 4
  pub symbol : m.symbol ≡ number b 5 8
  pub trade : m.trade ≡ number b 9 16
  pub correction : m.correction ≡ byte b 17
  pub price : m.price ≡ number b 18 25
  pub size : m.size ≡ number b 26 29
