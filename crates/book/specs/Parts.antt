-- Which part of a book a message may change, by its kind; it leaves the other parts as they are (document 01, "Book rules").
use Rattle.fields.specs.declared.Body.{Body}

pub data Part : Type 0 where
  the_second : Part
  the_symbols : Part
  the_orders : Part
  no_part : Part

unfoldable pub part_of : Body → Part
-- "System Time sets the current second"
part_of (Body.SystemTime s) = the_second
-- "Symbol Update replaces that symbol's entry, or takes the lowest free one"
part_of (Body.SymbolUpdate m) = the_symbols
-- an order comes, changes or goes
part_of (Body.Add m) = the_orders
part_of (Body.Modify m) = the_orders
part_of (Body.Delete m) = the_orders
part_of (Body.Execution m) = the_orders
part_of (Body.SymbolClear m) = the_orders
-- "The other four apply without changing a table"
part_of (Body.SystemState m) = no_part
part_of (Body.TradingStatus m) = no_part
part_of (Body.Trade m) = no_part
part_of (Body.TradeCancel m) = no_part
-- "no good body stops with 27"
part_of (Body.Bad r) = no_part
