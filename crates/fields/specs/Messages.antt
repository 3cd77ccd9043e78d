-- Each message's struct as the fields of its kind, both ways (docs/MESSAGES.md). `there` and `again` are checked here: no field is lost, none exchanged.
use Rattle.std.specs.Prelude.{ℕ, refl}
use Rattle.kinds.specs.declared.Kind.{Kind}
use Rattle.layout.specs.Message.{Message}
use Rattle.fields.specs.declared.SymbolUpdate.{SymbolUpdate}
use Rattle.fields.specs.declared.SystemState.{SystemState}
use Rattle.fields.specs.declared.TradingStatus.{TradingStatus}
use Rattle.fields.specs.declared.SymbolClear.{SymbolClear}
use Rattle.fields.specs.declared.AddOrder.{AddOrder}
use Rattle.fields.specs.declared.ModifyOrder.{ModifyOrder}
use Rattle.fields.specs.declared.DeleteOrder.{DeleteOrder}
use Rattle.fields.specs.declared.OrderExecution.{OrderExecution}
use Rattle.fields.specs.declared.Trade.{Trade}
use Rattle.fields.specs.declared.TradeCancel.{TradeCancel}

-- System Time (4.1)
abbrev pub system_time : Message ℕ
system_time = record {
  kind = Kind.SystemTime;
  to = λ seconds. (seconds, tt);
  from = λ v. v.0;
  there = λ m. refl;
  again = λ v. refl;
}

-- Symbol Update (4.2), every field of it, the reserved bytes too (byte 20 is the 2020 edition's security type)
abbrev pub symbol_update : Message SymbolUpdate
symbol_update = record {
  kind = Kind.SymbolUpdate;
  to = λ m. (m.nanos, (m.symbol.id, (m.symbol.ticker, (m.security, (m.test, (m.reserved, (m.symbol.lot, (m.symbol.opening, (m.symbol.closing, (m.symbol.market, tt))))))))));
  from = λ v. record { nanos = v.0; symbol = record { id = v.1.0; ticker = v.1.1.0; opening = v.1.1.1.1.1.1.1.0; closing = v.1.1.1.1.1.1.1.1.0; lot = v.1.1.1.1.1.1.0; market = v.1.1.1.1.1.1.1.1.1.0 }; security = v.1.1.1.0; test = v.1.1.1.1.0; reserved = v.1.1.1.1.1.0 };
  there = λ m. refl;
  again = λ v. refl;
}

-- System State (4.3)
abbrev pub system_state : Message SystemState
system_state = record {
  kind = Kind.SystemState;
  to = λ m. (m.nanos, (m.version, (m.session, (m.status, tt))));
  from = λ v. record { nanos = v.0; version = v.1.0; session = v.1.1.0; status = v.1.1.1.0 };
  there = λ m. refl;
  again = λ v. refl;
}

-- Security Trading Status (4.4)
abbrev pub trading_status : Message TradingStatus
trading_status = record {
  kind = Kind.TradingStatus;
  to = λ m. (m.nanos, (m.symbol, (m.trading, (m.market, (m.short, tt)))));
  from = λ v. record { nanos = v.0; symbol = v.1.0; trading = v.1.1.0; market = v.1.1.1.0; short = v.1.1.1.1.0 };
  there = λ m. refl;
  again = λ v. refl;
}

-- Symbol Clear (4.5)
abbrev pub symbol_clear : Message SymbolClear
symbol_clear = record {
  kind = Kind.SymbolClear;
  to = λ m. (m.nanos, (m.symbol, tt));
  from = λ v. record { nanos = v.0; symbol = v.1.0 };
  there = λ m. refl;
  again = λ v. refl;
}

-- Add Order (4.6)
abbrev pub add_order : Message AddOrder
add_order = record {
  kind = Kind.Add;
  to = λ m. (m.nanos, (m.symbol, (m.order, (m.side, (m.price, (m.size, (m.attributable, tt)))))));
  from = λ v. record { nanos = v.0; symbol = v.1.0; order = v.1.1.0; side = v.1.1.1.0; price = v.1.1.1.1.0; size = v.1.1.1.1.1.0; attributable = v.1.1.1.1.1.1.0 };
  there = λ m. refl;
  again = λ v. refl;
}

-- Modify Order (4.7)
abbrev pub modify_order : Message ModifyOrder
modify_order = record {
  kind = Kind.Modify;
  to = λ m. (m.nanos, (m.symbol, (m.order, (m.price, (m.size, (m.flags, tt))))));
  from = λ v. record { nanos = v.0; symbol = v.1.0; order = v.1.1.0; price = v.1.1.1.0; size = v.1.1.1.1.0; flags = v.1.1.1.1.1.0 };
  there = λ m. refl;
  again = λ v. refl;
}

-- Delete Order (4.8)
abbrev pub delete_order : Message DeleteOrder
delete_order = record {
  kind = Kind.Delete;
  to = λ m. (m.nanos, (m.symbol, (m.order, tt)));
  from = λ v. record { nanos = v.0; symbol = v.1.0; order = v.1.1.0 };
  there = λ m. refl;
  again = λ v. refl;
}

-- Order Execution (4.9)
abbrev pub order_execution : Message OrderExecution
order_execution = record {
  kind = Kind.Execution;
  to = λ m. (m.nanos, (m.symbol, (m.order, (m.trade, (m.price, (m.size, (m.flags, tt)))))));
  from = λ v. record { nanos = v.0; symbol = v.1.0; order = v.1.1.0; trade = v.1.1.1.0; price = v.1.1.1.1.0; size = v.1.1.1.1.1.0; flags = v.1.1.1.1.1.1.0 };
  there = λ m. refl;
  again = λ v. refl;
}

-- Trade (4.10)
abbrev pub trade : Message Trade
trade = record {
  kind = Kind.Trade;
  to = λ m. (m.nanos, (m.symbol, (m.trade, (m.correction, (m.price, (m.size, (m.flags, tt)))))));
  from = λ v. record { nanos = v.0; symbol = v.1.0; trade = v.1.1.0; correction = v.1.1.1.0; price = v.1.1.1.1.0; size = v.1.1.1.1.1.0; flags = v.1.1.1.1.1.1.0 };
  there = λ m. refl;
  again = λ v. refl;
}

-- Trade Cancel (4.11)
abbrev pub trade_cancel : Message TradeCancel
trade_cancel = record {
  kind = Kind.TradeCancel;
  to = λ m. (m.nanos, (m.symbol, (m.trade, (m.correction, (m.price, (m.size, tt))))));
  from = λ v. record { nanos = v.0; symbol = v.1.0; trade = v.1.1.0; correction = v.1.1.1.0; price = v.1.1.1.1.0; size = v.1.1.1.1.1.0 };
  there = λ m. refl;
  again = λ v. refl;
}
