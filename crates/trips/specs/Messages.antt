-- Request 4 of document 02, of a message: "Reading what was written gives the fields back; writing what was read from a good body gives the same bytes, reserved bytes and undefined flag bits
-- included". The words for it. A message is written by `written` (layout/Message), from all of its fields.
use Rattle.std.specs.Prelude.{ℕ, ◌≡◌, List}
use Rattle.editions.specs.declared.Edition.{Edition}
use Rattle.layout.specs.Layout.{shapes}
use Rattle.layout.specs.Message.{Message, written}
use Rattle.fields.specs.Messages.{system_time, symbol_update, system_state, trading_status, symbol_clear, add_order, modify_order, delete_order, order_execution, trade, trade_cancel}
use Rattle.fields.specs.declared.Body.{Body}
use Rattle.body.specs.Faults.{tests, fault_from}

-- the offset of the first field out of range, of the fields alone, 0 for none: the writer's 4
abbrev pub fault_in : {M : Type 0} → Edition → Message M → M → ℕ
fault_in ed s m = fault_from (shapes s.kind) (tests ed s.kind) (s.to m) 1

-- "writing what was read from a good body gives the same bytes": by the case of what was read of b
abbrev pub Rewritten : Body → List ℕ → Type 0
Rewritten (Body.SystemTime n) b = written system_time n ≡ b
Rewritten (Body.SymbolUpdate m) b = written symbol_update m ≡ b
Rewritten (Body.SystemState m) b = written system_state m ≡ b
Rewritten (Body.TradingStatus m) b = written trading_status m ≡ b
Rewritten (Body.SymbolClear m) b = written symbol_clear m ≡ b
Rewritten (Body.Add m) b = written add_order m ≡ b
Rewritten (Body.Modify m) b = written modify_order m ≡ b
Rewritten (Body.Delete m) b = written delete_order m ≡ b
Rewritten (Body.Execution m) b = written order_execution m ≡ b
Rewritten (Body.Trade m) b = written trade m ≡ b
Rewritten (Body.TradeCancel m) b = written trade_cancel m ≡ b
Rewritten (Body.Bad f) b = Unit {0}
