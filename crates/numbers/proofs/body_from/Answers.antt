-- Each arm knows its kind, and its fields fit.
-- Assumes nothing.
use mathlib.Core.Path.{refl}
use Rattle.wire.specs.Le.{padded}
use Rattle.layout.specs.Message.{written}
use Rattle.layout.specs.Layout.{body_for}
use Rattle.layout.specs.Shape.{joined}
use Rattle.numbers.proofs.Held.{told_fit, told_body}
use Rattle.numbers.proofs.body_from.Goals as goal

pub time_from-requires : goal.time_from-requires
time_from-requires c = told_fit c.args.e c.args.k _ c.in-SystemTime.is c.args.n.now c.args.t.now c.requires

pub update_from-requires : goal.update_from-requires
update_from-requires c = told_fit c.args.e c.args.k _ c.in-SymbolUpdate.is c.args.n.now c.args.t.now c.requires

pub state_from-requires : goal.state_from-requires
state_from-requires c = told_fit c.args.e c.args.k _ c.in-SystemState.is c.args.n.now c.args.t.now c.requires

pub status_from-requires : goal.status_from-requires
status_from-requires c = told_fit c.args.e c.args.k _ c.in-TradingStatus.is c.args.n.now c.args.t.now c.requires

pub clear_from-requires : goal.clear_from-requires
clear_from-requires c = told_fit c.args.e c.args.k _ c.in-SymbolClear.is c.args.n.now c.args.t.now c.requires

pub add_from-requires : goal.add_from-requires
add_from-requires c = told_fit c.args.e c.args.k _ c.in-Add.is c.args.n.now c.args.t.now c.requires

pub modify_from-requires : goal.modify_from-requires
modify_from-requires c = told_fit c.args.e c.args.k _ c.in-Modify.is c.args.n.now c.args.t.now c.requires

pub delete_from-requires : goal.delete_from-requires
delete_from-requires c = told_fit c.args.e c.args.k _ c.in-Delete.is c.args.n.now c.args.t.now c.requires

pub execution_from-requires : goal.execution_from-requires
execution_from-requires c = told_fit c.args.e c.args.k _ c.in-Execution.is c.args.n.now c.args.t.now c.requires

pub trade_from-requires : goal.trade_from-requires
trade_from-requires c = told_fit c.args.e c.args.k _ c.in-Trade.is c.args.n.now c.args.t.now c.requires

pub cancel_from-requires : goal.cancel_from-requires
cancel_from-requires c = told_fit c.args.e c.args.k _ c.in-TradeCancel.is c.args.n.now c.args.t.now c.requires

pub returns-in-SystemTime : goal.returns-in-SystemTime
unfolding written
returns-in-SystemTime c = told_body c.args.e c.args.k _ c.in-SystemTime.is c.args.n.now c.args.t.now c.time_from.ensures

pub returns-in-SymbolUpdate : goal.returns-in-SymbolUpdate
unfolding written
returns-in-SymbolUpdate c = told_body c.args.e c.args.k _ c.in-SymbolUpdate.is c.args.n.now c.args.t.now c.update_from.ensures

pub returns-in-SystemState : goal.returns-in-SystemState
unfolding written
returns-in-SystemState c = told_body c.args.e c.args.k _ c.in-SystemState.is c.args.n.now c.args.t.now c.state_from.ensures

pub returns-in-TradingStatus : goal.returns-in-TradingStatus
unfolding written
returns-in-TradingStatus c = told_body c.args.e c.args.k _ c.in-TradingStatus.is c.args.n.now c.args.t.now c.status_from.ensures

pub returns-in-SymbolClear : goal.returns-in-SymbolClear
unfolding written
returns-in-SymbolClear c = told_body c.args.e c.args.k _ c.in-SymbolClear.is c.args.n.now c.args.t.now c.clear_from.ensures

pub returns-in-Add : goal.returns-in-Add
unfolding written
returns-in-Add c = told_body c.args.e c.args.k _ c.in-Add.is c.args.n.now c.args.t.now c.add_from.ensures

pub returns-in-Modify : goal.returns-in-Modify
unfolding written
returns-in-Modify c = told_body c.args.e c.args.k _ c.in-Modify.is c.args.n.now c.args.t.now c.modify_from.ensures

pub returns-in-Delete : goal.returns-in-Delete
unfolding written
returns-in-Delete c = told_body c.args.e c.args.k _ c.in-Delete.is c.args.n.now c.args.t.now c.delete_from.ensures

pub returns-in-Execution : goal.returns-in-Execution
unfolding written
returns-in-Execution c = told_body c.args.e c.args.k _ c.in-Execution.is c.args.n.now c.args.t.now c.execution_from.ensures

pub returns-in-Trade : goal.returns-in-Trade
unfolding written
returns-in-Trade c = told_body c.args.e c.args.k _ c.in-Trade.is c.args.n.now c.args.t.now c.trade_from.ensures

pub returns-in-TradeCancel : goal.returns-in-TradeCancel
unfolding written
returns-in-TradeCancel c = told_body c.args.e c.args.k _ c.in-TradeCancel.is c.args.n.now c.args.t.now c.cancel_from.ensures

pub returns-in-Unknown : goal.returns-in-Unknown
unfolding body_for joined padded
returns-in-Unknown c = told_body c.args.e c.args.k _ c.in-Unknown.is c.args.n.now c.args.t.now refl
