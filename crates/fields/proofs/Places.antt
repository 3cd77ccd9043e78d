-- Each field lies at its place of document 01's table: by computing the offsets of the layout.
-- Assumes nothing.
use Prim.Native.Nat.{ℕ}
use mathlib.Core.Path.{refl}
use mathlib.Core.List.{List}
use Rattle.layout.specs.Message.{read_as}
use Rattle.fields.specs.Messages.{system_time}
use Rattle.fields.specs.Fields.{status_of, clear_of, add_of, modify_of, delete_of, execution_of, trade_of, cancel_of, update_of, state_of}
use Rattle.fields.specs.Places.{TimeAt, UpdateAt, AddAt, ModifyAt, DeleteAt, StateAt, StatusAt, ClearAt, ExecutionAt, TradeAt, CancelAt}

pub time_at : (b : List ℕ) → TimeAt (read_as system_time b) b
time_at b = refl

pub update_at : (b : List ℕ) → UpdateAt (update_of b) b
update_at b = record { nanos = refl; symbol = refl; ticker = refl; security = refl; test = refl; reserved = refl; lot = refl; opening = refl; closing = refl; market = refl }

pub add_at : (b : List ℕ) → AddAt (add_of b) b
add_at b = record { nanos = refl; symbol = refl; order = refl; side = refl; price = refl; size = refl; attributable = refl }

pub modify_at : (b : List ℕ) → ModifyAt (modify_of b) b
modify_at b = record { nanos = refl; symbol = refl; order = refl; price = refl; size = refl; flags = refl }

pub delete_at : (b : List ℕ) → DeleteAt (delete_of b) b
delete_at b = record { nanos = refl; symbol = refl; order = refl }

pub state_at : (b : List ℕ) → StateAt (state_of b) b
state_at b = record { nanos = refl; version = refl; session = refl; status = refl }

pub status_at : (b : List ℕ) → StatusAt (status_of b) b
status_at b = record { nanos = refl; symbol = refl; trading = refl; market = refl; short = refl }

pub clear_at : (b : List ℕ) → ClearAt (clear_of b) b
clear_at b = record { nanos = refl; symbol = refl }

pub execution_at : (b : List ℕ) → ExecutionAt (execution_of b) b
execution_at b = record { nanos = refl; symbol = refl; order = refl; trade = refl; price = refl; size = refl; flags = refl }

pub trade_at : (b : List ℕ) → TradeAt (trade_of b) b
trade_at b = record { nanos = refl; symbol = refl; trade = refl; correction = refl; price = refl; size = refl; flags = refl }

pub cancel_at : (b : List ℕ) → CancelAt (cancel_of b) b
cancel_at b = record { nanos = refl; symbol = refl; trade = refl; correction = refl; price = refl; size = refl }
