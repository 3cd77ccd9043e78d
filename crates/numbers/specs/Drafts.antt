-- A message written from eight numbers and 28 bytes (docs/WRITE.md, "A message as eight numbers and 28 bytes"): which fields they stand for, whether the numbers fit into the bytes of their fields, and the body. The numbers l and the
-- bytes x may be any lists: one that is not there counts as 0.
use Rattle.std.specs.Prelude.{ℕ, ◌^◌, Bool, true, List, [], ◌∷◌, eqb, ltb, get_or, take, Result, Ok, Err}
use Rattle.facts.specs.Pick.{pick, both}
use Rattle.editions.specs.declared.Edition.{Edition}
use Rattle.wire.specs.Le.{padded}
use Rattle.kinds.specs.Table.{length_of, kind_of, refusal_of}
use Rattle.kinds.specs.declared.Kind.{Kind}
use Rattle.layout.specs.Shape.{Shape, byte, number, text, Value, Values}
use Rattle.layout.specs.Layout.{shapes, Fields, body_for}
use Rattle.fields.specs.Messages.{system_time, symbol_update, system_state, trading_status, symbol_clear, add_order, modify_order, delete_order, order_execution, trade, trade_cancel}
use Rattle.fields.specs.declared.Symbol.{Symbol}
use Rattle.fields.specs.declared.SymbolUpdate.{SymbolUpdate}
use Rattle.fields.specs.declared.SystemState.{SystemState}
use Rattle.fields.specs.declared.TradingStatus.{TradingStatus}
use Rattle.fields.specs.declared.SymbolClear.{SymbolClear}
use Rattle.fields.specs.declared.AddOrder.{AddOrder}
use Rattle.fields.specs.declared.ModifyOrder.{ModifyOrder}
use Rattle.fields.specs.declared.DeleteOrder.{DeleteOrder}
use Rattle.fields.specs.declared.OrderExecution.{OrderExecution}
use Rattle.fields.specs.declared.Trade.{Trade}
use Rattle.fields.specs.declared.TradeCancel.{TradeCancel}
use Rattle.body.specs.Read.{judge_body, judged_number}
use Rattle.fields.specs.Fields.{refusal}
use Rattle.fields.specs.declared.Refusal.{Refusal}

-- ---- the message that they are, in the places in which reading gives it (Numbers)
abbrev pub time_from : List ℕ → ℕ
time_from l = get_or l 1 0

-- byte 20 of a Symbol Update: "in 1.3 the Security Type", among the numbers; where it is reserved, among the bytes
abbrev pub security_from : Edition → List ℕ → List ℕ → ℕ
security_from Edition.V13 l x = get_or l 4 0
security_from Edition.V13b l x = get_or x 27 0

abbrev pub symbol_from : List ℕ → List ℕ → Symbol
symbol_from l x =
    record { id = get_or l 1 0; ticker = padded x 0 11; opening = padded x 11 8; closing = padded x 19 8; lot = get_or l 2 0; market = get_or l 3 0 }

abbrev pub update_from : Edition → List ℕ → List ℕ → SymbolUpdate
update_from ed l x =
    record { nanos = get_or l 5 0; symbol = symbol_from l x; security = security_from ed l x; test = get_or l 6 0; reserved = get_or l 7 0 }

abbrev pub state_from : List ℕ → List ℕ → SystemState
state_from l x = record { nanos = get_or l 1 0; version = padded x 0 8; session = get_or l 2 0; status = get_or l 3 0 }

abbrev pub status_from : List ℕ → TradingStatus
status_from l = record { nanos = get_or l 1 0; symbol = get_or l 2 0; trading = get_or l 3 0; market = get_or l 4 0; short = get_or l 5 0 }

abbrev pub clear_from : List ℕ → SymbolClear
clear_from l = record { nanos = get_or l 1 0; symbol = get_or l 2 0 }

abbrev pub add_from : List ℕ → AddOrder
add_from l =
    record { nanos = get_or l 1 0; symbol = get_or l 2 0; order = get_or l 3 0; side = get_or l 4 0; price = get_or l 5 0; size = get_or l 6 0; attributable = get_or l 7 0 }

abbrev pub modify_from : List ℕ → ModifyOrder
modify_from l =
    record { nanos = get_or l 1 0; symbol = get_or l 2 0; order = get_or l 3 0; price = get_or l 4 0; size = get_or l 5 0; flags = get_or l 6 0 }

abbrev pub delete_from : List ℕ → DeleteOrder
delete_from l = record { nanos = get_or l 1 0; symbol = get_or l 2 0; order = get_or l 3 0 }

abbrev pub execution_from : List ℕ → OrderExecution
execution_from l =
    record { nanos = get_or l 1 0; symbol = get_or l 2 0; order = get_or l 3 0; trade = get_or l 4 0; price = get_or l 5 0; size = get_or l 6 0; flags = get_or l 7 0 }

abbrev pub trade_from : List ℕ → Trade
trade_from l =
    record { nanos = get_or l 1 0; symbol = get_or l 2 0; trade = get_or l 3 0; correction = get_or l 4 0; price = get_or l 5 0; size = get_or l 6 0; flags = get_or l 7 0 }

abbrev pub cancel_from : List ℕ → TradeCancel
cancel_from l =
    record { nanos = get_or l 1 0; symbol = get_or l 2 0; trade = get_or l 3 0; correction = get_or l 4 0; price = get_or l 5 0; size = get_or l 6 0 }

-- its fields in the order of their places
abbrev pub fields_from : Edition → (k : Kind) → List ℕ → List ℕ → Fields k
fields_from ed Kind.SystemTime l x = system_time.to (time_from l)
fields_from ed Kind.SymbolUpdate l x = symbol_update.to (update_from ed l x)
fields_from ed Kind.SystemState l x = system_state.to (state_from l x)
fields_from ed Kind.TradingStatus l x = trading_status.to (status_from l)
fields_from ed Kind.SymbolClear l x = symbol_clear.to (clear_from l)
fields_from ed Kind.Add l x = add_order.to (add_from l)
fields_from ed Kind.Modify l x = modify_order.to (modify_from l)
fields_from ed Kind.Delete l x = delete_order.to (delete_from l)
fields_from ed Kind.Execution l x = order_execution.to (execution_from l)
fields_from ed Kind.Trade l x = trade.to (trade_from l)
fields_from ed Kind.TradeCancel l x = trade_cancel.to (cancel_from l)
fields_from ed Kind.Unknown l x = tt

-- ---- whether the numbers fit
-- "A number that its field cannot hold (a side of 300, a lot of 65,536)"; a text is cut to its length
abbrev pub fits_in : (s : Shape) → Value s → Bool
fits_in byte v = ltb v 256
fits_in (number w) v = ltb v (256 ^ w)
fits_in (text w) v = true

unfoldable pub fitting : (ss : List Shape) → Values ss → Bool
fitting [] vs = true
fitting (s ∷ ss) vs = both (fits_in s vs.0) (fitting ss vs.1)

abbrev pub draft_fits : Edition → Kind → List ℕ → List ℕ → Bool
draft_fits ed k l x = fitting (shapes k) (fields_from ed k l x)

-- ---- the body, and why there is none
-- the first number is the type: "The type byte decides the message", and no number above 255 is one's
abbrev pub draft_kind : List ℕ → Kind
draft_kind l = kind_of (get_or l 0 0)

abbrev pub body_from : Edition → Kind → List ℕ → List ℕ → List ℕ
body_from ed k l x = body_for k (fields_from ed k l x)

abbrev pub draft_body : Edition → List ℕ → List ℕ → List ℕ
draft_body ed l x = body_from ed (draft_kind l) l x

-- 3 where no message has the type; 4 where a number does not fit, or a field is out of range in the edition; else 0
unfoldable pub number_from : Edition → Kind → List ℕ → List ℕ → ℕ
number_from ed k l x =
    pick (eqb (refusal_of k) 0) (pick (draft_fits ed k l x) (judged_number (judge_body ed (body_from ed k l x))) 4) (refusal_of k)

abbrev pub draft_number : Edition → List ℕ → List ℕ → ℕ
draft_number ed l x = number_from ed (draft_kind l) l x

-- ---- the body, or the number alone where it is refused
unfoldable pub draft_from : Edition → Kind → List ℕ → List ℕ → Result (List ℕ) Refusal
draft_from ed k l x = pick (eqb (number_from ed k l x) 0) (Ok (body_from ed k l x)) (Err (refusal (number_from ed k l x)))

abbrev pub draft_of : Edition → List ℕ → List ℕ → Result (List ℕ) Refusal
draft_of ed l x = draft_from ed (draft_kind l) l x

-- ---- inside: what private functions test and hold
-- the largest of each number behind the type, of one, two, four and eight bytes; a number that the message does not have may be anything, and so may the Security Type where it is reserved
abbrev pub most_security : Edition → ℕ
most_security Edition.V13 = 255
most_security Edition.V13b = 18446744073709551615

abbrev pub most : Edition → Kind → List ℕ
most ed Kind.SystemTime = 4294967295 ∷ 18446744073709551615 ∷ 18446744073709551615 ∷ 18446744073709551615 ∷ 18446744073709551615 ∷ 18446744073709551615 ∷ 18446744073709551615 ∷ []
most ed Kind.SymbolUpdate = 4294967295 ∷ 65535 ∷ 255 ∷ most_security ed ∷ 4294967295 ∷ 255 ∷ 255 ∷ []
most ed Kind.SystemState = 4294967295 ∷ 255 ∷ 255 ∷ 18446744073709551615 ∷ 18446744073709551615 ∷ 18446744073709551615 ∷ 18446744073709551615 ∷ []
most ed Kind.TradingStatus = 4294967295 ∷ 4294967295 ∷ 255 ∷ 255 ∷ 255 ∷ 18446744073709551615 ∷ 18446744073709551615 ∷ []
most ed Kind.SymbolClear = 4294967295 ∷ 4294967295 ∷ 18446744073709551615 ∷ 18446744073709551615 ∷ 18446744073709551615 ∷ 18446744073709551615 ∷ 18446744073709551615 ∷ []
most ed Kind.Add = 4294967295 ∷ 4294967295 ∷ 18446744073709551615 ∷ 255 ∷ 18446744073709551615 ∷ 4294967295 ∷ 4294967295 ∷ []
most ed Kind.Modify = 4294967295 ∷ 4294967295 ∷ 18446744073709551615 ∷ 18446744073709551615 ∷ 4294967295 ∷ 255 ∷ 18446744073709551615 ∷ []
most ed Kind.Delete = 4294967295 ∷ 4294967295 ∷ 18446744073709551615 ∷ 18446744073709551615 ∷ 18446744073709551615 ∷ 18446744073709551615 ∷ 18446744073709551615 ∷ []
most ed Kind.Execution = 4294967295 ∷ 4294967295 ∷ 18446744073709551615 ∷ 18446744073709551615 ∷ 18446744073709551615 ∷ 4294967295 ∷ 255 ∷ []
most ed Kind.Trade = 4294967295 ∷ 4294967295 ∷ 18446744073709551615 ∷ 255 ∷ 18446744073709551615 ∷ 4294967295 ∷ 255 ∷ []
most ed Kind.TradeCancel = 4294967295 ∷ 4294967295 ∷ 18446744073709551615 ∷ 255 ∷ 18446744073709551615 ∷ 4294967295 ∷ 18446744073709551615 ∷ []
most ed Kind.Unknown = 18446744073709551615 ∷ 18446744073709551615 ∷ 18446744073709551615 ∷ 18446744073709551615 ∷ 18446744073709551615 ∷ 18446744073709551615 ∷ 18446744073709551615 ∷ []

-- of bytes that hold a body in front, by the length of its type
unfoldable pub held_draft : Edition → List ℕ → Result (List ℕ) Refusal
held_draft ed w =
    pick (eqb (judged_number (judge_body ed (take (length_of (get_or w 0 0)) w))) 0)
    (Ok (take (length_of (get_or w 0 0)) w))
    (Err (refusal (judged_number (judge_body ed (take (length_of (get_or w 0 0)) w)))))
