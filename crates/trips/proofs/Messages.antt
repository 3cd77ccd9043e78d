-- A message that is written has its type and its length, so that only a field can be at fault; and reading gives the fields back, writing the bytes: for every kind at once, then for each message.
-- Assumes nothing.
use mathlib.Core.Path.{◌≡◌, refl, sym, ap, ◌∙◌}
use mathlib.Core.List.{List}
use mathlib.Core.Bool.{true, false}
use mathlib.Core.Logic.{◌⊎◌, inl, inr}
use Prim.Native.Nat.{ℕ, ◌≤◌}
use native.Mathlib.Omega.{arith}
use lib.ListN.{get_or}
use lib.Dec.{eqb}
use borrow.Author.Tests.{eq-eqb, ne_eqb}
use Rattle.facts.specs.Limits.{entry_size}
use Rattle.facts.specs.Pick.{pick}
use Rattle.facts.proofs.Picks.{pick_map}
use Rattle.editions.specs.declared.Edition.{Edition}
use Rattle.wire.specs.Le.{Bytes}
use Rattle.kinds.specs.Table.{type_of, kind_length, length_of}
use Rattle.kinds.specs.declared.Kind.{Kind}
use Rattle.kinds.proofs.Laws.{Lengths, lengths}
use Rattle.layout.specs.Layout.{shapes, Fields, FieldsFit, body_for}
use Rattle.layout.specs.Message.{Message, written, read_as, Fit}
use Rattle.layout.proofs.Laws.{sized, length_body, fields_back, read_back, written_back}
use Rattle.fields.specs.Fields.{bad_at, decoded}
use Rattle.fields.specs.Messages.{system_time, symbol_update, system_state, trading_status, symbol_clear, add_order, modify_order, delete_order, order_execution, trade, trade_cancel}
use Rattle.fields.specs.declared.TradingStatus.{TradingStatus}
use Rattle.fields.specs.declared.SymbolClear.{SymbolClear}
use Rattle.fields.specs.declared.AddOrder.{AddOrder}
use Rattle.fields.specs.declared.ModifyOrder.{ModifyOrder}
use Rattle.fields.specs.declared.DeleteOrder.{DeleteOrder}
use Rattle.fields.specs.declared.OrderExecution.{OrderExecution}
use Rattle.fields.specs.declared.Trade.{Trade}
use Rattle.fields.specs.declared.TradeCancel.{TradeCancel}
use Rattle.fields.specs.declared.SymbolUpdate.{SymbolUpdate}
use Rattle.fields.specs.declared.SystemState.{SystemState}
use Rattle.fields.specs.declared.Body.{Body}
use Rattle.body.specs.Faults.{tests, fault_from, fault_of}
use Rattle.body.specs.Read.{ranged, judge_body, judged_number, read_body}
use Rattle.std.specs.Prelude.{Ok, Err}
use Rattle.body.specs.Ranges.{security_ok}
use Rattle.body.proofs.Laws.{Framed, Sound, no_fault, judge_framed, read_framed, read_sound}
use Rattle.trips.specs.Messages.{fault_in, Rewritten}

-- ---- every kind
short : (k : Kind) → 1 ≤ kind_length k → kind_length k ≤ entry_size
unfolding kind_length
short k l = go (lengths (type_of k))
  where
    go : (length_of (type_of k) ≡ 0) ⊎ Lengths (type_of k) → length_of (type_of k) ≤ entry_size
    go (inl e) = absurd (omega arith)
    go (inr r) = r.most

type_back : (k : Kind) (vs : Fields k) → get_or (body_for k vs) 0 0 ≡ type_of k
unfolding body_for
type_back k vs = refl

-- what is written is a body of its kind
pub framed_written : (k : Kind) → 1 ≤ type_of k → (vs : Fields k) → FieldsFit k vs → Framed k (body_for k vs)
framed_written k t vs f =
    let l = sized k t in
    let n = length_body k vs f l in
    record { type_is = type_back k vs; length_is = n; some = omega arith; most = omega (arith, short k l) }

-- and its faults are those of the fields
pub fault_written : (ed : Edition) (k : Kind) (vs : Fields k) → FieldsFit k vs → fault_of ed k (body_for k vs) ≡ fault_from (shapes k) (tests ed k) vs 1
unfolding fault_of
fault_written ed k vs f = ap (λ (x : Fields k). fault_from (shapes k) (tests ed k) x 1) (fields_back k vs f)

-- it is refused with 4 alone, where a field is out of range
pub judged_written : (ed : Edition) (k : Kind) → 1 ≤ type_of k → (vs : Fields k) → FieldsFit k vs → judged_number (judge_body ed (body_for k vs)) ≡ pick (eqb (fault_from (shapes k) (tests ed k) vs 1) 0) 0 4
unfolding ranged
judged_written ed k t vs f =
    let b : List ℕ = body_for k vs in
    ap judged_number (judge_framed ed k b (framed_written k t vs f))
    ∙ (pick_map judged_number (eqb (fault_of ed k b) 0) (Ok k) (Err (bad_at 4 (fault_of ed k b)))
    ∙ ap (λ (n : ℕ). pick (eqb n 0) 0 4) (fault_written ed k vs f))

-- ---- every struct
module _ {M : Type 0} (ed : Edition) (s : Message M) (t : 1 ≤ type_of s.kind) (m : M) (f : Fit s m) where
  pub written_framed : Framed s.kind (written s m)
  unfolding written
  written_framed = framed_written s.kind t (s.to m) f

  written_fault : fault_of ed s.kind (written s m) ≡ fault_in ed s m
  unfolding written
  written_fault = fault_written ed s.kind (s.to m) f

  pub written_judged : judged_number (judge_body ed (written s m)) ≡ pick (eqb (fault_in ed s m) 0) 0 4
  unfolding written
  written_judged = judged_written ed s.kind t (s.to m) f

  -- else it is read as the message that was written
  pub read_as_lem : (con : M → Body) → ((b : List ℕ) → decoded s.kind b ≡ con (read_as s b)) → fault_in ed s m ≡ 0 → read_body ed (written s m) ≡ con m
  unfolding pick
  read_as_lem con e g =
      read_framed ed s.kind (written s m) written_framed
      ∙ (rw (eq-eqb (fault_of ed s.kind (written s m)) 0 (written_fault ∙ g)) (e (written s m))
      ∙ ap con (read_back s m f))

-- a framed body is written as it was read
pub again : {M : Type 0} (s : Message M) (b : List ℕ) → Bytes b → Framed s.kind b → written s (read_as s b) ≡ b
again s b h w = written_back s b h w.type_is w.length_is w.some

-- ---- "Reading what was written gives the fields back", of each message, in each edition
module _ (ed : Edition) where
  pub time_read : (n : ℕ) → Fit system_time n → read_body ed (written system_time n) ≡ Body.SystemTime n
  unfolding decoded fault_from pick
  time_read n f = read_as_lem ed system_time (omega arith) n f Body.SystemTime (λ b. refl) refl

  pub add_read : (m : AddOrder) → Fit add_order m → fault_in ed add_order m ≡ 0 → read_body ed (written add_order m) ≡ Body.Add m
  unfolding decoded
  add_read m f g = read_as_lem ed add_order (omega arith) m f Body.Add (λ b. refl) g

  pub modify_read : (m : ModifyOrder) → Fit modify_order m → fault_in ed modify_order m ≡ 0 → read_body ed (written modify_order m) ≡ Body.Modify m
  unfolding decoded
  modify_read m f g = read_as_lem ed modify_order (omega arith) m f Body.Modify (λ b. refl) g

  pub delete_read : (m : DeleteOrder) → Fit delete_order m → fault_in ed delete_order m ≡ 0 → read_body ed (written delete_order m) ≡ Body.Delete m
  unfolding decoded
  delete_read m f g = read_as_lem ed delete_order (omega arith) m f Body.Delete (λ b. refl) g

  pub execution_read : (m : OrderExecution) → Fit order_execution m → fault_in ed order_execution m ≡ 0 → read_body ed (written order_execution m) ≡ Body.Execution m
  unfolding decoded
  execution_read m f g = read_as_lem ed order_execution (omega arith) m f Body.Execution (λ b. refl) g

  pub trade_read : (m : Trade) → Fit trade m → fault_in ed trade m ≡ 0 → read_body ed (written trade m) ≡ Body.Trade m
  unfolding decoded
  trade_read m f g = read_as_lem ed trade (omega arith) m f Body.Trade (λ b. refl) g

  pub cancel_read : (m : TradeCancel) → Fit trade_cancel m → fault_in ed trade_cancel m ≡ 0 → read_body ed (written trade_cancel m) ≡ Body.TradeCancel m
  unfolding decoded
  cancel_read m f g = read_as_lem ed trade_cancel (omega arith) m f Body.TradeCancel (λ b. refl) g

  pub status_read : (m : TradingStatus) → Fit trading_status m → fault_in ed trading_status m ≡ 0 → read_body ed (written trading_status m) ≡ Body.TradingStatus m
  unfolding decoded
  status_read m f g = read_as_lem ed trading_status (omega arith) m f Body.TradingStatus (λ b. refl) g

  pub clear_read : (m : SymbolClear) → Fit symbol_clear m → fault_in ed symbol_clear m ≡ 0 → read_body ed (written symbol_clear m) ≡ Body.SymbolClear m
  unfolding decoded
  clear_read m f g = read_as_lem ed symbol_clear (omega arith) m f Body.SymbolClear (λ b. refl) g

  pub update_read : (m : SymbolUpdate) → Fit symbol_update m → fault_in ed symbol_update m ≡ 0 → read_body ed (written symbol_update m) ≡ Body.SymbolUpdate m
  unfolding decoded
  update_read m f g = read_as_lem ed symbol_update (omega arith) m f Body.SymbolUpdate (λ b. refl) g

  pub state_read : (m : SystemState) → Fit system_state m → fault_in ed system_state m ≡ 0 → read_body ed (written system_state m) ≡ Body.SystemState m
  unfolding decoded
  state_read m f g = read_as_lem ed system_state (omega arith) m f Body.SystemState (λ b. refl) g

  -- ---- "writing what was read from a good body gives the same bytes"
  rewritten : (m : Body) (b : List ℕ) → Bytes b → Sound ed m b → Rewritten m b
  rewritten (Body.SystemTime n) b h s = ap (written system_time) s.1 ∙ again system_time b h s.0
  rewritten (Body.SymbolUpdate m) b h s = ap (written symbol_update) s.1 ∙ again symbol_update b h s.0
  rewritten (Body.SystemState m) b h s = ap (written system_state) s.1 ∙ again system_state b h s.0
  rewritten (Body.TradingStatus m) b h s = ap (written trading_status) s.1 ∙ again trading_status b h s.0
  rewritten (Body.SymbolClear m) b h s = ap (written symbol_clear) s.1 ∙ again symbol_clear b h s.0
  rewritten (Body.Add m) b h s = ap (written add_order) s.1 ∙ again add_order b h s.0
  rewritten (Body.Modify m) b h s = ap (written modify_order) s.1 ∙ again modify_order b h s.0
  rewritten (Body.Delete m) b h s = ap (written delete_order) s.1 ∙ again delete_order b h s.0
  rewritten (Body.Execution m) b h s = ap (written order_execution) s.1 ∙ again order_execution b h s.0
  rewritten (Body.Trade m) b h s = ap (written trade) s.1 ∙ again trade b h s.0
  rewritten (Body.TradeCancel m) b h s = ap (written trade_cancel) s.1 ∙ again trade_cancel b h s.0
  rewritten (Body.Bad f) b h s = tt

  pub read_again : (b : List ℕ) → Bytes b → Rewritten (read_body ed b) b
  read_again b h = rewritten (read_body ed b) b h (read_sound ed b)

-- ---- the edition is a parameter: "Under 1.3 any other byte is refused with 4" (request 10), when it is written as when it is read
pub letter_wanted : (m : SymbolUpdate) → Fit symbol_update m → security_ok Edition.V13 m.security ≡ false → judged_number (judge_body Edition.V13 (written symbol_update m)) ≡ 4
unfolding pick
letter_wanted m f o = written_judged Edition.V13 symbol_update (omega arith) m f ∙ rw (ne_eqb (fault_in Edition.V13 symbol_update m) 0 none) refl
  where
    none : fault_in Edition.V13 symbol_update m ≡ 0 → ⊥
    none z =
        let h = no_fault (shapes Kind.SymbolUpdate) (tests Edition.V13 Kind.SymbolUpdate) (symbol_update.to m) 1 (omega arith) z in
        let x : true ≡ false = sym h.1.1.1.0 ∙ o in
        let y : ◌≡◌ {A = ℕ} 0 1 = cc in omega arith
