-- Undefined bits reach no table: of a Modify's flags the plan asks bit 0 alone, and a plan for rows looks at no byte of its message.
-- Assumes nothing.
use Prim.Native.Nat.{ℕ, ◌%◌}
use mathlib.Core.Path.{◌≡◌, refl, sym, ap, ◌∙◌}
use mathlib.Core.List.{List}
use lib.Dec.{eqb}
use Rattle.std.specs.Prelude.{Option, Some, None, Ok, Err}
use Rattle.editions.specs.declared.Edition.{Edition}
use Rattle.fields.specs.declared.ModifyOrder.{ModifyOrder}
use Rattle.fields.specs.declared.Body.{Body}
use Rattle.body.specs.Undefined.{with_flags, OnlyBits}
use Rattle.body.proofs.Undefined.{bits_read}
use Rattle.rows.specs.declared.Row.{Row}
use Rattle.symbols.specs.Work.{entered}
use Rattle.orders.specs.declared.RowWork.{RowWork}
use Rattle.orders.specs.Work.{moves, remade}
use Rattle.book.specs.declared.Clock.{Clock}
use Rattle.book.specs.Plan.{Plan, Target, on_rows, of_known, target, upon, Finds, modify_plan, plan_by}
use Rattle.book.specs.Book.{Book, scans, planned, carried, applied}
use Rattle.book.proofs.Laws.{planned_by, carried_by}

-- bit 0 alone tells the position: other flags with the same bit 0 have the same plan
bit_0_plan : (m : ModifyOrder) (x n : ℕ) (b c : List ℕ) (t : Clock) (f : Finds) → x % 2 ≡ m.flags % 2 → plan_by (Body.Modify (with_flags m x)) n c t f ≡ plan_by (Body.Modify m) n b t f
unfolding plan_by modify_plan moves
bit_0_plan m x n b c t f e =
    ap (λ (bit : ℕ). of_known (f.entry m.symbol) (λ _. upon (target (f.order m.order) m.symbol) (λ i r. on_rows t (RowWork.Put i (remade m.price m.size (eqb bit 1) n r))))) e

-- and its effect does not hang on the message's bytes
bytes_unseen : (entry : Option ℕ) (order : Target) (w : ℕ → Row → RowWork) (t : Clock) (b c : List ℕ) (k : Book)
    → carried (of_known entry (λ _. upon order (λ i r. on_rows t (w i r)))) c k ≡ carried (of_known entry (λ _. upon order (λ i r. on_rows t (w i r)))) b k
unfolding of_known upon carried entered
bytes_unseen None order w t b c k = refl
bytes_unseen (Some e) (Err r) w t b c k = refl
bytes_unseen (Some e) (Ok (i, r)) w t b c k = refl

modify_unseen : (m : ModifyOrder) (n : ℕ) (b c : List ℕ) (k : Book) → carried (plan_by (Body.Modify m) n b k.clock (scans k)) c k ≡ carried (plan_by (Body.Modify m) n b k.clock (scans k)) b k
unfolding plan_by modify_plan
modify_unseen m n b c k =
    bytes_unseen ((scans k).entry m.symbol) (target ((scans k).order m.order) m.symbol) (λ i r. RowWork.Put i (remade m.price m.size (moves m.flags) n r)) k.clock b c k

-- two Modifies that differ in undefined bits alone break the same rule, or make the same book
pub bits_applied : (ed : Edition) (n : ℕ) (b c : List ℕ) (k : Book) → OnlyBits ed b c → applied ed n c k ≡ applied ed n b k
bits_applied ed n b c k o =
    let m : ModifyOrder = o.modify in
    let p : Plan = plan_by (Body.Modify m) n b k.clock (scans k) in
    let first : planned ed n b k ≡ p = sym (planned_by ed (Body.Modify m) n b k o.first) in
    let second : planned ed n c k ≡ p = sym (planned_by ed (Body.Modify (with_flags m o.flags)) n c k (bits_read ed b c o)) ∙ bit_0_plan m o.flags n b c k.clock (scans k) o.bit_0 in
    sym (carried_by ed p n c k second) ∙ modify_unseen m n b c k ∙ carried_by ed p n b k first
