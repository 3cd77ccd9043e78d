-- Calls from C, one after another, are calls of `receive`: what a call leaves in the four numbers of the state is what the next one takes out of them.
-- Assumes nothing.
use Prim.Native.Nat.{ℕ, ◌%◌, ◌^◌, ◌<◌}
use mathlib.Core.Path.{◌≡◌, refl, sym, ap, ◌∙◌}
use mathlib.Core.List.{List}
use native.Mathlib.Omega.{arith}
use Rattle.editions.proofs.Laws.{edition_back}
use Rattle.book.specs.Plan.{clock}
use Rattle.receiver.specs.Lent.{real, state_numbers, Lent, lent, orders_of, symbols_of, shelf_of, index_of, state_of, Handled, received}
use Rattle.receiver.specs.declared.State.{State}
use Rattle.receiver.specs.declared.Account.{Account}
use Rattle.std.specs.Prelude.{Result, Ok, Err}
use Rattle.packet.specs.declared.Why.{Why}
use Rattle.receiver.proofs.Accounts.{refused_same}
use Rattle.api.specs.Told.{why_code, code_of, told}
use Rattle.api.specs.Calls.{state_in, account_numbers, receive_call, receive_answer}

-- a state that a machine holds: its second in 32 bits, its stop in 8
pub record Held (q : State) : Type 0 where
  pub second_fits : q.clock.second < 2 ^ 32
  pub stop_fits : q.stop < 2 ^ 8

-- its four numbers give it back
pub state_back : (q : State) → Held q → state_in (state_numbers q) ≡ q
state_back q h =
    let a : q.clock.second % 4294967296 ≡ q.clock.second = omega (arith, h.second_fits) in
    let b : q.stop % 256 ≡ q.stop = omega (arith, h.stop_fits) in
    λ i. record { next = q.next; clock = clock (a i); stop = b i; edition = edition_back q.edition i }

-- lent what a receiver k is, a call leaves what `receive` makes of k, accepted or refused: so a start and any number of calls from C are `received_all`, of which demand 3
-- speaks. m is the memory for the account
module _ (k : Lent) (h : Held (state_of k)) (p m : List ℕ) where
  abbrev numbers : List ℕ
  numbers = state_numbers (state_of k)

  abbrev after : Lent
  after = (received k p).after

  same_call : received (lent (orders_of k) (symbols_of k) (shelf_of k) (index_of k) (state_in numbers)) p ≡ received k p
  same_call = ap (λ (q : State). received (lent (orders_of k) (symbols_of k) (shelf_of k) (index_of k) q) p) (state_back (state_of k) h)

  state_left : told (λ (t : Account). state_numbers (state_of after)) (received k p).answer numbers ≡ state_numbers (state_of after)
  state_left = go (received k p).answer refl
    where
      go : (a : Result Account Why) → (received k p).answer ≡ a → told (λ (t : Account). state_numbers (state_of after)) a numbers ≡ state_numbers (state_of after)
      go (Ok t) e = refl
      go (Err w) e = ap (λ (x : Lent). state_numbers (state_of x)) (sym (refused_same (real k.edition) k p (λ (t : Account) q. let n : Err w ≡ Ok t = sym e ∙ q in cc)))

  pub next_call : receive_answer (received (lent (orders_of k) (symbols_of k) (shelf_of k) (index_of k) (state_in numbers)) p) numbers m
      ≡ receive_call (code_of why_code (received k p).answer) (state_numbers (state_of after)) (told account_numbers (received k p).answer m) (orders_of after) (symbols_of after) (shelf_of after) (index_of after)
  unfolding receive_answer
  next_call =
      ap (λ (x : Handled). receive_answer x numbers m) same_call
      ∙ ap (λ (l : List ℕ). receive_call (code_of why_code (received k p).answer) l (told account_numbers (received k p).answer m) (orders_of after) (symbols_of after) (shelf_of after) (index_of after)) state_left
