-- What an exercise is: a receiver is started, gets packets and is asked, and each question stands with its known result. What the definitions of the
-- other crates answer is worked out beside it.
use Rattle.std.specs.Prelude.{ℕ, ◌+◌, ◌*◌, List, [], ◌∷◌, Bool, ltb, eqb, ℤ, pos, neg_ℤ, get_or, Option, Some, None, Result, Ok, Err}
use Rattle.facts.specs.Limits.{shelf_size}
use Rattle.facts.specs.Pick.{pick, both}
use Rattle.facts.specs.Same.{same_bytes}
use Rattle.packet.specs.declared.Why.{Why}
use Rattle.fields.specs.declared.Refusal.{Refusal}
use Rattle.editions.specs.declared.Edition.{Edition}
use Rattle.wire.specs.Le.{field}
use Rattle.fields.specs.Fields.{refusal}
use Rattle.rows.specs.declared.Row.{Row}
use Rattle.rows.specs.Rows.{row_size, rows, zero_row}
use Rattle.rows.specs.Find.{find_order}
use Rattle.facts.specs.Limits.{entry_size}
use Rattle.views.specs.Views.{spread_view}
use Rattle.receiver.specs.declared.Account.{Account}
use Rattle.receiver.specs.Receiver.{received_number}
use Rattle.receiver.specs.Lent.{state_numbers, Lent, orders_of, symbols_of, shelf_of, state_of, Handled, handled, fresh, received}

-- ---- the words of an exercise
-- what can be asked after a packet
pub data Ask : Type 0 where
  -- of its answer: how many records got 10, 11 and 12, how many messages were applied, the next number, the stop
  taken old too_far applied next stop : Ask
  -- its refusal, 0 for none, and the offset of the first byte at fault (request 5), where the refusal has one
  refused bad_byte : Ask
  -- how many of order table, symbol table, shelf and state it changed
  changed : Ask
  -- the rank of an order that is live then
  rank : ℕ → Ask
  -- which of two orders that are live then, of one symbol and side and at one price, is ahead of the other
  ahead : ℕ → ℕ → Ask
  -- the spread of a symbol
  spread : ℕ → Ask
  -- what eight bytes say as a price, whatever came before
  price : List ℕ → Ask

-- what is answered: a number, or nothing; or the number of a refusal in an answer's place
abbrev pub Told : Type 0
Told = Result (Option ℤ) ℕ

abbrev pub number : ℕ → Told
number n = Ok (Some (pos n))

abbrev pub nothing : Told
nothing = Ok None

-- what happens in an exercise
pub data Step : Type 0 where
  -- a start, with room for so many orders and so many symbols
  start : ℕ → ℕ → Step
  -- a packet comes
  gets : List ℕ → Step
  -- a question and its known result
  result : Ask → Told → Step

infix 80 ◌is◌
infix 80 ◌is_minus◌
abbrev pub ◌is◌ : Ask → ℕ → Step
a is n = result a (number n)

abbrev pub ◌is_minus◌ : Ask → ℕ → Step
a is_minus n = result a (Ok (Some (neg_ℤ (pos n))))

-- no such order is live
abbrev pub gone : ℕ → Step
gone order = result (rank order) nothing

-- the exercise P n
pub record Exercise : Type 0 where
  pub P : ℕ
  pub steps : List Step

abbrev pub exercise : ℕ → List Step → Exercise
exercise n ss = record { P = n; steps = ss }

-- ---- the answers of the definitions
-- a receiver before the last packet, and what the packet did
pub record Now : Type 0 where
  pub was : Lent
  pub last : Handled

abbrev pub now : Lent → Handled → Now
now k x = record { was = k; last = x }

-- right after a start there is no packet yet: as if one had been refused. No index is lent; with one the answers are the same (`both_engines` of receiver)
unfoldable pub begins : Edition → ℕ → ℕ → Now
begins ed orders symbols =
    let k : Lent = fresh ed (row_size * orders) (entry_size * symbols) shelf_size 0 in
    now k (handled (Err (Why.Alone (refusal 0))) k)

unfoldable pub goes_on : Now → List ℕ → Now
goes_on w p = now w.last.after (received w.last.after p)

-- a number of an account; a refused packet has none
unfoldable pub of_account : (Account → ℕ) → Result Account Why → Told
of_account f (Ok a) = number (f a)
of_account f (Err (Why.Alone r)) = Err r.number
of_account f (Err (Why.Placed b)) = Err b.number

unfoldable pub place_of : Result Account Why → Told
place_of (Ok a) = nothing
place_of (Err (Why.Alone r)) = nothing
place_of (Err (Why.Placed b)) = number b.at

unfoldable pub differ : List ℕ → List ℕ → ℕ
differ s t = pick (same_bytes s t) 0 1

unfoldable pub changes : Lent → Lent → ℕ
changes a b =
    differ (orders_of a) (orders_of b) + differ (symbols_of a) (symbols_of b) + differ (shelf_of a) (shelf_of b) + differ (state_numbers (state_of a)) (state_numbers (state_of b))

-- the rank in the row that was found
unfoldable pub rank_in : Option ℕ → List Row → Told
rank_in (Some i) rs = number (get_or rs i zero_row).rank
rank_in None rs = nothing

unfoldable pub rank_of : ℕ → List Row → Told
rank_of order rs = rank_in (find_order order rs) rs

-- two orders in one price queue: the same symbol, side and price
unfoldable pub together : Row → Row → Bool
together r s = both (eqb r.key s.key) (eqb r.price s.price)

-- ranked "by sequence number": of two orders in one queue the one with the lower rank is ahead; nothing where one of them is not live, or they are in two queues
unfoldable pub ahead_in : ℕ → Option ℕ → ℕ → Option ℕ → List Row → Told
ahead_in a (Some i) b (Some j) rs =
    pick (together (get_or rs i zero_row) (get_or rs j zero_row)) (number (pick (ltb (get_or rs i zero_row).rank (get_or rs j zero_row).rank) a b)) nothing
ahead_in a (Some i) b None rs = nothing
ahead_in a None b g rs = nothing

unfoldable pub ahead_of : ℕ → ℕ → List Row → Told
ahead_of a b rs = ahead_in a (find_order a rs) b (find_order b rs) rs

unfoldable pub of_spread : Result (Option ℤ) Refusal → Told
of_spread (Ok z) = Ok z
of_spread (Err r) = Err r.number

-- what the definitions answer
unfoldable pub answer_to : Ask → Now → Told
answer_to taken w = of_account (λ a. a.counts.taken) w.last.answer
answer_to old w = of_account (λ a. a.counts.old) w.last.answer
answer_to too_far w = of_account (λ a. a.counts.far) w.last.answer
answer_to applied w = of_account (λ a. a.applied) w.last.answer
answer_to next w = of_account (λ a. a.next) w.last.answer
answer_to stop w = of_account (λ a. a.stop) w.last.answer
answer_to refused w = number (received_number w.last.answer)
answer_to bad_byte w = place_of w.last.answer
answer_to changed w = number (changes w.was w.last.after)
answer_to (rank order) w = rank_of order (rows (orders_of w.last.after))
answer_to (ahead a b) w = ahead_of a b (rows (orders_of w.last.after))
answer_to (spread symbol) w = of_spread (spread_view symbol (orders_of w.last.after) (symbols_of w.last.after))
answer_to (price bytes) w = number (field bytes 0 8)

-- the answers to an exercise's questions, in their order, of receivers of an edition
unfoldable pub answers : Edition → List Step → Now → List Told
answers ed [] w = []
answers ed (start orders symbols ∷ ss) w = answers ed ss (begins ed orders symbols)
answers ed (gets p ∷ ss) w = answers ed ss (goes_on w p)
answers ed (result a t ∷ ss) w = answer_to a w ∷ answers ed ss w

-- its known results, in their order
unfoldable pub known : List Step → List Told
known [] = []
known (start orders symbols ∷ ss) = known ss
known (gets p ∷ ss) = known ss
known (result a t ∷ ss) = t ∷ known ss

-- exercise by exercise; until an exercise starts a receiver, there is one without room
unfoldable pub table_answers : Edition → List Exercise → List (List Told)
table_answers ed [] = []
table_answers ed (e ∷ es) = answers ed e.steps (begins ed 0 0) ∷ table_answers ed es

unfoldable pub table_results : List Exercise → List (List Told)
table_results [] = []
table_results (e ∷ es) = known e.steps ∷ table_results es
