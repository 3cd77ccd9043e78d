-- What each call of the C boundary answers: a number, and the lent memory after it. The meaning is that of the library's own definitions;
-- "tables, output and state keep every byte" (document 01), so that a refusal's offset comes in the number (request 5).
use Rattle.std.specs.Prelude.{ℕ, ◌%◌, ◌-◌, Bool, true, false, List, [], ◌∷◌, get_or, ℤ, pos, nat_abs, Option, Some, None, Result}
use Rattle.std.specs.Int.Signed.{lt_z}
use Rattle.facts.specs.Pick.{pick}
use Rattle.editions.specs.Editions.{edition_of}
use Rattle.receiver.specs.declared.State.{State}
use Rattle.receiver.specs.declared.Account.{Account}
use Rattle.packet.specs.declared.Why.{Why}
use Rattle.fields.specs.declared.Fault.{Fault}
use Rattle.fields.specs.declared.Refusal.{Refusal}
use Rattle.packet.specs.declared.Head.{Head}
use Rattle.views.specs.declared.Sizes.{Sizes}
use Rattle.book.specs.Plan.{clock}
use Rattle.receiver.specs.Lent.{state_numbers, Begun, Handled, start_number, orders_of, symbols_of, shelf_of, index_of, state_of}
use Rattle.views.specs.declared.Side.{Side}
use Rattle.views.specs.Views.{LadderOut, ladder_number, spread_number, counts_number}
use Rattle.answer_sheet.specs.declared.Recording.{Recording}
use Rattle.answer_sheet.specs.Sheet.{Sheet, sheet_number}
use Rattle.body.specs.Read.{with_offset}
use Rattle.api.specs.Told.{why_code, code_of, told}

-- a receiver's state in four lent numbers (`state_numbers` of receiver): the second is the low 32 bits of its number, the stop the low 8, and any number but 1 stands for 1.3.a and 1.3.b
abbrev pub state_in : List ℕ → State
state_in l = record { next = get_or l 0 0; clock = clock (get_or l 1 0 % 4294967296); stop = get_or l 2 0 % 256; edition = edition_of (get_or l 3 0) }

-- a packet's answer as nine numbers: records taken, old, too far, repeated, differing; next, applied, highest, stop
abbrev pub account_numbers : Account → List ℕ
account_numbers a =
    a.counts.taken ∷ a.counts.old ∷ a.counts.far ∷ a.counts.repeated ∷ a.counts.differing
    ∷ a.next ∷ a.applied ∷ a.highest ∷ a.stop ∷ []

-- ---- a start
-- its number, the state lent for it, the tables and the index
pub record StartCall : Type 0 where
  pub number : ℕ
  pub state : List ℕ
  pub orders : List ℕ
  pub symbols : List ℕ
  pub shelf : List ℕ
  pub index : List ℕ

abbrev pub start_call : ℕ → List ℕ → List ℕ → List ℕ → List ℕ → List ℕ → StartCall
start_call n l o s h ix = record { number = n; state = l; orders = o; symbols = s; shelf = h; index = ix }

unfoldable pub start_answer : Begun → List ℕ → StartCall
start_answer b l = start_call (start_number b.answer) (told state_numbers b.answer l) b.orders b.symbols b.shelf b.index

-- ---- a packet to a receiver
-- its number, the state and the account lent for it, the tables and the index
pub record ReceiveCall : Type 0 where
  pub number : ℕ
  pub state : List ℕ
  pub account : List ℕ
  pub orders : List ℕ
  pub symbols : List ℕ
  pub shelf : List ℕ
  pub index : List ℕ

abbrev pub receive_call : ℕ → List ℕ → List ℕ → List ℕ → List ℕ → List ℕ → List ℕ → ReceiveCall
receive_call n l a o s h ix = record { number = n; state = l; account = a; orders = o; symbols = s; shelf = h; index = ix }

unfoldable pub receive_answer : Handled → List ℕ → List ℕ → ReceiveCall
receive_answer u l a =
    receive_call (code_of why_code u.answer) (told (λ _. state_numbers (state_of u.after)) u.answer l) (told account_numbers u.answer a)
    (orders_of u.after) (symbols_of u.after) (shelf_of u.after) (index_of u.after)

-- ---- views
abbrev pub side_asked : Bool → Side
side_asked true = Side.Sell
side_asked false = Side.Buy

-- a number, what is lent to tell how much there is, and the run or text that is filled
pub record FillCall : Type 0 where
  pub number : ℕ
  pub told : List ℕ
  pub filled : List ℕ

abbrev pub fill_call : ℕ → List ℕ → List ℕ → FillCall
fill_call n l o = record { number = n; told = l; filled = o }

-- the number of all levels, and the run; a refusal leaves the lent number as it is
unfoldable pub ladder_answer : LadderOut → List ℕ → FillCall
ladder_answer v l = fill_call (ladder_number v.answer) (told (λ n. n ∷ []) v.answer l) v.run

-- a number, and the one thing lent for writing
pub record Call : Type 0 where
  pub number : ℕ
  pub lent : List ℕ

abbrev pub call : ℕ → List ℕ → Call
call n l = record { number = n; lent = l }

-- two's complement of 64 bits: a number below 0 is 2^64 less its magnitude
unfoldable pub bits_of : ℤ → ℕ
bits_of z = pick (lt_z z (pos 0)) (18446744073709551616 - nat_abs z) (nat_abs z)

-- 1 and the spread as its bits, or two zeros where a side is empty
abbrev pub spread_numbers : Option ℤ → List ℕ
spread_numbers (Some z) = 1 ∷ bits_of z ∷ []
spread_numbers None = 0 ∷ 0 ∷ []

unfoldable pub spread_answer : Result (Option ℤ) Refusal → List ℕ → Call
spread_answer a l = call (spread_number a) (told spread_numbers a l)

-- live orders, used entries
abbrev pub counts_numbers : Sizes → List ℕ
counts_numbers n = n.orders ∷ n.symbols ∷ []

unfoldable pub counts_answer : Result Sizes Refusal → List ℕ → Call
counts_answer a l = call (counts_number a) (told counts_numbers a l)

-- ---- packets and records
-- the number of a packet's records
unfoldable pub packet_answer : Result ℕ Why → List ℕ → Call
packet_answer a l = call (code_of why_code a) (told (λ n. n ∷ []) a l)

-- a record's number, and the length of its body
abbrev pub record_numbers : Head → List ℕ
record_numbers h = h.number ∷ h.len ∷ []

unfoldable pub record_answer : Result Head Fault → List ℕ → Call
record_answer a l = call (code_of with_offset a) (told record_numbers a l)

-- ---- the sheet
abbrev pub word_of : Bool → Recording
word_of true = Recording.Cut
word_of false = Recording.Whole

-- how long the whole sheet is
abbrev pub sheet_length : Result ℕ Refusal → List ℕ → List ℕ
sheet_length = told (λ n. n ∷ [])

unfoldable pub sheet_answer : Sheet → List ℕ → FillCall
sheet_answer v l = fill_call (sheet_number v.answer) (sheet_length v.answer l) v.buf
