-- A rule's number is never 0; a message's plan by the case of its body, and what it tells of the message.
-- Assumes nothing.
use mathlib.Core.Path.{◌≡◌, sym, ap, subst, ◌∙◌}
use mathlib.Core.Bool.{true, true≢false}
use lib.ListN.{get_or}
use mathlib.Core.List.{List}
use Prim.Native.Nat.{ℕ, ◌≤◌}
use native.Mathlib.Omega.{arith}
use Rattle.kinds.specs.Table.{kind_of}
use Rattle.kinds.specs.declared.Kind.{Kind}
use Rattle.fields.specs.Fields.{decoded}
use Rattle.editions.specs.declared.Edition.{Edition}
use Rattle.fields.specs.declared.Body.{Body}
use Rattle.fields.specs.declared.Fault.{Fault}
use Rattle.std.specs.Prelude.{Result, Ok, Err}
use Rattle.body.specs.Read.{judge_body, message, read_body, good_body}
use Rattle.body.proofs.Laws.{JudgedAs, judge_sound, Judgement, good, bad, judgement}
use Rattle.book.specs.declared.Clock.{Clock}
use Rattle.book.specs.declared.Rule.{Rule}
use Rattle.book.specs.declared.Rule.TheVariants.{UnknownSymbol, AlreadyLive, NotLive, OtherSymbol, AboveSize, NoRow, NoEntry, NoBody}
use Rattle.book.specs.declared.Works.{Works}
use Rattle.book.specs.Plan.{number_of, Plan, Finds, plan_by}
use Rattle.book.specs.Book.{Book, scans, planned, carried, applied}
use Rattle.book.specs.Ledger.{Ledger, Posting, posting, looks, devised, index_after, posts, posted}

-- ---- a rule is never 0, which stands for none
pub rule_from : (r : Rule) → (20 ≤ number_of r) × (number_of r ≤ 27)
rule_from UnknownSymbol = (omega arith, omega arith)
rule_from AlreadyLive = (omega arith, omega arith)
rule_from NotLive = (omega arith, omega arith)
rule_from OtherSymbol = (omega arith, omega arith)
rule_from AboveSize = (omega arith, omega arith)
rule_from NoRow = (omega arith, omega arith)
rule_from NoEntry = (omega arith, omega arith)
rule_from NoBody = (omega arith, omega arith)

pub rule_some : (r : Rule) → number_of r ≡ 0 → ⊥
rule_some r e = omega (arith, (rule_from r).0)

-- ---- a message by the case that reading its body gives
pub planned_by : (ed : Edition) (m : Body) (n : ℕ) (b : List ℕ) (k : Book) → read_body ed b ≡ m → plan_by m n b k.clock (scans k) ≡ planned ed n b k
unfolding planned
planned_by ed m n b k e = ap (λ (x : Body). plan_by x n b k.clock (scans k)) (sym e)

pub carried_by : (ed : Edition) (p : Plan) (n : ℕ) (b : List ℕ) (k : Book) → planned ed n b k ≡ p → carried p b k ≡ applied ed n b k
unfolding applied
carried_by ed p n b k e = ap (λ (x : Plan). carried x b k) (sym e)

pub kind_plan : (k x : Kind) (n : ℕ) (b : List ℕ) (c : Clock) (f : Finds) → k ≡ x → plan_by (decoded x b) n b c f ≡ plan_by (decoded k b) n b c f
kind_plan k x n b c f e = ap (λ (y : Kind). plan_by (decoded y b) n b c f) (sym e)

pub devised_by : (ed : Edition) (m : Body) (n : ℕ) (b : List ℕ) (l : Ledger) → read_body ed b ≡ m → plan_by m n b l.plain.clock (looks l) ≡ devised ed n b l
unfolding devised
devised_by ed m n b l e = ap (λ (x : Body). plan_by x n b l.plain.clock (looks l)) (sym e)

pub posted_by : (ed : Edition) (p : Plan) (n : ℕ) (b : List ℕ) (l : Ledger) → devised ed n b l ≡ p → posts p b l ≡ posted ed n b l
unfolding posted
posted_by ed p n b l e = ap (λ (x : Plan). posts x b l) (sym e)

-- ---- a message by what judging its body found
module _ (ed : Edition) (n : ℕ) (b : List ℕ) (l : Ledger) where
  pub devised_kind : (k : Kind) → judge_body ed b ≡ Ok k → devised ed n b l ≡ plan_by (decoded k b) n b l.plain.clock (looks l)
  unfolding devised read_body message
  devised_kind k e = ap (λ (x : Result Kind Fault). plan_by (message x b) n b l.plain.clock (looks l)) e

  -- a body that is known to be good is of the kind that its type byte decides, and need not be judged again
  pub devised_good : (k : Kind) → good_body ed b ≡ true → k ≡ kind_of (get_or b 0 0) → devised ed n b l ≡ plan_by (decoded k b) n b l.plain.clock (looks l)
  devised_good k g i = go (judgement ed b)
    where
      go : Judgement ed b → devised ed n b l ≡ plan_by (decoded k b) n b l.plain.clock (looks l)
      go (good x e h z) =
          let own : x ≡ kind_of (get_or b 0 0) = (subst (λ (r : Result Kind Fault). JudgedAs ed r b) e (judge_sound ed b)).0 in
          devised_kind x e ∙ kind_plan k x n b l.plain.clock (looks l) (i ∙ sym own)
      go (bad f e h w) = absurd (true≢false (sym g ∙ h))

  -- ---- what a plan tells of the message that it is carried out for
  pub plan_breaks : (r : Rule) → devised ed n b l ≡ Err r → posted ed n b l ≡ posting (number_of r) l
  unfolding posted carried index_after
  plan_breaks r e = sym (posted_by ed (Err r) n b l e)

  pub plan_applies : (w : Works) → devised ed n b l ≡ Ok w → (posted ed n b l).rule ≡ 0
  unfolding carried
  plan_applies w e = ap (λ (o : Posting). o.rule) (sym (posted_by ed (Ok w) n b l e))

-- ---- another search with the same results gives the same plan
pub record Agree (f g : Finds) : Type 0 where
  pub order : (id : ℕ) → f.order id ≡ g.order id
  pub free_row : f.free_row ≡ g.free_row
  pub entry : (id : ℕ) → f.entry id ≡ g.entry id
  pub room : (id : ℕ) → f.room id ≡ g.room id

pub plan_same : (f g : Finds) → Agree f g → (m : Body) (n : ℕ) (b : List ℕ) (c : Clock) → plan_by m n b c f ≡ plan_by m n b c g
plan_same f g a m n b c i = plan_by m n b c (record { order = λ id. a.order id i; free_row = a.free_row i; entry = λ id. a.entry id i; room = λ id. a.room id i })
