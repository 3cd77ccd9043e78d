-- One turn by the tests that the code makes, and the stop by the same tests: each exit over the next number, the book and the shelf. The theory's laws of `try` decide.
-- Assumes nothing.
use Prim.Native.Nat.{ℕ, ◌+◌, ◌%◌, ◌≤◌, ◌<◌}
use mathlib.Core.Path.{◌≡◌, refl, sym, ap, ◌∙◌}
use mathlib.Core.Logic.{◌≢◌}
use mathlib.Core.Bool.{Bool, true, false}
use lib.Dec.{eqb}
use borrow.Author.Tests.{eqb-true, eqb-false}
use Rattle.arbitration.specs.Slots.{Slot, empty_slot, slot_body}
use Rattle.arbitration.specs.Engine.{ok, Engine, Store}
use Rattle.arbitration.specs.Receive.{stuck, of_applied, try, stop}
use Rattle.arbitration.specs.Loops.{Turned}
use Rattle.arbitration.proofs.Turns.{Stays, try_empty, try_other, try_bad, try_good, long_bad, short_good, stays_nothing, stays_stuck, moves, stop_nothing, stop_stuck, stop_goes}
use Rattle.receiver.specs.Parts.{Parts, engine_of}
use Rattle.receiver.specs.Receiver.{Rx}
use Rattle.receiver.proofs.PartsLaws.{PartsLaws, apply_ok, apply_broke}

module _ (P : Parts) (L : PartsLaws P) (next : ℕ) (k : P.rules.Book) (h : P.store.Shelf) where
  abbrev S : Store
  S = P.store

  abbrev E : Engine
  E = engine_of P.rules

  abbrev r : Rx P
  r = record { next = next; shelf = h; book = k }

  abbrev here : Slot
  here = S.get h (next % 64)

  -- what a turn answers: the state r', and whether a message was applied
  abbrev pub Turns : Rx P → Bool → Type 0
  Turns r' on = Turned S E r r' on

  stayed : Stays S E r → Turns r false
  stayed h = record { to = sym h.same; on_is = sym h.off }

  -- an empty slot
  pub turn_empty : here.number ≡ 0 → Turns r false
  turn_empty e = stayed (stays_nothing S E r (try_empty S E r e))

  pub stops_empty : here.number ≡ 0 → 0 ≡ stop S E r
  stops_empty e = sym (stop_nothing S E r (try_empty S E r e))

  module _ (some : here.number ≢ 0) where
    -- another number
    pub turn_other : here.number ≢ next → Turns r false
    turn_other e = stayed (stays_stuck S E r 27 (try_other S E r some e))

    pub stops_other : here.number ≢ next → 27 ≡ stop S E r
    stops_other e = sym (stop_stuck S E r 27 (try_other S E r some e))

    module _ (own : here.number ≡ next) where
      -- no good body, by its length
      pub turn_long : 64 < here.len → Turns r false
      turn_long l = stayed (stays_stuck S E r 27 (try_bad S E r some own (long_bad E here l)))

      pub stops_long : 64 < here.len → 27 ≡ stop S E r
      stops_long l = sym (stop_stuck S E r 27 (try_bad S E r some own (long_bad E here l)))

      module _ (short : here.len ≤ 64) where
        abbrev pub rule : ℕ
        rule = P.rules.rule next (slot_body here) k

        -- the message is stopped by its rule, which is 27 for a body that the reader refuses
        tried_broken : rule ≢ 0 → try S E r ≡ stuck rule
        tried_broken e = go (P.rules.good (slot_body here)) refl
          where
            go : (g : Bool) → P.rules.good (slot_body here) ≡ g → try S E r ≡ stuck rule
            go true g = try_good S E r some own (short_good E here short ∙ g) ∙ ap of_applied (apply_broke P.rules next (slot_body here) k e)
            go false g = try_bad S E r some own (short_good E here short ∙ g) ∙ ap stuck (sym (L.bad_body next (slot_body here) k g))

        tried_goes : rule ≡ 0 → try S E r ≡ of_applied (ok (P.rules.after next (slot_body here) k))
        tried_goes e =
            try_good S E r some own (short_good E here short ∙ L.rule_good next (slot_body here) k e)
            ∙ ap of_applied (apply_ok P.rules next (slot_body here) k e)

        -- what the code's call of the book answered: the rule q, and the book k' that it left
        module _ (q : ℕ) (k' : P.rules.Book) (rule_is : q ≡ rule) (book_is : k' ≡ P.rules.after next (slot_body here) k) where
          pub turn_broken : q ≢ 0 → Turns (record { next = next; shelf = h; book = k' }) false
          turn_broken e =
              let e' : rule ≢ 0 = λ z. e (rule_is ∙ z) in
              let same : k' ≡ k = book_is ∙ L.broken_keeps next (slot_body here) k e' in
              let t = stayed (stays_stuck S E r rule (tried_broken e')) in
              record { to = (λ i. record { next = next; shelf = h; book = same i }) ∙ t.to; on_is = t.on_is }

          pub turn_goes : q ≡ 0 → (h' : S.Shelf) → h' ≡ S.put h (next % 64) empty_slot → Turns (record { next = next + 1; shelf = h'; book = k' }) true
          turn_goes e h' p =
              let z : rule ≡ 0 = sym rule_is ∙ e in
              let m = moves S E r (P.rules.after next (slot_body here) k) (tried_goes z) in
              record { to = (λ i. record { next = next + 1; shelf = p i; book = book_is i }) ∙ sym m.moved; on_is = sym m.on }

        -- the stop, from the rule that nothing was changed for
        pub stops_rule : rule ≡ stop S E r
        stops_rule = by (eqb rule 0) refl
          where
            by : (t : Bool) → eqb rule 0 ≡ t → rule ≡ stop S E r
            by true t =
                let z : rule ≡ 0 = eqb-true rule 0 t in
                z ∙ sym (stop_goes S E r (P.rules.after next (slot_body here) k) (tried_goes z))
            by false t = sym (stop_stuck S E r rule (tried_broken (eqb-false rule 0 t)))
