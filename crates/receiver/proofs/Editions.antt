-- A run keeps the edition that was chosen at its start (request 10): no packet changes it, so calls one after another, each by the edition that its state has, are calls by one.
-- Assumes nothing.
use mathlib.Core.Path.{◌≡◌, refl, ap, ◌∙◌}
use mathlib.Core.List.{List, [], ◌∷◌, ◌++◌}
use Prim.Native.Nat.{ℕ}
use Rattle.facts.proofs.Picks.{pick_ind}
use Rattle.editions.specs.declared.Edition.{Edition}
use Rattle.wire.specs.Records.{Frames, bad, records}
use Rattle.fields.specs.Fields.{refusal}
use Rattle.receiver.specs.Parts.{Parts}
use Rattle.receiver.specs.Receiver.{Receiver, Handled, handled, handled_by, fit, receives, receives_all}
use Rattle.receiver.specs.Lent.{real, Lent, received, received_all}
use Rattle.std.specs.Prelude.{Err}
use Rattle.packet.specs.declared.Why.{Why}

-- accepted or refused
pub edition_kept : (P : Parts) (k : Receiver P) (p : List ℕ) → (receives P k p).after.edition ≡ k.edition
unfolding receives handled_by
edition_kept P k p = pick_ind (λ (x : Handled P). x.after.edition ≡ k.edition) (fit P k) (handled_by P (P.frame p) k) (handled P (Err (Why.Alone (refusal 6))) k) (λ _. go (P.frame p)) (λ _. refl)
  where
    go : (x : Frames Why) → (handled_by P x k).after.edition ≡ k.edition
    go (bad w) = refl
    go (records cs) = refl

-- the calls of a run are those of a receiver of the first state's edition
pub calls_keep : (ps : List (List ℕ)) (k : Lent) → received_all ps k ≡ receives_all (real k.edition) ps k
unfolding received_all receives_all
calls_keep [] k = refl
calls_keep (p ∷ ps) k = calls_keep ps (received k p).after ∙ ap (λ (v : Edition). receives_all (real v) ps (received k p).after) (edition_kept (real k.edition) k p)

-- "for a run that keeps the one chosen"
pub chosen_run : (ed : Edition) (ps : List (List ℕ)) (k : Lent) → k.edition ≡ ed → received_all ps k ≡ receives_all (real ed) ps k
chosen_run ed ps k e = calls_keep ps k ∙ ap (λ (v : Edition). receives_all (real v) ps k) e

-- one packet more is one call more
pub call_more : (k : Lent) (ps : List (List ℕ)) (p : List ℕ) → received_all (ps ++ (p ∷ [])) k ≡ (received (received_all ps k) p).after
unfolding received_all
call_more k [] p = refl
call_more k (q ∷ ps) p = call_more (received k q).after ps p
