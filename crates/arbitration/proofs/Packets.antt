-- Packets: their state is that of a run of their accepted records, so what holds of runs holds of packets, and repacking changes nothing. A refused packet adds no record.
-- Assumes nothing.
use Prim.Native.Nat.{ℕ}
use mathlib.Core.Path.{◌≡◌, refl, sym, ap, ◌∙◌}
use mathlib.Core.List.{List, [], ◌∷◌, ◌++◌}
use Rattle.wire.specs.Records.{Rec, Frames, bad, records}
use Rattle.arbitration.specs.Engine.{Engine, Store}
use Rattle.arbitration.specs.Receive.{records_of, accepted, State, run, worked, worked_all}
use Rattle.arbitration.specs.Lists.{Every}
use Rattle.arbitration.proofs.Answers.{run_append}

pub every_map : {A : Type 0} (P Q : A → Type 0) → ((x : A) → P x → Q x) → (a : List A) → Every P a → Every Q a
every_map P Q f [] h = tt
every_map P Q f (x ∷ a) h = (f x h.0, every_map P Q f a h.1)

pub every_append : {A : Type 0} (P : A → Type 0) (a b : List A) → Every P a → Every P b → Every P (a ++ b)
every_append P [] b h k = k
every_append P (x ∷ a) b h k = (h.0, every_append P a b h.1 k)

module _ {Q : Type 0} (frame : List ℕ → Frames Q) where
  -- what holds of every packet's records holds of all accepted ones
  pub every_accepted : (P : Rec → Type 0) → ((p : List ℕ) → Every P (records_of (frame p))) → (ps : List (List ℕ)) → Every P (accepted frame ps)
  unfolding accepted
  every_accepted P h [] = tt
  every_accepted P h (p ∷ ps) = every_append P (records_of (frame p)) (accepted frame ps) (h p) (every_accepted P h ps)

  -- a refused packet adds none, wherever it comes
  pub refused_adds_none : (p : List ℕ) (q : Q) → frame p ≡ bad q → (ps qs : List (List ℕ)) → accepted frame (ps ++ (p ∷ qs)) ≡ accepted frame (ps ++ qs)
  unfolding accepted
  refused_adds_none p q e [] qs = ap (λ (x : Frames Q). records_of x ++ accepted frame qs) e
  refused_adds_none p q e (x ∷ ps) qs = ap (λ (cs : List Rec). records_of (frame x) ++ cs) (refused_adds_none p q e ps qs)

  module _ (S : Store) (E : Engine) where
    worked_run : (x : Frames Q) (r : State S E) → worked S E x r ≡ run S E (records_of x) r
    unfolding worked run
    worked_run (bad q) r = refl
    worked_run (records cs) r = refl

    -- the state after packets is that after their accepted records
    pub packets_run : (ps : List (List ℕ)) (r : State S E) → worked_all S E frame ps r ≡ run S E (accepted frame ps) r
    unfolding worked_all accepted run
    packets_run [] r = refl
    packets_run (p ∷ ps) r =
        packets_run ps (worked S E (frame p) r)
        ∙ ap (run S E (accepted frame ps)) (worked_run (frame p) r)
        ∙ sym (run_append S E (records_of (frame p)) (accepted frame ps) r)

    -- "repacking the records of accepted packets, in their order, into other good packets changes no table" (request 13)
    pub repacked : (ps qs : List (List ℕ)) (r : State S E) → accepted frame ps ≡ accepted frame qs → worked_all S E frame ps r ≡ worked_all S E frame qs r
    repacked ps qs r e = packets_run ps r ∙ ap (λ (l : List Rec). run S E l r) e ∙ sym (packets_run qs r)
