-- The packet's five counts, kept as records come: each answer adds one to its own count, so the counts are those of the answers and make up all records.
-- Assumes nothing.
use Prim.Native.Nat.{ℕ, suc, ◌+◌}
use mathlib.Core.Path.{◌≡◌, refl, ap, ◌∙◌}
use mathlib.Core.List.{List, [], ◌∷◌}
use lib.ListN.{length}
use native.Mathlib.Omega.{arith}
use Rattle.facts.specs.Pick.{pick}
use Rattle.facts.specs.Sums.{sum_by, only_if, count_by}
use Rattle.wire.specs.Records.{Rec}
use Rattle.arbitration.specs.Engine.{Engine, Store}
use Rattle.arbitration.specs.Receive.{Answer, taken, old, too_far, repeated, differing, Said, count, counts_of, State, judged, acted, after, run, said, told, no_counts}
use Rattle.arbitration.specs.Loops.{counted, total, Working, working, work}
use Rattle.arbitration.specs.declared.Counts.{Counts}
use Rattle.arbitration.proofs.Answers.{after_of}

abbrev pub plus : Counts → Counts → Counts
plus a b = record { taken = a.taken + b.taken; old = a.old + b.old; far = a.far + b.far; repeated = a.repeated + b.repeated; differing = a.differing + b.differing }

counts_eq : (a b : Counts) → a.taken ≡ b.taken → a.old ≡ b.old → a.far ≡ b.far → a.repeated ≡ b.repeated → a.differing ≡ b.differing → a ≡ b
counts_eq a b p q r s u = λ i. record { taken = p i; old = q i; far = r i; repeated = s i; differing = u i }

-- one answer more
counts_more : (a : Answer) (n : ℕ) (t : Counts) (l : List Said) → plus (counted a t) (counts_of l) ≡ plus t (counts_of (record { number = n; answer = a } ∷ l))
unfolding counts_of count count_by sum_by only_if pick
counts_more taken n t l = counts_eq _ _ (omega arith) (omega arith) (omega arith) (omega arith) (omega arith)
counts_more old n t l = counts_eq _ _ (omega arith) (omega arith) (omega arith) (omega arith) (omega arith)
counts_more too_far n t l = counts_eq _ _ (omega arith) (omega arith) (omega arith) (omega arith) (omega arith)
counts_more repeated n t l = counts_eq _ _ (omega arith) (omega arith) (omega arith) (omega arith) (omega arith)
counts_more differing n t l = counts_eq _ _ (omega arith) (omega arith) (omega arith) (omega arith) (omega arith)

total_more : (a : Answer) (n : ℕ) (l : List Said) → total (counts_of (record { number = n; answer = a } ∷ l)) ≡ suc (total (counts_of l))
unfolding counts_of count count_by sum_by only_if pick
total_more taken n l = omega arith
total_more old n l = omega arith
total_more too_far n l = omega arith
total_more repeated n l = omega arith
total_more differing n l = omega arith

none_plus : (t : Counts) → plus no_counts t ≡ t
none_plus t = counts_eq _ _ (omega arith) (omega arith) (omega arith) (omega arith) (omega arith)

-- one record more adds one to the count of its answer
pub counts_added : (a : Answer) (n : ℕ) (l : List Said) → plus (counted a no_counts) (counts_of l) ≡ counts_of (record { number = n; answer = a } ∷ l)
counts_added a n l = counts_more a n no_counts l ∙ none_plus (counts_of (record { number = n; answer = a } ∷ l))

plus_none : (t : Counts) → t ≡ plus t (counts_of [])
unfolding counts_of count count_by sum_by
plus_none t = counts_eq _ _ (omega arith) (omega arith) (omega arith) (omega arith) (omega arith)

module _ (S : Store) (E : Engine) where
  -- the loop's laws: one record more, by its answer, and none left
  pub working_of : (c : Rec) (w : Working S E) (a : Answer) → judged S E c w.rx ≡ a → working S E c w ≡ record { rx = acted S E a c w.rx; counts = counted a w.counts }
  working_of c w a e = λ i. record { rx = after_of S E c w.rx a e i; counts = counted (e i) w.counts }

  pub work_step : (c : Rec) (cs : List Rec) (w w' end : Working S E) → work S E (c ∷ cs) w ≡ end → w' ≡ working S E c w → work S E cs w' ≡ end
  unfolding work
  work_step c cs w w' end v e = ap (work S E cs) e ∙ v

  pub work_end : (w end : Working S E) → work S E [] w ≡ end → w ≡ end
  unfolding work
  work_end w end v = v

  abbrev done : List Rec → Working S E → Working S E
  done cs w = record { rx = run S E cs w.rx; counts = plus w.counts (counts_of (said S E cs w.rx)) }

  work_done : (cs : List Rec) (w : Working S E) → work S E cs w ≡ done cs w
  unfolding work run said
  work_done [] w = λ i. record { rx = w.rx; counts = plus_none w.counts i }
  work_done (c ∷ cs) w =
      work_done cs (working S E c w)
      ∙ (λ i. record { rx = run S E cs (after S E c w.rx); counts = counts_more (judged S E c w.rx) c.number w.counts (said S E cs (after S E c w.rx)) i })

  -- from no counts: the run and the counts that the packet's answer tells
  pub work_told : (cs : List Rec) (r : State S E) → work S E cs (record { rx = r; counts = no_counts }) ≡ record { rx = run S E cs r; counts = (told S E cs r).counts }
  unfolding told
  work_told cs r = work_done cs (record { rx = r; counts = no_counts }) ∙ (λ i. record { rx = run S E cs r; counts = none_plus (counts_of (said S E cs r)) i })

  total_said : (cs : List Rec) (r : State S E) → total (counts_of (said S E cs r)) ≡ length cs
  unfolding said counts_of count count_by sum_by
  total_said [] r = refl
  total_said (c ∷ cs) r = total_more (judged S E c r) c.number (said S E cs (after S E c r)) ∙ ap suc (total_said cs (after S E c r))

  -- every record is counted once
  pub every_record_counted : (cs : List Rec) (r : State S E) → total (told S E cs r).counts ≡ length cs
  unfolding told
  every_record_counted cs r = total_said cs r
