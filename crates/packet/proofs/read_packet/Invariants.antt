-- The loop keeps: the answer to the whole is the answer to what is left from `at` on, with the records and bytes so far before it.
-- Assumes nothing.
use mathlib.Core.Path.{◌≡◌}
use Prim.Native.Nat.{◌-◌, ◌≤◌}
use lib.ListN.{length, drop}
use Rattle.packet.specs.Packet.{frames_from, told}
use Rattle.packet.proofs.Laws.{more}
use Rattle.packet.proofs.read_packet.Given as goal

abbrev pub invariant-loop-at : goal.invariant-loop-at
invariant-loop-at l = (l.at ≤ length l.p) × (l.records ≤ l.at) × (told (frames_from l.e (length l.p) l.p) ≡ more l.at l.records (told (frames_from l.e (length l.p) (drop l.at l.p))))

abbrev pub decreases-loop-at : goal.decreases-loop-at
decreases-loop-at l = length l.p - l.at
