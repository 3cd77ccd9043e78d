-- Request 6 in a packet: "A tap fault gave us 1,000,000,000 in a Timestamp".
use Rattle.std.specs.Prelude.{ℕ, ◌+◌, ◌≤◌, ◌≡◌, true, List, length, drop}
use Rattle.facts.specs.Limits.{packet_most}
use Rattle.editions.specs.declared.Edition.{Edition}
use Rattle.body.specs.Nanoseconds.{PastSecond}
use Rattle.packet.specs.Record.{number_ok, head_of, body_of}
use Rattle.packet.specs.Front.{Reached}

-- a packet of a good size with a record, behind good ones, that has nothing wrong before its body, and such a body
pub record PastIn (ed : Edition) (p : List ℕ) : Type 0 where
  pub at : ℕ
  pub reached : Reached ed p at
  pub inside : at + (10 + (head_of (drop at p)).len) ≤ length p
  pub size : length p ≤ packet_most
  pub number_good : number_ok (head_of (drop at p)).number ≡ true
  pub past : PastSecond (body_of (drop at p))
