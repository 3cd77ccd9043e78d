-- What the tap hands over, as those above know it (document 01, "From the tap": "A packet is .. one or more records, back to back").
use Rattle.std.specs.Prelude.{ℕ, List}

-- a record: its sequence number and its body
pub record Rec : Type 0 where
  pub number : ℕ
  pub body : List ℕ

abbrev pub rec : ℕ → List ℕ → Rec
rec n b = record { number = n; body = b }

-- what is made of a packet's bytes: why they are refused, or the records
pub data Frames (Refusal : Type 0) : Type 0 where
  bad : Refusal → Frames Refusal
  records : List Rec → Frames Refusal
