-- Packets as a recording has them, and bytes as the programs print them.
use Rattle.std.specs.Prelude.{ℕ, ◌/◌, ◌%◌, List, ◌∷◌, take, Option, Some, None}
use Rattle.std.specs.List.{flat_map}
use Rattle.std.specs.Fmt.{decimal}
use Rattle.streams.specs.declared.Failure.{Failure}

-- a packet behind its length, "in two bytes" (docs/CONVERT.md), the low one first: the first n bytes of what is held
abbrev pub framed : ℕ → List ℕ → List ℕ
framed n held = n % 256 ∷ n / 256 ∷ take n held

-- each byte as a number behind a space
abbrev pub spaced : List ℕ → List ℕ
spaced s = flat_map (λ x. 32 ∷ decimal x) s

-- what a program tells in words is told as it is; of what the system says no contract knows the words
abbrev pub told_text : Failure → Option (List ℕ)
told_text (Failure.Told w) = Some w.now
told_text (Failure.Input e) = None
told_text (Failure.Output e) = None
