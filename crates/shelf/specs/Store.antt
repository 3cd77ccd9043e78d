-- The lent bytes as a store of the arbitration theory; that they are one is proofs/StoreLaws.antt.
use Rattle.std.specs.Prelude.{◌≡◌, List, ℕ, length}
use Rattle.facts.specs.Limits.{shelf_size}
use Rattle.arbitration.specs.Engine.{Store}
use Rattle.shelf.specs.Shelf.{slot_at, put_slot}

abbrev pub shelf_store : Store
shelf_store = record { Shelf = List ℕ; Ok = λ t. length t ≡ shelf_size; get = slot_at; put = put_slot }
