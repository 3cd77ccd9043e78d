-- Which field of a body is out of range: a range is a test beside its field, and the first field whose test fails gives the offset of its first byte.
use Rattle.std.specs.Prelude.{ℕ, ◌+◌, List, [], ◌∷◌, Bool, true}
use Rattle.facts.specs.Pick.{pick}
use Rattle.editions.specs.declared.Edition.{Edition}
use Rattle.kinds.specs.declared.Kind.{Kind}
use Rattle.layout.specs.Shape.{Shape, width, Value, Values}
use Rattle.layout.specs.Layout.{shapes, fields_in}
use Rattle.body.specs.Ranges.{nanos_ok, side_ok, price_ok, size_ok, security_ok, test_ok, market_ok}

-- a test for each field of a run
abbrev pub Tests : List Shape → Type 0
Tests [] = Unit {0}
Tests (s ∷ ss) = (Value s → Bool) × Tests ss

-- "Nothing else is judged"
abbrev pub any : {A : Type 0} → A → Bool
any v = true

-- the fields of each kind in their order (layout/Layout has their names); "The price and size ranges hold in all eleven messages"; the nanoseconds have theirs "in every message that
-- carries the field", and a System Time's seconds are none
abbrev pub tests : (ed : Edition) (k : Kind) → Tests (shapes k)
tests ed Kind.SystemTime = (any, tt)
tests ed Kind.SymbolUpdate = (nanos_ok, (any, (any, (security_ok ed, (test_ok, (any, (any, (any, (any, (market_ok, tt))))))))))
tests ed Kind.SystemState = (nanos_ok, (any, (any, (any, tt))))
tests ed Kind.TradingStatus = (nanos_ok, (any, (any, (any, (any, tt)))))
tests ed Kind.SymbolClear = (nanos_ok, (any, tt))
tests ed Kind.Add = (nanos_ok, (any, (any, (side_ok, (price_ok, (size_ok, (any, tt)))))))
tests ed Kind.Modify = (nanos_ok, (any, (any, (price_ok, (size_ok, (any, tt))))))
tests ed Kind.Delete = (nanos_ok, (any, (any, tt)))
tests ed Kind.Execution = (nanos_ok, (any, (any, (any, (price_ok, (size_ok, (any, tt)))))))
tests ed Kind.Trade = (nanos_ok, (any, (any, (any, (price_ok, (size_ok, (any, tt)))))))
tests ed Kind.TradeCancel = (nanos_ok, (any, (any, (any, (price_ok, (size_ok, tt))))))
tests ed Kind.Unknown = tt

-- the offset of the first field whose test fails, the first of them lying at `at`; 0 for none
unfoldable pub fault_from : (ss : List Shape) → Tests ss → Values ss → ℕ → ℕ
fault_from [] ts vs at = 0
fault_from (s ∷ ss) ts vs at = pick (ts.0 vs.0) (fault_from ss ts.1 vs.1 (at + width s)) at

-- of a body, whose fields lie behind its type byte, so that none starts at 0
unfoldable pub fault_of : Edition → Kind → List ℕ → ℕ
fault_of ed k b = fault_from (shapes k) (tests ed k) (fields_in k b) 1
