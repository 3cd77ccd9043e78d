-- What a test says that the checker computes of each message in each edition, it says of any: every message has its place in the list of them.
-- Assumes nothing.
use Rattle.std.proofs.Common.{Bool, true, false, ◌&&◌, true≢false, List, [], ◌∷◌, ℕ, ◌<◌, get_or, ◌≡◌, refl, sym, arith, ap, ◌∙◌}
use Rattle.std.specs.List.{list_all}
use Rattle.std.proofs.lemmas.List.Folds.{list_all_at}
use Rattle.editions.specs.declared.Edition.{Edition}
use Rattle.kinds.specs.declared.Kind.{Kind}

abbrev every : List Kind
every =
    Kind.SystemTime ∷ Kind.SymbolUpdate ∷ Kind.SystemState ∷ Kind.TradingStatus ∷ Kind.SymbolClear ∷ Kind.Add ∷ Kind.Modify ∷ Kind.Delete ∷ Kind.Execution ∷ Kind.Trade ∷ Kind.TradeCancel ∷ Kind.Unknown ∷ []

abbrev pub everywhere : (Edition → Kind → Bool) → Bool
everywhere test = list_all (test Edition.V13) every && list_all (test Edition.V13b) every

place : (k : Kind) → (i : ℕ) × (i < 12) × (get_or every i Kind.Unknown ≡ k)
place Kind.SystemTime = (0, omega arith, refl)
place Kind.SymbolUpdate = (1, omega arith, refl)
place Kind.SystemState = (2, omega arith, refl)
place Kind.TradingStatus = (3, omega arith, refl)
place Kind.SymbolClear = (4, omega arith, refl)
place Kind.Add = (5, omega arith, refl)
place Kind.Modify = (6, omega arith, refl)
place Kind.Delete = (7, omega arith, refl)
place Kind.Execution = (8, omega arith, refl)
place Kind.Trade = (9, omega arith, refl)
place Kind.TradeCancel = (10, omega arith, refl)
place Kind.Unknown = (11, omega arith, refl)

and_true : (a b : Bool) → (a && b) ≡ true → (a ≡ true) × (b ≡ true)
and_true true b e = (refl, e)
and_true false b e = absurd (true≢false (sym e))

of_list : (test : Kind → Bool) → list_all test every ≡ true → (k : Kind) → test k ≡ true
of_list test all k = go (test k) refl
  where
    go : (t : Bool) → test k ≡ t → t ≡ true
    go true e = refl
    go false e =
        let p = place k in
        let off : list_all test every ≡ false = list_all_at test every p.0 Kind.Unknown p.1 (ap test p.2 ∙ e) in
        absurd (true≢false (sym all ∙ off))

pub of_any : (test : Edition → Kind → Bool) → everywhere test ≡ true → (ed : Edition) (k : Kind) → test ed k ≡ true
of_any test all Edition.V13 k = of_list (test Edition.V13) (and_true (list_all (test Edition.V13) every) (list_all (test Edition.V13b) every) all).0 k
of_any test all Edition.V13b k = of_list (test Edition.V13b) (and_true (list_all (test Edition.V13) every) (list_all (test Edition.V13b) every) all).1 k
