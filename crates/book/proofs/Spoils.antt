-- No message spoils a row: what it puts is an Add's or a Modify's row, in range by the reading of its body, or one with fewer shares, or all zero.
-- Assumes nothing.
use mathlib.Core.Path.{◌≡◌, refl, sym, ap, subst, ◌∙◌}
use mathlib.Core.List.{List}
use mathlib.Core.Logic.{inl, inr, ⊎_elim}
use Prim.Native.Nat.{ℕ, ◌≤◌}
use native.Mathlib.Decide.{ℕ_discrete}
use Rattle.editions.specs.declared.Edition.{Edition}
use Rattle.wire.specs.Le.{Bytes}
use Rattle.fields.specs.declared.Body.{Body}
use Rattle.body.specs.Read.{read_body}
use Rattle.body.proofs.Laws.{read_sound}
use Rattle.rows.specs.Rows.{rows, zero_row, live}
use Rattle.rows.specs.Tidy.{Unspoiled}
use Rattle.rows.proofs.Judged.{zero_free}
use Rattle.orders.specs.Work.{moves, remade, reduced}
use Rattle.orders.proofs.Applied.{row}
use Rattle.orders.proofs.Spoils.{Sane, sane_unspoiled, unspoiled_sane, add_sane, named_sane, clear_sane, reduced_sane}
use Rattle.book.specs.Plan.{row_for}
use Rattle.book.specs.Book.{Book, applied}
use Rattle.book.proofs.Steps.{broken_keeps, Names, orders_named}
use Rattle.book.proofs.Theorems.{row_live, add_entered, modify_done, modify_live, delete_done, execution_done, clear_done}

module _ (ed : Edition) (n : ℕ) (b : List ℕ) (k : Book) (ranked : 1 ≤ n) (bytes : Bytes b) where
  sane_by : (m : Body) (s : ℕ) → Names m s → read_body ed b ≡ m → (applied ed n b k).rule ≡ 0 → (j : ℕ) → Sane (row k.orders j) → Sane (row (applied ed n b k).after.orders j)
  sane_by (Body.SystemTime _) s x e z j h = elim x [ ]
  sane_by (Body.SymbolUpdate _) s x e z j h = elim x [ ]
  sane_by (Body.SystemState _) s x e z j h = elim x [ ]
  sane_by (Body.TradingStatus _) s x e z j h = elim x [ ]
  sane_by (Body.Trade _) s x e z j h = elim x [ ]
  sane_by (Body.TradeCancel _) s x e z j h = elim x [ ]
  sane_by (Body.Bad _) s x e z j h = elim x [ ]
  sane_by (Body.SymbolClear m) s x e z j h = subst (λ t. Sane (row t j)) (sym (clear_done ed m n b k e z)) (clear_sane k.orders j h m.symbol)
  sane_by (Body.Add m) s x e z j h = add_sane k.orders j h (row_for m n) (applied ed n b k).after.orders (add_entered ed m n b k e z) (row_live ed m n b bytes ranked (rw e at (read_sound ed b)))
  sane_by (Body.Modify m) s x e z j h =
      let d = modify_done ed m n b k e z in
      named_sane k.orders j h m.order m.symbol (remade m.price m.size (moves m.flags) n) (applied ed n b k).after.orders d
      (inl (ap live (sym d.became.here) ∙ modify_live ed m n b k e z bytes ranked))
  sane_by (Body.Delete m) s x e z j h = named_sane k.orders j h m.order m.symbol (λ r. zero_row) (applied ed n b k).after.orders (delete_done ed m n b k e z) (inr zero_free)
  sane_by (Body.Execution m) s x e z j h =
      let d = execution_done ed m n b k e z in
      named_sane k.orders j h m.order m.symbol (reduced m.size) (applied ed n b k).after.orders d (reduced_sane m.size (row k.orders d.place) d.was_live)

  -- a live or a free row is live or free afterwards
  pub stays_sane : (j : ℕ) → Sane (row k.orders j) → Sane (row (applied ed n b k).after.orders j)
  stays_sane j h = go (ℕ_discrete (applied ed n b k).rule 0)
    where
      go : Dec ((applied ed n b k).rule ≡ 0) → Sane (row (applied ed n b k).after.orders j)
      go (yes z) = ⊎_elim (λ x. sane_by (read_body ed b) x.0 x.1 refl z j h) (λ e. subst (λ t. Sane (row t j)) (sym e) h) (orders_named ed n b k)
      go (no x) = subst (λ (u : Book). Sane (row u.orders j)) (sym (broken_keeps ed n b k x)) h

  -- so a row that is not spoiled never becomes so
  pub unspoiled_kept : Unspoiled (rows k.orders) → Unspoiled (rows (applied ed n b k).after.orders)
  unspoiled_kept h j = sane_unspoiled (row (applied ed n b k).after.orders j) (stays_sane j (unspoiled_sane (row k.orders j) (h j)))
