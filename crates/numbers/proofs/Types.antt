-- The first number told of a good body is its own type byte, since a body that was read is framed by its kind's type in the table.
-- Assumes nothing.
use Prim.Native.Nat.{ℕ}
use mathlib.Core.Path.{◌≡◌, refl, sym, ap, ◌∙◌}
use mathlib.Core.List.{List, [], ◌∷◌, ◌++◌, append_assoc}
use mathlib.Core.Logic.{inl, inr}
use native.Mathlib.Omega.{arith}
use lib.ListN.{length, get_or, set, length-append}
use lib.Seq.{set_at}
use Rattle.editions.specs.declared.Edition.{Edition}
use Rattle.wire.specs.Le.{padded}
use Rattle.wire.proofs.Laws.{length_padded}
use Rattle.kinds.specs.Table.{type_of}
use Rattle.fields.specs.Fields.{body_number, security_of, update_of}
use Rattle.fields.specs.declared.SymbolUpdate.{SymbolUpdate}
use Rattle.fields.specs.declared.Body.{Body}
use Rattle.body.specs.Read.{read_body}
use Rattle.body.proofs.Laws.{Sound, read_sound}
use Rattle.numbers.specs.Numbers.{typed, kind_in, fields_of, text_of}

-- the kind of what was read has the type that the body starts with
pub type_told : (ed : Edition) (m : Body) (b : List ℕ) → Sound ed m b → body_number m ≡ 0 → type_of (kind_in m) ≡ get_or b 0 0
type_told ed (Body.SystemTime n) b s z = sym s.0.type_is
type_told ed (Body.SymbolUpdate m) b s z = sym s.0.type_is
type_told ed (Body.SystemState m) b s z = sym s.0.type_is
type_told ed (Body.TradingStatus m) b s z = sym s.0.type_is
type_told ed (Body.SymbolClear m) b s z = sym s.0.type_is
type_told ed (Body.Add m) b s z = sym s.0.type_is
type_told ed (Body.Modify m) b s z = sym s.0.type_is
type_told ed (Body.Delete m) b s z = sym s.0.type_is
type_told ed (Body.Execution m) b s z = sym s.0.type_is
type_told ed (Body.Trade m) b s z = sym s.0.type_is
type_told ed (Body.TradeCancel m) b s z = sym s.0.type_is
type_told ed (Body.Bad r) b (inl e) z = absurd (omega (arith, e.0))
type_told ed (Body.Bad r) b (inr e) z = absurd (omega (arith, e.0))

-- the first of the eight is the type that they are told with
typed_first : (ed : Edition) (t : ℕ) (m : Body) (b : List ℕ) → get_or (typed ed t m b) 0 0 ≡ t
typed_first ed t (Body.SystemTime n) b = refl
typed_first ed t (Body.SymbolUpdate m) b = refl
typed_first ed t (Body.SystemState m) b = refl
typed_first ed t (Body.TradingStatus m) b = refl
typed_first ed t (Body.SymbolClear m) b = refl
typed_first ed t (Body.Add m) b = refl
typed_first ed t (Body.Modify m) b = refl
typed_first ed t (Body.Delete m) b = refl
typed_first ed t (Body.Execution m) b = refl
typed_first ed t (Body.Trade m) b = refl
typed_first ed t (Body.TradeCancel m) b = refl
typed_first ed t (Body.Bad r) b = refl

-- "The type byte decides the message": what a caller is told is the byte itself
pub type_first : (ed : Edition) (b : List ℕ) → body_number (read_body ed b) ≡ 0 → get_or (fields_of ed (read_body ed b) b) 0 0 ≡ get_or b 0 0
type_first ed b z = typed_first ed (type_of (kind_in (read_body ed b))) (read_body ed b) b ∙ type_told ed (read_body ed b) b (read_sound ed b) z

-- ---- the editions (request 10)
-- of any message but a Symbol Update the numbers are the same in each
pub numbers_alike : (r w : Edition) (t : ℕ) (m : Body) (b : List ℕ) → ((u : SymbolUpdate) → m ≡ Body.SymbolUpdate u → ⊥) → typed r t m b ≡ typed w t m b
numbers_alike r w t (Body.SystemTime n) b e = refl
numbers_alike r w t (Body.SymbolUpdate m) b e = absurd (e m refl)
numbers_alike r w t (Body.SystemState m) b e = refl
numbers_alike r w t (Body.TradingStatus m) b e = refl
numbers_alike r w t (Body.SymbolClear m) b e = refl
numbers_alike r w t (Body.Add m) b e = refl
numbers_alike r w t (Body.Modify m) b e = refl
numbers_alike r w t (Body.Delete m) b e = refl
numbers_alike r w t (Body.Execution m) b e = refl
numbers_alike r w t (Body.Trade m) b e = refl
numbers_alike r w t (Body.TradeCancel m) b e = refl
numbers_alike r w t (Body.Bad f) b e = refl

-- of a Symbol Update all but one, which is byte 20 in 1.3 and 0 in 1.3.b
pub update_numbers : (t : ℕ) (m : SymbolUpdate) (b : List ℕ) → typed Edition.V13 t (Body.SymbolUpdate m) b ≡ set (typed Edition.V13b t (Body.SymbolUpdate m) b) 4 (security_of b)
update_numbers t m b = refl

-- and so with the text: of any other message it is the same in each edition, and of a Symbol Update all but the last byte, which is byte 20 where it is reserved and 0 in 1.3
pub texts_alike : (r w : Edition) (m : Body) (b : List ℕ) → ((u : SymbolUpdate) → m ≡ Body.SymbolUpdate u → ⊥) → text_of r m b ≡ text_of w m b
texts_alike r w (Body.SystemTime n) b e = refl
texts_alike r w (Body.SymbolUpdate m) b e = absurd (e m refl)
texts_alike r w (Body.SystemState m) b e = refl
texts_alike r w (Body.TradingStatus m) b e = refl
texts_alike r w (Body.SymbolClear m) b e = refl
texts_alike r w (Body.Add m) b e = refl
texts_alike r w (Body.Modify m) b e = refl
texts_alike r w (Body.Delete m) b e = refl
texts_alike r w (Body.Execution m) b e = refl
texts_alike r w (Body.Trade m) b e = refl
texts_alike r w (Body.TradeCancel m) b e = refl
texts_alike r w (Body.Bad f) b e = refl

last_set : (p q s : List ℕ) (v : ℕ) → length p ≡ 11 → length q ≡ 8 → length s ≡ 8 → p ++ (q ++ (s ++ (0 ∷ []))) ≡ set (p ++ (q ++ (s ++ (v ∷ [])))) 27 0
last_set p q s v a b c =
    let l : length (p ++ (q ++ s)) ≡ 27 = rw (length-append, length-append) (omega arith) in
    let joined_is : (y : ℕ) → p ++ (q ++ (s ++ (y ∷ []))) ≡ (p ++ (q ++ s)) ++ (y ∷ []) = λ y. rw (append_assoc p (q ++ s) (y ∷ []), append_assoc q s (y ∷ [])) refl in
    joined_is 0 ∙ (sym (set_at (p ++ (q ++ s)) v [] 0 27 l) ∙ ap (λ (z : List ℕ). set z 27 0) (sym (joined_is v)))

pub update_texts : (b : List ℕ) → text_of Edition.V13 (Body.SymbolUpdate (update_of b)) b ≡ set (text_of Edition.V13b (Body.SymbolUpdate (update_of b)) b) 27 0
update_texts b = last_set (padded b 9 11) (padded b 25 8) (padded b 33 8) (security_of b) (length_padded b 9 11) (length_padded b 25 8) (length_padded b 33 8)
