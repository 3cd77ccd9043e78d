-- The names of the messages, the keys of their fields, and what a field that is left out has (docs/TEXT.md, "Messages").
use Rattle.std.specs.Prelude.{ℕ, Bool, true, false, List, [], ◌∷◌, ◌++◌, get_or, replicate, Option, find, position, bytes_eq, codes}
use Rattle.editions.specs.declared.Edition.{Edition}
use Rattle.kinds.specs.declared.Kind.{Kind}
use Rattle.styles.specs.declared.Style.{Style}
use Rattle.keys.specs.declared.Form.{Form}

-- ---- names
abbrev pub name_of : Kind → List ℕ
name_of Kind.SystemTime = codes "time"
name_of Kind.SymbolUpdate = codes "update"
name_of Kind.SystemState = codes "state"
name_of Kind.TradingStatus = codes "status"
name_of Kind.SymbolClear = codes "clear"
name_of Kind.Add = codes "add"
name_of Kind.Modify = codes "modify"
name_of Kind.Delete = codes "delete"
name_of Kind.Execution = codes "execution"
name_of Kind.Trade = codes "trade"
name_of Kind.TradeCancel = codes "cancel"
name_of Kind.Unknown = []

-- the messages, each of which has a name
abbrev pub kinds : List Kind
kinds =
    Kind.SystemTime ∷ Kind.SymbolUpdate ∷ Kind.SystemState ∷ Kind.TradingStatus ∷ Kind.SymbolClear ∷ Kind.Add ∷ Kind.Modify ∷ Kind.Delete ∷ Kind.Execution ∷ Kind.Trade ∷ Kind.TradeCancel ∷ []

-- the message of a name
abbrev pub kind_named : List ℕ → Option Kind
kind_named s = find (λ k. bytes_eq (name_of k) s) kinds

-- ---- keys
-- a field as a line has it: its key, and where it lies in the body, how its value is written, and whether it has to be
pub record Entry : Type 0 where
  pub key : List ℕ
  pub form : Form

abbrev pub entry : List ℕ → ℕ → ℕ → Style → Bool → Entry
entry key at width style needed = record { key = key; form = record { at = at; width = width; style = style; needed = needed } }

-- "A field without a default has to be written", any other may be left out
abbrev pub must : Bool
must = true

abbrev pub may : Bool
may = false

-- byte 20 of a Symbol Update: "`type`, in 1.3 alone", "`reserved20`, in 1.3.a and 1.3.b"
abbrev pub byte20 : Edition → Entry
byte20 Edition.V13 = entry (codes "type") 20 1 Style.Text may
byte20 Edition.V13b = entry (codes "reserved20") 20 1 Style.Number may

-- the fields of a message, in the order of the table, which is that of their bytes
abbrev pub entries_of : Edition → Kind → List Entry
entries_of ed Kind.SystemTime =
    entry (codes "second") 1 4 Style.Clock must ∷
    []
entries_of ed Kind.SymbolUpdate =
    entry (codes "nanoseconds") 1 4 Style.Number may ∷
    entry (codes "symbol") 5 4 Style.Number must ∷
    entry (codes "ticker") 9 11 Style.Text must ∷
    byte20 ed ∷
    entry (codes "test") 21 1 Style.Text may ∷
    entry (codes "reserved22") 22 1 Style.Number may ∷
    entry (codes "lot") 23 2 Style.Number may ∷
    entry (codes "opening") 25 8 Style.Text may ∷
    entry (codes "closing") 33 8 Style.Text may ∷
    entry (codes "market") 41 1 Style.Text may ∷
    []
entries_of ed Kind.SystemState =
    entry (codes "nanoseconds") 1 4 Style.Number may ∷
    entry (codes "version") 5 8 Style.Text may ∷
    entry (codes "session") 13 1 Style.Number may ∷
    entry (codes "status") 14 1 Style.Text must ∷
    []
entries_of ed Kind.TradingStatus =
    entry (codes "nanoseconds") 1 4 Style.Number may ∷
    entry (codes "symbol") 5 4 Style.Number must ∷
    entry (codes "trading") 9 1 Style.Number must ∷
    entry (codes "market") 10 1 Style.Number may ∷
    entry (codes "short") 11 1 Style.Text may ∷
    []
entries_of ed Kind.SymbolClear =
    entry (codes "nanoseconds") 1 4 Style.Number may ∷
    entry (codes "symbol") 5 4 Style.Number must ∷
    []
entries_of ed Kind.Add =
    entry (codes "nanoseconds") 1 4 Style.Number may ∷
    entry (codes "symbol") 5 4 Style.Number must ∷
    entry (codes "order") 9 8 Style.Number must ∷
    entry (codes "side") 17 1 Style.Text must ∷
    entry (codes "price") 18 8 Style.Price must ∷
    entry (codes "size") 26 4 Style.Number must ∷
    entry (codes "attributable") 30 4 Style.Text may ∷
    []
entries_of ed Kind.Modify =
    entry (codes "nanoseconds") 1 4 Style.Number may ∷
    entry (codes "symbol") 5 4 Style.Number must ∷
    entry (codes "order") 9 8 Style.Number must ∷
    entry (codes "price") 17 8 Style.Price must ∷
    entry (codes "size") 25 4 Style.Number must ∷
    entry (codes "flags") 29 1 Style.Number may ∷
    []
entries_of ed Kind.Delete =
    entry (codes "nanoseconds") 1 4 Style.Number may ∷
    entry (codes "symbol") 5 4 Style.Number must ∷
    entry (codes "order") 9 8 Style.Number must ∷
    []
entries_of ed Kind.Execution =
    entry (codes "nanoseconds") 1 4 Style.Number may ∷
    entry (codes "symbol") 5 4 Style.Number must ∷
    entry (codes "order") 9 8 Style.Number must ∷
    entry (codes "trade") 17 8 Style.Number must ∷
    entry (codes "price") 25 8 Style.Price must ∷
    entry (codes "size") 33 4 Style.Number must ∷
    entry (codes "flags") 37 1 Style.Number may ∷
    []
entries_of ed Kind.Trade =
    entry (codes "nanoseconds") 1 4 Style.Number may ∷
    entry (codes "symbol") 5 4 Style.Number must ∷
    entry (codes "trade") 9 8 Style.Number must ∷
    entry (codes "correction") 17 1 Style.Number may ∷
    entry (codes "price") 18 8 Style.Price must ∷
    entry (codes "size") 26 4 Style.Number must ∷
    entry (codes "flags") 30 1 Style.Number may ∷
    []
entries_of ed Kind.TradeCancel =
    entry (codes "nanoseconds") 1 4 Style.Number may ∷
    entry (codes "symbol") 5 4 Style.Number must ∷
    entry (codes "trade") 9 8 Style.Number must ∷
    entry (codes "correction") 17 1 Style.Number may ∷
    entry (codes "price") 18 8 Style.Price must ∷
    entry (codes "size") 26 4 Style.Number must ∷
    []
entries_of ed Kind.Unknown = []

-- of a place behind the last field
abbrev pub no_entry : Entry
no_entry = entry [] 0 0 Style.Number may

abbrev pub key_at : Edition → Kind → ℕ → List ℕ
key_at ed k i = (get_or (entries_of ed k) i no_entry).key

abbrev pub form_at : Edition → Kind → ℕ → Form
form_at ed k i = (get_or (entries_of ed k) i no_entry).form

-- which field of the message has a key
abbrev pub key_named : Edition → Kind → List ℕ → Option ℕ
key_named ed k s = position (λ f. bytes_eq f.key s) (entries_of ed k)

-- ---- what fields that are left out have
-- "`type`: `E`", "`reserved20`: 0"
abbrev pub blank20 : Edition → ℕ
blank20 Edition.V13 = 69
blank20 Edition.V13b = 0

abbrev pub zeros : ℕ → List ℕ
zeros n = replicate n 0

abbrev pub spaces : ℕ → List ℕ
spaces n = replicate n 32

-- the body of a message whose fields are all left out (those that have to be written are zeros, and a ticker spaces), with zeros behind it up to the 42 bytes of the longest
unfoldable pub blank_body : Edition → Kind → List ℕ
-- test N, lot 100, opening 09:30:00, closing 16:00:00, market H
blank_body ed Kind.SymbolUpdate = 1 ∷ (zeros 8 ++ (spaces 11 ++ (blank20 ed ∷ 78 ∷ 0 ∷ 100 ∷ 0 ∷ codes "09:30:0016:00:00H")))
-- version DoM1.3 and two spaces, session 1
blank_body ed Kind.SystemState = 83 ∷ (zeros 4 ++ (codes "DoM1.3  " ++ (1 ∷ zeros 28)))
-- market 3, short N
blank_body ed Kind.TradingStatus = 4 ∷ (zeros 9 ++ (3 ∷ 78 ∷ zeros 30))
-- attributable spaces
blank_body ed Kind.Add = 20 ∷ (zeros 29 ++ (spaces 4 ++ zeros 8))
-- all others zeros
blank_body ed Kind.SystemTime = 49 ∷ zeros 41
blank_body ed Kind.SymbolClear = 5 ∷ zeros 41
blank_body ed Kind.Modify = 21 ∷ zeros 41
blank_body ed Kind.Delete = 23 ∷ zeros 41
blank_body ed Kind.Execution = 24 ∷ zeros 41
blank_body ed Kind.Trade = 10 ∷ zeros 41
blank_body ed Kind.TradeCancel = 11 ∷ zeros 41
blank_body ed Kind.Unknown = 0 ∷ zeros 41
