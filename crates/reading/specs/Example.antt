-- A small grammar, to show the rest at work: nested lists of names and numbers.
--     value = NAME | NUMBER | "-" NUMBER | "-" value | "[" [ value { "," value } ] "]"
-- A "-" before a number is its sign. A "[" nests from itself to its "]", any other "-" from itself to its operand's end.
use Rattle.std.specs.Prelude.{◌≡◌, ℕ, zero, suc, Bool, true, false, List, [], ◌∷◌, ◌++◌, Option, Some, None}
use Rattle.reading.specs.Row.{Row, Signs, tokens, starts}
use Rattle.reading.specs.Language.{Language, Terminal, passing}
use Rattle.reading.specs.Reader.{Reader, ◌<$>◌, accept, after, choose, closed, nested, prefixed, choose_sign, whole}
use Rattle.reading.specs.Exact.{Answer, answer}

pub data Letter : Type 0 where
  Name : ℕ → Letter
  Number : ℕ → Letter
  Minus : Letter
  Comma : Letter
  OpenBracket : Letter
  CloseBracket : Letter

-- a list is a pair of its first value and the others, or nothing
pub data Value : Type 0 where
  Named : ℕ → Value
  Signed : Bool → ℕ → Value
  Negative : Value → Value
  Nothing : Value
  Pair : Value → Value → Value

abbrev pub list_of : List Value → Value
list_of [] = Nothing
list_of (x ∷ xs) = Pair x (list_of xs)

-- ---- tokens

abbrev pub name_of : Letter → Option ℕ
name_of (Name n) = Some n
name_of _ = None

abbrev pub number_of : Letter → Option ℕ
number_of (Number n) = Some n
number_of _ = None

abbrev pub is_name : Letter → Bool
is_name (Name n) = true
is_name _ = false

abbrev pub is_number : Letter → Bool
is_number (Number n) = true
is_number _ = false

abbrev pub is_minus : Letter → Bool
is_minus Minus = true
is_minus _ = false

abbrev pub is_comma : Letter → Bool
is_comma Comma = true
is_comma _ = false

abbrev pub is_open : Letter → Bool
is_open OpenBracket = true
is_open _ = false

abbrev pub is_close : Letter → Bool
is_close CloseBracket = true
is_close _ = false

abbrev pub signs : Signs Letter
signs = record { sign = is_minus; number = is_number }

-- ---- what is spelled

pub data Symbol : Type 0 where
  value : Symbol
  values : Symbol

abbrev pub Tree : Symbol → Type 0
Tree value = Value
Tree values = List Value

pub data Spells : (s : Symbol) → Tree s → ℕ → Row Letter → Type 0 where
  named : {n d : ℕ} {f : Row Letter} → Terminal d name_of n f → Spells value (Named n) d f
  positive : {n d : ℕ} {f : Row Letter} → Terminal d number_of n f → Spells value (Signed false n) d f
  signed : {n d : ℕ} {t : Letter} {f g : Row Letter} → Terminal d (passing is_minus) t f → Terminal d number_of n g → Spells value (Signed true n) d (f ++ g)
  negative : {d : ℕ} {t : Letter} {x : Value} {f g : Row Letter} → Terminal (suc d) (passing is_minus) t f → Spells value x (suc d) g → starts is_number (tokens g) ≡ false
      → Spells value (Negative x) d (f ++ g)
  nothing : {d : ℕ} {t u : Letter} {f g : Row Letter} → Terminal (suc d) (passing is_open) t f → Terminal (suc d) (passing is_close) u g → Spells value Nothing d (f ++ g)
  list : {d : ℕ} {t u : Letter} {xs : List Value} {f g h : Row Letter} → Terminal (suc d) (passing is_open) t f → Spells values xs (suc d) g → Terminal (suc d) (passing is_close) u h
      → Spells value (list_of xs) d (f ++ (g ++ h))
  last : {d : ℕ} {x : Value} {f : Row Letter} → Spells value x d f → Spells values (x ∷ []) d f
  next : {d : ℕ} {t : Letter} {x : Value} {xs : List Value} {f g h : Row Letter} → Spells value x d f → Terminal d (passing is_comma) t g → Spells values xs d h
      → Spells values (x ∷ xs) d (f ++ (g ++ h))

-- a text is a value that nothing encloses
abbrev pub Text : Language Letter Value
Text x row = Spells value x 0 row

-- ---- how it is read

abbrev pub token : (Letter → Bool) → Reader Letter Letter
token test = accept (passing test)

-- the values between brackets, with the closing one
abbrev pub items : Option (Reader Letter Value) → Option (Letter → Reader Letter Value)
items None = None
items (Some inner) = Some (λ _. (λ (p : List Value × Letter). list_of p.0) <$> closed is_close (token is_close) is_comma (token is_comma) inner)

-- over the reader of a value one level deeper, if there is one
abbrev pub operand_with : Option (Reader Letter Value) → Reader Letter Value
operand_with inner =
    choose is_minus (Signed true <$> after (token is_minus) (accept number_of))
    (choose is_number (Signed false <$> accept number_of)
    (choose is_name (Named <$> accept name_of)
    (nested (passing is_open) (items inner))))

abbrev pub read_with : Option (Reader Letter Value) → Reader Letter Value
read_with inner = choose_sign signs (prefixed (passing is_minus) (λ x _. Negative x) inner) (operand_with inner)

-- with so many levels left to nest
unfoldable pub read : ℕ → Reader Letter Value
read zero = read_with None
read (suc k) = read_with (Some (read k))

abbrev pub parse : ℕ → List Letter → Answer Value
parse limit ts = answer ts (whole (read limit) ts)
