-- How what a module declares is named in C. What the outside sees, the parameters and the structs keep their names behind `iv_`; array
-- types are `iva_` and a number, and all names that a function's body declares `ivt_` and a number. The prefixes differ before their last
-- letter and numerals are injective, so no two names of different things of one function are alike.
use Rattle.std.specs.Prelude.{◌≡◌, ◌≢◌, ℕ, zero, suc, ◌+◌, ◌/◌, ◌%◌, nat_lt, if◌then◌else◌, List, [], ◌∷◌, ◌++◌, codes}
use Rattle.c_ast.specs.Names.{prefixed}
use Rattle.c_ast.specs.Syntax.{Name}

-- at most so many of a number's last digits, and `more` behind them
abbrev pub last_digits : ℕ → ℕ → List ℕ → List ℕ
last_digits zero n more = more
last_digits (suc k) n more = if nat_lt n 10 then (48 + n) ∷ more else last_digits k (n / 10) ((48 + n % 10) ∷ more)

-- all its digits: it has no more than it counts
abbrev pub numeral : ℕ → List ℕ
numeral n = last_digits (suc n) n []

-- an area, import, procedure, struct, field or parameter of that name
abbrev pub item_name : Name → Name
item_name name = prefixed name

-- the array type of that number, counted from 0 through the module
abbrev pub array_name : ℕ → Name
array_name k = codes "iva_" ++ numeral k

-- the one member of an array type
abbrev pub elements_name : Name
elements_name = codes "at"

-- a local of that number that is no parameter; temporaries have the numbers after those of all locals
abbrev pub local_name : ℕ → Name
local_name k = codes "ivt_" ++ numeral k

-- ---- names of different things

abbrev pub LocalsDiffer : Type 0
LocalsDiffer = (j k : ℕ) → local_name j ≡ local_name k → j ≡ k

abbrev pub ArraysDiffer : Type 0
ArraysDiffer = (j k : ℕ) → array_name j ≡ array_name k → j ≡ k

abbrev pub ItemsDiffer : Type 0
ItemsDiffer = (first second : Name) → item_name first ≡ item_name second → first ≡ second

-- what has its own name is no local and no array type
abbrev pub ItemsStandApart : Type 0
ItemsStandApart = (name : Name) (j : ℕ) → (item_name name ≢ local_name j) × (item_name name ≢ array_name j)
