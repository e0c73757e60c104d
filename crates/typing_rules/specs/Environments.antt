-- What is in scope where a program is typed, and how locals are numbered: parameters first, and then the names of `let`, `alloc` and loops
-- in the order of the text.
use Rattle.std.specs.Prelude.{ℕ, Bool, true, false, ◌||◌, not, List, [], ◌∷◌, ◌++◌, length, filter, Option}
use Rattle.std.specs.List.{list_any, find, position_from}
use Rattle.iv_words.specs.Words.{same_word}
use Rattle.ivory_tree.specs.Syntax.{Word}
use Rattle.area_types.specs.Syntax.{ValueType}
use Rattle.alloc_effects.specs.declared.allowed.Allowed.{Allowed}
use Rattle.source_types.specs.Environments.{Earlier, AreaDeclared, Callee, has_word}

pub record Local : Type 0 where
  pub name : Word
  pub number : ℕ
  pub ty : ValueType

pub record Env : Type 0 where
  pub earlier : Earlier
  -- the names of all areas, imports and procedures of the module
  pub names : List Word
  pub regions : List Word
  pub result : Option ValueType
  pub in_ensures : Bool
  pub allowed : Allowed
  pub scope : List Local
  -- the types of all locals of the procedure so far, by number
  pub locals : List ValueType

abbrev pub local_named : Env → Word → Option Local
local_named env name = find (λ (l : Local). same_word l.name name) env.scope

-- no name of the module, and not in scope
abbrev pub is_free : Env → Word → Bool
is_free env name = not (has_word env.names name || list_any (λ (l : Local). same_word l.name name) env.scope)

-- the number of the next local
abbrev pub next : Env → ℕ
next env = length env.locals

abbrev pub with_local : Env → Word → ValueType → Env
with_local env name t = record env { scope = env.scope ++ record { name = name; number = length env.locals; ty = t } ∷ []; locals = env.locals ++ t ∷ [] }

-- after a block the names in scope are those before it; its locals keep their numbers
abbrev pub after_block : (before last : Env) → Env
after_block before last = record before { locals = last.locals }

-- areas, imports and procedures are numbered in order of declaration

abbrev pub area_number : Earlier → Word → Option ℕ
area_number earlier name = position_from (λ (a : AreaDeclared). same_word a.name name) 0 earlier.areas

abbrev pub is_import : Callee → Bool
is_import c = c.import

abbrev pub is_procedure : Callee → Bool
is_procedure c = not c.import

abbrev pub of_kind : (import : Bool) → List Callee → List Callee
of_kind true callees = filter is_import callees
of_kind false callees = filter is_procedure callees

abbrev pub callee_number : Earlier → Callee → Option ℕ
callee_number earlier c = position_from (λ (d : Callee). same_word d.name c.name) 0 (of_kind c.import earlier.callees)
