-- Initializers of areas: one expression for a stored value, braces for an array or struct with at most as many elements as places.
use Rattle.std.specs.Prelude.{◌≡◌, ℕ, suc, ◌*◌, ◌-◌, ℤ, pos, int_le, Bool, true, false, ◌&&◌, List, [], ◌∷◌, ◌++◌, replicate, Some, slice_get}
use Rattle.iv_words.specs.declared.Span.{Span}
use Rattle.ivory_tree.specs.Syntax as syntax
use Rattle.ivory_tree.specs.Syntax.{ExprSyntax, Literal, Truth, Outcome, Variable, Cast, ToIndex, WrapIndex, MakeBits, Raw, SetField, Prefix, Binary, Field, Element, Cond, Bare, InitSyntax, InitsSyntax}
use Rattle.type_trees.specs.Trees as trees
use Rattle.type_trees.specs.Trees.{count, count_row}
use Rattle.area_types.specs.Syntax.{ValueType, Area, Stored, Array, Struct, StructType}
use Rattle.area_types.specs.Syntax as types
use Rattle.area_types.specs.Trees.{Written, WrittenRow}
use Rattle.core_tree.specs.Syntax as core
use Rattle.core_tree.specs.Syntax.{ExprCore, InitCore, InitsCore}
use Rattle.typing_rules.specs.Environments.{Env}
use Rattle.typing_rules.specs.Expressions.{Under}

mutual
  pub data Fills : Env → Area → InitSyntax → InitCore → Type 0 where
    stored : {env : Env} {t : ValueType} {e : ExprSyntax} {c : ExprCore} → Under env t e c → Fills env (Stored t) (syntax.One e) (core.One c)
    array : {env : Env} {n : ℕ} {element : Area} {s : Span} {inits : InitsSyntax} {cs : InitsCore} → FillElements env n element inits cs → Fills env (Array n element) (syntax.Many s inits) (core.Many cs)
    struct : {env : Env} {k : ℕ} {struct_type : StructType} {s : Span} {inits : InitsSyntax} {cs : InitsCore} → slice_get env.earlier.structs k ≡ Some struct_type → FillFields env struct_type.fields inits cs
        → Fills env (Struct k) (syntax.Many s inits) (core.Many cs)

  -- the first so many elements
  pub data FillElements : Env → ℕ → Area → InitsSyntax → InitsCore → Type 0 where
    no_elements : {env : Env} {n : ℕ} {element : Area} → FillElements env n element syntax.NoInits core.NoInits
    more_elements : {env : Env} {n : ℕ} {element : Area} {i : InitSyntax} {is : InitsSyntax} {c : InitCore} {cs : InitsCore} → Fills env element i c → FillElements env n element is cs
        → FillElements env (suc n) element (syntax.MoreInits i is) (core.MoreInits c cs)

  -- the fields in order
  pub data FillFields : Env → List types.Field → InitsSyntax → InitsCore → Type 0 where
    no_fields : {env : Env} {fields : List types.Field} → FillFields env fields syntax.NoInits core.NoInits
    more_fields : {env : Env} {f : types.Field} {fields : List types.Field} {i : InitSyntax} {is : InitsSyntax} {c : InitCore} {cs : InitsCore} → Fills env f.area i c → FillFields env fields is cs
        → FillFields env (f ∷ fields) (syntax.MoreInits i is) (core.MoreInits c cs)

-- ---- areas of the module

-- a number without a minus
abbrev pub is_number : ExprSyntax → Bool
is_number (Literal s value) = int_le (pos 0) value
is_number (Truth s value) = false
is_number (Outcome s) = false
is_number (Variable s name) = false
is_number (Cast s kind e) = false
is_number (ToIndex s n e) = false
is_number (WrapIndex s n e) = false
is_number (MakeBits s name e) = false
is_number (Raw s e) = false
is_number (SetField s e field value) = false
is_number (Prefix s op e) = false
is_number (Binary s op at left right) = false
is_number (Field s e field) = false
is_number (Element s brackets e index) = false
is_number (Cond s test first second) = false
is_number (Bare s e) = false

-- a cell is a NUM, `-` NUM, `true`, `false` or `bits` of a NUM
abbrev pub is_constant : ExprSyntax → Bool
is_constant (Literal s value) = true
is_constant (Truth s value) = true
is_constant (MakeBits s name e) = is_number e
is_constant (Outcome s) = false
is_constant (Variable s name) = false
is_constant (Cast s kind e) = false
is_constant (ToIndex s n e) = false
is_constant (WrapIndex s n e) = false
is_constant (Raw s e) = false
is_constant (SetField s e field value) = false
is_constant (Prefix s op e) = false
is_constant (Binary s op at left right) = false
is_constant (Field s e field) = false
is_constant (Element s brackets e index) = false
is_constant (Cond s test first second) = false
is_constant (Bare s e) = false

abbrev mutual
  pub has_constants : InitSyntax → Bool
  has_constants (syntax.One e) = is_constant e
  has_constants (syntax.Many s inits) = have_constants inits

  pub have_constants : InitsSyntax → Bool
  have_constants syntax.NoInits = true
  have_constants (syntax.MoreInits i is) = has_constants i && have_constants is

abbrev pub constant_of : ExprCore → ℤ
constant_of (core.Number label value) = value
constant_of (core.MakeBits label e) = constant_of e
constant_of (core.Outcome l) = pos 0
constant_of (core.Local l number) = pos 0
constant_of (core.AreaName l number) = pos 0
constant_of (core.Cast l e) = pos 0
constant_of (core.ToIndex l e) = pos 0
constant_of (core.WrapIndex l e) = pos 0
constant_of (core.Raw l e) = pos 0
constant_of (core.SetField l e field value) = pos 0
constant_of (core.Prefix l op e) = pos 0
constant_of (core.Binary l op left right) = pos 0
constant_of (core.Field l e field) = pos 0
constant_of (core.Element l e index) = pos 0
constant_of (core.Cond l test first second) = pos 0
constant_of (core.Whole l e) = pos 0

abbrev pub zeros : ℕ → List ℤ
zeros n = replicate n (pos 0)

-- the first values of the cells of an area; missing elements are zero
abbrev mutual
  pub cell_values : Written → InitCore → List ℤ
  cell_values area (core.One c) = constant_of c ∷ []
  cell_values (trees.Leaf t) (core.Many cs) = []
  cell_values (trees.Many n element) (core.Many cs) = element_values n element cs
  cell_values (trees.Struct k fields) (core.Many cs) = field_values fields cs

  pub element_values : ℕ → Written → InitsCore → List ℤ
  element_values n element core.NoInits = zeros (n * count element)
  element_values n element (core.MoreInits c cs) = cell_values element c ++ element_values (n - 1) element cs

  pub field_values : WrittenRow → InitsCore → List ℤ
  field_values fields core.NoInits = zeros (count_row fields)
  field_values trees.End (core.MoreInits c cs) = []
  field_values (trees.Field i a fields) (core.MoreInits c cs) = cell_values a c ++ field_values fields cs
