-- When an expression of a core is well typed: its type comes from its parts, and its checks are those of the table of operators.
use Rattle.std.specs.Prelude.{◌≡◌, ◌⊎◌, ℕ, ℤ, Bool, ◌||◌, not, List, [], map, Contains, slice_get, Some, IsTrue}
use Rattle.iv_words.specs.declared.Span.{Span}
use Rattle.iv_words.specs.declared.kind.IntKind.{IntKind}
use Rattle.ivory_tree.specs.declared.expr.PrefixOp.{PrefixOp}
use Rattle.ivory_tree.specs.declared.expr.PrefixOp.TheVariants as prefix
use Rattle.ivory_tree.specs.declared.expr.BinOp.{BinOp}
use Rattle.area_types.specs.Syntax as types
use Rattle.area_types.specs.Syntax.{ValueType, Truth, Int, Ix, Bits, Ref, Area}
use Rattle.area_types.specs.Tables.{is_length}
use Rattle.area_types.specs.declared.region.Region.{Region}
use Rattle.area_types.specs.declared.region.Region.TheVariants.{Global}
use Rattle.bit_data.specs.declared.layout.FieldBits.{FieldBits}
use Rattle.bit_data.specs.declared.layout.BitLayout.{BitLayout}
use Rattle.core_tree.specs.declared.check.SiteKind.{SiteKind}
use Rattle.core_tree.specs.declared.check.Check.{Check}
use Rattle.core_tree.specs.Syntax.{Label, ExprCore, Number, Outcome, Local, AreaName, Cast, ToIndex, WrapIndex, MakeBits, Raw, SetField, Prefix, Binary, Field, Element, Cond, Whole, AreaCore, type_of}
use Rattle.core_tree.specs.Types.{is_type, is_value}
use Rattle.source_types.specs.Operators.{is_for, prefix_is_for}
use Rattle.source_types.specs.Values.{is_index_type, is_integer, is_plain, is_reference}
use Rattle.core_tree.specs.Operators.{prefix_sites, result_type, operator_sites, cast_sites, indexing_sites, field_type, set_sites}
use Rattle.core_tree.specs.Settled.{is_settled, are_settled, is_operated}
use Rattle.core_tree.specs.Environments.{Env, bit_field, struct_field}

-- checks of these kinds in order, all at one token
pub record Checked (checks : List Check) (kinds : List SiteKind) : Type 0 where
  pub of_kinds : map (λ c. c.kind) checks ≡ kinds
  pub token : Span
  pub together : map (λ c. c.span) checks ≡ map (λ k. token) kinds

-- ---- a record for each form, over the types of its parts

-- a truth, an integer or an index
pub record NumberTyped (env : Env) (l : Label) (value : ℤ) : Type 0 where
  pub form : IsTrue (is_plain l.ty || is_index_type l.ty)
  pub type : IsTrue (is_type env.core.structs 0 l.ty)
  pub holds : IsTrue (is_value env.core.structs l.ty value)
  pub unchecked : l.checks ≡ []

pub record OutcomeTyped (env : Env) (l : Label) : Type 0 where
  pub outcome : env.outcome ≡ Some l.ty
  pub unchecked : l.checks ≡ []

pub record LocalTyped (env : Env) (scope : List ℕ) (l : Label) (number : ℕ) : Type 0 where
  pub in_scope : Contains scope number
  pub type : slice_get env.locals number ≡ Some l.ty
  pub unchecked : l.checks ≡ []

-- a reference to an area of the module, const to a const one
pub record AreaNameTyped (env : Env) (l : Label) (number : ℕ) : Type 0 where
  pub area : AreaCore
  pub found : slice_get env.core.areas number ≡ Some area
  pub type : l.ty ≡ Ref area.constant Global area.area
  pub unchecked : l.checks ≡ []

-- `T(e)`
pub record CastTyped (l : Label) (from : ValueType) : Type 0 where
  pub kind : IntKind
  pub type : l.ty ≡ Int kind
  pub operand : IsTrue (is_integer from || is_index_type from)
  pub checked : Checked l.checks (cast_sites kind from)

-- `toix(N, e)`
pub record ToIndexTyped (l : Label) (from : ValueType) : Type 0 where
  pub length : ℕ
  pub kind : IntKind
  pub type : l.ty ≡ Ix length
  pub in_range : IsTrue (is_length length)
  pub operand : from ≡ Int kind
  pub checked : Checked l.checks (indexing_sites length kind)

-- `wrapix(N, e)`
pub record WrapIndexTyped (l : Label) (from : ValueType) : Type 0 where
  pub length : ℕ
  pub kind : IntKind
  pub type : l.ty ≡ Ix length
  pub in_range : IsTrue (is_length length)
  pub operand : from ≡ Int kind
  pub unchecked : l.checks ≡ []

-- bit data from its word, and the word of bit data
pub record IsWordOf (env : Env) (bits word : ValueType) : Type 0 where
  pub number : ℕ
  pub layout : BitLayout
  pub found : slice_get env.core.layouts number ≡ Some layout
  pub bits_are : bits ≡ Bits number
  pub word_is : word ≡ Int layout.word

-- `set(e, f, value)`
pub record SetFieldTyped (env : Env) (l : Label) (from : ValueType) (field : ℕ) (value : ValueType) : Type 0 where
  pub number : ℕ
  pub bits : FieldBits
  pub operand : from ≡ Bits number
  pub found : bit_field env.core number field ≡ Some bits
  pub type : l.ty ≡ from
  pub value_is : value ≡ field_type bits
  pub checked : Checked l.checks (set_sites bits)

-- `*e`: what is stored in an area
pub record DerefTyped (l : Label) (from : ValueType) : Type 0 where
  pub constant : Bool
  pub region : Region
  pub operand : from ≡ Ref constant region (types.Stored l.ty)
  pub unchecked : l.checks ≡ []

-- `-e`, `!e`, `~e`
pub record PrefixTyped (l : Label) (op : PrefixOp) (from : ValueType) : Type 0 where
  pub is_for : IsTrue (prefix_is_for op from)
  pub type : l.ty ≡ from
  pub checked : Checked l.checks (prefix_sites op)

-- both operands have one type
pub record BinaryTyped (l : Label) (op : BinOp) (left right : ValueType) : Type 0 where
  pub is_for : IsTrue (is_for op left)
  pub same : right ≡ left
  pub type : l.ty ≡ result_type op left
  pub checked : Checked l.checks (operator_sites op left)

-- a field of bit data
pub record BitFieldTyped (env : Env) (l : Label) (from : ValueType) (field : ℕ) : Type 0 where
  pub number : ℕ
  pub bits : FieldBits
  pub operand : from ≡ Bits number
  pub found : bit_field env.core number field ≡ Some bits
  pub type : l.ty ≡ field_type bits
  pub unchecked : l.checks ≡ []

-- a reference to a field of a struct, with the region and the access of the reference to the struct
pub record StructFieldTyped (env : Env) (l : Label) (from : ValueType) (field : ℕ) : Type 0 where
  pub constant : Bool
  pub region : Region
  pub number : ℕ
  pub area : Area
  pub operand : from ≡ Ref constant region (types.Struct number)
  pub found : struct_field env.core number field ≡ Some area
  pub type : l.ty ≡ Ref constant region area
  pub unchecked : l.checks ≡ []

-- likewise to an element of an array, by an index of its length
pub record ElementTyped (l : Label) (from index : ValueType) : Type 0 where
  pub constant : Bool
  pub region : Region
  pub length : ℕ
  pub element : Area
  pub operand : from ≡ Ref constant region (types.Array length element)
  pub index_is : index ≡ Ix length
  pub type : l.ty ≡ Ref constant region element
  pub unchecked : l.checks ≡ []

-- `test ? first : second`, whose arms are no references
pub record CondTyped (l : Label) (test first second : ValueType) : Type 0 where
  pub test_is : test ≡ Truth
  pub first_is : first ≡ l.ty
  pub second_is : second ≡ l.ty
  pub value : IsTrue (not (is_reference l.ty))
  pub unchecked : l.checks ≡ []

-- a chain or a postfix has the type of its last link or step
pub record WholeTyped (l : Label) (inner : ValueType) : Type 0 where
  pub type : l.ty ≡ inner
  pub unchecked : l.checks ≡ []

-- ---- expressions

-- an operand of `T(e)` without a type of its own is wanted as T
abbrev pub CastSettled : Label → ExprCore → Type 0
CastSettled l e = IsTrue (is_settled e) ⊎ (type_of e ≡ l.ty)

abbrev pub PrefixedTyped : Label → PrefixOp → ValueType → Type 0
PrefixedTyped l prefix.Deref from = DerefTyped l from
PrefixedTyped l op from = PrefixTyped l op from

-- in these surroundings, with these locals in scope
abbrev pub ExprTyped : Env → (scope : List ℕ) → ExprCore → Type 0
ExprTyped env scope (Number l value) = NumberTyped env l value
ExprTyped env scope (Outcome l) = OutcomeTyped env l
ExprTyped env scope (Local l number) = LocalTyped env scope l number
ExprTyped env scope (AreaName l number) = AreaNameTyped env l number
ExprTyped env scope (Cast l e) = ExprTyped env scope e × CastTyped l (type_of e) × CastSettled l e
ExprTyped env scope (ToIndex l e) = ExprTyped env scope e × ToIndexTyped l (type_of e) × IsTrue (is_settled e)
ExprTyped env scope (WrapIndex l e) = ExprTyped env scope e × WrapIndexTyped l (type_of e) × IsTrue (is_settled e)
ExprTyped env scope (MakeBits l e) = ExprTyped env scope e × IsWordOf env l.ty (type_of e) × (l.checks ≡ [])
ExprTyped env scope (Raw l e) = ExprTyped env scope e × IsWordOf env (type_of e) l.ty × (l.checks ≡ [])
ExprTyped env scope (SetField l e field value) = ExprTyped env scope e × ExprTyped env scope value × SetFieldTyped env l (type_of e) field (type_of value)
ExprTyped env scope (Prefix l op e) = ExprTyped env scope e × PrefixedTyped l op (type_of e)
ExprTyped env scope (Binary l op left right) = ExprTyped env scope left × ExprTyped env scope right × BinaryTyped l op (type_of left) (type_of right) × IsTrue (are_settled op left right)
ExprTyped env scope (Field l e field) = ExprTyped env scope e × (BitFieldTyped env l (type_of e) field ⊎ StructFieldTyped env l (type_of e) field)
ExprTyped env scope (Element l e index) = ExprTyped env scope e × ExprTyped env scope index × ElementTyped l (type_of e) (type_of index)
ExprTyped env scope (Cond l test first second) = ExprTyped env scope test × ExprTyped env scope first × ExprTyped env scope second × CondTyped l (type_of test) (type_of first) (type_of second)
ExprTyped env scope (Whole l e) = ExprTyped env scope e × WholeTyped l (type_of e) × IsTrue (is_operated e)

-- an expression of this type
pub record HasType (env : Env) (scope : List ℕ) (e : ExprCore) (ty : ValueType) : Type 0 where
  pub typed : ExprTyped env scope e
  pub type : type_of e ≡ ty
