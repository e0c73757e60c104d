-- Small units, and exactly which fault they have first: examples that hold the rules fast.
use Rattle.std.specs.Prelude.{◌≡◌, ℕ, List, [], ◌∷◌, Option, Some, None, codes, false}
use Rattle.iv_words.specs.declared.IntKind.TheVariants.{U8}
use Rattle.c_ast.specs.declared.types.Target.TheVariants.{T32}
use Rattle.c_ast.specs.declared.types.CScalar.TheVariants.{Int}
use Rattle.c_ast.specs.declared.types.CBase.{CBase}
use Rattle.c_ast.specs.declared.types.CBase.TheVariants as base
use Rattle.c_ast.specs.declared.types.CType.TheVariants.{Value, Pointer}
use Rattle.c_ast.specs.declared.expr.CBinary.TheVariants.{Add}
use Rattle.c_ast.specs.declared.expr.Suffix.TheVariants.{Plain}
use Rattle.c_ast.specs.declared.unit.CStruct.{CStruct}
use Rattle.c_ast.specs.Examples.{procedure, unit_with}
use Rattle.c_ast.specs.Syntax.{Name, Expr, Number, Read, Address, Binary, Cast, Var, Member, Element, One, Zero, Many, NoInits, MoreInits, Stmt, Const, Object, Assign, Forever, Break, Return, Block, Call, Nil, Cons}
use Rattle.c_text.specs.declared.fault.CFault.{CFault}
use Rattle.c_text.specs.declared.fault.CWhy.{CWhy}
use Rattle.c_text.specs.declared.fault.CWhy.TheVariants.{BadName, BadType}
use Rattle.c_text.specs.UnitRules.{unit_demands}
use Rattle.c_text.specs.FirstFault.{first_fault}

-- the first fault of `void iv_a(void) { .. }` behind the three fixed lines, whose first statement stands at byte 95
abbrev pub fault_in : List Stmt → Option CFault
fault_in body = first_fault (unit_demands T32 (unit_with [] (procedure false (codes "iv_a") body ∷ [])))

-- and the same behind `struct iv_P {`, `  uint8_t iv_x;`, `  uint8_t iv_r[2];` and `};`, of 52 bytes
abbrev pub point : CBase
point = base.Struct (codes "iv_P")

abbrev pub points : CStruct
points = record {
  name = codes "iv_P";
  members =
      record { name = codes "iv_x"; base = base.Scalar (Int U8); length = None } ∷
      record { name = codes "iv_r"; base = base.Scalar (Int U8); length = Some 2 } ∷ [];
}

abbrev pub fault_with_struct : List Stmt → Option CFault
fault_with_struct body = first_fault (unit_demands T32 (record { structs = points ∷ []; externs = []; objects = []; functions = procedure false (codes "iv_a") body ∷ [] }))

abbrev pub bad : ℕ → CWhy → Option CFault
bad at why = Some (record { at = at; why = why })

abbrev pub x : Name
x = codes "x"

abbrev pub one : Expr
one = Number 1 Plain

abbrev pub calling : Name → Stmt
calling name = Call (record { name = name; args = [] })

-- `uint8_t x = 1;`
abbrev pub byte_x : Stmt
byte_x = Object x (base.Scalar (Int U8)) (Some (One one))

-- `uint8_t const x = 1;`
abbrev pub const_x : Stmt
const_x = Const x (Value (Int U8)) one

-- `struct iv_P x;`
abbrev pub point_x : Stmt
point_x = Object x point None

pub record FaultExamples : Type 0 where
  pub none : fault_in (byte_x ∷ Assign (Var x) (Read (Var x)) ∷ Forever (Cons Break Nil) ∷ []) ≡ None
  pub unknown_call : fault_in (calling (codes "iv_b") ∷ []) ≡ bad 95 BadName
  pub own_call : fault_in (calling (codes "iv_a") ∷ []) ≡ bad 95 BadName
  pub break_outside : fault_in (Break ∷ []) ≡ bad 95 BadType
  pub break_behind : fault_in (Forever Nil ∷ Break ∷ []) ≡ bad 112 BadType
  pub in_its_declaration : fault_in (Object x (base.Scalar (Int U8)) (Some (One (Read (Var x)))) ∷ []) ≡ bad 107 BadName
  pub declared_twice : fault_in (byte_x ∷ byte_x ∷ []) ≡ bad 120 BadName
  pub named_as_function : fault_in (Object (codes "iv_a") (base.Scalar (Int U8)) None ∷ []) ≡ bad 103 BadName
  pub gone_with_block : fault_in (Block (Cons byte_x Nil) ∷ Assign (Var x) one ∷ []) ≡ bad 122 BadName
  pub first_of_two : fault_in (Break ∷ calling (codes "iv_b") ∷ []) ≡ bad 95 BadType
  pub value_returned : fault_in (Return (Some one) ∷ []) ≡ bad 95 BadType
  pub no_argument : fault_in (calling (codes "ivory_stop") ∷ []) ≡ bad 95 BadType
  pub const_assigned : fault_in (const_x ∷ Assign (Var x) one ∷ []) ≡ bad 118 BadType
  pub const_address : fault_in (const_x ∷ Const (codes "y") (Pointer false (base.Scalar (Int U8))) (Address (Var x)) ∷ []) ≡ bad 137 BadType
  pub address_of_const_member : fault_in (const_x ∷ Const (codes "y") (Pointer false (base.Scalar (Int U8))) (Address (Member (Var x) (codes "m"))) ∷ []) ≡ bad 139 BadType
  pub pointer_operand : fault_in (byte_x ∷ Assign (Var x) (Binary Add (Address (Var x)) (Read (Var (codes "z")))) ∷ []) ≡ bad 116 BadType
  pub cast_to_unknown : fault_in (byte_x ∷ Const (codes "y") (Pointer false (base.Scalar (Int U8))) (Cast (Pointer false (base.Struct (codes "iv_Q"))) (Address (Var x))) ∷ []) ≡ bad 140 BadName
  pub function_address : fault_in (byte_x ∷ Assign (Var x) (Address (Var (codes "iv_a"))) ∷ []) ≡ bad 116 BadType

pub record StructFaultExamples : Type 0 where
  pub none : fault_with_struct (point_x ∷ Assign (Element (Member (Var x) (codes "iv_r")) one) one ∷ []) ≡ None
  pub unknown_tag : fault_in (point_x ∷ []) ≡ bad 102 BadName
  pub unknown_member : fault_with_struct (point_x ∷ Assign (Member (Var x) (codes "m")) one ∷ []) ≡ bad 166 BadName
  pub struct_assigned : fault_with_struct (point_x ∷ Assign (Var x) one ∷ []) ≡ bad 164 BadType
  pub names_first : fault_with_struct (Object x point (Some (One (Read (Var (codes "y"))))) ∷ []) ≡ bad 163 BadName
  pub braces : fault_with_struct (Object x point (Some (One one)) ∷ []) ≡ bad 163 BadType
  pub too_many : fault_with_struct (Object x point (Some (Many (MoreInits (One one) (MoreInits Zero (MoreInits (One one) NoInits))))) ∷ []) ≡ bad 172 BadType
