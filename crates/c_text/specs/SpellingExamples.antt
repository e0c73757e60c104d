-- Small trees, and exactly how they are written: examples that hold the spelling fast.
use Rattle.std.specs.Prelude.{◌≡◌, ◌^◌, ◌-◌, List, [], ◌∷◌, ◌++◌, Some, None, true, false, codes}
use Rattle.iv_words.specs.declared.IntKind.TheVariants.{U8, I64}
use Rattle.c_ast.specs.declared.types.CScalar.TheVariants.{Truth, Int}
use Rattle.c_ast.specs.declared.types.CBase.{CBase}
use Rattle.c_ast.specs.declared.types.CBase.TheVariants.{Scalar, Struct}
use Rattle.c_ast.specs.declared.types.CType.{CType}
use Rattle.c_ast.specs.declared.types.CType.TheVariants.{Void, Value, Pointer}
use Rattle.c_ast.specs.declared.expr.Suffix.TheVariants.{Plain, U, Ll, Ull}
use Rattle.c_ast.specs.declared.expr.CUnary.TheVariants.{Neg, Flip, Not}
use Rattle.c_ast.specs.declared.expr.CBinary.TheVariants.{Add, Shl, Ge, OrElse}
use Rattle.c_ast.specs.declared.unit.CParam.{CParam}
use Rattle.c_ast.specs.Examples.{rows, procedure, unit_with}
use Rattle.c_ast.specs.Syntax.{Name, Expr, Number, Read, Address, Unary, Binary, Cast, Cond, Var, At, Member, Element, One, Zero, Many, NoInits, MoreInits, Const, ConstCall, Object, Assign, If, IfElse, Forever, Break, Return, Block, Call, FunctionCall}
use Rattle.c_text.specs.TypeText.{line, type_text, typed_text, const_text, object_text}
use Rattle.c_text.specs.ExpressionText.{expr_text, init_text, call_text}
use Rattle.c_text.specs.StatementText.{stmt_text}
use Rattle.c_text.specs.Spelling.{struct_text, extern_text, file_object_text, function_text, unit_text}

-- ---- writing trees

abbrev pub x : Name
x = codes "x"

abbrev pub value_of_x : Expr
value_of_x = Read (Var x)

abbrev pub one : Expr
one = Number 1 Plain

abbrev pub byte : CBase
byte = Scalar (Int U8)

abbrev pub a_struct : CBase
a_struct = Struct (codes "A")

abbrev pub to_const_struct : CType
to_const_struct = Pointer true a_struct

abbrev pub calling : Name → List Expr → FunctionCall
calling name args = record { name = name; args = args }

-- ---- types, and names with their types

pub record TypesAreWritten : Type 0 where
  pub truth : type_text (Value Truth) ≡ codes "bool"
  pub pointer : type_text (Pointer false a_struct) ≡ codes "struct A *"
  pub pointer_to_const : type_text to_const_struct ≡ codes "struct A const *"
  pub no_result : typed_text Void (codes "iv_f") ≡ codes "void iv_f"
  pub pointed_result : typed_text to_const_struct (codes "iv_b") ≡ codes "struct A const *iv_b"
  pub held : const_text (Value (Int I64)) x ≡ codes "int64_t const x"
  pub held_pointer : const_text to_const_struct x ≡ codes "struct A const *const x"
  pub object : object_text a_struct x ≡ codes "struct A x"

-- ---- expressions, initializers and calls

pub record ExpressionsAreWritten : Type 0 where
  pub plain : expr_text (Number 0 Plain) ≡ codes "0"
  pub unsigned : expr_text (Number 1 U) ≡ codes "1u"
  pub long : expr_text (Number 2 Ll) ≡ codes "2ll"
  pub unsigned_long : expr_text (Number 9 Ull) ≡ codes "9ull"
  pub least : expr_text (Unary Neg (Number (2 ^ 63 - 1) Plain)) ≡ codes "(-9223372036854775807)"
  pub flipped : expr_text (Unary Flip (Unary Not value_of_x)) ≡ codes "(~(!x))"
  pub operators : expr_text (Binary Add value_of_x (Binary Shl (Number 1 Plain) (Binary Ge value_of_x (Binary OrElse (Number 1 Plain) value_of_x)))) ≡ codes "(x + (1 << (x >= (1 || x))))"
  pub cast_ : expr_text (Cast to_const_struct value_of_x) ≡ codes "((struct A const *)x)"
  pub choice : expr_text (Cond value_of_x (Number 1 Plain) (Number 2 Plain)) ≡ codes "(x ? 1 : 2)"
  pub place : expr_text (Address (Element (Member (At value_of_x) (codes "iv_r")) (Number 1 Plain))) ≡ codes "(&(*x).iv_r[1])"
  pub zero : init_text Zero ≡ codes "{0}"
  pub unsigned_zero : init_text (Many (MoreInits (One (Number 0 U)) NoInits)) ≡ codes "{0u}"
  pub nested : init_text (Many (MoreInits (Many (MoreInits (One one) (MoreInits (One (Number 2 Plain)) NoInits))) (MoreInits Zero NoInits))) ≡ codes "{{1, 2}, {0}}"
  pub no_arguments : call_text (calling (codes "iv_f") []) ≡ codes "iv_f()"
  pub arguments : call_text (calling (codes "iv_f") (one ∷ value_of_x ∷ [])) ≡ codes "iv_f(1, x)"

-- ---- declarations

pub record DeclarationsAreWritten : Type 0 where
  pub struct : struct_text (record { name = codes "A"; members = record { name = codes "iv_x"; base = byte; length = None } ∷ record { name = codes "at"; base = byte; length = Some 65535 } ∷ [] })
      ≡ line (codes "struct A {") ++ line (codes "  uint8_t iv_x;") ++ line (codes "  uint8_t at[65535];") ++ line (codes "};")
  pub extern : extern_text (record { name = codes "iv_p"; params = Pointer false a_struct ∷ to_const_struct ∷ Pointer false (Scalar Truth) ∷ []; result = Void })
      ≡ line (codes "extern void iv_p(struct A *, struct A const *, bool *);")
  pub without_parameters : extern_text (record { name = codes "iv_q"; params = []; result = Value (Int U8) }) ≡ line (codes "extern uint8_t iv_q(void);")
  pub object : file_object_text (record { name = x; constant = false; base = byte; init = One one }) ≡ line (codes "static uint8_t x = 1;")
  pub const_object : file_object_text (record { name = x; constant = true; base = a_struct; init = Zero }) ≡ line (codes "static struct A const x = {0};")

-- ---- statements, behind one brace

pub record StatementsAreWritten : Type 0 where
  pub held : stmt_text 1 (Const x (Value (Int U8)) one) ≡ line (codes "  uint8_t const x = 1;")
  pub called : stmt_text 1 (ConstCall x (Pointer false byte) (calling (codes "iv_f") [])) ≡ line (codes "  uint8_t *const x = iv_f();")
  pub object : stmt_text 1 (Object x a_struct None) ≡ line (codes "  struct A x;")
  pub first_value : stmt_text 1 (Object x a_struct (Some Zero)) ≡ line (codes "  struct A x = {0};")
  pub assigned : stmt_text 1 (Assign (Var x) one) ≡ line (codes "  x = 1;")
  pub returned : stmt_text 1 (Return None) ≡ line (codes "  return;")
  pub value_returned : stmt_text 1 (Return (Some one)) ≡ line (codes "  return 1;")
  pub nested : stmt_text 1 (Forever (rows (IfElse value_of_x (rows (Break ∷ [])) (rows (If one (rows []) ∷ [])) ∷ Block (rows (Call (calling x []) ∷ [])) ∷ [])))
      ≡ line (codes "  for (;;) {") ++ line (codes "    if (x) {") ++ line (codes "      break;") ++ line (codes "    } else {") ++ line (codes "      if (1) {")
      ++ line (codes "      }") ++ line (codes "    }") ++ line (codes "    {") ++ line (codes "      x();") ++ line (codes "    }") ++ line (codes "  }")

-- ---- functions and units

abbrev pub holding : Name → CType → CParam
holding name ty = record { name = name; ty = ty }

pub record UnitsAreWritten : Type 0 where
  pub hidden : function_text (record { hidden = true; name = codes "iv_f"; params = []; result = Pointer false byte; body = rows [] })
      ≡ line (codes "static uint8_t *iv_f(void) {") ++ line (codes "}")
  pub with_parameters : function_text (record { hidden = false; name = codes "iv_b"; params = holding x (Value Truth) ∷ holding (codes "p") to_const_struct ∷ []; result = to_const_struct; body = rows (Return (Some value_of_x) ∷ []) })
      ≡ line (codes "struct A const *iv_b(bool const x, struct A const *const p) {") ++ line (codes "  return x;") ++ line (codes "}")
  pub pointer_out : unit_text (unit_with [] (
      record { hidden = true; name = codes "iv_f"; params = []; result = Pointer false byte; body = rows (Object x byte (Some (One one)) ∷ Return (Some (Address (Var x))) ∷ []) } ∷
      record { hidden = false; name = codes "iv_g"; params = []; result = Value (Int U8); body = rows (ConstCall (codes "p") (Pointer false byte) (calling (codes "iv_f") []) ∷ Return (Some (Read (At (Read (Var (codes "p")))))) ∷ []) } ∷ []))
      ≡ line (codes "#include <stdint.h>") ++ line (codes "#include <stdbool.h>") ++ line (codes "extern void ivory_stop(uint32_t);")
      ++ line (codes "static uint8_t *iv_f(void) {") ++ line (codes "  uint8_t x = 1;") ++ line (codes "  return (&x);") ++ line (codes "}")
      ++ line (codes "uint8_t iv_g(void) {") ++ line (codes "  uint8_t *const p = iv_f();") ++ line (codes "  return (*p);") ++ line (codes "}")
  pub nothing : unit_text (unit_with [] [])
      ≡ line (codes "#include <stdint.h>") ++ line (codes "#include <stdbool.h>") ++ line (codes "extern void ivory_stop(uint32_t);")
  pub in_order : unit_text (record {
    structs = record { name = codes "A"; members = record { name = x; base = byte; length = None } ∷ [] } ∷ [];
    externs = record { name = codes "iv_p"; params = []; result = Void } ∷ [];
    objects = record { name = codes "iv_x"; constant = false; base = byte; init = One one } ∷ [];
    functions = procedure false (codes "iv_g") [] ∷ procedure true (codes "iv_h") [] ∷ [];
  })
      ≡ line (codes "#include <stdint.h>") ++ line (codes "#include <stdbool.h>") ++ line (codes "extern void ivory_stop(uint32_t);")
      ++ line (codes "struct A {") ++ line (codes "  uint8_t x;") ++ line (codes "};") ++ line (codes "extern void iv_p(void);") ++ line (codes "static uint8_t iv_x = 1;")
      ++ line (codes "void iv_g(void) {") ++ line (codes "}") ++ line (codes "static void iv_h(void) {") ++ line (codes "}")
