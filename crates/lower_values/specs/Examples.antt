-- One example of each form, with exactly the C that the map has for it. Locals 0 to 5 are the parameters a, b : uint8_t, c : int16_t,
-- p, q : bool and i : ix(4), and temporaries are counted from 9.
use Rattle.std.specs.Prelude.{◌≡◌, ℕ, pos, negsuc, Bool, true, false, nat_eq, [], ◌∷◌, Some, None, codes}
use Rattle.iv_words.specs.declared.IntKind.TheVariants.{U8, I16}
use Rattle.ivory_tree.specs.declared.BinOp.TheVariants.{Add, Sub, Shl, Lt, Div, WrapAdd, AndAlso, OrElse}
use Rattle.ivory_tree.specs.declared.PrefixOp.TheVariants.{Not}
use Rattle.bit_data.specs.declared.BitLayout.{BitLayout}
use Rattle.area_types.specs.Syntax.{ValueType, Truth, Int, Ix, Bits, Ref, Stored, Array}
use Rattle.area_types.specs.declared.region.Region.TheVariants.{Global}
use Rattle.core_tree.specs.declared.SiteKind.TheVariants.{Overflow, DivZero, Cast as CastSite}
use Rattle.core_tree.specs.Syntax.{ModuleCore, ExprCore, Number, Cast, WrapIndex, SetField, Prefix, Field, Element, Cond}
use Rattle.core_meaning.specs.ExampleForms.{plain, site, with_checks, constant, local, area, read, with_op, stored_area}
use Rattle.c_ast.specs.declared.Target.TheVariants.{T32}
use Rattle.c_ast.specs.declared.CScalar.TheVariants as scalar
use Rattle.c_ast.specs.declared.CBase.TheVariants.{Scalar}
use Rattle.c_ast.specs.declared.CType.TheVariants.{Value}
use Rattle.c_ast.specs.declared.Suffix.TheVariants.{Plain, U}
use Rattle.c_ast.specs.declared.CUnary.TheVariants as prefix
use Rattle.c_ast.specs.declared.CBinary.TheVariants as c
use Rattle.c_ast.specs.Syntax as syntax
use Rattle.c_ast.specs.Syntax.{Name, Expr, Read, Unary, Binary, Var, Stmt, Const, Object, Assign, If, IfElse, Call, Nil, Cons, One}
use Rattle.lower_types.specs.Names.{local_name}
use Rattle.lower_types.specs.Types.{table_for}
use Rattle.lower_values.specs.Frames.{Frame}
use Rattle.lower_values.specs.Pieces.{Exact, Same, Near}
use Rattle.lower_values.specs.Expressions.{raw}

-- ---- a frame

-- `bitdata Ctrl : uint8_t { enable : bool, mode : 3, level : 4 }`
abbrev pub ctrl : BitLayout
ctrl = record {
  name = codes "Ctrl";
  word = U8;
  fields = record { name = codes "enable"; low = 0; width = 1; truth = true } ∷ record { name = codes "mode"; low = 1; width = 3; truth = false }
      ∷ record { name = codes "level"; low = 4; width = 4; truth = false } ∷ [];
}

-- `area x : uint8_t; area xs : [4] uint8_t; area w : Ctrl;`
abbrev pub shop : ModuleCore
shop = record {
  structs = record { structs = []; words = U8 ∷ [] };
  layouts = ctrl ∷ [];
  areas = stored_area (codes "x") (Int U8) (pos 0 ∷ [])
      ∷ record { name = codes "xs"; constant = false; area = Array 4 (Stored (Int U8)); first = pos 0 ∷ pos 0 ∷ pos 0 ∷ pos 0 ∷ [] }
      ∷ stored_area (codes "w") (Bits 0) (pos 0 ∷ []) ∷ [];
  imports = [];
  procs = [];
}

abbrev pub frame_without : (ℕ → Bool) → Frame
frame_without skip = record {
  core = shop;
  table = table_for shop;
  target = T32;
  skip = skip;
  params = codes "a" ∷ codes "b" ∷ codes "c" ∷ codes "p" ∷ codes "q" ∷ codes "i" ∷ [];
  objects = [];
  outcome = syntax.Number 0 Plain;
}

abbrev pub frame : Frame
frame = frame_without (λ k. false)

abbrev pub u8 : ValueType
u8 = Int U8

abbrev pub a : ExprCore
a = local u8 0

abbrev pub b : ExprCore
b = local u8 1

abbrev pub i16 : ValueType
i16 = Int I16

abbrev pub small : ExprCore
small = local i16 2

abbrev pub p : ExprCore
p = local Truth 3

abbrev pub q : ExprCore
q = local Truth 4

abbrev pub xs : ExprCore
xs = area (Array 4 (Stored u8)) 1

-- ---- C

abbrev pub named : Name → Expr
named x = Read (Var x)

abbrev pub iv_a : Expr
iv_a = named (codes "iv_a")

abbrev pub iv_b : Expr
iv_b = named (codes "iv_b")

abbrev pub iv_c : Expr
iv_c = named (codes "iv_c")

abbrev pub iv_p : Expr
iv_p = named (codes "iv_p")

abbrev pub t9 : Expr
t9 = named (local_name 9)

abbrev pub n : ℕ → Expr
n v = syntax.Number v Plain

abbrev pub in_u8 : Expr → Expr
in_u8 e = syntax.Cast (Value (scalar.Int U8)) e

-- `if ((!E)) { ivory_stop(K); }`
abbrev pub check : Expr → ℕ → Stmt
check e k = If (Unary prefix.Not e) (Cons (Call (record { name = codes "ivory_stop"; args = n k ∷ [] })) Nil)

-- `if (1) { }`
abbrev pub idle : Stmt
idle = If (n 1) Nil

-- ---- operators

-- `a + b`: if ((!(((uint8_t)(iv_a + iv_b)) >= iv_a))) { ivory_stop(3); }, (iv_a + iv_b)
abbrev pub sum : ExprCore
sum = with_op u8 (site 3 Overflow ∷ []) Add a b

abbrev pub sum_test : Stmt
sum_test = check (Binary c.Ge (in_u8 (Binary c.Add iv_a iv_b)) iv_a) 3

abbrev pub SumStands : Type 0
SumStands = raw frame sum 9 ≡ record { before = sum_test ∷ []; value = Binary c.Add iv_a iv_b; owed = false; standing = Near; next = 9 }

-- without its check, a statement that does nothing stands in its place
abbrev pub SkippedStands : Type 0
SkippedStands = raw (frame_without (nat_eq 3)) sum 9 ≡ record { before = idle ∷ []; value = Binary c.Add iv_a iv_b; owed = false; standing = Near; next = 9 }

-- `a + b < 5`: the test, uint8_t const ivt_9 = (iv_a + iv_b);, (ivt_9 < ((uint8_t)5))
abbrev pub NestedStands : Type 0
NestedStands =
    raw frame (with_op Truth [] Lt sum (constant u8 5)) 9
    ≡ record { before = sum_test ∷ Const (local_name 9) (Value (scalar.Int U8)) (Binary c.Add iv_a iv_b) ∷ []; value = Binary c.Lt t9 (in_u8 (n 5)); owed = true; standing = Near; next = 10 }

-- `*x +% a`: if (1) { }, (iv_x + iv_a)
abbrev pub ReadStands : Type 0
ReadStands =
    raw frame (with_op u8 [] WrapAdd (read u8 (area (Stored u8) 0)) a) 9
    ≡ record { before = idle ∷ []; value = Binary c.Add (named (codes "iv_x")) iv_a; owed = true; standing = Near; next = 9 }

-- `a / 2`: no test, since 2 is not 0
abbrev pub SettledStands : Type 0
SettledStands =
    raw frame (with_op u8 (site 0 DivZero ∷ []) Div a (constant u8 2)) 9
    ≡ record { before = []; value = Binary c.Div iv_a (in_u8 (n 2)); owed = true; standing = Near; next = 9 }

-- `-5 - c`: the operand is ((int16_t)(-5))
abbrev pub less_five : Expr
less_five = syntax.Cast (Value (scalar.Int I16)) (Unary prefix.Neg (n 5))

abbrev pub NegativeStands : Type 0
NegativeStands =
    raw frame (with_op i16 (site 7 Overflow ∷ []) Sub (Number (plain i16) (negsuc 4)) small) 9
    ≡ record {
      before = check (Binary c.AndAlso (Binary c.Ge (Binary c.Sub less_five iv_c) (Binary c.Sub (Unary prefix.Neg (n 32_767)) (n 1))) (Binary c.Le (Binary c.Sub less_five iv_c) (n 32_767))) 7 ∷ [];
      value = Binary c.Sub less_five iv_c;
      owed = false;
      standing = Near;
      next = 9;
    }

-- `!p`: (!iv_p)
abbrev pub NotStands : Type 0
NotStands = raw frame (Prefix (plain Truth) Not p) 9 ≡ record { before = []; value = Unary prefix.Not iv_p; owed = true; standing = Same; next = 9 }

-- ---- `&&`, `||` and `? :`

-- `p && q || p`: bool ivt_9 = iv_p; if (ivt_9) { ivt_9 = iv_q; } if ((!ivt_9)) { ivt_9 = iv_p; }
abbrev pub ChainStands : Type 0
ChainStands =
    raw frame (with_op Truth [] OrElse (with_op Truth [] AndAlso p q) p) 9
    ≡ record {
      before = Object (local_name 9) (Scalar scalar.Truth) (Some (One iv_p)) ∷ If t9 (Cons (Assign (Var (local_name 9)) (named (codes "iv_q"))) Nil)
          ∷ If (Unary prefix.Not t9) (Cons (Assign (Var (local_name 9)) iv_p) Nil) ∷ [];
      value = t9;
      owed = false;
      standing = Exact;
      next = 10;
    }

-- `p ? a + b : 1`: uint8_t ivt_9; if (iv_p) { the test ivt_9 = (iv_a + iv_b); } else { ivt_9 = 1; }
abbrev pub ArmsStand : Type 0
ArmsStand =
    raw frame (Cond (plain u8) p sum (constant u8 1)) 9
    ≡ record {
      before = Object (local_name 9) (Scalar (scalar.Int U8)) None
          ∷ IfElse iv_p (Cons sum_test (Cons (Assign (Var (local_name 9)) (Binary c.Add iv_a iv_b)) Nil)) (Cons (Assign (Var (local_name 9)) (n 1)) Nil) ∷ [];
      value = t9;
      owed = false;
      standing = Exact;
      next = 10;
    }

-- ---- references

-- `*xs[i]`: if (1) { }, iv_xs.at[iv_i]
abbrev pub ElementStands : Type 0
ElementStands =
    raw frame (read u8 (Element (plain (Ref false Global (Stored u8))) xs (local (Ix 4) 5))) 9
    ≡ record { before = idle ∷ []; value = Read (syntax.Element (syntax.Member (Var (codes "iv_xs")) (codes "at")) (named (codes "iv_i"))); owed = true; standing = Exact; next = 9 }

-- ---- conversions and bit data

-- `uint8_t(c)`: if ((!((iv_c >= 0) && (iv_c <= 255)))) { ivory_stop(2); }, iv_c
abbrev pub CastStands : Type 0
CastStands =
    raw frame (Cast (with_checks u8 (site 2 CastSite ∷ [])) small) 9
    ≡ record { before = check (Binary c.AndAlso (Binary c.Ge iv_c (n 0)) (Binary c.Le iv_c (n 255))) 2 ∷ []; value = iv_c; owed = false; standing = Same; next = 9 }

-- `wrapix(10, c)`: (((iv_c % 10) < 0) ? ((iv_c % 10) + 10) : (iv_c % 10))
abbrev pub WrapStands : Type 0
WrapStands =
    raw frame (WrapIndex (plain (Ix 10)) small) 9
    ≡ record { before = []; value = syntax.Cond (Binary c.Lt (Binary c.Rem iv_c (n 10)) (n 0)) (Binary c.Add (Binary c.Rem iv_c (n 10)) (n 10)) (Binary c.Rem iv_c (n 10)); owed = true; standing = Same; next = 9 }

abbrev pub word : ExprCore
word = read (Bits 0) (area (Stored (Bits 0)) 2)

-- `(*w).mode`: if (1) { }, ((iv_w >> 1) & 7u)
abbrev pub FieldStands : Type 0
FieldStands =
    raw frame (Field (plain u8) word 1) 9
    ≡ record { before = idle ∷ []; value = Binary c.And (Binary c.Shr (named (codes "iv_w")) (n 1)) (syntax.Number 7 U); owed = true; standing = Same; next = 9 }

-- `set(*w, mode, a)`: if (1) { } if ((!(iv_a <= 7u))) { ivory_stop(4); }, ((iv_w & 241u) | (((uint8_t)iv_a) << 1))
abbrev pub SetStands : Type 0
SetStands =
    raw frame (SetField (with_checks (Bits 0) (site 4 CastSite ∷ [])) word 1 a) 9
    ≡ record {
      before = idle ∷ check (Binary c.Le iv_a (syntax.Number 7 U)) 4 ∷ [];
      value = Binary c.Or (Binary c.And (named (codes "iv_w")) (syntax.Number 241 U)) (Binary c.Shl (in_u8 iv_a) (n 1));
      owed = false;
      standing = Near;
      next = 9;
    }

-- `set(*w, level, 3)`: ((iv_w & 15u) | 48u)
abbrev pub SetConstantStands : Type 0
SetConstantStands =
    raw frame (SetField (with_checks (Bits 0) (site 4 CastSite ∷ [])) word 2 (constant u8 3)) 9
    ≡ record { before = idle ∷ []; value = Binary c.Or (Binary c.And (named (codes "iv_w")) (syntax.Number 15 U)) (syntax.Number 48 U); owed = true; standing = Near; next = 9 }
