-- Small expressions, and exactly what they come to: examples that hold the definitions fast.
use Rattle.std.specs.Prelude.{◌≡◌, ℕ, pos, codes, [], ◌∷◌, Some, Result, Ok, Err}
use Rattle.iv_words.specs.declared.IntKind.TheVariants.{U8, U32, I8}
use Rattle.run_records.specs.declared.Reason.TheVariants.{DivZero, Shift, Implementation}
use Rattle.c_ast.specs.declared.Target.TheVariants.{T32}
use Rattle.c_ast.specs.declared.CScalar.TheVariants.{Truth, Int as Exact}
use Rattle.c_ast.specs.declared.Arith.TheVariants.{UInt}
use Rattle.c_ast.specs.declared.CKind.TheVariants.{Scalar, Arith as Computed}
use Rattle.c_ast.specs.declared.CType.TheVariants.{Value}
use Rattle.c_ast.specs.declared.Suffix.TheVariants.{Plain, U}
use Rattle.c_ast.specs.declared.CUnary.TheVariants.{Neg, Flip}
use Rattle.c_ast.specs.declared.CBinary.TheVariants.{Add, Div, Shl, AndAlso, OrElse}
use Rattle.c_ast.specs.Syntax.{Expr, Number, Read, Unary, Binary, Cast, Cond, Var}
use Rattle.c_ast.specs.StaticTypes.{Arithmetic}
use Rattle.c_meaning.specs.Values.{Trouble, Undefined, Stuck, CValue, Num}
use Rattle.c_meaning.specs.State.{Program, program_of, Holding, CState}
use Rattle.c_meaning.specs.Expressions.{static_type, eval}
use Rattle.c_meaning.specs.NumberExamples.{minus, int, unsigned, exact}

-- ---- writing expressions, and where they are

abbrev pub nothing : Program
nothing = program_of (record { structs = []; externs = []; objects = []; functions = [] }) T32

-- x holds 200 as uint8_t, and so does y in the block around, where x holds 7
abbrev pub inside : CState
inside = record {
  frames = record { own = (codes "iv_x", Holding (exact U8 (pos 200))) ∷ (codes "iv_y", Holding (exact U8 (pos 200))) ∷ (codes "iv_x", Holding (exact U8 (pos 7))) ∷ []; callers = [] };
  objects = [];
}

abbrev pub value : Expr → Result CValue Trouble
value e = eval nothing e inside

abbrev pub x : Expr
x = Read (Var (codes "iv_x"))

abbrev pub y : Expr
y = Read (Var (codes "iv_y"))

abbrev pub z : Expr
z = Read (Var (codes "iv_z"))

abbrev pub number : ℕ → Expr
number v = Number v Plain

abbrev pub unsigned_number : ℕ → Expr
unsigned_number v = Number v U

-- `(1 / 0)` and `(1 << 32)`
abbrev pub by_zero : Expr
by_zero = Binary Div (number 1) (number 0)

abbrev pub too_far : Expr
too_far = Binary Shl (number 1) (number 32)

-- ---- names

pub record NameExamples : Type 0 where
  pub latest : value x ≡ Ok (exact U8 (pos 200))
  pub sum : value (Binary Add x y) ≡ Ok (int (pos 400))
  pub unknown : value z ≡ Err Stuck

-- ---- from left to right, and only what is needed

pub record OrderExamples : Type 0 where
  pub left_first : value (Binary Add by_zero too_far) ≡ Err (Undefined DivZero)
  pub then_right : value (Binary Add (number 1) too_far) ≡ Err (Undefined Shift)
  pub turned : value (Binary Add too_far by_zero) ≡ Err (Undefined Shift)
  pub and_decided : value (Binary AndAlso (number 0) by_zero) ≡ Ok (int (pos 0))
  pub and_undecided : value (Binary AndAlso (number 1) by_zero) ≡ Err (Undefined DivZero)
  pub and_left : value (Binary AndAlso by_zero (number 0)) ≡ Err (Undefined DivZero)
  pub and_both : value (Binary AndAlso (number 2) (number 3)) ≡ Ok (int (pos 1))
  pub and_right : value (Binary AndAlso (number 2) (number 0)) ≡ Ok (int (pos 0))
  pub or_decided : value (Binary OrElse (number 2) by_zero) ≡ Ok (int (pos 1))
  pub or_undecided : value (Binary OrElse (number 0) by_zero) ≡ Err (Undefined DivZero)
  pub or_right : value (Binary OrElse (number 0) (number 3)) ≡ Ok (int (pos 1))
  pub or_neither : value (Binary OrElse (number 0) (number 0)) ≡ Ok (int (pos 0))

-- ---- casts

pub record CastExamples : Type 0 where
  pub wraps : value (Cast (Value (Exact U8)) (number 300)) ≡ Ok (exact U8 (pos 44))
  pub below : value (Cast (Value (Exact U32)) (Unary Neg (number 1))) ≡ Ok (exact U32 (pos 4294967295))
  pub held : value (Cast (Value (Exact I8)) (Unary Neg (number 128))) ≡ Ok (exact I8 (minus 128))
  pub past : value (Cast (Value (Exact I8)) (number 128)) ≡ Err (Undefined Implementation)
  pub truth : value (Cast (Value Truth) (number 256)) ≡ Ok (Num (Scalar Truth) (pos 1))
  pub flipped : value (Cast (Value (Exact U8)) (Unary Flip x)) ≡ Ok (exact U8 (pos 55))

-- ---- conditions: the type is the common type of both arms, also of the one that is not taken

pub record ConditionExamples : Type 0 where
  pub first : value (Cond (number 1) (number 1) (unsigned_number 1)) ≡ Ok (unsigned 1)
  pub second : value (Cond (number 0) (unsigned_number 1) (Unary Neg (number 1))) ≡ Ok (unsigned 4294967295)
  pub promoted : value (Cond (number 5) x y) ≡ Ok (int (pos 200))
  pub not_taken : value (Cond (number 1) (number 1) by_zero) ≡ Ok (int (pos 1))
  pub taken : value (Cond (number 0) (number 1) by_zero) ≡ Err (Undefined DivZero)
  pub test_first : value (Cond too_far by_zero by_zero) ≡ Err (Undefined Shift)
  pub type : static_type nothing inside (Cond (number 1) (number 1) (unsigned_number 1)) ≡ Some (Arithmetic (Computed UInt))
  pub untyped : value (Cond (number 1) (number 1) z) ≡ Err Stuck
