-- What the guards and the computations of an operator promise, for all values of its operands.
use Rattle.std.specs.Prelude.{◌≡◌, ◌≢◌, ◌↔◌, ◌⊎◌, ⊤, ℕ, ◌-◌, ◌<◌, ℤ, pos, IsTrue, IsSome, All, if◌then◌else◌, Some, Result, Ok, Err}
use Rattle.iv_words.specs.Kinds.{in_range}
use Rattle.iv_words.specs.declared.IntKind.{IntKind}
use Rattle.int_ops.specs.Operators.{is_binary, exact}
use Rattle.int_ops.specs.declared.Op.{Op}
use Rattle.int_ops.specs.declared.Stop.{Stop}
use Rattle.c_ast.specs.declared.Target.{Target}
use Rattle.c_ast.specs.declared.CScalar.{CScalar}
use Rattle.c_ast.specs.declared.CScalar.TheVariants.{Truth, Int as Exact}
use Rattle.c_ast.specs.declared.CKind.TheVariants.{Scalar}
use Rattle.c_ast.specs.declared.CType.TheVariants.{Void, Value, Pointer}
use Rattle.c_ast.specs.Syntax.{Expr, Number, Read, Address, Unary, Binary, Cast, Cond}
use Rattle.c_ast.specs.Conversions.{convert, constant_type}
use Rattle.c_ast.specs.StaticTypes.{Arithmetic}
use Rattle.c_meaning.specs.Values.{Trouble, CValue, Num, Ptr}
use Rattle.c_meaning.specs.State.{Program, CState}
use Rattle.c_meaning.specs.Expressions.{static_type, eval}
use Rattle.overflow_checks.specs.Checks.{checks_before, is_comparison}

-- ---- operands

-- What may be an operand of a kind: a constant that has a type (6.4.4.1) and whose number is one of the kind, or another expression.
abbrev pub IsOperand : Target → IntKind → Expr → Type 0
IsOperand t kind (Number n suffix) = IsSome (constant_type t suffix n) × IsTrue (in_range kind (pos n))
IsOperand t kind _ = ⊤

-- an expression of the kind's type, with the number of the kind to which it evaluates
pub record IsGiven (p : Program) (s : CState) (kind : IntKind) (e : Expr) (v : ℤ) : Type 0 where
  pub gives : eval p e s ≡ Ok (Num (Scalar (Exact kind)) v)
  pub type : static_type p s e ≡ Some (Arithmetic (Scalar (Exact kind)))
  pub is_in : IsTrue (in_range kind v)

-- which number an operand stands for in a state: a constant for its own, another expression for its value
abbrev pub StandsFor : Program → CState → IntKind → Expr → ℤ → Type 0
StandsFor p s kind (Number n suffix) v = pos n ≡ v
StandsFor p s kind e v = IsGiven p s kind e v

-- the operands of an operator; the prefix operators have no right one
pub record OperandsStandFor (p : Program) (s : CState) (op : Op) (kind : IntKind) (a b : Expr) (x y : ℤ) : Type 0 where
  pub left : StandsFor p s kind a x
  pub right : IsTrue (is_binary op) → StandsFor p s kind b y

-- ---- what the expressions come to

-- a value, which is 0 exactly where the operator stops for this reason
abbrev pub IsTestOf : Op → IntKind → Stop → ℤ → ℤ → Result CValue Trouble → Type 0
IsTestOf op kind which x y (Ok (Num of_kind v)) = (v ≡ pos 0) ↔ (exact op kind x y ≡ Err which)
IsTestOf op kind which x y (Ok (Ptr constant base to)) = ⊥
IsTestOf op kind which x y (Err trouble) = ⊥

-- The guard has a value in each state in which the operands stand for numbers where no earlier check of the operator fails, and it
-- is 0 exactly where this one does.
abbrev pub IsGuard : Target → Op → IntKind → Stop → (a b guard : Expr) → Type 0
IsGuard t op kind which a b guard =
    (p : Program) (s : CState) (x y : ℤ) → p.target ≡ t → OperandsStandFor p s op kind a b x y
    → All (λ earlier. exact op kind x y ≢ Err earlier) (checks_before op kind which)
    → IsTestOf op kind which x y (eval p guard s)

-- the type of what an operator answers
abbrev pub result_type : Op → IntKind → CScalar
result_type op kind = if is_comparison op then Truth else Exact kind

-- a value that is v once it is converted to the type
abbrev pub ComesTo : Target → CScalar → ℤ → Result CValue Trouble → Type 0
ComesTo t to v (Ok (Num of_kind w)) = convert t (Scalar to) w ≡ Some v
ComesTo t to v (Ok (Ptr constant base a)) = ⊥
ComesTo t to v (Err trouble) = ⊥

-- The expression has a value in each state in which the operands stand for numbers on which the operator answers, and comes to
-- that answer.
abbrev pub IsComputation : Target → Op → IntKind → (a b e : Expr) → Type 0
IsComputation t op kind a b e =
    (p : Program) (s : CState) (x y v : ℤ) → p.target ≡ t → OperandsStandFor p s op kind a b x y
    → exact op kind x y ≡ Ok v
    → ComesTo t (result_type op kind) v (eval p e s)

-- ---- what the expressions are made of

-- the operands of an operator: a prefix operator has the left one alone
abbrev pub IsOperandOf : Op → (a b e : Expr) → Type 0
IsOperandOf op a b e = (a ≡ e) ⊎ (IsTrue (is_binary op) × (b ≡ e))

-- Operands, and around them constants that have a type, operators, `?:` and casts to whole numbers, one in the other in so many levels
-- at most. So all that the expression reads is in the operands, and its own brackets nest no deeper than a bound that all guards share.
abbrev pub IsMadeOf : Target → (is_leaf : Expr → Type 0) → Expr → (levels : ℕ) → Type 0
IsMadeOf t is_leaf (Number v suffix) n = ((0 < n) × is_leaf (Number v suffix)) ⊎ ((0 < n) × IsSome (constant_type t suffix v))
IsMadeOf t is_leaf (Read place) n = (0 < n) × is_leaf (Read place)
IsMadeOf t is_leaf (Address place) n = (0 < n) × is_leaf (Address place)
IsMadeOf t is_leaf (Unary op e) n = ((0 < n) × is_leaf (Unary op e)) ⊎ IsMadeOf t is_leaf e (n - 1)
IsMadeOf t is_leaf (Binary op e f) n = ((0 < n) × is_leaf (Binary op e f)) ⊎ (IsMadeOf t is_leaf e (n - 1) × IsMadeOf t is_leaf f (n - 1))
IsMadeOf t is_leaf (Cast (Value (Exact kind)) e) n = ((0 < n) × is_leaf (Cast (Value (Exact kind)) e)) ⊎ IsMadeOf t is_leaf e (n - 1)
IsMadeOf t is_leaf (Cast (Value Truth) e) n = (0 < n) × is_leaf (Cast (Value Truth) e)
IsMadeOf t is_leaf (Cast Void e) n = (0 < n) × is_leaf (Cast Void e)
IsMadeOf t is_leaf (Cast (Pointer constant base) e) n = (0 < n) × is_leaf (Cast (Pointer constant base) e)
IsMadeOf t is_leaf (Cond c e f) n =
    ((0 < n) × is_leaf (Cond c e f)) ⊎ (IsMadeOf t is_leaf c (n - 1) × IsMadeOf t is_leaf e (n - 1) × IsMadeOf t is_leaf f (n - 1))

abbrev pub guard_levels : ℕ
guard_levels = 9

abbrev pub computation_levels : ℕ
computation_levels = 4
