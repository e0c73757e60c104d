-- Expressions that have a value in a state, and what comes of them.
use Rattle.std.proofs.Common.{◌≡◌, ℕ, ℤ, pos, IsTrue, Option, Some, None, Result, Ok, refl, sym, subst, ap, ◌∙◌}
use Rattle.std.specs.Prelude.{IsSome}
use Rattle.std.specs.Option.{option_map, option_and_then}
use Rattle.iv_words.specs.Kinds.{in_range, width, is_signed, kind_at}
use Rattle.iv_words.specs.declared.IntKind.{IntKind}
use Rattle.c_ast.specs.declared.Arith.{Arith}
use Rattle.c_ast.specs.declared.CScalar.TheVariants.{Int as Exact}
use Rattle.c_ast.specs.declared.CKind.{CKind}
use Rattle.c_ast.specs.declared.CKind.TheVariants.{Scalar, Arith as Computed}
use Rattle.c_ast.specs.declared.CType.TheVariants.{Value}
use Rattle.c_ast.specs.declared.Suffix.{Suffix}
use Rattle.c_ast.specs.declared.CUnary.{CUnary}
use Rattle.c_ast.specs.declared.CBinary.{CBinary}
use Rattle.c_ast.specs.Syntax.{Expr, Number, Read, Address, Unary, Binary, Cast, Cond}
use Rattle.c_ast.specs.StaticTypes.{ValueType, Arithmetic, of_cast}
use Rattle.c_ast.specs.Targets.{TargetTable, table_of}
use Rattle.c_ast.specs.Conversions.{converted, constant_type, constant_type_in}
use Rattle.c_meaning.specs.Values.{Trouble, CValue, Num, on_ok, typed, as_assigned, of_type}
use Rattle.c_meaning.specs.Operators.{unary, binary}
use Rattle.c_meaning.specs.State.{Program, CState}
use Rattle.c_meaning.specs.Expressions.{eval}
use Rattle.iv_words.proofs.Widths.{kind_at_width}
use Rattle.c_ast.proofs.Conversions.{held_stays}
use Rattle.c_meaning.proofs.Names.{name_type_is, name_gives}
use Rattle.overflow_checks.specs.Laws.{NamesStandFor}
use Rattle.overflow_checks.specs.Contract.{IsOperand, IsGiven, StandsFor}
use Rattle.overflow_checks.specs.Parts.{cast_to, operand_of}

-- the kind's type
abbrev pub of_kind : IntKind → CKind
of_kind kind = Scalar (Exact kind)

module _ (p : Program) (s : CState) where
  abbrev table : TargetTable
  table = table_of p.target

  abbrev pub Gives : Expr → CValue → Type 0
  Gives e v = eval p e s ≡ Ok v

  -- ---- what comes of values

  pub binary_gives : (op : CBinary) (a b : Expr) (v w : CValue) → Gives a v → Gives b w → eval p (Binary op a b) s ≡ binary table op v (Ok w)
  binary_gives op a b v w ea eb =
      ap (λ r. let q : Result CValue Trouble = on_ok r (λ u. binary table op u (eval p b s)) in q) ea ∙ ap (binary table op v) eb

  pub unary_gives : (op : CUnary) (a : Expr) (v : CValue) → Gives a v → eval p (Unary op a) s ≡ unary table op v
  unary_gives op a v ea = ap (λ r. let q : Result CValue Trouble = on_ok r (unary table op) in q) ea

  pub cast_gives : (kind : IntKind) (e : Expr) (k : CKind) (v w : ℤ) → Gives e (Num k v) → converted (width kind) (is_signed kind) v ≡ Some w → Gives (cast_to kind e) (Num (of_kind kind) w)
  cast_gives kind e k v w ee c = ap (λ r. let q : Result CValue Trouble = on_ok r (as_assigned p.target (Value (Exact kind))) in q) ee ∙ ap (typed (of_kind kind)) c

  pub constant_gives : (n : ℕ) (suffix : Suffix) (c : Arith) → constant_type_in table suffix n ≡ Some c → Gives (Number n suffix) (Num (Computed c) (pos n))
  constant_gives n suffix c e = ap (λ o. of_type o n) e

  -- ---- operands

  some_of : (n : ℕ) (suffix : Suffix) (found : Option Arith) → constant_type_in table suffix n ≡ found → IsSome found → (kind : IntKind) → IsTrue (in_range kind (pos n))
      → IsGiven p s kind (cast_to kind (Number n suffix)) (pos n)
  some_of n suffix None e found kind h = cc
  some_of n suffix (Some c) e found kind h = record {
    gives = cast_gives kind (Number n suffix) (Computed c) (pos n) (pos n) (constant_gives n suffix c e) (held_stays (width kind) (is_signed kind) (pos n) h);
    type = ap (λ o. let q : Option ValueType = option_and_then (of_cast (Value (Exact kind))) (option_map (λ a. Arithmetic (Computed a)) o) in q) e;
    is_in = h;
  }

  -- an operand that stands for a number is given
  pub operand_is_given : (kind : IntKind) (e : Expr) (v : ℤ) → IsOperand p.target kind e → StandsFor p s kind e v → IsGiven p s kind (operand_of (width kind) (is_signed kind) e) v
  operand_is_given kind (Number n suffix) v o h =
      subst (λ k. IsGiven p s kind (cast_to k (Number n suffix)) v) (sym (kind_at_width kind))
      (subst (IsGiven p s kind (cast_to kind (Number n suffix))) h (some_of n suffix (constant_type p.target suffix n) refl o.0 kind o.1))
  operand_is_given kind (Read place) v o h = h
  operand_is_given kind (Address place) v o h = h
  operand_is_given kind (Unary op e) v o h = h
  operand_is_given kind (Binary op a b) v o h = h
  operand_is_given kind (Cast to e) v o h = h
  operand_is_given kind (Cond c a b) v o h = h

pub names_stand_for : NamesStandFor
names_stand_for p s kind x v e h = record { gives = name_gives p s x (of_kind kind) v e; type = name_type_is p s x (Num (of_kind kind) v) e; is_in = h }
