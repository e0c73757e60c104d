-- How expressions, places, initializers and calls are written (C99 6.5, 6.7.8): each operator in parentheses of its own, with a
-- blank on both sides of one between two operands.
use Rattle.std.specs.Prelude.{ℕ, List, [], ◌∷◌, ◌++◌, map, codes, decimal}
use Rattle.c_ast.specs.declared.expr.Suffix.{Suffix}
use Rattle.c_ast.specs.declared.expr.Suffix.TheVariants.{Plain, U, Ll, Ull}
use Rattle.c_ast.specs.declared.expr.CUnary.{CUnary}
use Rattle.c_ast.specs.declared.expr.CUnary.TheVariants.{Neg, Flip, Not}
use Rattle.c_ast.specs.declared.expr.CBinary.{CBinary}
use Rattle.c_ast.specs.declared.expr.CBinary.TheVariants.{Add, Sub, Mul, Div, Rem, And, Or, Xor, Shl, Shr, Eq, Ne, Lt, Le, Gt, Ge, AndAlso, OrElse}
use Rattle.c_ast.specs.Syntax.{Expr, Number, Read, Address, Unary, Binary, Cast, Cond, Place, Var, At, Member, Element, Init, One, Zero, Many, Inits, NoInits, MoreInits, FunctionCall}
use Rattle.c_text.specs.TypeText.{type_text, listed}

abbrev pub suffix_text : Suffix → List ℕ
suffix_text Plain = []
suffix_text U = codes "u"
suffix_text Ll = codes "ll"
suffix_text Ull = codes "ull"

abbrev pub unary_text : CUnary → List ℕ
unary_text Neg = codes "-"
unary_text Flip = codes "~"
unary_text Not = codes "!"

abbrev pub binary_text : CBinary → List ℕ
binary_text Add = codes "+"
binary_text Sub = codes "-"
binary_text Mul = codes "*"
binary_text Div = codes "/"
binary_text Rem = codes "%"
binary_text And = codes "&"
binary_text Or = codes "|"
binary_text Xor = codes "^"
binary_text Shl = codes "<<"
binary_text Shr = codes ">>"
binary_text Eq = codes "=="
binary_text Ne = codes "!="
binary_text Lt = codes "<"
binary_text Le = codes "<="
binary_text Gt = codes ">"
binary_text Ge = codes ">="
binary_text AndAlso = codes "&&"
binary_text OrElse = codes "||"

-- ---- expressions and places

abbrev mutual
  pub expr_text : Expr → List ℕ
  expr_text (Number v suffix) = decimal v ++ suffix_text suffix
  expr_text (Read place) = place_text place
  expr_text (Address place) = codes "(&" ++ place_text place ++ codes ")"
  expr_text (Unary op e) = codes "(" ++ unary_text op ++ expr_text e ++ codes ")"
  expr_text (Binary op a b) = codes "(" ++ expr_text a ++ codes " " ++ binary_text op ++ codes " " ++ expr_text b ++ codes ")"
  expr_text (Cast t e) = codes "((" ++ type_text t ++ codes ")" ++ expr_text e ++ codes ")"
  expr_text (Cond c a b) = codes "(" ++ expr_text c ++ codes " ? " ++ expr_text a ++ codes " : " ++ expr_text b ++ codes ")"

  pub place_text : Place → List ℕ
  place_text (Var x) = x
  place_text (At e) = codes "(*" ++ expr_text e ++ codes ")"
  place_text (Member place m) = place_text place ++ codes "." ++ m
  place_text (Element place e) = place_text place ++ codes "[" ++ expr_text e ++ codes "]"

-- ---- initializers and calls

abbrev mutual
  pub init_text : Init → List ℕ
  init_text (One e) = expr_text e
  init_text Zero = codes "{0}"
  init_text (Many is) = codes "{" ++ listed (init_texts is) ++ codes "}"

  pub init_texts : Inits → List (List ℕ)
  init_texts NoInits = []
  init_texts (MoreInits i is) = init_text i ∷ init_texts is

abbrev pub call_text : FunctionCall → List ℕ
call_text c = c.name ++ codes "(" ++ listed (map expr_text c.args) ++ codes ")"
