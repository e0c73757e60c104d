-- What the parts of expressions that the parser hands on say in the grammar's words.
use Rattle.std.specs.Prelude.{List, map}
use Rattle.std.specs.Option.{option_map}
use Rattle.c_ast.specs.Syntax.{Expr, Init}
use Rattle.c_ast.specs.View.{expr_of, init_of}
use Rattle.c_ast.specs.declared.expr.CBinary.{CBinary}
use Rattle.c_ast.specs.declared.expr.CExpr.{CExpr}
use Rattle.c_ast.specs.declared.expr.CInit.{CInit}
use Rattle.c_grammar.specs.Symbols as symbols
use Rattle.c_grammar.specs.ExpressionRules as expressions
use Rattle.c_expression_parser.specs.declared.parts.Step.{Step}
use Rattle.c_expression_parser.specs.declared.parts.Side.{Side}
use Rattle.c_expression_parser.specs.declared.parts.Side.TheVariants as side
use Rattle.c_expression_parser.specs.declared.parts.Inside.{Inside}
use Rattle.c_expression_parser.specs.declared.parts.Inside.TheVariants as inside

abbrev pub side_of : {A B X Y : Type 0} → (A → X) → (B → Y) → Side A B → symbols.Side X Y
side_of f g (side.Left a) = symbols.left (f a)
side_of f g (side.Right b) = symbols.right (g b)

abbrev pub step_of : Step → expressions.Step
step_of s = (s.name, option_map expr_of s.index)

abbrev pub steps_of : List Step → List expressions.Step
steps_of = map step_of

abbrev pub inner_of : Side CExpr CExpr → symbols.Side Expr Expr
inner_of = side_of expr_of expr_of

abbrev pub inside_of : Inside → symbols.Inside
inside_of (inside.Type t) = symbols.type_inside t
inside_of (inside.Pointer e) = symbols.pointer_inside (expr_of e)
inside_of (inside.Value e) = symbols.value_inside_it (expr_of e)

abbrev pub binary_of : CBinary × CExpr → CBinary × Expr
binary_of t = (t.0, expr_of t.1)

abbrev pub arms_of : CExpr × CExpr → Expr × Expr
arms_of t = (expr_of t.0, expr_of t.1)

abbrev pub tail_of : Side (CBinary × CExpr) (CExpr × CExpr) → expressions.Tail
tail_of = side_of binary_of arms_of

abbrev pub steps_and_tail_of : List Step × Side (CBinary × CExpr) (CExpr × CExpr) → List expressions.Step × expressions.Tail
steps_and_tail_of t = (steps_of t.0, tail_of t.1)

abbrev pub exprs_of : List CExpr → List Expr
exprs_of = map expr_of

abbrev pub inits_of : List CInit → List Init
inits_of = map init_of
