-- Rules whose choice is by what an expression begins with, and the lists of the abstract syntax.
use Rattle.std.proofs.Common.{◌≡◌, ℕ, zero, suc, Bool, true, false, cond, List, [], ◌∷◌, length, get_or, refl, sym, ap, ◌∙◌, arith, Option, Some, None}
use Rattle.std.specs.Prelude.{nat_eq, ◌&&◌}
use Rattle.std.specs.Prelude as lists
use Rattle.std.proofs.lemmas.Bool.{ne_eqb}
use Rattle.reading.specs.Reader.{Outcome, Done, mapped, and_then, ◌<$>◌}
use Rattle.c_ast.specs.Syntax.{Expr, Init, One, MoreInits}
use Rattle.c_ast.specs.View as view
use Rattle.c_ast.specs.View.{expr_of, init_of}
use Rattle.c_ast.specs.declared.types.CType.{CType}
use Rattle.c_ast.specs.declared.expr.Suffix.{Suffix}
use Rattle.c_ast.specs.declared.expr.Suffix.TheVariants.{Plain, U, Ll, Ull}
use Rattle.c_ast.specs.declared.expr.CUnary.{CUnary}
use Rattle.c_ast.specs.declared.expr.CBinary.{CBinary}
use Rattle.c_ast.specs.declared.expr.CExpr.{CExpr}
use Rattle.c_ast.specs.declared.expr.CExpr.TheVariants as expr
use Rattle.c_ast.specs.declared.expr.CInit.{CInit}
use Rattle.c_ast.proofs.View.{unary_is, binary_is, cast_is, cond_is}
use Rattle.grammars.specs.Grammar.{separated, map}
use Rattle.grammars.specs.Kinds.{first}
use Rattle.grammars.specs.Reader.{choose_kind}
use Rattle.c_grammar.specs.Pieces.{Piece}
use Rattle.c_grammar.specs.Kinds.{lexicon}
use Rattle.c_grammar.specs.Symbols.{initializers, comma, braces, blank, left, right}
use Rattle.c_grammar.specs.ExpressionRules as rules
use Rattle.c_grammar.specs.ExpressionRules.{Tail, tail, binary_tail, cond_tail, binary_operator, expression, initializer, arguments_rule, is_zero_number, is_zero_expr}
use Rattle.c_lexemes.specs.Levels.{reads_at, begins_with}
use Rattle.c_expression_parser.specs.Outcomes.{tail_choice}

pub arguments_read : (d : ℕ) (ts : List Piece) → reads_at d arguments_rule ts ≡ cond (begins_with d (21 ∷ 20 ∷ 296 ∷ []) ts) (reads_at d (separated comma expression) ts) (Done [] ts)
unfolding expression
arguments_read d ts = refl

pub initializer_read : (d : ℕ) (ts : List Piece) → reads_at d initializer ts ≡ cond (begins_with d (21 ∷ 20 ∷ 296 ∷ []) ts) (mapped One (reads_at d expression ts)) (reads_at d (braces initializers) ts)
unfolding expression
initializer_read d ts = refl

first_tail : first (map {A = CBinary × Expr} {B = Tail} left binary_tail) ≡ first binary_operator
unfolding binary_operator
first_tail = refl

pub tail_read : (d : ℕ) (ts : List Piece) → reads_at d tail ts ≡ and_then (reads_at d blank ts) (λ _. (λ b. b) <$> tail_choice d)
unfolding tail
tail_read d ts =
    ap (λ (kinds : List ℕ). and_then (reads_at d blank ts) (λ _. (λ b. b) <$> choose_kind lexicon d kinds (reads_at d (map left binary_tail)) (reads_at d (map right cond_tail)))) first_tail

-- ---- a lone 0

more_than_zero : (v : ℕ) (s : Suffix) → false ≡ (nat_eq (suc v) 0 && is_zero_number 0 s)
more_than_zero v s = sym (ap (λ t. t && is_zero_number 0 s) (ne_eqb (suc v) 0 (λ e. omega arith)))

pub zero_number : (v : ℕ) (s : Suffix) → is_zero_number v s ≡ (nat_eq v 0 && is_zero_number 0 s)
zero_number zero Plain = refl
zero_number zero U = refl
zero_number zero Ll = refl
zero_number zero Ull = refl
zero_number (suc v) Plain = more_than_zero v Plain
zero_number (suc v) U = more_than_zero v U
zero_number (suc v) Ll = more_than_zero v Ll
zero_number (suc v) Ull = more_than_zero v Ull

pub unary_not : (op : CUnary) (e : CExpr) → is_zero_expr (expr_of (expr.Unary op e)) ≡ false
unary_not op e = ap is_zero_expr (unary_is op e)

pub binary_not : (op : CBinary) (a b : CExpr) → is_zero_expr (expr_of (expr.Binary op a b)) ≡ false
binary_not op a b = ap is_zero_expr (binary_is op a b)

pub cast_not : (t : CType) (e : CExpr) → is_zero_expr (expr_of (expr.Cast t e)) ≡ false
cast_not t e = ap is_zero_expr (cast_is t e)

pub cond_not : (a b c : CExpr) → is_zero_expr (expr_of (expr.Cond a b c)) ≡ false
cond_not a b c = ap is_zero_expr (cond_is a b c)

pub ruleset other_expressions = (unary_not, binary_not, cast_not, cond_not)

pub one_zero : (is : List CInit) (d : CInit) → length is ≡ 1 → rules.is_zero (lists.map init_of is) ≡ rules.is_zero_init (init_of (get_or is 0 d))
one_zero [] d e = absurd (omega arith)
one_zero (i ∷ []) d e = refl
one_zero (i ∷ j ∷ is) d e = absurd (omega arith)

pub not_one : (is : List CInit) → (length is ≡ 1 → ⊥) → rules.is_zero (lists.map init_of is) ≡ false
not_one [] e = refl
not_one (i ∷ []) e = absurd (e (omega arith))
not_one (i ∷ j ∷ is) e = refl

-- ---- lists of the abstract syntax

pub inits_same : (is : List Init) → rules.inits_of is ≡ view.inits_from is
inits_same [] = refl
inits_same (i ∷ is) = ap (MoreInits i) (inits_same is)
