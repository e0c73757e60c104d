-- What is read behind parentheses, by what stands in them, and behind the blank of a tail.
use Rattle.std.specs.Prelude.{ℕ, List}
use Rattle.reading.specs.Reader.{Outcome, Reader, mapped}
use Rattle.c_ast.specs.Syntax.{Expr}
use Rattle.c_ast.specs.declared.expr.CExpr.{CExpr}
use Rattle.grammars.specs.Grammar.{stage, map}
use Rattle.grammars.specs.Kinds.{first}
use Rattle.grammars.specs.Reader.{choose_kind}
use Rattle.c_grammar.specs.Pieces.{Piece}
use Rattle.c_grammar.specs.Kinds.{lexicon}
use Rattle.c_grammar.specs.Symbols.{left, right}
use Rattle.c_grammar.specs.ExpressionRules as rules
use Rattle.c_lexemes.specs.Levels.{reads_at}
use Rattle.c_expression_parser.specs.Views.{inner_of, inside_of}
use Rattle.c_expression_parser.specs.declared.parts.Side.{Side}
use Rattle.c_expression_parser.specs.declared.parts.Inside.{Inside}

abbrev pub inner_outcome : ℕ → Side CExpr CExpr → List Piece → Outcome Piece Expr
inner_outcome d inner ts = mapped (rules.inner_value (inner_of inner)) (reads_at d (rules.behind_inner (stage 1 (rules.inner_way (inner_of inner)))) ts)

abbrev pub inside_outcome : ℕ → Inside → List Piece → Outcome Piece Expr
inside_outcome d inside ts = mapped (rules.inside_value (inside_of inside)) (reads_at d (rules.behind_inside (stage 2 (rules.inside_way (inside_of inside)))) ts)

abbrev pub tail_choice : ℕ → Reader Piece rules.Tail
tail_choice d = choose_kind lexicon d (first rules.binary_operator) (reads_at d (map left rules.binary_tail)) (reads_at d (map right rules.cond_tail))
