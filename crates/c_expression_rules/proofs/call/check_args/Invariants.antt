use Rattle.std.proofs.Common.{drop}
use Rattle.c_ast.specs.View.{expr_of}
use Rattle.c_text.specs.ExpressionText.{expr_text}
use Rattle.c_scopes.specs.Scope.{names_view, params_view}
use Rattle.c_scopes.proofs.Rows.{Listing}
use Rattle.c_expression_rules.proofs.Args.{item, next}
use Rattle.c_expression_rules.proofs.call.check_args.Given as goal

abbrev pub invariant-loop-arg : goal.invariant-loop-arg
invariant-loop-arg l =
    Listing (λ e. expr_text (expr_of e)) (item l.names.target (names_view l.names)) next l.initial.walk l.walk (params_view l.initial.params) (params_view l.params) l.more l.args (drop l.arg-index l.args)
