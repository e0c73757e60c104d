use Rattle.std.proofs.Common.{ap, sym}
use Rattle.std.proofs.lemmas.Simd.{map-map}
use Rattle.c_ast.specs.View.{expr_of}
use Rattle.c_text.specs.ExpressionText.{expr_text}
use Rattle.c_text.specs.TypeText.{listed}
use Rattle.c_scopes.specs.Scope.{names_view, params_view}
use Rattle.c_expression_rules.proofs.Args.{item, next, args_are}
use Rattle.c_scopes.proofs.Rows.{listing_begins, listing_on, all_listed}
use Rattle.c_scopes.proofs.Walks.{as_demands, as_text}
use Rattle.c_expression_rules.proofs.call.check_args.Goals as goal

pub loop-arg-init : goal.loop-arg-init
loop-arg-init c = listing_begins (λ e. expr_text (expr_of e)) (item c.args.names.now.target (names_view c.args.names.now)) next c.args.walk.now (params_view c.args.params) c.args.args.now

pub loop-arg-preserved : goal.loop-arg-preserved
loop-arg-preserved c =
    rw c.rest-params.ensures
    (listing_on (λ e. expr_text (expr_of e)) (item c.args.names.now.target (names_view c.args.names.now)) next c.args.walk.now (params_view c.args.params) (params_view c.loop-arg.params) c.loop-arg.more c.args.args.now c.loop-arg.arg-index c.arg-item.result c.loop-arg-test.true c.arg-item.is c.loop-arg.invariant c.pass_comma.ensures
    (rw c.first.ensures at c.check_arg.ensures))

pub returns : goal.returns
returns c =
    as_text (ap listed (sym (map-map expr_text expr_of c.args.args.now))) (as_demands (args_are c.args.names.now.target (names_view c.args.names.now) (params_view c.args.params) c.args.walk.now.at c.args.args.now)
    (all_listed (λ e. expr_text (expr_of e)) (item c.args.names.now.target (names_view c.args.names.now)) next (params_view c.args.params) (params_view c.loop-arg.params) c.loop-arg.more c.args.args.now c.loop-arg.arg-index c.loop-arg-test.false c.loop-arg.invariant))
