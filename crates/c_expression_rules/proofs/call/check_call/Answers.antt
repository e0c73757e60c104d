use Rattle.std.proofs.Common.{◌≡◌, ◌∙◌, sym, length}
use Rattle.std.specs.Prelude.{map}
use Rattle.std.proofs.lemmas.List.{length-map}
use Rattle.c_ast.specs.View.{expr_of}
use Rattle.c_ast.specs.Names.{named}
use Rattle.c_text.specs.Rules.{CalledIsEarlier, ArgumentsAreCounted, ResultIsWanted}
use Rattle.c_text.specs.ExpressionRules.{args_demands, params_of}
use Rattle.c_scopes.specs.Scope.{names_view}
use Rattle.c_scopes.proofs.Walks.{followed, passed, asked_here, asked_again}
use Rattle.c_expression_rules.proofs.call.check_call.Goals as goal

pub returns : goal.returns
returns c =
    let counted : c.len.result ≡ length (map expr_of c.args.call.now.args) = c.len.ensures ∙ sym (length-map c.args.call.now.args expr_of) in
    passed
    (followed (λ at. args_demands c.args.names.now.target (names_view c.args.names.now) at (params_of c.args.names.now.target (names_view c.args.names.now) (named (names_view c.args.names.now).functions c.args.call.now.name)) (map expr_of c.args.call.now.args))
    (passed
    (passed
    (asked_again ResultIsWanted
    (asked_again ArgumentsAreCounted
    (asked_here CalledIsEarlier (rw (c.is_called.ensures, c.called-called.ensures) at c.ask.ensures))
    (rw (c.is_counted.ensures, c.called-called.ensures, counted) at c.ask-2.ensures))
    (rw (c.is_result_wanted.ensures, c.called-called.ensures) at c.ask-3.ensures))
    (rw c.as_slice.ensures at c.pass.ensures))
    c.pass-2.ensures)
    (rw (c.params_called.ensures, c.called-called.ensures, c.as_slice-2.ensures) at c.check_args.ensures))
    c.pass-3.ensures
