use Rattle.std.proofs.Common.{◌+◌, List, map, drop, ap, sym, ◌∙◌}
use Rattle.std.specs.Prelude.{Option, option_map}
use Rattle.std.specs.Option.{option_copied}
use Rattle.area_types.specs.Syntax.{ValueType}
use Rattle.area_types.specs.View.{type_of}
use Rattle.area_types.specs.declared.area.ValueType.{ValueType as TypeTree}
use Rattle.ivory_tree.specs.View.{expr_of}
use Rattle.ivory_tree.specs.declared.expr.Expr.{Expr}
use Rattle.region_check.specs.Calls.{Passed}
use Rattle.rule_faults.specs.Contexts as contexts
use Rattle.rule_faults.specs.ExpressionRows.{expr_row, args_row}
use Rattle.rule_faults.specs.FirstFault.{first_of}
use Rattle.rule_faults.specs.Wants as wanting
use Rattle.rule_checker.specs.Arguments.{passed_at, argument_want, learned}
use Rattle.rule_checker.specs.Contexts.{context_of}
use Rattle.rule_checker.specs.Faults.{found}
use Rattle.rule_checker.specs.declared.matched.Matched.{Matched}
use Rattle.rule_checker.proofs.Started.{found_here, found_later}
use Rattle.rule_checker.proofs.Argued.{next_arg}
use Rattle.rule_checker.proofs.calls.args_fault.Goals as goal

pub returns-in-Some : goal.returns-in-Some
returns-in-Some c =
    let x : contexts.Context = context_of c.args.context.now in
    let before : List Passed = map passed_at c.loop-arg.before in
    let param : Option (Option TypeTree) = option_copied c.split_param.result.0 in
    let seen : Option (Option ValueType) = option_map (option_map type_of) param in
    let arg : Expr = c.arg-item.result in
    found_here (first_of (args_row x (learned x before seen (expr_of arg)) (map (option_map type_of) c.split_param.result.1.now) (map expr_of (drop (c.loop-arg.arg-index + 1) c.args.args.now)))) c.loop-arg.invariant
    (next_arg (option_map type_of) x before param c.split_param.result.1.now c.loop-arg.rest.now c.args.args.now c.loop-arg.arg-index arg c.loop-arg-test.true c.arg-item.is c.split_param.ensures)
    (ap (λ (v : wanting.Want). first_of (expr_row x v (expr_of arg))) (sym (c.argument_want.ensures ∙ ap (λ (ms : List Matched). argument_want (map passed_at ms) seen) c.as_slice.ensures))
    ∙ sym c.expression_fault.ensures ∙ ap found c.in-Some.is)

pub loop-arg-preserved : goal.loop-arg-preserved
loop-arg-preserved c =
    let x : contexts.Context = context_of c.args.context.now in
    let before : List Passed = map passed_at c.loop-arg.before in
    let param : Option (Option TypeTree) = option_copied c.split_param.result.0 in
    let seen : Option (Option ValueType) = option_map (option_map type_of) param in
    let arg : Expr = c.arg-item.result in
    ap (λ (ps : List Passed). first_of (args_row x ps (map (option_map type_of) c.split_param.result.1.now) (map expr_of (drop (c.loop-arg.arg-index + 1) c.args.args.now)))) c.in_ok-learn.ensures
    ∙ found_later (first_of (args_row x (learned x before seen (expr_of arg)) (map (option_map type_of) c.split_param.result.1.now) (map expr_of (drop (c.loop-arg.arg-index + 1) c.args.args.now)))) c.loop-arg.invariant
    (next_arg (option_map type_of) x before param c.split_param.result.1.now c.loop-arg.rest.now c.args.args.now c.loop-arg.arg-index arg c.loop-arg-test.true c.arg-item.is c.split_param.ensures)
    (ap (λ (v : wanting.Want). first_of (expr_row x v (expr_of arg))) (sym (c.argument_want.ensures ∙ ap (λ (ms : List Matched). argument_want (map passed_at ms) seen) c.as_slice.ensures))
    ∙ sym c.expression_fault.ensures ∙ ap found c.in_default.is)
