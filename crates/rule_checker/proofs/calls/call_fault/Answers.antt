use Rattle.std.proofs.Common.{ℕ, [], List, map, ap, sym, ◌∙◌}
use Rattle.std.specs.Prelude.{Option}
use Rattle.std.proofs.lemmas.List.{length-map}
use Rattle.area_types.specs.Syntax.{ValueType}
use Rattle.ivory_tree.specs.View.{expr_of, call_of}
use Rattle.ivory_tree.specs.declared.expr.Expr.{Expr}
use Rattle.source_types.specs.Environments.{Callee, callee_named}
use Rattle.rule_faults.specs.Contexts as contexts
use Rattle.rule_faults.specs.ExpressionRows.{args_row, params_of}
use Rattle.rule_faults.specs.FirstFault.{first_of}
use Rattle.rule_checker.specs.Arguments.{call_rows}
use Rattle.rule_checker.specs.Contexts.{context_of}
use Rattle.rule_checker.specs.Rows.{least}
use Rattle.rule_checker.proofs.Told.{told_by}
use Rattle.rule_checker.proofs.Argued.{call_told}
use Rattle.rule_checker.proofs.calls.call_fault.Goals as goal

pub returns : goal.returns
returns c =
    let x : contexts.Context = context_of c.args.context.now in
    let callee : Option Callee = callee_named x.earlier c.args.call.now.name.text in
    let args : List Expr = c.args.call.now.args in
    told_by c.args.call.now.span
    (c.call_rule.ensures ∙ ap (λ (o : Option Callee). least (call_rows o c.len.result)) c.callee_named-callee.ensures
    ∙ ap (λ (n : ℕ). least (call_rows callee n)) (c.len.ensures ∙ sym (length-map args expr_of)))
    c.at_place.ensures
    (c.in_ok-within.ensures ∙ ap (λ (ps : List (Option ValueType)). first_of (args_row x [] ps (map expr_of c.as_slice.result.now))) (c.params_of.ensures ∙ ap params_of c.callee_named-callee.ensures)
    ∙ ap (λ (es : List Expr). first_of (args_row x [] (params_of callee) (map expr_of es))) c.as_slice.ensures)
    (call_told x (call_of c.args.call.now))
