use Rattle.std.proofs.Common.{ℕ, List, map, ap, sym, ◌∙◌}
use Rattle.std.specs.Prelude.{Option, option_map}
use Rattle.iv_words.specs.declared.Span.{Span}
use Rattle.ivory_tree.specs.View.{type_of, param_of, header_of}
use Rattle.ivory_tree.specs.declared.Param.{Param}
use Rattle.rule_checker.specs.Contexts.{context_of}
use Rattle.rule_checker.specs.Faults.{found, either}
use Rattle.rule_checker.proofs.Patterns.{first_joined}
use Rattle.rule_faults.specs.Contexts as contexts
use Rattle.rule_faults.specs.FirstFault.{first_of}
use Rattle.rule_faults.specs.ItemRows.{params_row, result_row, at_header}
use Rattle.rule_faults.specs.Nodes as nodes
use Rattle.item_rules.specs.Boundaries.{boundary_at}
use Rattle.item_rules.proofs.headers.header_fault.Goals as goal

pub returns-clause-fault : goal.returns-clause-fault
returns-clause-fault c =
    let x : contexts.Context = at_header (context_of c.args.context.now) (header_of c.args.header.now) in
    let b : nodes.Boundary = boundary_at c.args.boundary in
    c.either.ensures
    ∙ ap (λ (p : Option (ℕ × Span)). either p (found c.in_ok-of_result.of_result))
    (c.in_ok-of_params.ensures.fault ∙ ap (λ (y : contexts.Context). first_of (params_row y b (map param_of c.as_slice.result.now))) c.in_ok-enter.ensures.view
    ∙ ap (λ (ps : List Param). first_of (params_row x b (map param_of ps))) c.as_slice.ensures)
    ∙ ap (λ (r : Option (ℕ × Span)). either (first_of (params_row x b (map param_of c.args.header.now.params))) r)
    (c.in_ok-of_result.ensures ∙ ap (λ (y : contexts.Context). first_of (result_row y b (option_map type_of c.args.header.now.result))) c.in_ok-enter.ensures.view)
    ∙ sym (first_joined (params_row x b (map param_of c.args.header.now.params)) (result_row x b (option_map type_of c.args.header.now.result)))
