use Rattle.std.proofs.Common.{◌≡◌, ℕ, ◌+◌, List, drop, map, ap, sym, ◌∙◌}
use Rattle.std.specs.Prelude.{Option}
use Rattle.iv_words.specs.declared.Span.{Span}
use Rattle.ivory_tree.specs.Syntax.{ParamSyntax}
use Rattle.ivory_tree.specs.View.{param_of}
use Rattle.ivory_tree.specs.declared.Param.{Param}
use Rattle.rule_checker.specs.Contexts.{context_of}
use Rattle.rule_checker.specs.Faults.{found, either}
use Rattle.rule_faults.specs.Contexts as contexts
use Rattle.rule_faults.specs.FirstFault.{first_of}
use Rattle.rule_faults.specs.ItemRows.{params_row, with_params}
use Rattle.rule_faults.specs.Nodes as nodes
use Rattle.item_rules.specs.Boundaries.{boundary_at}
use Rattle.item_rules.specs.Params.{param_row, with_param}
use Rattle.item_rules.proofs.Steps.{either_moves, next_param, next_with_param}
use Rattle.item_rules.proofs.headers.params_fault.Goals as goal

pub loop-param-preserved : goal.loop-param-preserved
loop-param-preserved c =
    let x : contexts.Context = context_of c.loop-param.context in
    let b : nodes.Boundary = boundary_at c.args.boundary in
    let at : ℕ = c.loop-param.param-index in
    let p : Param = c.param-item.result in
    let rest : List ParamSyntax = map param_of (drop (at + 1) c.args.all.now) in
    let so_far : Option (ℕ × Span) = found c.loop-param.fault in
    let this : Option (ℕ × Span) = first_of (param_row x b (param_of p)) in
    let later : Option (ℕ × Span) = first_of (params_row (with_param x (param_of p)) b rest) in
    let view : context_of c.add_param.new.context ≡ with_param x (param_of p) = c.in_ok-add_param.ensures.view in
    record {
      rest = ap (λ (y : contexts.Context). either (found c.either-fault.result) (first_of (params_row y b rest))) view
          ∙ ap (λ (f : Option (ℕ × Span)). either f later) (c.either-fault.ensures ∙ ap (λ (n : Option (ℕ × Span)). either so_far n) c.in_ok-next.ensures)
          ∙ either_moves so_far this later
          ∙ ap (λ (r : Option (ℕ × Span)). either so_far r) (sym (next_param x b c.args.all.now at p c.loop-param-test.true c.param-item.is))
          ∙ c.loop-param.invariant.rest;
      scope = ap (λ (y : contexts.Context). with_params y rest) view ∙ sym (next_with_param x c.args.all.now at p c.loop-param-test.true c.param-item.is) ∙ c.loop-param.invariant.scope;
      few = c.in_ok-add_param.ensures.few;
      around = record {
        items = c.in_ok-add_param.ensures.around.items ∙ c.loop-param.invariant.around.items;
        names = c.in_ok-add_param.ensures.around.names ∙ c.loop-param.invariant.around.names;
      };
    }
