use Rattle.std.proofs.Common.{List, ℕ, ◌≤◌, length, map, subst, ◌∙◌}
use Rattle.std.specs.Prelude.{option_map}
use Rattle.area_types.specs.View.{type_of}
use Rattle.core_tree.specs.View as tree
use Rattle.ivory_tree.specs.declared.Expr.{Expr}
use Rattle.core_maker.specs.Places.{env_of}
use Rattle.core_maker.proofs.Listed.{args_ended, args_behind}
use Rattle.core_maker.proofs.calls.arguments.Goals as goal

pub returns-clause-args : goal.returns-clause-args
returns-clause-args c =
    let args : List Expr = c.args.args.now in
    let i : ℕ = c.loop-arg.arg-index in
    let past : length args ≤ i = subst (λ (es : List Expr). length es ≤ i) c.as_slice-arg-items.ensures c.loop-arg-test.false in
    args_ended (env_of c.args.place.now) c.loop-arg.next (map tree.expr_of c.loop-arg.made) (map (option_map type_of) c.loop-arg.rest.now) args i past ∙ c.loop-arg.invariant.0

pub returns-clause-after : goal.returns-clause-after
returns-clause-after c =
    let args : List Expr = c.args.args.now in
    let i : ℕ = c.loop-arg.arg-index in
    let past : length args ≤ i = subst (λ (es : List Expr). length es ≤ i) c.as_slice-arg-items.ensures c.loop-arg-test.false in
    args_behind (env_of c.args.place.now) c.loop-arg.next (map (option_map type_of) c.loop-arg.rest.now) args i past ∙ c.loop-arg.invariant.1
