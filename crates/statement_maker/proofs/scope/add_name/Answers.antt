use Rattle.std.proofs.Common.{List, [], ◌∷◌, ◌++◌, ap₂, ◌∙◌}
use Rattle.ivory_tree.specs.Syntax.{Word}
use Rattle.area_types.specs.declared.area.ValueType.{ValueType}
use Rattle.statement_maker.proofs.Scopes.{named, pushed_stays}
use Rattle.statement_maker.proofs.scope.add_name.Goals as goal

pub returns-clause-stays : goal.returns-clause-stays
returns-clause-stays c =
    let p = c.args.place.now in
    pushed_stays p c.args.name.now c.args.ty c.in_ok-number.number c.push.new.self c.push-2.new.self c.push-3.new.self c.requires c.in_ok-number.ensures
    (c.in_ok-push.ensures.ok ∙ ap₂ (λ (x : Word) (t : ValueType). p.context.scope ++ named x t ∷ []) c.in_ok-name.ensures c.in_ok-copy.ensures) c.in_ok-push-2.ensures.ok c.in_ok-push-3.ensures.ok
