use Rattle.std.proofs.Common.{◌∙◌}
use Rattle.source_types.specs.Environments.{AreaDeclared}
use Rattle.rule_checker.specs.Contexts.{area_entry_of}
use Rattle.rule_checker.specs.declared.Items.{Items}
use Rattle.rule_checker.proofs.Searches.{position_by_name}
use Rattle.core_parts.proofs.types.area_position.Goals as goal

pub returns : goal.returns
returns c =
    let items : Items = c.args.items.now in
    c.position.ensures.first ∙ position_by_name area_entry_of (λ (a : AreaDeclared). a.name) items.area_names items.areas c.args.name.now items.areas_are_named
