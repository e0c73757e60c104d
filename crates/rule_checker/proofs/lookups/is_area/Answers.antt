use Rattle.std.proofs.Common.{◌∙◌}
use Rattle.source_types.specs.Environments.{AreaDeclared}
use Rattle.rule_checker.specs.Contexts.{area_entry_of}
use Rattle.rule_checker.specs.declared.items.Items.{Items}
use Rattle.rule_checker.proofs.Searches.{any_by_name}
use Rattle.rule_checker.proofs.lookups.is_area.Goals as goal

pub returns : goal.returns
returns c =
    let items : Items = c.args.items.now in
    c.contains.ensures ∙ any_by_name area_entry_of (λ (x : AreaDeclared). x.name) items.area_names items.areas c.args.name.now items.areas_are_named
