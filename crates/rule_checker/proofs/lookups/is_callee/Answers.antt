use Rattle.std.proofs.Common.{◌∙◌}
use Rattle.source_types.specs.Environments.{Callee}
use Rattle.rule_checker.specs.Contexts.{callee_entry_of}
use Rattle.rule_checker.specs.declared.items.Items.{Items}
use Rattle.rule_checker.proofs.Searches.{any_by_name}
use Rattle.rule_checker.proofs.lookups.is_callee.Goals as goal

pub returns : goal.returns
returns c =
    let items : Items = c.args.items.now in
    c.contains.ensures ∙ any_by_name callee_entry_of (λ (x : Callee). x.name) items.callee_names.all items.callees c.args.name.now items.callees_are_named
