use Rattle.std.proofs.Common.{◌∙◌, ap}
use Rattle.std.specs.Prelude.{option_map, option_and_then, slice_get}
use Rattle.source_types.specs.Environments.{Callee}
use Rattle.rule_checker.specs.Contexts.{callee_entry_of}
use Rattle.rule_checker.specs.declared.items.Items.{Items}
use Rattle.rule_checker.proofs.Searches.{found_by_name}
use Rattle.rule_checker.proofs.lookups.callee_named.Goals as goal

pub returns-in-Some : goal.returns-in-Some
returns-in-Some c =
    let items : Items = c.args.items.now in
    ap (option_map callee_entry_of) c.get.ensures.value ∙ ap (option_and_then (λ k. option_map callee_entry_of (slice_get items.callees k))) c.in-Some.ensures.first
    ∙ found_by_name callee_entry_of (λ (x : Callee). x.name) items.callee_names.all items.callees c.args.name.now items.callees_are_named

pub returns-in-None : goal.returns-in-None
returns-in-None c =
    let items : Items = c.args.items.now in
    ap (option_and_then (λ k. option_map callee_entry_of (slice_get items.callees k))) c.in-None.ensures.first
    ∙ found_by_name callee_entry_of (λ (x : Callee). x.name) items.callee_names.all items.callees c.args.name.now items.callees_are_named
