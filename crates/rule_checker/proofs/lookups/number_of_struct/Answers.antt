use Rattle.std.proofs.Common.{◌∙◌}
use Rattle.area_types.specs.Syntax.{StructType}
use Rattle.area_types.specs.View.{struct_of}
use Rattle.rule_checker.specs.declared.items.Items.{Items}
use Rattle.rule_checker.proofs.Searches.{position_by_name}
use Rattle.rule_checker.proofs.lookups.number_of_struct.Goals as goal

pub returns-in-Some : goal.returns-in-Some
returns-in-Some c =
    let items : Items = c.args.items.now in
    c.in-Some.ensures.first ∙ position_by_name struct_of (λ (x : StructType). x.name) items.struct_names items.structs c.args.name.now items.structs_are_named

pub returns-in-None : goal.returns-in-None
returns-in-None c =
    let items : Items = c.args.items.now in
    c.in-None.ensures.first ∙ position_by_name struct_of (λ (x : StructType). x.name) items.struct_names items.structs c.args.name.now items.structs_are_named
