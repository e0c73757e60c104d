use Rattle.std.proofs.Common.{Bool, not, List, ap, sym, ◌∙◌}
use Rattle.std.specs.Prelude.{Option, option_map}
use Rattle.iv_words.specs.declared.IntKind.{IntKind}
use Rattle.area_types.specs.Tables.{is_small, tree_over}
use Rattle.area_types.specs.View.{area_of}
use Rattle.area_types.specs.declared.Area.{Area as AreaTree}
use Rattle.area_types.specs.declared.StructDef.{StructDef}
use Rattle.source_types.specs.Environments.{Earlier}
use Rattle.rule_checker.specs.Contexts.{earlier_of}
use Rattle.rule_checker.specs.Rows.{least, one_row}
use Rattle.statement_rules.specs.Areas.{size_rows}
use Rattle.statement_rules.proofs.areas.size_rule.Goals as goal

pub returns-in-Some : goal.returns-in-Some
returns-in-Some c =
    let e : Earlier = earlier_of c.args.items.now in
    c.when.ensures
    ∙ ap (λ (b : Bool). least (one_row 9 (not b)))
    (c.is_small.ensures ∙ ap (λ (ss : List StructDef). is_small c.args.words.now (tree_over ss (area_of c.in-Some.area))) c.as_slice.ensures
    ∙ ap (λ (ws : List IntKind). is_small ws (tree_over c.args.items.now.structs (area_of c.in-Some.area))) c.requires)
    ∙ ap (λ (o : Option AreaTree). least (size_rows e (option_map area_of o))) (sym c.in-Some.is)
