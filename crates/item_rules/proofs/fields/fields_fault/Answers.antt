use Rattle.std.proofs.Common.{ℕ, ◌+◌, take, drop, map, ap, sym, ◌∙◌}
use Rattle.ivory_tree.specs.View.{field_of}
use Rattle.source_types.specs.Environments.{Earlier}
use Rattle.rule_checker.specs.Contexts.{earlier_of}
use Rattle.rule_checker.specs.Faults.{found}
use Rattle.rule_checker.proofs.Started.{found_here, found_later}
use Rattle.rule_faults.specs.FirstFault.{first_of}
use Rattle.rule_faults.specs.ItemRows.{fields_row}
use Rattle.item_rules.specs.Fields.{field_names}
use Rattle.item_rules.proofs.Steps.{next_field}
use Rattle.item_rules.proofs.fields.fields_fault.Goals as goal

pub returns-in-Some : goal.returns-in-Some
returns-in-Some c =
    let x : Earlier = earlier_of c.args.items.now in
    let at : ℕ = c.loop-at.at in
    found_here (first_of (fields_row x (field_names (map field_of (take (at + 1) c.args.all.now))) (map field_of (drop (at + 1) c.args.all.now)))) c.loop-at.invariant
    (next_field x c.args.all.now at c.index-all-at.result c.loop-at-test.true c.index-all-at.is)
    (sym c.in_ok-fault.ensures ∙ ap found c.in-Some.is)

pub loop-at-preserved : goal.loop-at-preserved
loop-at-preserved c =
    let x : Earlier = earlier_of c.args.items.now in
    let at : ℕ = c.loop-at.at in
    found_later (first_of (fields_row x (field_names (map field_of (take (at + 1) c.args.all.now))) (map field_of (drop (at + 1) c.args.all.now)))) c.loop-at.invariant
    (next_field x c.args.all.now at c.index-all-at.result c.loop-at-test.true c.index-all-at.is)
    (sym c.in_ok-fault.ensures ∙ ap found c.in_default.is)
