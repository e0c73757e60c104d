use Rattle.std.proofs.Common.{◌∙◌}
use Rattle.rule_checker.specs.declared.Items.{Items}
use Rattle.core_maker.proofs.Callees.{import_numbered, procedure_numbered}
use Rattle.core_maker.proofs.calls.callee_number.Goals as goal

pub returns-then-callee : goal.returns-then-callee
returns-then-callee c =
    let items : Items = c.args.items.now in
    c.position.ensures.first ∙ import_numbered items.callee_names.imports items.callees c.args.callee.now.name c.args.callee.now.import c.if-callee.true items.imports_are_named

pub returns-else-callee : goal.returns-else-callee
returns-else-callee c =
    let items : Items = c.args.items.now in
    c.position-else-callee.ensures.first ∙ procedure_numbered items.callee_names.procedures items.callees c.args.callee.now.name c.args.callee.now.import c.if-callee.false items.procedures_are_named
