use Rattle.c_rules.proofs.Scopes.{on_ok, pushed_view, pushed_keeps}
use Rattle.c_ast.specs.Syntax.{Name}
use Rattle.c_scopes.specs.declared.names.Entity.{Entity}
use Rattle.c_rules.proofs.decl.declare.Goals as goal

pub returns-clause-view : goal.returns-clause-view
returns-clause-view c =
    let d : Name × Entity = (c.args.name.now, c.args.entity) in
    on_ok c.declare.result (pushed_view c.args.names.now c.declare.new.self d) c.declare.ensures

pub returns-clause-kept : goal.returns-clause-kept
returns-clause-kept c =
    let d : Name × Entity = (c.args.name.now, c.args.entity) in
    on_ok c.declare.result (pushed_keeps c.args.names.now c.declare.new.self d) c.declare.ensures
