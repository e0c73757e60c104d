use Rattle.std.proofs.lemmas.Result.{on_ok_weaker}
use Rattle.std.proofs.Common.{ap}
use Rattle.c_ast.specs.StaticTypes.{ObjectName}
use Rattle.c_rules.proofs.Units.{object_declared, save_objects}
use Rattle.c_rules.proofs.declarations.check_file_object.Goals as goal

pub returns-clause-view : goal.returns-clause-view
returns-clause-view c =
    on_ok_weaker c.declare_object.result (object_declared c.args.names.now c.declare_object.new.names c.args.object.now _ c.requires (ap (ObjectName c.args.object.now.constant) c.base_of.ensures)) c.declare_object.ensures

pub returns-clause-others : goal.returns-clause-others
returns-clause-others c = on_ok_weaker c.declare_object.result (save_objects c.args.names.now c.declare_object.new.names _) c.declare_object.ensures
