use Rattle.std.proofs.Common.{◌≡◌, [], map, drop}
use Rattle.c_ast.specs.View.{object_of}
use Rattle.c_meaning.specs.Runs.{file_objects}
use Rattle.c_objects.specs.Store.{objects_of}
use Rattle.c_expressions.specs.Programs.{program_of}
use Rattle.c_expressions.specs.State.{state_of}
use Rattle.c_meaning.specs.State.{at_rest}
use Rattle.c_run.proofs.start.first_state.Given as goal

abbrev pub invariant-loop-object : goal.invariant-loop-object
invariant-loop-object l = record {
  made : file_objects (program_of l.program) (map object_of (drop l.object-index l.object-items)) (objects_of l.state.objects) ≡ file_objects (program_of l.program) (map object_of l.object-items) [];
  rest : state_of l.state ≡ record at_rest { objects = objects_of l.state.objects };
}
