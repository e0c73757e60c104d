use Rattle.std.proofs.Common.{◌≡◌, take}
use Rattle.std.specs.Option.{option_map}
use Rattle.c_ast.specs.Names.{named}
use Rattle.c_expressions.specs.State.{slot_of, frame_of}
use Rattle.c_expressions.proofs.names.find_local.Given as goal

abbrev pub invariant-loop-local : goal.invariant-loop-local
invariant-loop-local l = option_map slot_of l.found ≡ named (frame_of (take l.local-index l.locals)) l.name
