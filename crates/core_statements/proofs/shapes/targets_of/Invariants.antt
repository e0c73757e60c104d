use Rattle.std.proofs.Common.{◌≡◌, map, take}
use Rattle.area_types.specs.View.{type_of}
use Rattle.core_tree.specs.Cores.{core_of}
use Rattle.core_meaning.specs.Imports.{writable}
use Rattle.core_statements.specs.Replies.{targets_of}
use Rattle.core_statements.proofs.shapes.targets_of.Given as goal

abbrev pub invariant-loop-ty : goal.invariant-loop-ty
invariant-loop-ty l = targets_of l.targets ≡ map (writable (core_of l.program)) (map type_of (take l.ty-index l.params))
