use Rattle.std.proofs.Common.{◌≡◌, ◌++◌, map, take}
use Rattle.c_statements.specs.Cells.{cell_of}
use Rattle.c_statements.proofs.cells.add_pointed.Given as goal

abbrev pub invariant-loop-place : goal.invariant-loop-place
invariant-loop-place l = l.out ≡ l.initial.out ++ map (cell_of l.to.object) (take l.place-index l.place-items)
