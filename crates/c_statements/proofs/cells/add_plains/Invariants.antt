use Rattle.std.proofs.Common.{◌≡◌, ◌++◌, map, take}
use Rattle.c_ast.specs.Exports.{plain_of}
use Rattle.c_statements.proofs.cells.add_plains.Given as goal

abbrev pub invariant-loop-cell : goal.invariant-loop-cell
invariant-loop-cell l = l.shape ≡ l.initial.shape ++ map (λ c. plain_of c.scalar) (take l.cell-index l.cells)
