use Rattle.std.proofs.Common.{◌≡◌, [], drop}
use Rattle.type_trees.specs.Layouts.{end_row, offset_row}
use Rattle.c_ast.specs.Scalars.{metric_of}
use Rattle.c_ast.specs.Structs.{row_of, table, index_of}
use Rattle.c_ast.proofs.layout.member_offset.Given as goal

abbrev pub invariant-loop-m : goal.invariant-loop-m
invariant-loop-m l =
    (end_row (metric_of l.t) (row_of (table [] l.earlier) (drop l.m-index l.members)) l.end ≡ end_row (metric_of l.t) (row_of (table [] l.earlier) l.members) 0)
    × (offset_row (metric_of l.t) (row_of (table [] l.earlier) (drop l.m-index l.members)) (index_of (row_of (table [] l.earlier) (drop l.m-index l.members)) l.name) [] l.end ≡ offset_row (metric_of l.t) (row_of (table [] l.earlier) l.members) (index_of (row_of (table [] l.earlier) l.members) l.name) [] 0)
