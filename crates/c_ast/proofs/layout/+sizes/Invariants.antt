use Rattle.std.proofs.Common.{◌≡◌, [], ◌+◌, ◌*◌, length, drop}
use Rattle.type_trees.specs.Layouts.{end_row}
use Rattle.c_ast.specs.Scalars.{metric_of}
use Rattle.c_ast.specs.Structs.{row_of, table}
use Rattle.c_ast.proofs.layout.+sizes.Given as goal

abbrev pub decreases-base_size : goal.decreases-base_size
decreases-base_size l = 3 * length l.structs.now

abbrev pub decreases-member_size : goal.decreases-member_size
decreases-member_size l = 3 * length l.earlier.now + 1

abbrev pub decreases-members_size : goal.decreases-members_size
decreases-members_size l = 3 * length l.earlier.now + 2

abbrev pub invariant-members_size-loop-m : goal.invariant-members_size-loop-m
invariant-members_size-loop-m l = end_row (metric_of l.t) (row_of (table [] l.earlier) (drop l.m-index l.members)) l.end ≡ end_row (metric_of l.t) (row_of (table [] l.earlier) l.members) 0
