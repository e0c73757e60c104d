use Rattle.std.proofs.Common.{◌≡◌, [], ◌+◌, ◌*◌, ◌≤◌, length, drop, max}
use Rattle.type_trees.specs.Layouts.{align_row}
use Rattle.c_ast.specs.Scalars.{metric_of}
use Rattle.c_ast.specs.Structs.{row_of, table}
use Rattle.c_ast.proofs.layout.+aligns.Given as goal

abbrev pub decreases-base_align : goal.decreases-base_align
decreases-base_align l = 2 * length l.structs.now

abbrev pub decreases-members_align : goal.decreases-members_align
decreases-members_align l = 2 * length l.earlier.now + 1

abbrev pub invariant-members_align-loop-m : goal.invariant-members_align-loop-m
invariant-members_align-loop-m l = (1 ≤ l.most) × (max l.most (align_row (metric_of l.t) (row_of (table [] l.earlier) (drop l.m-index l.members))) ≡ align_row (metric_of l.t) (row_of (table [] l.earlier) l.members))
