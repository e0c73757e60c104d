use Rattle.std.proofs.Common.{ap, arith, []}
use Rattle.type_trees.specs.Multiples.{up}
use Rattle.c_ast.specs.Scalars.{metric_of}
use Rattle.c_ast.specs.Structs.{table}
use Rattle.c_ast.proofs.Structs.{members_room}
use Rattle.c_ast.proofs.layout.member_offset.Goals as goal

pub up-at-requires-clause-fits : goal.up-at-requires-clause-fits
up-at-requires-clause-fits c = omega (arith, ap (up c.loop-m.end) c.base_align.ensures.value, members_room (metric_of c.args.t) (table [] c.args.earlier.now) c.args.members.now c.loop-m.m-index c.m-item.result c.loop-m.end 1099511627776 c.loop-m-test.true c.m-item.is c.loop-m.invariant.0 c.requires)

pub member_size-requires : goal.member_size-requires
member_size-requires c = omega (arith, members_room (metric_of c.args.t) (table [] c.args.earlier.now) c.args.members.now c.loop-m.m-index c.m-item.result c.loop-m.end 1099511627776 c.loop-m-test.true c.m-item.is c.loop-m.invariant.0 c.requires)

pub overflow_add-end : goal.overflow_add-end
overflow_add-end c = omega (arith, c.up-at.ensures, c.member_size.ensures, ap (up c.loop-m.end) c.base_align.ensures.value, members_room (metric_of c.args.t) (table [] c.args.earlier.now) c.args.members.now c.loop-m.m-index c.m-item.result c.loop-m.end 1099511627776 c.loop-m-test.true c.m-item.is c.loop-m.invariant.0 c.requires)
