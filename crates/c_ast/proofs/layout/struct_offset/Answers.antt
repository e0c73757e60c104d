use Rattle.std.proofs.Common.{◌∙◌, sym, ap, arith}
use Rattle.type_trees.specs.Layouts.{size}
use Rattle.c_ast.specs.Scalars.{metric_of}
use Rattle.c_ast.specs.Structs.{offset_named}
use Rattle.c_ast.proofs.Structs.{named_struct, tree_missing}
use Rattle.c_ast.proofs.layout.struct_offset.Goals as goal

pub member_offset-requires : goal.member_offset-requires
member_offset-requires c = omega (arith, c.requires, ap (size (metric_of c.args.t)) (named_struct c.args.structs.now c.args.s.now c.in-Some.k c.index-structs-k.result c.as_slice.result.now (sym c.find.ensures.place ∙ c.in-Some.is) c.index-structs-k.is c.as_slice.ensures))

pub returns-in-Some : goal.returns-in-Some
returns-in-Some c = c.member_offset.ensures ∙ ap (λ a. offset_named (metric_of c.args.t) a c.args.m.now) (sym (named_struct c.args.structs.now c.args.s.now c.in-Some.k c.index-structs-k.result c.as_slice.result.now (sym c.find.ensures.place ∙ c.in-Some.is) c.index-structs-k.is c.as_slice.ensures))

pub returns-in-None : goal.returns-in-None
returns-in-None c = ap (λ a. offset_named (metric_of c.args.t) a c.args.m.now) (sym (tree_missing c.args.structs.now c.args.s.now (sym c.find.ensures.place ∙ c.in-None.is)))
