use Rattle.std.proofs.Common.{◌∙◌, sym, ap, arith, take, []}
use Rattle.type_trees.specs.Layouts.{align_row}
use Rattle.c_ast.specs.Scalars.{metric_of}
use Rattle.c_ast.specs.Structs.{row_of, table}
use Rattle.type_trees.proofs.Layouts.{align_row_some}
use Rattle.c_ast.proofs.Structs.{align_named, align_missing}
use Rattle.c_ast.proofs.layout.+aligns.Goals as goal

pub base_align-returns-in-Some-clause-value : goal.base_align-returns-in-Some-clause-value
base_align-returns-in-Some-clause-value t c =
    c.members_align.ensures.value ∙ ap (λ ms. align_row (metric_of c.args.t) (row_of (table [] (take c.in-Some.k c.args.structs.now)) ms)) c.as_slice.ensures
    ∙ sym (align_named (metric_of c.args.t) c.args.structs.now c.args.b.now c.in-Struct.name c.in-Some.k c.index-structs-k.result c.in-Struct.is (sym c.find.ensures.place ∙ c.in-Some.is))

pub base_align-returns-in-None-clause-value : goal.base_align-returns-in-None-clause-value
base_align-returns-in-None-clause-value t c = sym (align_missing (metric_of c.args.t) c.args.structs.now c.args.b.now c.in-Struct.name c.in-Struct.is (sym c.find.ensures.place ∙ c.in-None.is))

pub members_align-loop-m-init : goal.members_align-loop-m-init
members_align-loop-m-init t c = omega (arith, align_row_some (metric_of c.args.t) (row_of (table [] c.args.earlier.now) c.args.members.now))
