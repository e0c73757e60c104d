use Rattle.std.proofs.Common.{rules, ℕ, ◌≡◌, ◌∙◌, sym, ap, arith, take, []}
use Rattle.type_trees.specs.Trees.{Struct}
use Rattle.type_trees.specs.Layouts.{size}
use Rattle.type_trees.specs.Multiples.{up}
use Rattle.c_ast.specs.Scalars.{metric_of}
use Rattle.c_ast.specs.Structs.{row_of, table, tree}
use Rattle.c_ast.proofs.Structs.{tree_named, size_missing, members_room}
use Rattle.c_ast.proofs.layout.+sizes.Goals as goal

-- the struct that the name stands for, as the code reads it
named : (t : ℕ) (c : goal.base_size-After-as_slice t) → size (metric_of c.args.t) (tree c.args.structs.now c.args.b.now) ≡ size (metric_of c.args.t) (Struct c.in-Struct.name (row_of (table [] (take c.in-Some.k c.args.structs.now)) c.as_slice.result.now))
named t c =
    ap (size (metric_of c.args.t)) (tree_named c.args.structs.now c.args.b.now c.in-Struct.name c.in-Some.k c.index-structs-k.result c.in-Struct.is (sym c.find.ensures.place ∙ c.in-Some.is))
    ∙ ap (λ ms. size (metric_of c.args.t) (Struct c.in-Struct.name (row_of (table [] (take c.in-Some.k c.args.structs.now)) ms))) (sym c.as_slice.ensures)

pub base_size-members_size-requires : goal.base_size-members_size-requires
base_size-members_size-requires t c = (search rules, omega (arith, named t c, c.requires))

pub base_size-returns-in-Some : goal.base_size-returns-in-Some
base_size-returns-in-Some t c =
    c.members_size.ensures ∙ ap (λ ms. size (metric_of c.args.t) (Struct c.in-Struct.name (row_of (table [] (take c.in-Some.k c.args.structs.now)) ms))) c.as_slice.ensures
    ∙ ap (size (metric_of c.args.t)) (sym (tree_named c.args.structs.now c.args.b.now c.in-Struct.name c.in-Some.k c.index-structs-k.result c.in-Struct.is (sym c.find.ensures.place ∙ c.in-Some.is)))

pub base_size-returns-in-None : goal.base_size-returns-in-None
base_size-returns-in-None t c = sym (size_missing (metric_of c.args.t) c.args.structs.now c.args.b.now c.in-Struct.name c.in-Struct.is (sym c.find.ensures.place ∙ c.in-None.is))

pub members_size-up-at-requires-clause-fits : goal.members_size-up-at-requires-clause-fits
members_size-up-at-requires-clause-fits t c = omega (arith, ap (up c.loop-m.end) c.base_align.ensures.value, members_room (metric_of c.args.t) (table [] c.args.earlier.now) c.args.members.now c.loop-m.m-index c.m-item.result c.loop-m.end 1099511627776 c.loop-m-test.true c.m-item.is c.loop-m.invariant c.requires)

pub members_size-member_size-requires : goal.members_size-member_size-requires
members_size-member_size-requires t c = (search rules, omega (arith, members_room (metric_of c.args.t) (table [] c.args.earlier.now) c.args.members.now c.loop-m.m-index c.m-item.result c.loop-m.end 1099511627776 c.loop-m-test.true c.m-item.is c.loop-m.invariant c.requires))

pub members_size-overflow_add-end : goal.members_size-overflow_add-end
members_size-overflow_add-end t c = omega (arith, c.up-at.ensures, c.member_size.ensures, ap (up c.loop-m.end) c.base_align.ensures.value, members_room (metric_of c.args.t) (table [] c.args.earlier.now) c.args.members.now c.loop-m.m-index c.m-item.result c.loop-m.end 1099511627776 c.loop-m-test.true c.m-item.is c.loop-m.invariant c.requires)
