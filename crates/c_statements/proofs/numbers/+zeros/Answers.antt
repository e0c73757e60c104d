use Rattle.std.proofs.Common.{◌≡◌, ◌-◌, ◌+◌, ◌++◌, suc, ap, ◌∙◌, arith}
use Rattle.type_trees.specs.Values.{cells_row}
use Rattle.c_memory.specs.Initializers.{zeros, copies_of}
use Rattle.c_meaning.specs.Memory.{nought}
use Rattle.c_objects.specs.Shapes.{tree_of}
use Rattle.c_statements.proofs.GivenNumbers.{zero_elements_more}
use Rattle.c_statements.proofs.numbers.+zeros.Goals as goal

pub add_zero_elements-loop-preserved : goal.add_zero_elements-loop-preserved
add_zero_elements-loop-preserved t c =
    let z = zeros nought (tree_of c.args.element.now) in
    let many = c.args.many in
    let k = c.loop.counter in
    let next : many - k ≡ suc (many - (k + 1)) = omega (arith, c.loop-test.true) in
    ap (λ out. out ++ cells_row (copies_of (many - (k + 1)) z)) c.in_ok-add_zeros.ensures ∙ zero_elements_more z (many - k) (many - (k + 1)) c.loop.out _ next c.loop.invariant
