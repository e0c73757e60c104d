use Rattle.std.proofs.Common.{◌≡◌, ◌++◌, ◌-◌, map, drop, Ok}
use Rattle.c_meaning.specs.Values.{on_ok}
use Rattle.c_objects.specs.Shapes.{tree_of, field_of, row_from}
use Rattle.c_statements.specs.Given.{givens_of}
use Rattle.c_statements.specs.Numbers.{elements_given, members_given}
use Rattle.c_statements.proofs.numbers.+numbers.Given as goal

abbrev pub invariant-add_elements-loop-i : goal.invariant-add_elements-loop-i
invariant-add_elements-loop-i l =
    on_ok (elements_given l.t (l.many - l.i) (tree_of l.element) (givens_of (drop l.i l.given-items))) (λ ns. Ok (l.out ++ ns)) ≡ on_ok (elements_given l.t l.many (tree_of l.element) (givens_of l.givens)) (λ ns. Ok (l.initial.out ++ ns))

abbrev pub invariant-add_members-loop-i : goal.invariant-add_members-loop-i
invariant-add_members-loop-i l =
    on_ok (members_given l.t (row_from (map field_of (drop l.i l.field-items))) (givens_of (drop l.i l.givens))) (λ ns. Ok (l.out ++ ns))
    ≡ on_ok (members_given l.t (row_from (map field_of l.fields)) (givens_of l.givens)) (λ ns. Ok (l.initial.out ++ ns))
