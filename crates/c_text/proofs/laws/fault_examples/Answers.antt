use Rattle.std.proofs.Common.{◌≡◌, refl, lit<}
use Rattle.std.specs.Prelude.{decimal, codes}
use Rattle.std.proofs.lemmas.Fmt.{decimal_digit}
use Rattle.type_trees.specs.Multiples.{up}
use Rattle.c_text.proofs.laws.fault_examples.Goals as goal

-- the numbers in the examples

one_is : decimal 1 ≡ codes "1"
one_is = decimal_digit 1 (lit< tt)

two_is : decimal 2 ≡ codes "2"
two_is = decimal_digit 2 (lit< tt)

pub returns-clause-faults : goal.returns-clause-faults
unfolding up
returns-clause-faults c = record {
  none = refl;
  unknown_call = refl;
  own_call = refl;
  break_outside = refl;
  break_behind = refl;
  in_its_declaration = refl;
  declared_twice = simp (one_is, two_is) refl;
  named_as_function = refl;
  gone_with_block = simp (one_is, two_is) refl;
  first_of_two = refl;
  value_returned = refl;
  no_argument = refl;
  const_assigned = simp (one_is, two_is) refl;
  const_address = simp (one_is, two_is) refl;
  address_of_const_member = simp (one_is, two_is) refl;
  pointer_operand = simp (one_is, two_is) refl;
  cast_to_unknown = simp (one_is, two_is) refl;
  function_address = simp (one_is, two_is) refl;
}

pub returns-clause-structs : goal.returns-clause-structs
unfolding up
returns-clause-structs c = record {
  none = refl;
  unknown_tag = refl;
  unknown_member = simp (one_is, two_is) refl;
  struct_assigned = simp (one_is, two_is) refl;
  names_first = simp (one_is, two_is) refl;
  braces = simp (one_is, two_is) refl;
  too_many = simp (one_is, two_is) refl;
}
