use Rattle.std.proofs.lemmas.Result.{err_from_is_err_and}
use Rattle.std.proofs.Common.{◌≡◌, ◌-◌, ◌+◌, ◌++◌, ◌≤◌, suc, List, ℤ, length, map, drop, Ok, sym, ap, ◌∙◌, arith, subst}
use Rattle.std.specs.Option.{option_map, option_copied}
use Rattle.type_trees.specs.Values.{cells_row}
use Rattle.c_memory.specs.Initializers.{zeros, copies_of}
use Rattle.c_meaning.specs.Memory.{nought}
use Rattle.c_meaning.specs.Values.{on_ok}
use Rattle.c_objects.specs.Shapes.{tree_of, field_of, row_from}
use Rattle.c_operators.specs.Values.{Gives}
use Rattle.run_world.proofs.Rests.{one_left, nothing_left}
use Rattle.c_statements.specs.Given.{given_of, givens_of}
use Rattle.c_statements.specs.Numbers.{numbers_given, elements_given, member_given, members_given}
use Rattle.c_statements.proofs.ConvertedArguments.{passes}
use Rattle.c_statements.proofs.GivenNumbers.{numbers_more, numbers_end}
use Rattle.c_statements.proofs.GivenParts.{elements_at, elements_end, members_at, too_many, zeros_end}
use Rattle.c_statements.proofs.numbers.+numbers.Goals as goal

abbrev counted : List ℤ → Unit {0} → List ℤ
counted new done = new

pub add_elements-returns-in_err-add_numbers : goal.add_elements-returns-in_err-add_numbers
add_elements-returns-in_err-add_numbers n c =
    let q = err_from_is_err_and c.from_residual.result c.from_residual.ensures.1 in
    let t = c.args.t in
    let a = tree_of c.args.element.now in
    let many = c.args.many in
    let gs = c.as_slice-given-items.result.now in
    let i = c.loop-i.i in
    let g = c.given-item.result in
    let out = c.loop-i.out in
    let less : many - i ≡ suc (many - (i + 1)) = omega (arith, c.if-i-many.false) in
    let now = elements_given t (many - i) a (givens_of (drop i gs)) in
    let next = elements_given t (many - (i + 1)) a (givens_of (drop (i + 1) gs)) in
    let all = on_ok (elements_given t many a (givens_of c.args.givens.now)) (λ ns. Ok (c.args.out.now ++ ns)) in
    let at = elements_at t a (many - i) (many - (i + 1)) (drop i gs) (drop (i + 1) gs) g less (one_left gs i g c.loop-i-test.true c.given-item.is) in
    rw (q.1, q.2) (passes (Unit {0}) (counted out) (counted c.add_numbers.new.out) (on_ok (numbers_given t a (given_of g)) (λ ns. Ok (out ++ ns))) all c.in_err-add_numbers.field-0.0
    (λ w e. numbers_end now (numbers_given t a (given_of g)) next all out w c.loop-i.invariant at e) c.in_err-add_numbers.ensures)

pub add_elements-loop-i-preserved : goal.add_elements-loop-i-preserved
add_elements-loop-i-preserved n c =
    let t = c.args.t in
    let a = tree_of c.args.element.now in
    let many = c.args.many in
    let gs = c.as_slice-given-items.result.now in
    let i = c.loop-i.i in
    let g = c.given-item.result in
    let out = c.loop-i.out in
    let less : many - i ≡ suc (many - (i + 1)) = omega (arith, c.if-i-many.false) in
    let now = elements_given t (many - i) a (givens_of (drop i gs)) in
    let next = elements_given t (many - (i + 1)) a (givens_of (drop (i + 1) gs)) in
    let all = on_ok (elements_given t many a (givens_of c.args.givens.now)) (λ ns. Ok (c.args.out.now ++ ns)) in
    let at = elements_at t a (many - i) (many - (i + 1)) (drop i gs) (drop (i + 1) gs) g less (one_left gs i g c.loop-i-test.true c.given-item.is) in
    numbers_more now (numbers_given t a (given_of g)) next all out c.add_numbers.new.out c.loop-i.invariant at c.in_ok-add_numbers.ensures

pub add_elements-returns : goal.add_elements-returns
add_elements-returns n c =
    let t = c.args.t in
    let a = tree_of c.args.element.now in
    let many = c.args.many in
    let gs = c.as_slice-given-items.result.now in
    let i = c.loop-i.i in
    let out = c.loop-i.out in
    let z = zeros nought a in
    let all = on_ok (elements_given t many a (givens_of c.args.givens.now)) (λ ns. Ok (c.args.out.now ++ ns)) in
    let full : length gs ≤ i = c.loop-i-test.false in
    let same : c.saturating_sub.result ≡ many - i = omega (arith, c.saturating_sub.ensures, c.len.ensures, ap length c.as_slice-given-items.ensures, full, c.loop-i.auto.i-end) in
    let now : List ℤ = out ++ cells_row (copies_of c.saturating_sub.result z) in
    let ends = ap (λ q. on_ok q (λ ns. Ok (out ++ ns))) (sym (elements_end t a (many - i) (drop i gs) (nothing_left gs i full))) ∙ c.loop-i.invariant in
    subst (λ r. Gives (Unit {0}) (counted c.add_zero_elements.new.out) all r) (sym c.room.ensures)
    (zeros_end c.add_zero_elements.result all now c.add_zero_elements.new.out (ap (λ k. Ok (out ++ cells_row (copies_of k z))) same ∙ ends) c.add_zero_elements.ensures)

pub add_members-returns-in_err-add_member : goal.add_members-returns-in_err-add_member
add_members-returns-in_err-add_member n c =
    let q = err_from_is_err_and c.from_residual.result c.from_residual.ensures.1 in
    let t = c.args.t in
    let fs = c.as_slice-field-items.result.now in
    let gs = c.args.givens.now in
    let i = c.loop-i.i in
    let f = c.field-item.result in
    let out = c.loop-i.out in
    let said = member_given t (field_of f).1 (option_map given_of (option_copied c.get.result)) in
    let now = members_given t (row_from (map field_of (drop i fs))) (givens_of (drop i gs)) in
    let next = members_given t (row_from (map field_of (drop (i + 1) fs))) (givens_of (drop (i + 1) gs)) in
    let all = on_ok (members_given t (row_from (map field_of c.args.fields.now)) (givens_of gs)) (λ ns. Ok (c.args.out.now ++ ns)) in
    let at = members_at t fs gs i f (option_copied c.get.result) c.get.ensures.value c.loop-i-test.true c.field-item.is in
    rw (q.1, q.2) (passes (Unit {0}) (counted out) (counted c.add_member.new.out) (on_ok said (λ ns. Ok (out ++ ns))) all c.in_err-add_member.field-0.0 (λ w e. numbers_end now said next all out w c.loop-i.invariant at e) c.in_err-add_member.ensures)

pub add_members-loop-i-preserved : goal.add_members-loop-i-preserved
add_members-loop-i-preserved n c =
    let t = c.args.t in
    let fs = c.as_slice-field-items.result.now in
    let gs = c.args.givens.now in
    let i = c.loop-i.i in
    let f = c.field-item.result in
    let out = c.loop-i.out in
    let said = member_given t (field_of f).1 (option_map given_of (option_copied c.get.result)) in
    let now = members_given t (row_from (map field_of (drop i fs))) (givens_of (drop i gs)) in
    let next = members_given t (row_from (map field_of (drop (i + 1) fs))) (givens_of (drop (i + 1) gs)) in
    let all = on_ok (members_given t (row_from (map field_of c.args.fields.now)) (givens_of gs)) (λ ns. Ok (c.args.out.now ++ ns)) in
    let at = members_at t fs gs i f (option_copied c.get.result) c.get.ensures.value c.loop-i-test.true c.field-item.is in
    numbers_more now said next all out c.add_member.new.out c.loop-i.invariant at c.in_ok-add_member.ensures

pub add_members-returns-then-len : goal.add_members-returns-then-len
add_members-returns-then-len n c =
    let fs = c.as_slice-field-items.result.now in
    let i = c.loop-i.i in
    let full : length fs ≤ i = c.loop-i-test.false in
    sym c.loop-i.invariant ∙ ap (λ q. on_ok q (λ ns. Ok (c.loop-i.out ++ ns)))
    (too_many c.args.t fs c.args.givens.now i full (omega (arith, c.if-len.true, c.len.ensures, c.len-2.ensures, ap length c.as_slice-field-items.ensures, full, c.loop-i.auto.i-end)))
