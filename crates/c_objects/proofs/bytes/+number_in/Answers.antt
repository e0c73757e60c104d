use Rattle.std.proofs.Common.{arith, length, ◌≤◌}
use Rattle.c_objects.proofs.Digits.{seven_bytes}
use Rattle.c_objects.proofs.bytes.+number_in.Goals as goal

pub overflow_mul-result : goal.overflow_mul-result
overflow_mul-result t c =
    let n : length c.in-Some-Number-default.rest.now ≤ 7 = omega (arith, c.in-Some-Number-default.ensures.cases.1) in
    omega (arith, c.in-Some.ensures.within, seven_bytes (length c.in-Some-Number-default.rest.now) n)

pub overflow_add-result : goal.overflow_add-result
overflow_add-result t c =
    let n : length c.in-Some-Number-default.rest.now ≤ 7 = omega (arith, c.in-Some-Number-default.ensures.cases.1) in
    omega (arith, c.in-Some.ensures.within, seven_bytes (length c.in-Some-Number-default.rest.now) n)
