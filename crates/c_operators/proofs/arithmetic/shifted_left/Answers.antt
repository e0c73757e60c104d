use Rattle.std.proofs.Common.{rules, ◌∙◌, ◌≡◌, ap, arith, true, pos}
use Rattle.std.specs.Prelude.{int_lt}
use Rattle.std.proofs.lemmas.Int.{ints, to_z-of_z}
use mir.Syntax.{w128}
use Rattle.iv_words.specs.Kinds.{width}
use Rattle.c_operators.specs.Reasons.{or_reason}
use Rattle.c_operators.proofs.Sums.{shift_unsigned}
use Rattle.c_operators.proofs.arithmetic.shifted_left.Goals as goal

pub returns-then-not-is_signed : goal.returns-then-not-is_signed
returns-then-not-is_signed c =
    let few : int_lt (pos c.args.b) (pos (width c.args.kind)) ≡ true = grind (arith, ints) in
    let m = rw (to_z-of_z w128 c.args.a c.ranges.a) at c.modulo.ensures in
    let e = rw (to_z-of_z w128 c.modulo.result (record { sfits = c.modulo.type_inv }), to_z-of_z w128 c.from.result (record { sfits = c.from.type_inv }), m, c.from.ensures) at c.apply.ensures.exact in
    c.or_reason.ensures ∙ ap or_reason e ∙ shift_unsigned c.args.kind c.args.a c.args.b (search rules) few
