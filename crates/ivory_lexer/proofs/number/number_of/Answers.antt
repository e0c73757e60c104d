use Rattle.std.proofs.Common.{arith, sym, ap, ◌∙◌, ◌≡◌, ◌+◌, ◌*◌, get_or, None}
use Rattle.std.specs.Char.{digit_value}
use Rattle.ivory_lexer.specs.Table.{in_range}
use Rattle.ivory_lexer.proofs.Numbers.{too_large}
use Rattle.ivory_lexer.proofs.number.number_of.Goals as goal

pub returns-in_default : goal.returns-in_default
returns-in_default c =
    let none : in_range (c.loop-b.n * c.args.radix + digit_value (get_or c.args.digits.now c.loop-b.b-index 0)) ≡ None =
    ap (λ d. in_range (c.loop-b.n * c.args.radix + d)) (sym c.value_of_digit.ensures) ∙ sym c.with_digit.ensures.value ∙ c.in_default.is
    in too_large c.args.radix c.loop-b.n c.loop-b.b-index _ c.args.digits.now c.requires.radix (omega arith) c.loop-b.invariant.same none
