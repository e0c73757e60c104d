use Rattle.std.proofs.Common.{◌≡◌, ◌^◌, pos, ◌-ℤ◌, ◌+ℤ◌, ◌*ℤ◌, to_z, of_z, ap, ◌∙◌}
use Rattle.std.proofs.lemmas.Int.{to_z-of_z}
use mir.Syntax.{w128}
use Rattle.bit_data.specs.Fields.{part}
use Rattle.bit_data.proofs.Parts.{sum_is, sum_fits}
use Rattle.bit_data.proofs.fields.with_part.Goals as goal

pub overflow_add-result : goal.overflow_add-result
overflow_add-result c = sum_fits c.args.v c.moved.result c.moved-2.result c.requires.word c.moved.ensures.small c.moved-2.ensures.small

pub returns : goal.returns
returns c =
    let v = c.args.v in
    let unit = pos (2 ^ c.args.low) in
    let held : to_z w128 (of_z w128 c.part.result) ≡ c.part.result = to_z-of_z w128 c.part.result (record { sfits = c.part.type_inv }) in
    let old : c.part.result ≡ part c.args.low c.args.bits v = rw (to_z-of_z w128 v c.ranges.v) at c.part.ensures.value in
    let gone : c.moved.result ≡ part c.args.low c.args.bits v *ℤ unit = c.moved.ensures.value ∙ ap (λ p. p *ℤ unit) (held ∙ old) in
    let come : c.moved-2.result ≡ c.args.x *ℤ unit = c.moved-2.ensures.value ∙ ap (λ x. x *ℤ unit) (to_z-of_z w128 c.args.x c.ranges.x) in
    sum_is v c.moved.result c.moved-2.result c.requires.word c.moved.ensures.small c.moved-2.ensures.small
    ∙ ap (λ a. v -ℤ a +ℤ c.moved-2.result) gone ∙ ap (λ b. v -ℤ part c.args.low c.args.bits v *ℤ unit +ℤ b) come
