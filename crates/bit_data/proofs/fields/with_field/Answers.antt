use Rattle.std.proofs.Common.{◌≡◌, ◌+◌, ◌≤◌, IsTrue, Ok, IfOk, to_z, of_z, rules, sym, subst}
use mir.Syntax.{w128}
use Rattle.iv_words.specs.Kinds.{in_range}
use Rattle.bit_data.specs.declared.layout.FieldBits.{FieldBits}
use Rattle.bit_data.specs.Fields.{field_at, changed, HasPart}
use Rattle.bit_data.proofs.Words.{place_64, width_64, changed_has, changed_in_range}
use Rattle.bit_data.proofs.fields.with_field.Goals as goal

pub has_room-requires : goal.has_room-requires
has_room-requires c = subst (λ (f : FieldBits). f.width ≤ 64) (sym c.field_at-bits.ensures) (width_64 c.args.layout.now c.requires.layout c.args.field c.requires.field)

pub with_part-requires-clause-place : goal.with_part-requires-clause-place
with_part-requires-clause-place c =
    subst (λ (f : FieldBits). f.low + f.width ≤ 64) (sym c.field_at-bits.ensures) (place_64 c.args.layout.now c.requires.layout c.args.field c.requires.field)

pub returns-then-has_room-clause-kept : goal.returns-then-has_room-clause-kept
returns-then-has_room-clause-kept c =
    let l = c.args.layout.now in
    let f = field_at l c.args.field in
    let e : Ok (to_z w128 (of_z w128 c.with_part.result)) ≡ changed l c.args.field c.args.v c.args.x = search rules in
    subst (λ r. IfOk r (HasPart f.low f.width c.args.v c.args.x)) (sym e) (changed_has l c.requires.layout c.args.field c.requires.field c.args.v c.args.x c.requires.word c.requires.number)

pub returns-then-has_room-clause-in_range : goal.returns-then-has_room-clause-in_range
returns-then-has_room-clause-in_range c =
    let l = c.args.layout.now in
    let e : Ok (to_z w128 (of_z w128 c.with_part.result)) ≡ changed l c.args.field c.args.v c.args.x = search rules in
    subst (λ r. IfOk r (λ z. IsTrue (in_range l.word z))) (sym e) (changed_in_range l c.requires.layout c.args.field c.requires.field c.args.v c.args.x c.requires.word c.requires.number)
