use Rattle.std.proofs.Common.{◌∙◌, ◌≡◌, ap, arith, take}
use Rattle.std.specs.Prelude.{map}
use Rattle.std.proofs.lemmas.Grind.{common_steps}
use Rattle.c_objects.specs.Shapes.{field_of, entry, row_from}
use Rattle.c_objects.proofs.View.{entries_more, entries_row}
use Rattle.c_objects.proofs.types.member_fields.Goals as goal

pub loop-m-preserved : goal.loop-m-preserved
loop-m-preserved c =
    entries_more (map field_of c.args.types.now) c.args.members.now c.loop-m.m-index c.m-item.result c.loop-m.fields c.push.new.self c.in_ok-member_field.field-0
    c.m-item.is c.loop-m-test.true c.in_ok-member_field.ensures c.in_ok-push.ensures.ok c.loop-m.invariant

pub returns : goal.returns
returns c =
    let whole : take c.loop-m.m-index c.args.members.now ≡ c.args.members.now = grind (arith, common_steps) in
    ap row_from (c.loop-m.invariant ∙ ap (map (entry (map field_of c.args.types.now))) whole) ∙ entries_row (map field_of c.args.types.now) c.args.members.now
