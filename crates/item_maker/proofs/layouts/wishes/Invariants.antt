use Rattle.std.proofs.Common.{◌≡◌, take, map}
use Rattle.typing_rules.specs.Items.{wish_of}
use Rattle.item_maker.proofs.layouts.wishes.Given as goal

abbrev pub invariant-loop-field : goal.invariant-loop-field
invariant-loop-field l = l.wishes ≡ map wish_of (take l.field-index l.fields)
