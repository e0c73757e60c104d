-- Only a later field can have the name.
use Rattle.std.proofs.Common.{◌≡◌, drop, map}
use Rattle.ivory_tree.specs.View.{field_of}
use Rattle.source_types.specs.Environments.{has_word}
use Rattle.item_rules.specs.Fields.{field_names}
use Rattle.item_rules.proofs.fields.has_field.Given as goal

abbrev pub invariant-loop-field : goal.invariant-loop-field
invariant-loop-field l = has_word (field_names (map field_of (drop l.field-index l.fields))) l.name ≡ has_word (field_names (map field_of l.fields)) l.name
