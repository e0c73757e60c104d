-- Only a later field can have the name.
use Rattle.std.proofs.Common.{◌≡◌, drop}
use Rattle.source_types.specs.Environments.{has_word}
use Rattle.item_rules.specs.Fields.{bit_names}
use Rattle.item_rules.proofs.fields.has_bit_field.Given as goal

abbrev pub invariant-loop-field : goal.invariant-loop-field
invariant-loop-field l = has_word (bit_names (drop l.field-index l.fields)) l.name ≡ has_word (bit_names l.fields) l.name
