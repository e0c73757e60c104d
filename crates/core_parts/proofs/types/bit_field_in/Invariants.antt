use Rattle.std.proofs.Common.{◌≡◌, drop}
use Rattle.std.specs.List.{find}
use Rattle.iv_words.specs.Words.{same_word}
use Rattle.ivory_tree.specs.declared.BitField.{BitField}
use Rattle.core_parts.proofs.types.bit_field_in.Given as goal

abbrev pub invariant-loop-field : goal.invariant-loop-field
invariant-loop-field l = find (λ (f : BitField). same_word f.name.text l.name) (drop l.field-index l.fields) ≡ find (λ (f : BitField). same_word f.name.text l.name) (l.fields)
