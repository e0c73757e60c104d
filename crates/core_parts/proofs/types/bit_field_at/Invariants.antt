use Rattle.std.proofs.Common.{◌≡◌, drop}
use Rattle.std.specs.List.{position_from}
use Rattle.iv_words.specs.Words.{same_word}
use Rattle.ivory_tree.specs.declared.BitField.{BitField}
use Rattle.core_parts.proofs.types.bit_field_at.Given as goal

abbrev pub invariant-loop-at : goal.invariant-loop-at
invariant-loop-at l = position_from (λ (f : BitField). same_word f.name.text l.name) l.at (drop l.at l.fields) ≡ position_from (λ (f : BitField). same_word f.name.text l.name) 0 (l.fields)
