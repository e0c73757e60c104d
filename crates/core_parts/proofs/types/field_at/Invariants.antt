use Rattle.std.proofs.Common.{◌≡◌, map, drop}
use Rattle.std.specs.List.{position_from}
use Rattle.iv_words.specs.Words.{same_word}
use Rattle.area_types.specs.Syntax.{Field}
use Rattle.area_types.specs.View.{field_of}
use Rattle.core_parts.proofs.types.field_at.Given as goal

abbrev pub invariant-loop-at : goal.invariant-loop-at
invariant-loop-at l = position_from (λ (f : Field). same_word f.name l.name) l.at (map field_of (drop l.at l.fields)) ≡ position_from (λ (f : Field). same_word f.name l.name) 0 (map field_of l.fields)
