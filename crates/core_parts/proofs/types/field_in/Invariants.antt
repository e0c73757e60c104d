use Rattle.std.proofs.Common.{◌≡◌, map, drop}
use Rattle.std.specs.List.{find}
use Rattle.iv_words.specs.Words.{same_word}
use Rattle.area_types.specs.Syntax.{Field}
use Rattle.area_types.specs.View.{field_of}
use Rattle.core_parts.proofs.types.field_in.Given as goal

abbrev pub invariant-loop-field : goal.invariant-loop-field
invariant-loop-field l = find (λ (f : Field). same_word f.name l.name) (map field_of (drop l.field-index l.fields)) ≡ find (λ (f : Field). same_word f.name l.name) (map field_of l.fields)
