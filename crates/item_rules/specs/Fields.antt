-- The names of fields, and a field of a struct with its area.
use Rattle.std.specs.Prelude.{List, ◌∷◌, ◌++◌, [], map, Option, Some, None}
use Rattle.ivory_tree.specs.Syntax.{Word, FieldSyntax}
use Rattle.ivory_tree.specs.declared.items.BitField.{BitField}
use Rattle.area_types.specs.Syntax.{Field}
use Rattle.source_types.specs.Environments.{Earlier}
use Rattle.rule_faults.specs.ExpressionRows.{area_row}
use Rattle.rule_faults.specs.Nodes.{Node, AField}

abbrev pub bit_names : List BitField → List Word
bit_names fields = map (λ (f : BitField). f.name.text) fields

abbrev pub field_names : List FieldSyntax → List Word
field_names fields = map (λ (f : FieldSyntax). f.name.text) fields

abbrev pub field_row : Earlier → (before : List Word) → FieldSyntax → List Node
field_row earlier before f = AField before f ∷ area_row earlier f.area

-- the fields so far, with one more where it is there
abbrev pub with_field : List Field → Option Field → List Field
with_field fields None = fields
with_field fields (Some f) = fields ++ f ∷ []
