-- The first of a name, in the lists of a context.
use Rattle.std.specs.Prelude.{ℕ, Bool, List, Option, option_map, option_and_then}
use Rattle.std.specs.List.{find}
use Rattle.iv_words.specs.Words.{same_word}
use Rattle.ivory_tree.specs.Syntax.{Word}
use Rattle.ivory_tree.specs.declared.items.BitField.{BitField}
use Rattle.area_types.specs.Syntax.{Field, ValueType, Ref}
use Rattle.area_types.specs.declared.region.Region.{Region}
use Rattle.area_types.specs.declared.region.Region.TheVariants.{Global}
use Rattle.source_types.specs.Environments.{Earlier, AreaDeclared, area_named}
use Rattle.source_types.specs.Parts.{field_named}
use Rattle.rule_faults.specs.Contexts.{Context, Local}

abbrev pub local_named : Context → Word → Option Local
local_named context name = find (λ (l : Local). same_word l.name name) context.scope

abbrev pub bit_field_in : List BitField → Word → Option BitField
bit_field_in fields name = find (λ (f : BitField). same_word f.name.text name) fields

abbrev pub field_in : List Field → Word → Option Field
field_in fields name = find (λ (f : Field). same_word f.name name) fields

-- a reference to an area of the module
abbrev pub area_type : Earlier → Word → Option ValueType
area_type earlier name = option_and_then (λ (a : AreaDeclared). option_map (Ref a.constant Global) a.area) (area_named earlier name)

-- a reference to a field of a struct
abbrev pub field_reference : Earlier → Bool → Region → ℕ → Word → Option ValueType
field_reference earlier constant region number name = option_map (λ (f : Field). Ref constant region f.area) (field_named earlier number name)
