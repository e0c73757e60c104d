-- The types of parts: what is stored behind a reference, fields of structs and of bit data, elements of arrays.
use Rattle.std.specs.Prelude.{ℕ, if◌then◌else◌, Option, Some, None, option_map, option_and_then, slice_get}
use Rattle.std.specs.List.{find, position_from}
use Rattle.iv_words.specs.Words.{same_word}
use Rattle.ivory_tree.specs.Syntax.{Word}
use Rattle.ivory_tree.specs.declared.items.BitField.{BitField}
use Rattle.ivory_tree.specs.declared.items.BitsItem.{BitsItem}
use Rattle.area_types.specs.Syntax.{ValueType, Truth, Int, Bits, Ref, Stored, Array, Struct, StructType, Field}
use Rattle.source_types.specs.Environments.{Earlier}
use Rattle.source_types.specs.Values.{least_unsigned}

-- what is stored in the area behind a reference
abbrev pub stored_type : ValueType → Option ValueType
stored_type (Ref constant region (Stored t)) = Some t
stored_type _ = None

-- the number of the struct behind a reference
abbrev pub struct_behind : ValueType → Option ℕ
struct_behind (Ref constant region (Struct k)) = Some k
struct_behind _ = None

-- the length of the array behind a reference
abbrev pub length_behind : ValueType → Option ℕ
length_behind (Ref constant region (Array n element)) = Some n
length_behind _ = None

-- a reference to an element, with the same region and const flag
abbrev pub element_type : ValueType → Option ValueType
element_type (Ref constant region (Array n element)) = Some (Ref constant region element)
element_type _ = None

-- a bit field that is declared bool is a bool, another has the least unsigned type of at least its width
abbrev pub bit_field_type : BitField → ValueType
bit_field_type f = if f.truth then Truth else Int (least_unsigned f.width)

abbrev pub bit_field_named : Earlier → ℕ → Word → Option BitField
bit_field_named earlier k name = option_and_then (λ (i : BitsItem). find (λ (f : BitField). same_word f.name.text name) i.fields) (slice_get earlier.bits k)

abbrev pub bit_field_number : Earlier → ℕ → Word → Option ℕ
bit_field_number earlier k name = option_and_then (λ (i : BitsItem). position_from (λ (f : BitField). same_word f.name.text name) 0 i.fields) (slice_get earlier.bits k)

abbrev pub field_named : Earlier → ℕ → Word → Option Field
field_named earlier k name = option_and_then (λ (s : StructType). find (λ (f : Field). same_word f.name name) s.fields) (slice_get earlier.structs k)

abbrev pub field_number : Earlier → ℕ → Word → Option ℕ
field_number earlier k name = option_and_then (λ (s : StructType). position_from (λ (f : Field). same_word f.name name) 0 s.fields) (slice_get earlier.structs k)

-- a field of bit data, or a reference to a field of the struct behind one, with the same region and const flag
abbrev pub field_type : Earlier → ValueType → Word → Option ValueType
field_type earlier (Bits k) name = option_map bit_field_type (bit_field_named earlier k name)
field_type earlier (Ref constant region (Struct k)) name = option_map (λ (f : Field). Ref constant region f.area) (field_named earlier k name)
field_type earlier _ name = None

-- the word of bit data
abbrev pub word_type : Earlier → ValueType → Option ValueType
word_type earlier (Bits k) = option_map (λ (i : BitsItem). Int i.word) (slice_get earlier.bits k)
word_type earlier _ = None
