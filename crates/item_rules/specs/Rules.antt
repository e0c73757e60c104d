-- The rules that may be broken at an item and at a field, as rows of numbers with tests.
use Rattle.std.specs.Prelude.{ℕ, Bool, not, ◌||◌, nat_eq, List, [], ◌∷◌, sum_by}
use Rattle.iv_words.specs.Kinds.{width, is_signed}
use Rattle.ivory_tree.specs.Syntax.{Word, ItemSyntax, BitsData, Struct, Global, Import, Procedure, FieldSyntax}
use Rattle.ivory_tree.specs.declared.items.BitField.{BitField}
use Rattle.ivory_tree.specs.declared.items.BitsItem.{BitsItem}
use Rattle.area_types.specs.Tables.{is_small}
use Rattle.source_types.specs.Environments.{Earlier, words, has_word, is_item, is_type_name}
use Rattle.rule_faults.specs.ItemRules.{written_struct}
use Rattle.rule_faults.specs.Tests.{where_there}

-- the fields do not fill the word, or the word has a sign
abbrev pub is_misfit : BitsItem → Bool
is_misfit i = is_signed i.word || not (nat_eq (sum_by (λ (f : BitField). f.width) i.fields) (width i.word))

abbrev pub bits_rows : Earlier → BitsItem → List (ℕ × Bool)
bits_rows earlier i = (2, is_type_name earlier i.name.text) ∷ (10, is_misfit i) ∷ []

-- a struct of these fields is too large or too deep
abbrev pub is_great_struct : Earlier → List FieldSyntax → Bool
is_great_struct earlier fields = where_there (written_struct earlier fields) (λ area. not (is_small (words earlier) area))

abbrev pub struct_rows : Earlier → Word → List FieldSyntax → List (ℕ × Bool)
struct_rows earlier name fields = (2, is_type_name earlier name) ∷ (9, is_great_struct earlier fields) ∷ []

abbrev pub named_rows : Earlier → Word → List (ℕ × Bool)
named_rows earlier name = (1, is_item earlier name) ∷ []

abbrev pub item_rows : Earlier → ItemSyntax → List (ℕ × Bool)
item_rows earlier (BitsData i) = bits_rows earlier i
item_rows earlier (Struct i) = struct_rows earlier i.name.text i.fields
item_rows earlier (Global i) = named_rows earlier i.name.text
item_rows earlier (Import h) = named_rows earlier h.name.text
item_rows earlier (Procedure p) = named_rows earlier p.header.name.text

abbrev pub bit_field_rows : (before : List Word) → BitField → List (ℕ × Bool)
bit_field_rows before f = (3, has_word before f.name.text) ∷ (11, nat_eq f.width 0) ∷ []

abbrev pub field_rows : (before : List Word) → Word → List (ℕ × Bool)
field_rows before name = (3, has_word before name) ∷ []
