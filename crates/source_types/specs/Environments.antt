-- What the earlier items of a module declare. A type that is written wrongly does not exist; its place is at fault.
use Rattle.std.specs.Prelude.{ℕ, Bool, ◌||◌, List, [], map, Option}
use Rattle.std.specs.List.{list_any, position_from, find}
use Rattle.iv_words.specs.declared.IntKind.{IntKind}
use Rattle.iv_words.specs.Words.{same_word}
use Rattle.ivory_tree.specs.Syntax.{Word}
use Rattle.ivory_tree.specs.declared.items.BitsItem.{BitsItem}
use Rattle.area_types.specs.Syntax.{ValueType, Area, StructType}

-- an area of the module
pub record AreaDeclared : Type 0 where
  pub name : Word
  pub constant : Bool
  pub area : Option Area

-- An import or a procedure. Its region parameters are numbered in the order in which they first occur in its parameters.
pub record Callee : Type 0 where
  pub name : Word
  pub import : Bool
  pub params : List (Option ValueType)
  -- whether it has a result, and the type of that
  pub gives : Bool
  pub result : Option ValueType

-- bit data, structs, areas, and imports with procedures, each in order of declaration
pub record Earlier : Type 0 where
  pub bits : List BitsItem
  pub structs : List StructType
  pub areas : List AreaDeclared
  pub callees : List Callee

abbrev pub nothing_earlier : Earlier
nothing_earlier = record { bits = []; structs = []; areas = []; callees = [] }

abbrev pub words : Earlier → List IntKind
words earlier = map (λ (i : BitsItem). i.word) earlier.bits

abbrev pub has_word : List Word → Word → Bool
has_word names name = list_any (λ n. same_word n name) names

-- the first of a name counts, where there are several

abbrev pub number_of_bits : Earlier → Word → Option ℕ
number_of_bits earlier name = position_from (λ (i : BitsItem). same_word i.name.text name) 0 earlier.bits

abbrev pub number_of_struct : Earlier → Word → Option ℕ
number_of_struct earlier name = position_from (λ (s : StructType). same_word s.name name) 0 earlier.structs

abbrev pub area_named : Earlier → Word → Option AreaDeclared
area_named earlier name = find (λ (a : AreaDeclared). same_word a.name name) earlier.areas

abbrev pub callee_named : Earlier → Word → Option Callee
callee_named earlier name = find (λ (c : Callee). same_word c.name name) earlier.callees

-- areas, imports and procedures share one name space, structs and bit data another

abbrev pub is_area : Earlier → Word → Bool
is_area earlier name = list_any (λ (a : AreaDeclared). same_word a.name name) earlier.areas

abbrev pub is_callee : Earlier → Word → Bool
is_callee earlier name = list_any (λ (c : Callee). same_word c.name name) earlier.callees

abbrev pub is_item : Earlier → Word → Bool
is_item earlier name = is_area earlier name || is_callee earlier name

abbrev pub is_struct : Earlier → Word → Bool
is_struct earlier name = list_any (λ (s : StructType). same_word s.name name) earlier.structs

abbrev pub is_bits : Earlier → Word → Bool
is_bits earlier name = list_any (λ (i : BitsItem). same_word i.name.text name) earlier.bits

abbrev pub is_type_name : Earlier → Word → Bool
is_type_name earlier name = is_struct earlier name || is_bits earlier name
