-- Rules 1 to 3 and 8 to 17: names, lengths and sizes, bit data, what crosses the module's boundary, initializers. Each is told in words, and is
-- true of the nodes at which it is broken.
use Rattle.std.specs.Prelude.{ℕ, ◌+◌, pos, int_le, Bool, true, false, ◌&&◌, ◌||◌, not, if◌then◌else◌, nat_eq, nat_lt, List, [], length, filter_map, sum_by, slice_get, Option, Some, None, option_map, is_some}
use Rattle.std.specs.List.{list_all}
use Rattle.iv_words.specs.Kinds.{width, is_signed}
use Rattle.iv_words.specs.declared.Name.{Name}
use Rattle.ivory_tree.specs.Syntax.{TypeSyntax, TruthType, IntType, IndexType, BitsType, RefType, ArrayArea, ExprSyntax, Literal, Truth, ToIndex, WrapIndex, MakeBits, One, Many, InitsSyntax, NoInits, MoreInits, StmtSyntax, Let, LetCall, Alloc, Map, Upto, Downto, FieldSyntax, BitsData, Struct, Global, Import, Procedure, Outcome, Variable, Cast, Raw, SetField, Prefix, Binary, Field, Element, Cond, Bare, Store, Copy, Call, If, IfElse, Forever, Break, Return, Assert, NoAlloc, NoBreak, NoReturn, InitSyntax}
use Rattle.ivory_tree.specs.declared.types.RegionText.TheVariants as region
use Rattle.ivory_tree.specs.declared.items.BitField.{BitField}
use Rattle.type_trees.specs.Trees as trees
use Rattle.area_types.specs.Syntax as types
use Rattle.area_types.specs.Syntax.{ValueType, Area, StructType, Ref}
use Rattle.area_types.specs.Trees.{Written, WrittenRow, tree_of, fields_of, trees_of}
use Rattle.area_types.specs.Tables.{is_length, is_small}
use Rattle.area_types.specs.declared.region.Region.TheVariants.{Global as GlobalRegion}
use Rattle.source_types.specs.Values.{is_plain}
use Rattle.source_types.specs.Environments.{Earlier, words, has_word, is_item, is_type_name}
use Rattle.source_types.specs.Written.{ref_type, type_in, area_in, field_in}
use Rattle.rule_faults.specs.Contexts.{is_taken}
use Rattle.rule_faults.specs.Nodes.{Exported, Imported, ForParam, ForResult, Node, AnItem, ABitField, AField, AParam, AType, AnArea, AnInit, AStatement, AnExpr}
use Rattle.rule_faults.specs.Tests.{where_there}

-- the name that a statement brings into scope
abbrev pub name_of : StmtSyntax → Option Name
name_of (Let s name value) = Some name
name_of (LetCall s name call) = Some name
name_of (Alloc s name area init) = Some name
name_of (Map s name n body) = Some name
name_of (Upto s name n bound body) = Some name
name_of (Downto s name n bound body) = Some name
name_of (Store s target value) = None
name_of (Copy s target source) = None
name_of (Call s call) = None
name_of (If s test first) = None
name_of (IfElse s test first second) = None
name_of (Forever s body) = None
name_of (Break s) = None
name_of (Return s value) = None
name_of (Assert s cond) = None
name_of (NoAlloc s body) = None
name_of (NoBreak s body) = None
name_of (NoReturn s body) = None

-- rule 1: the name is not taken: for an area, import or procedure by one before it, for a local name by any of the module or by the scope
abbrev pub rule_1 : Node → Bool
rule_1 (AnItem earlier (Global i)) = is_item earlier i.name.text
rule_1 (AnItem earlier (Import h)) = is_item earlier h.name.text
rule_1 (AnItem earlier (Procedure p)) = is_item earlier p.header.name.text
rule_1 (AParam context p) = is_taken context p.name.text
rule_1 (AStatement context reached s) = where_there (name_of s) (λ name. is_taken context name.text)
rule_1 _ = false

-- rule 2: bit data and structs share their names, and none has two of them
abbrev pub rule_2 : Node → Bool
rule_2 (AnItem earlier (BitsData i)) = is_type_name earlier i.name.text
rule_2 (AnItem earlier (Struct i)) = is_type_name earlier i.name.text
rule_2 _ = false

-- rule 3: no two fields of a struct, or of bit data, share a name
abbrev pub rule_3 : Node → Bool
rule_3 (ABitField before f) = has_word before f.name.text
rule_3 (AField before f) = has_word before f.name.text
rule_3 _ = false

-- the N of a loop
abbrev pub length_of : StmtSyntax → Option ℕ
length_of (Map s name n body) = Some n
length_of (Upto s name n bound body) = Some n
length_of (Downto s name n bound body) = Some n
length_of (Let s name value) = None
length_of (LetCall s name call) = None
length_of (Alloc s name area init) = None
length_of (Store s target value) = None
length_of (Copy s target source) = None
length_of (Call s call) = None
length_of (If s test first) = None
length_of (IfElse s test first second) = None
length_of (Forever s body) = None
length_of (Break s) = None
length_of (Return s value) = None
length_of (Assert s cond) = None
length_of (NoAlloc s body) = None
length_of (NoBreak s body) = None
length_of (NoReturn s body) = None

-- rule 8: lengths of arrays, of indices and of loops are from 1 to 65,535
abbrev pub rule_8 : Node → Bool
rule_8 (AnArea earlier (ArrayArea s n element)) = not (is_length n)
rule_8 (AType earlier regions place (IndexType s n)) = not (is_length n)
rule_8 (AnExpr context want (ToIndex s n e)) = not (is_length n)
rule_8 (AnExpr context want (WrapIndex s n e)) = not (is_length n)
rule_8 (AStatement context reached s) = where_there (length_of s) (λ n. not (is_length n))
rule_8 _ = false

-- an area with its structs written out
abbrev pub written : Earlier → Area → Written
written earlier a = tree_of (trees_of earlier.structs) a

-- the struct of these fields, where each has an area
abbrev pub written_struct : Earlier → List FieldSyntax → Option Written
written_struct earlier fields =
    if list_all (λ f. is_some (field_in earlier f)) fields
    then Some (trees.Struct (length earlier.structs) (fields_of (trees_of earlier.structs) (filter_map (field_in earlier) fields)))
    else None

-- rule 9: an area is neither too large for t32 nor too deep
abbrev pub rule_9 : Node → Bool
rule_9 (AnArea earlier a) = where_there (area_in earlier a) (λ area. not (is_small (words earlier) (written earlier area)))
rule_9 (AnItem earlier (Struct i)) = where_there (written_struct earlier i.fields) (λ area. not (is_small (words earlier) area))
rule_9 _ = false

-- rule 10: the fields of bit data fill the word exactly, and the word is unsigned
abbrev pub rule_10 : Node → Bool
rule_10 (AnItem earlier (BitsData i)) = is_signed i.word || not (nat_eq (sum_by (λ (f : BitField). f.width) i.fields) (width i.word))
rule_10 _ = false

-- rule 11: a field of bit data has a bit at least
abbrev pub rule_11 : Node → Bool
rule_11 (ABitField before f) = nat_eq f.width 0
rule_11 _ = false

-- rule 12: a result refers into global memory or into the region of some parameter
abbrev pub rule_12 : Node → Bool
rule_12 (AType earlier regions (ForResult boundary) (RefType s constant (region.Named name) area)) = not (has_word regions name)
rule_12 _ = false

-- the type, whatever its region: what crosses the boundary of a module is judged by what is stored
abbrev pub type_but_region : Earlier → TypeSyntax → Option ValueType
type_but_region earlier (RefType s constant named area) = ref_type constant (Some GlobalRegion) (area_in earlier area)
type_but_region earlier (TruthType s) = type_in earlier [] (TruthType s)
type_but_region earlier (IntType s kind) = type_in earlier [] (IntType s kind)
type_but_region earlier (IndexType s n) = type_in earlier [] (IndexType s n)
type_but_region earlier (BitsType s name) = type_in earlier [] (BitsType s name)

-- rule 13: what an exported procedure takes and gives is a bool or a whole number, for C code may call it
abbrev pub rule_13 : Node → Bool
rule_13 (AType earlier regions (ForParam Exported) t) = where_there (type_but_region earlier t) (λ ty. not (is_plain ty))
rule_13 (AType earlier regions (ForResult Exported) t) = where_there (type_but_region earlier t) (λ ty. not (is_plain ty))
rule_13 _ = false

-- each cell is a bool or an integer
abbrev mutual
  pub plain_cells : Written → Bool
  plain_cells (trees.Leaf t) = is_plain t
  plain_cells (trees.Many n element) = plain_cells element
  plain_cells (trees.Struct k fields) = plain_row fields

  pub plain_row : WrittenRow → Bool
  plain_row trees.End = true
  plain_row (trees.Field i a fields) = plain_cells a && plain_row fields

abbrev pub gives_other_cells : Earlier → ValueType → Bool
gives_other_cells earlier (Ref false region area) = not (plain_cells (written earlier area))
gives_other_cells earlier _ = false

-- rule 14: an import gives a bool or a whole number, and what it may write to consists of these
abbrev pub rule_14 : Node → Bool
rule_14 (AType earlier regions (ForParam Imported) t) = where_there (type_but_region earlier t) (gives_other_cells earlier)
rule_14 (AType earlier regions (ForResult Imported) t) = where_there (type_but_region earlier t) (λ ty. not (is_plain ty))
rule_14 _ = false

abbrev pub is_misbraced : Area → InitSyntax → Bool
is_misbraced (types.Stored t) (One e) = false
is_misbraced (types.Stored t) (Many s inits) = true
is_misbraced (types.Array n element) (One e) = true
is_misbraced (types.Array n element) (Many s inits) = false
is_misbraced (types.Struct k) (One e) = true
is_misbraced (types.Struct k) (Many s inits) = false

-- rule 15: braces are for arrays and structs, a lone expression is for a stored value
abbrev pub rule_15 : Node → Bool
rule_15 (AnInit earlier global area init) = where_there area (λ a. is_misbraced a init)
rule_15 _ = false

abbrev pub inits_count : InitsSyntax → ℕ
inits_count NoInits = 0
inits_count (MoreInits i inits) = 1 + inits_count inits

-- the elements of an array, the fields of a struct
abbrev pub place_count : Earlier → Area → Option ℕ
place_count earlier (types.Stored t) = None
place_count earlier (types.Array n element) = Some n
place_count earlier (types.Struct k) = option_map (λ (s : StructType). length s.fields) (slice_get earlier.structs k)

-- rule 16: braces hold no more initializers than there are places
abbrev pub rule_16 : Node → Bool
rule_16 (AnInit earlier global (Some area) (Many s inits)) = where_there (place_count earlier area) (λ n. nat_lt n (inits_count inits))
rule_16 _ = false

-- a number without a minus
abbrev pub is_number : ExprSyntax → Bool
is_number (Literal s value) = int_le (pos 0) value
is_number (Truth s value) = false
is_number (Outcome s) = false
is_number (Variable s name) = false
is_number (Cast s kind e) = false
is_number (ToIndex s n e) = false
is_number (WrapIndex s n e) = false
is_number (MakeBits s name e) = false
is_number (Raw s e) = false
is_number (SetField s e field value) = false
is_number (Prefix s op e) = false
is_number (Binary s op at left right) = false
is_number (Field s e field) = false
is_number (Element s brackets e index) = false
is_number (Cond s test first second) = false
is_number (Bare s e) = false

-- a number with or without its minus, a bool, or bit data with a number for its word
abbrev pub is_first_value : ExprSyntax → Bool
is_first_value (Literal s value) = true
is_first_value (Truth s value) = true
is_first_value (MakeBits s name e) = is_number e
is_first_value (Outcome s) = false
is_first_value (Variable s name) = false
is_first_value (Cast s kind e) = false
is_first_value (ToIndex s n e) = false
is_first_value (WrapIndex s n e) = false
is_first_value (Raw s e) = false
is_first_value (SetField s e field value) = false
is_first_value (Prefix s op e) = false
is_first_value (Binary s op at left right) = false
is_first_value (Field s e field) = false
is_first_value (Element s brackets e index) = false
is_first_value (Cond s test first second) = false
is_first_value (Bare s e) = false

-- rule 17: a cell of the module's own areas begins with a value that the text spells out
abbrev pub rule_17 : Node → Bool
rule_17 (AnInit earlier true (Some (types.Stored t)) (One e)) = not (is_first_value e)
rule_17 _ = false
