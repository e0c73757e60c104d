-- Areas and types that a program may name: they exist, and each area has at most 65,535 bytes on t32 and 32 levels.
use Rattle.std.specs.Prelude.{◌≡◌, Bool, true, Some, IsTrue, List}
use Rattle.ivory_tree.specs.Syntax.{Word, AreaSyntax, TypeSyntax}
use Rattle.area_types.specs.Syntax.{ValueType, Area, Truth, Int, Ix, Bits, Ref}
use Rattle.area_types.specs.Trees.{Written, tree_of, trees_of}
use Rattle.area_types.specs.Tables.{is_small}
use Rattle.source_types.specs.Environments.{Earlier, words}
use Rattle.source_types.specs.Written.{area_in, type_in}

-- an area with its structs written out
abbrev pub written : Earlier → Area → Written
written earlier a = tree_of (trees_of earlier.structs) a

abbrev pub is_small_area : Earlier → Area → Bool
is_small_area earlier a = is_small (words earlier) (written earlier a)

pub record NamesArea (earlier : Earlier) (text : AreaSyntax) (area : Area) : Type 0 where
  pub exists : area_in earlier text ≡ Some area
  pub small : IsTrue (is_small_area earlier area)

-- the area behind a reference is small
abbrev pub has_small_area : Earlier → ValueType → Bool
has_small_area earlier (Ref constant region area) = is_small_area earlier area
has_small_area earlier Truth = true
has_small_area earlier (Int kind) = true
has_small_area earlier (Ix n) = true
has_small_area earlier (Bits k) = true

pub record NamesType (earlier : Earlier) (regions : List Word) (text : TypeSyntax) (t : ValueType) : Type 0 where
  pub exists : type_in earlier regions text ≡ Some t
  pub small : IsTrue (has_small_area earlier t)
