-- The table of some structs says what they are.
use Rattle.std.proofs.Common.{◌≡◌, List, [], ◌∷◌, map, refl, ◌∙◌, ap, ap₂}
use Rattle.area_types.specs.Syntax as types
use Rattle.area_types.specs.Syntax.{ValueType, Area, StructType}
use Rattle.area_types.specs.View.{type_of, area_of, field_of, struct_of}
use Rattle.area_types.proofs.View.{stored_is, array_is, struct_is, truth_is, int_is, ix_is, bits_is}
use Rattle.region_check.proofs.Apart.{ref_is}
use Rattle.typing_rules.specs.Tables.{type_tree, area_tree, field_def, struct_def}

mutual
  type_says : (t : ValueType) → type_of (type_tree t) ≡ t
  type_says types.Truth = truth_is
  type_says (types.Int kind) = int_is kind
  type_says (types.Ix n) = ix_is n
  type_says (types.Bits k) = bits_is k
  type_says (types.Ref constant region target) = ref_is (record { constant = constant; region = region; area = area_tree target }) ∙ ap (types.Ref constant region) (area_says target)

  area_says : (a : Area) → area_of (area_tree a) ≡ a
  area_says (types.Stored t) = stored_is (type_tree t) ∙ ap types.Stored (type_says t)
  area_says (types.Array n a) = array_is n (area_tree a) ∙ ap (types.Array n) (area_says a)
  area_says (types.Struct k) = struct_is k

fields_say : (fs : List types.Field) → map field_of (map field_def fs) ≡ fs
fields_say [] = refl
fields_say (f ∷ fs) = ap₂ (λ (a : Area) (xs : List types.Field). record { name = f.name; area = a } ∷ xs) (area_says f.area) (fields_say fs)

pub structs_say : (ss : List StructType) → map struct_of (map struct_def ss) ≡ ss
structs_say [] = refl
structs_say (s ∷ ss) = ap₂ (λ (fs : List types.Field) (xs : List StructType). record { name = s.name; fields = fs } ∷ xs) (fields_say s.fields) (structs_say ss)
