-- The cells of an area with its structs written out, from what is known of each struct.
use Rattle.std.proofs.Common.{◌≡◌, ℕ, suc, ◌+◌, ◌<◌, Bool, true, ◌&&◌, List, [], ◌∷◌, ◌++◌, length, get_or, take, map, refl, ap, sym, ◌∙◌}
use Rattle.std.specs.Prelude.{Option, Some, None, option_map, slice_get, unwrap_or}
use Rattle.std.proofs.lemmas.List.{map_more, map-append}
use Rattle.std.proofs.lemmas.Option.{slice_get-map}
use Rattle.type_trees.specs.Trees.{Struct, End}
use Rattle.area_types.specs.Syntax as types
use Rattle.area_types.specs.Syntax.{Area, StructType}
use Rattle.area_types.specs.Trees.{Written, tree_of, fields_from, fields_of, trees_of}
use Rattle.area_types.specs.View.{struct_of}
use Rattle.area_types.specs.declared.StructDef.{StructDef}
use Rattle.area_types.proofs.Sound.{trees_last}
use Rattle.rule_faults.specs.ItemRules.{plain_cells, plain_row}
use Rattle.item_rules.specs.Cells.{plain_structs, plain_area, plain_fields}

found_plain : (o : Option Written) (k : ℕ) → plain_cells (unwrap_or o (Struct k End)) ≡ unwrap_or (option_map plain_cells o) true
found_plain None k = refl
found_plain (Some a) k = refl

pub plain_tree : (trees : List Written) (a : Area) → plain_cells (tree_of trees a) ≡ plain_area (map plain_cells trees) a
plain_tree trees (types.Stored t) = refl
plain_tree trees (types.Array n element) = plain_tree trees element
plain_tree trees (types.Struct k) = found_plain (slice_get trees k) k ∙ ap (λ o. unwrap_or o true) (sym (slice_get-map plain_cells trees k))

both_same : {a b c d : Bool} → a ≡ c → b ≡ d → a && b ≡ c && d
both_same {a} {b} {c} {d} p q = ap (λ x. x && b) p ∙ ap (λ x. c && x) q

plain_from : (i : ℕ) (trees : List Written) (fs : List types.Field) → plain_row (fields_from i trees fs) ≡ plain_fields (map plain_cells trees) fs
plain_from i trees [] = refl
plain_from i trees (f ∷ fs) = both_same (plain_tree trees f.area) (plain_from (suc i) trees fs)

-- one struct more
plain_last : (ss : List StructType) (s : StructType) → plain_structs (ss ++ s ∷ []) ≡ plain_structs ss ++ plain_fields (plain_structs ss) s.fields ∷ []
plain_last ss s =
    ap (map plain_cells) (trees_last ss s [])
    ∙ map-append plain_cells (trees_of ss) (Struct (length (trees_of ss)) (fields_of (trees_of ss) s.fields) ∷ [])
    ∙ ap (λ (b : Bool). plain_structs ss ++ b ∷ []) (plain_from 0 (trees_of ss) s.fields)

pub next_struct : (structs : List StructDef) (i : ℕ) (s : StructDef) → i < length structs → s ≡ get_or structs i s
    → plain_structs (map struct_of (take i structs)) ++ plain_fields (plain_structs (map struct_of (take i structs))) (struct_of s).fields ∷ [] ≡ plain_structs (map struct_of (take (i + 1) structs))
next_struct structs i s h e =
    sym (plain_last (map struct_of (take i structs)) (struct_of s))
    ∙ ap plain_structs (ap (λ (x : StructDef). map struct_of (take i structs) ++ struct_of x ∷ []) e ∙ sym (map_more struct_of structs i s h))
