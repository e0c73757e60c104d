-- The trees of structs, one after another, in the words of the code.
use Rattle.std.proofs.Common.{◌≡◌, ℕ, suc, List, [], ◌∷◌, ◌++◌, length, map, refl, ap, sym, ◌∙◌}
use Rattle.type_trees.specs.Trees.{Struct, Field}
use Rattle.area_types.specs.Syntax as syntax
use Rattle.area_types.specs.Syntax.{StructType}
use Rattle.area_types.specs.Trees as trees
use Rattle.area_types.specs.Trees.{Written, tree_of, trees_of, trees_from}
use Rattle.std.proofs.lemmas.List.{map-append, length-map}
use Rattle.core_state.specs.declared.written.Written as code
use Rattle.core_state.specs.declared.written.Written.TheVariants as written
use Rattle.core_state.specs.Types.{fields_from, written_of}
use Rattle.core_state.proofs.Views.{struct_is}

pub fields_are : (i : ℕ) (structs : List Written) (fields : List syntax.Field) → trees.fields_from i structs fields ≡ fields_from i (map (λ f. tree_of structs f.area) fields)
fields_are i structs [] = refl
fields_are i structs (f ∷ fields) = ap (Field i (tree_of structs f.area)) (fields_are (suc i) structs fields)

pub trees_more : (so_far : List Written) (structs : List StructType) (s : StructType) → trees_from so_far (structs ++ s ∷ []) ≡ trees_from so_far structs ++ Struct (length (trees_from so_far structs)) (trees.fields_of (trees_from so_far structs) s.fields) ∷ []
trees_more so_far [] s = refl
trees_more so_far (t ∷ structs) s = trees_more (so_far ++ Struct (length so_far) (trees.fields_of so_far t.fields) ∷ []) structs s

pub struct_added : (types fields : List code.Written) (number : ℕ) (structs : List StructType) (s : StructType) → map written_of types ≡ trees_of structs → number ≡ length types
    → map written_of fields ≡ map (λ f. tree_of (map written_of types) f.area) s.fields → map written_of (types ++ written.Struct number fields ∷ []) ≡ trees_of (structs ++ s ∷ [])
struct_added types fields number structs s so_far is parts =
    map-append written_of types (written.Struct number fields ∷ [])
    ∙ ap (λ a. map written_of types ++ a ∷ []) (struct_is number fields ∙ ap (λ k. Struct k (fields_from 0 (map written_of fields))) (is ∙ sym (length-map types written_of))
    ∙ ap (λ fs. Struct (length (map written_of types)) (fields_from 0 fs)) parts ∙ ap (Struct (length (map written_of types))) (sym (fields_are 0 (map written_of types) s.fields)))
    ∙ ap (λ ts. ts ++ Struct (length ts) (trees.fields_of ts s.fields) ∷ []) so_far ∙ sym (trees_more [] structs s)
