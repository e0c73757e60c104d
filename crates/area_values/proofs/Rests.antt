-- One more element or field, and then the rest.
use Rattle.std.proofs.Common.{◌≡◌, ℕ, ◌+◌, ◌-◌, ◌<◌, ℤ, List, [], ◌∷◌, ◌++◌, length, get_or, drop, drop-cons, add-one, map, sym, ap, ◌∙◌, append_assoc}
use Rattle.type_trees.specs.Trees.{count}
use Rattle.area_types.specs.Syntax as types
use Rattle.area_types.specs.Trees.{Written, tree_of}
use Rattle.area_types.specs.View.{area_of, field_of}
use Rattle.area_types.specs.declared.FieldDef.{FieldDef}
use Rattle.core_tree.specs.Syntax.{InitsCore}
use Rattle.core_tree.specs.View.{init_of, inits_of}
use Rattle.core_tree.specs.declared.CoreInit.{CoreInit}
use Rattle.typing_rules.specs.Initializers.{zeros, cell_values, element_values}
use Rattle.area_values.specs.Values.{count_fields, values_of_fields}
use Rattle.area_values.proofs.ZeroCells.{zeros_join}

rest_of : {X : Type 0} (xs : List X) (i : ℕ) (x : X) → i < length xs → x ≡ get_or xs i x → drop i xs ≡ x ∷ drop (i + 1) xs
rest_of xs i x h e =
    let cut : drop i xs ≡ get_or xs i x ∷ drop (i + 1) xs = rw add-one (drop-cons xs i x h) in
    cut ∙ ap (λ y. y ∷ drop (i + 1) xs) (sym e)

pub zeros_of_more : (trees : List Written) (fs : List FieldDef) (i : ℕ) (f : FieldDef) (out new wanted : List ℤ) → i < length fs → f ≡ get_or fs i f → new ≡ out ++ zeros (count (tree_of trees (area_of f.area)))
    → out ++ zeros (count_fields trees (map field_of (drop i fs))) ≡ wanted → new ++ zeros (count_fields trees (map field_of (drop (i + 1) fs))) ≡ wanted
zeros_of_more trees fs i f out new wanted h e p q =
    let c : ℕ = count (tree_of trees (area_of f.area)) in
    let r : ℕ = count_fields trees (map field_of (drop (i + 1) fs)) in
    ap (λ (xs : List ℤ). xs ++ zeros r) p
    ∙ append_assoc out (zeros c) (zeros r)
    ∙ ap (λ (xs : List ℤ). out ++ xs) (sym (zeros_join c r) ∙ ap (λ (gs : List FieldDef). zeros (count_fields trees (map field_of gs))) (sym (rest_of fs i f h e)))
    ∙ q

pub element_more : (left : ℕ) (a : Written) (inits : List CoreInit) (i : ℕ) (x : CoreInit) (out new wanted : List ℤ) → i < length inits → x ≡ get_or inits i x → new ≡ out ++ cell_values a (init_of x)
    → out ++ element_values left a (inits_of (drop i inits)) ≡ wanted → new ++ element_values (left - 1) a (inits_of (drop (i + 1) inits)) ≡ wanted
element_more left a inits i x out new wanted h e p q =
    let rest : List ℤ = element_values (left - 1) a (inits_of (drop (i + 1) inits)) in
    ap (λ (xs : List ℤ). xs ++ rest) p
    ∙ append_assoc out (cell_values a (init_of x)) rest
    ∙ ap (λ (cs : List CoreInit). out ++ element_values left a (inits_of cs)) (sym (rest_of inits i x h e))
    ∙ q

pub field_more : (trees : List Written) (fs later : List FieldDef) (f : FieldDef) (inits : List CoreInit) (i : ℕ) (x : CoreInit) (out new wanted : List ℤ) → i < length inits → x ≡ get_or inits i x → fs ≡ f ∷ later
    → new ≡ out ++ cell_values (tree_of trees (area_of f.area)) (init_of x) → out ++ values_of_fields trees (map field_of fs) (inits_of (drop i inits)) ≡ wanted
    → new ++ values_of_fields trees (map field_of later) (inits_of (drop (i + 1) inits)) ≡ wanted
field_more trees fs later f inits i x out new wanted h e s p q =
    let rest : List ℤ = values_of_fields trees (map field_of later) (inits_of (drop (i + 1) inits)) in
    ap (λ (xs : List ℤ). xs ++ rest) p
    ∙ append_assoc out (cell_values (tree_of trees (area_of f.area)) (init_of x)) rest
    ∙ ap (λ (cs : List CoreInit). out ++ values_of_fields trees (map field_of (f ∷ later)) (inits_of cs)) (sym (rest_of inits i x h e))
    ∙ ap (λ (gs : List FieldDef). out ++ values_of_fields trees (map field_of gs) (inits_of (drop i inits))) (sym s)
    ∙ q
