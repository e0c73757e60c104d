-- Zeros of areas side by side, and the cells of structs, which are those of their fields.
use Rattle.std.proofs.Common.{◌≡◌, ℕ, zero, suc, ◌+◌, ◌*◌, ◌-◌, ◌<◌, ◌≤◌, ℤ, List, [], ◌∷◌, ◌++◌, take, map, refl, sym, ap, ◌∙◌, arith, append_assoc, append-nil}
use Rattle.std.specs.Prelude.{Some, None, pos, slice_get}
use Rattle.type_trees.specs.Trees.{End, count, count_row}
use Rattle.area_types.specs.Syntax as types
use Rattle.area_types.specs.Tables.{tree_over}
use Rattle.area_types.specs.Trees.{Written, tree_of, fields_from, trees_of}
use Rattle.area_types.specs.View.{area_of, field_of, struct_of}
use Rattle.area_types.specs.declared.StructDef.{StructDef}
use Rattle.area_types.proofs.Written.{found_tree, missing_tree}
use Rattle.core_tree.specs.Syntax as core
use Rattle.core_tree.specs.Syntax.{InitsCore}
use Rattle.typing_rules.specs.Initializers.{zeros, cell_values, field_values}
use Rattle.area_values.specs.Values.{count_fields, values_of_fields}

pub zeros_join : (m n : ℕ) → zeros (m + n) ≡ zeros m ++ zeros n
zeros_join zero n = let e : 0 + n ≡ n = omega arith in ap zeros e
zeros_join (suc m) n = let e : suc m + n ≡ suc (m + n) = omega arith in ap zeros e ∙ ap (λ (xs : List ℤ). pos 0 ∷ xs) (zeros_join m n)

one_more : (m c : ℕ) → suc m * c ≡ c + m * c
one_more m c = omega arith

-- one more of so many elements
pub zeros_more : (n i c : ℕ) (out new wanted : List ℤ) → i < n → new ≡ out ++ zeros c → out ++ zeros ((n - i) * c) ≡ wanted → new ++ zeros ((n - (i + 1)) * c) ≡ wanted
zeros_more n i c out new wanted h p q =
    let m : ℕ = n - (i + 1) in
    let e : n - i ≡ suc m = omega arith in
    let all : zeros ((n - i) * c) ≡ zeros c ++ zeros (m * c) = ap (λ (k : ℕ). zeros (k * c)) e ∙ ap zeros (one_more m c) ∙ zeros_join c (m * c) in
    ap (λ (xs : List ℤ). xs ++ zeros (m * c)) p ∙ append_assoc out (zeros c) (zeros (m * c)) ∙ ap (λ (xs : List ℤ). out ++ xs) (sym all) ∙ q

nothing_times : (c : ℕ) → 0 * c ≡ 0
nothing_times c = omega arith

-- no more of them
pub zeros_done : (n i c : ℕ) (out wanted : List ℤ) → n ≤ i → out ++ zeros ((n - i) * c) ≡ wanted → out ≡ wanted
zeros_done n i c out wanted h q =
    let e : n - i ≡ 0 = omega arith in
    let none : zeros ((n - i) * c) ≡ [] = ap (λ (k : ℕ). zeros (k * c)) e ∙ ap zeros (nothing_times c) in
    sym (ap (λ (xs : List ℤ). out ++ xs) none ∙ append-nil out) ∙ q

-- ---- fields

counted : (i : ℕ) (trees : List Written) (fs : List types.Field) → count_row (fields_from i trees fs) ≡ count_fields trees fs
counted i trees [] = refl
counted i trees (f ∷ fs) = ap (λ (n : ℕ). count (tree_of trees f.area) + n) (counted (suc i) trees fs)

valued : (i : ℕ) (trees : List Written) (fs : List types.Field) (cs : InitsCore) → field_values (fields_from i trees fs) cs ≡ values_of_fields trees fs cs
valued i trees [] core.NoInits = refl
valued i trees (f ∷ fs) core.NoInits = ap zeros (counted i trees (f ∷ fs))
valued i trees [] (core.MoreInits c cs) = refl
valued i trees (f ∷ fs) (core.MoreInits c cs) = ap (λ (xs : List ℤ). cell_values (tree_of trees f.area) c ++ xs) (valued (suc i) trees fs cs)

-- ---- structs

pub struct_counted : (structs : List StructDef) (k : ℕ) (s : StructDef) → slice_get structs k ≡ Some s
    → count (tree_over structs (types.Struct k)) ≡ count_fields (trees_of (map struct_of (take k structs))) (map field_of s.fields)
struct_counted structs k s h = ap count (found_tree structs k s h) ∙ counted 0 (trees_of (map struct_of (take k structs))) (map field_of s.fields)

pub none_counted : (structs : List StructDef) (k : ℕ) → slice_get structs k ≡ None → count (tree_over structs (types.Struct k)) ≡ 0
none_counted structs k h = ap count (missing_tree structs k h)

pub struct_valued : (structs : List StructDef) (k : ℕ) (s : StructDef) (cs : InitsCore) → slice_get structs k ≡ Some s
    → cell_values (tree_over structs (types.Struct k)) (core.Many cs) ≡ values_of_fields (trees_of (map struct_of (take k structs))) (map field_of s.fields) cs
struct_valued structs k s cs h =
    ap (λ (a : Written). cell_values a (core.Many cs)) (found_tree structs k s h) ∙ valued 0 (trees_of (map struct_of (take k structs))) (map field_of s.fields) cs

no_values : (cs : InitsCore) → field_values End cs ≡ []
no_values core.NoInits = refl
no_values (core.MoreInits c cs) = refl

pub none_valued : (structs : List StructDef) (k : ℕ) (cs : InitsCore) → slice_get structs k ≡ None → cell_values (tree_over structs (types.Struct k)) (core.Many cs) ≡ []
none_valued structs k cs h = ap (λ (a : Written). cell_values a (core.Many cs)) (missing_tree structs k h) ∙ no_values cs
