-- The trees of a table's structs: each stands at its number, written out over the structs before it.
use Rattle.std.proofs.Common.{◌≡◌, ℕ, zero, suc, ◌+◌, ◌≤◌, ◌<◌, List, [], ◌∷◌, ◌++◌, length, take, Some, None, ap, sym, ◌∙◌, arith, length-append}
use Rattle.std.specs.Prelude.{slice_get, unwrap_or, map, get_or}
use Rattle.std.specs.Option.{option_map}
use Rattle.std.proofs.lemmas.List.{take-map}
use Rattle.std.proofs.lemmas.Option.{slice_get_past, slice_get-map}
use Rattle.type_trees.specs.Trees.{Struct, End, levels, levels_row}
use Rattle.area_types.specs.Syntax as syntax
use Rattle.area_types.specs.Syntax.{StructType}
use Rattle.area_types.specs.View.{area_of, field_of, struct_of}
use Rattle.area_types.specs.Trees.{Written, tree_of, fields_from, fields_of, trees_from, trees_of}
use Rattle.area_types.specs.declared.structs.FieldDef.{FieldDef}
use Rattle.area_types.specs.declared.structs.StructDef.{StructDef}

pub length-trees_from : (trees : List Written) (ss : List StructType) → length (trees_from trees ss) ≡ length trees + length ss
length-trees_from trees [] = omega arith
length-trees_from trees (s ∷ ss) =
    let more : List Written = trees ++ Struct (length trees) (fields_of trees s.fields) ∷ [] in
    omega (arith, length-trees_from more ss, length-append trees (Struct (length trees) (fields_of trees s.fields) ∷ []))

get_before : {A : Type 0} (xs ys : List A) (k : ℕ) (x : A) → slice_get xs k ≡ Some x → slice_get (xs ++ ys) k ≡ Some x
get_before [] ys k x h = absurd (cc)
get_before (y ∷ xs) ys zero x h = h
get_before (y ∷ xs) ys (suc k) x h = get_before xs ys k x h

pub get_last : {A : Type 0} (xs : List A) (x : A) (k : ℕ) → k ≡ length xs → slice_get (xs ++ x ∷ []) k ≡ Some x
get_last [] x k h = ap (slice_get (x ∷ [])) h
get_last (y ∷ xs) x zero h = absurd (omega arith)
get_last (y ∷ xs) x (suc k) h = get_last xs x k (omega arith)

-- the trees so far stay where they are
pub trees_kept : (ss : List StructType) (trees : List Written) (k : ℕ) (a : Written) → slice_get trees k ≡ Some a → slice_get (trees_from trees ss) k ≡ Some a
trees_kept [] trees k a h = h
trees_kept (s ∷ ss) trees k a h = trees_kept ss (trees ++ Struct (length trees) (fields_of trees s.fields) ∷ []) k a (get_before trees (Struct (length trees) (fields_of trees s.fields) ∷ []) k a h)

pub tree_at : (ss : List StructType) (trees : List Written) (j k : ℕ) (s : StructType) → slice_get ss j ≡ Some s → k ≡ length trees + j
    → slice_get (trees_from trees ss) k ≡ Some (Struct k (fields_of (trees_from trees (take j ss)) s.fields))
tree_at [] trees j k s h e = absurd (cc)
tree_at (x ∷ ss) trees zero k s h e =
    let n : k ≡ length trees = omega arith in
    let same : x ≡ s = cc in
    let at = get_last trees (Struct (length trees) (fields_of trees x.fields)) k n in
    trees_kept ss (trees ++ Struct (length trees) (fields_of trees x.fields) ∷ []) k (Struct (length trees) (fields_of trees x.fields)) at
    ∙ ap (λ i. Some (Struct i (fields_of trees x.fields))) (sym n) ∙ ap (λ (y : StructType). Some (Struct k (fields_of trees y.fields))) same
tree_at (x ∷ ss) trees (suc j) k s h e =
    tree_at ss (trees ++ Struct (length trees) (fields_of trees x.fields) ∷ []) j k s h (omega (arith, length-append trees (Struct (length trees) (fields_of trees x.fields) ∷ [])))

-- the struct of a number, where there is one
pub struct_found : (ss : List StructType) (k : ℕ) (s : StructType) → slice_get ss k ≡ Some s → tree_of (trees_of ss) (syntax.Struct k) ≡ Struct k (fields_of (trees_of (take k ss)) s.fields)
struct_found ss k s h = ap (λ o. unwrap_or o (Struct k End)) (tree_at ss [] k k s h (omega arith))

pub none_past : {A : Type 0} (xs : List A) (k : ℕ) → slice_get xs k ≡ None → length xs ≤ k
none_past [] k h = omega arith
none_past (x ∷ xs) zero h = absurd (cc)
none_past (x ∷ xs) (suc k) h = omega (arith, none_past xs k h)

pub struct_missing : (ss : List StructType) (k : ℕ) → length ss ≤ k → tree_of (trees_of ss) (syntax.Struct k) ≡ Struct k End
struct_missing ss k h = ap (λ o. unwrap_or o (Struct k End)) (slice_get_past (trees_of ss) k (omega (arith, length-trees_from [] ss)))

-- the same, of the structs of the code
pub found_tree : (structs : List StructDef) (k : ℕ) (s : StructDef) → slice_get structs k ≡ Some s
    → tree_of (trees_of (map struct_of structs)) (syntax.Struct k) ≡ Struct k (fields_of (trees_of (map struct_of (take k structs))) (map field_of s.fields))
found_tree structs k s h =
    struct_found (map struct_of structs) k (struct_of s) (slice_get-map struct_of structs k ∙ ap (option_map struct_of) h)
    ∙ ap (λ ss. Struct k (fields_of (trees_of ss) (map field_of s.fields))) (take-map struct_of k structs)

pub missing_tree : (structs : List StructDef) (k : ℕ) → slice_get structs k ≡ None → tree_of (trees_of (map struct_of structs)) (syntax.Struct k) ≡ Struct k End
missing_tree structs k h = struct_missing (map struct_of structs) k (none_past (map struct_of structs) k (slice_get-map struct_of structs k ∙ ap (option_map struct_of) h))

-- a field's tree has no more levels than the row
pub level_within : (j : ℕ) (trees : List Written) (fs : List FieldDef) (i : ℕ) (f : FieldDef) → i < length fs → f ≡ get_or fs i f
    → levels (tree_of trees (area_of f.area)) ≤ levels_row (fields_from j trees (map field_of fs))
level_within j trees [] i f h e = absurd (omega arith)
level_within j trees (g ∷ fs) zero f h e = let s = ap (λ (x : FieldDef). levels (tree_of trees (area_of x.area))) e in omega arith
level_within j trees (g ∷ fs) (suc i) f h e = omega (arith, level_within (suc j) trees fs i f (omega arith) e)
