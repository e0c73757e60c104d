-- What each form of a type is as a tree: one equation for each variant.
use Rattle.std.proofs.Common.{◌≡◌, ℕ, ◌+◌, ◌<◌, List, [], ◌++◌, length, get_or, take, drop, refl, ap, sym, ◌∙◌, arith}
use Rattle.std.specs.Prelude.{map, ◌∷◌}
use Rattle.std.proofs.lemmas.Grind.{common_steps}
use Rattle.type_trees.specs.Trees.{Leaf, Many, Struct, Field as Member}
use Rattle.c_ast.specs.Syntax.{Name}
use Rattle.std.proofs.lemmas.List.{map-append}
use Rattle.c_ast.specs.declared.CMember.{CMember}
use Rattle.c_ast.specs.Structs.{CTree, base_tree, times, row_of}
use Rattle.c_ast.specs.declared.types.CScalar.{CScalar}
use Rattle.c_objects.specs.declared.shape.Shape.{Shape}
use Rattle.c_objects.specs.declared.shape.Shape.TheVariants as shape
use Rattle.c_objects.specs.declared.shape.Field.{Field}
use Rattle.c_objects.specs.declared.shape.Field.TheVariants as field
use Rattle.c_objects.specs.declared.shape.Field.TheOpen.{Shape-F, Field-F}
use Rattle.c_objects.specs.declared.shape.Field.TheFolds.{fold-roll-Shape, fold-roll-Field}
use Rattle.c_objects.specs.Shapes.{tree_of, field_of, row_from, shape_step, field_step, entry}

pub leaf_is : (s : CScalar) → tree_of (shape.Leaf s) ≡ Leaf s
leaf_is s = ap tree_of (sym (shape.rolls-Leaf s)) ∙ fold-roll-Shape (Name × CTree) CTree field_step shape_step (Shape-F.Leaf s)

pub many_is : (n : ℕ) (a : Shape) → tree_of (shape.Many n a) ≡ Many n (tree_of a)
many_is n a = ap tree_of (sym (shape.rolls-Many n a)) ∙ fold-roll-Shape (Name × CTree) CTree field_step shape_step (Shape-F.Many n a)

pub struct_is : (k : Name) (fields : List Field) → tree_of (shape.Struct k fields) ≡ Struct k (row_from (map field_of fields))
struct_is k fields = ap tree_of (sym (shape.rolls-Struct k fields)) ∙ fold-roll-Shape (Name × CTree) CTree field_step shape_step (Shape-F.Struct k fields)

pub named_is : (f : Name) (a : Shape) → field_of (field.Named f a) ≡ (f, tree_of a)
named_is f a = ap field_of (sym (field.rolls-Named f a)) ∙ fold-roll-Field (Name × CTree) CTree field_step shape_step (Field-F.Named f a)

-- the members from number i on
pub fields_drop : (fields : List Field) (i : ℕ) (item : Field) → item ≡ get_or fields i item → i < length fields
    → row_from (map field_of (drop i fields)) ≡ Member (field_of item).0 (field_of item).1 (row_from (map field_of (drop (i + 1) fields)))
fields_drop fields i item is lt =
    let e : drop i fields ≡ item ∷ drop (i + 1) fields = grind (arith, common_steps) in
    ap (λ l. row_from (map field_of l)) e

-- ---- members of a declaration

pub entries_row : (types : List (Name × CTree)) (ms : List CMember) → row_from (map (entry types) ms) ≡ row_of types ms
entries_row types [] = refl
entries_row types (m ∷ ms) = ap (Member m.name (times m.length (base_tree types m.base))) (entries_row types ms)

pub entries_more : (types : List (Name × CTree)) (members : List CMember) (i : ℕ) (item : CMember) (fields new : List Field) (f : Field)
    → item ≡ get_or members i item → i < length members → field_of f ≡ entry types item → new ≡ fields ++ f ∷ [] → map field_of fields ≡ map (entry types) (take i members)
    → map field_of new ≡ map (entry types) (take (i + 1) members)
entries_more types members i item fields new f is lt e n h =
    let t : take (i + 1) members ≡ take i members ++ item ∷ [] = grind (arith, common_steps) in
    ap (map field_of) n ∙ map-append field_of fields (f ∷ []) ∙ ap (λ l. l ++ field_of f ∷ []) h ∙ ap (λ x. map (entry types) (take i members) ++ x ∷ []) e
    ∙ sym (map-append (entry types) (take i members) (item ∷ [])) ∙ ap (map (entry types)) (sym t)
