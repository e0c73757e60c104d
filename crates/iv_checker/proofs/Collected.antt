-- What is collected from all items, of each kind.
use Rattle.std.proofs.Common.{◌≡◌, List, [], ◌∷◌, ◌++◌, refl, sym, ◌∙◌, ap, append_assoc, append-nil}
use Rattle.ivory_tree.specs.Syntax.{ItemSyntax, BitsData, Struct, Global, Import, Procedure}
use Rattle.bit_data.specs.declared.BitLayout.{BitLayout}
use Rattle.core_tree.specs.Syntax.{AreaCore, ImportCore, ProcCore}
use Rattle.check_numbers.specs.NumberedParts.{proc_from, proc_after, procs_from}
use Rattle.source_types.specs.Environments.{Earlier}
use Rattle.typing_rules.specs.ItemCores.{layout_core, area_core, import_core, proc_core}
use Rattle.typing_rules.specs.WellTyped.{outside, at_header}
use Rattle.typing_rules.specs.Made.{end_of, layouts_of, areas_of, imports_of, procs_of}
use Rattle.item_maker.specs.Making.{SoFar, with_item, with_items}

-- one more behind those so far, and then the rest
behind : {A : Type 0} (xs : List A) (x : A) (ys : List A) {zs : List A} → zs ≡ (xs ++ x ∷ []) ++ ys → zs ≡ xs ++ (x ∷ ys)
behind xs x ys h = h ∙ append_assoc xs (x ∷ []) ys

none : {A : Type 0} (xs : List A) → xs ≡ xs ++ []
none xs = sym (append-nil xs)

pub end_is : (m : SoFar) (items : List ItemSyntax) → (with_items m items).earlier ≡ end_of m.earlier items
end_is m [] = refl
end_is m (BitsData i ∷ items) = end_is (with_item m (BitsData i)) items
end_is m (Struct i ∷ items) = end_is (with_item m (Struct i)) items
end_is m (Global i ∷ items) = end_is (with_item m (Global i)) items
end_is m (Import h ∷ items) = end_is (with_item m (Import h)) items
end_is m (Procedure p ∷ items) = end_is (with_item m (Procedure p)) items

pub layouts_are : (m : SoFar) (items : List ItemSyntax) → (with_items m items).layouts ≡ m.layouts ++ layouts_of items
layouts_are m [] = none m.layouts
layouts_are m (BitsData i ∷ items) = behind m.layouts (layout_core i) (layouts_of items) (layouts_are (with_item m (BitsData i)) items)
layouts_are m (Struct i ∷ items) = layouts_are (with_item m (Struct i)) items
layouts_are m (Global i ∷ items) = layouts_are (with_item m (Global i)) items
layouts_are m (Import h ∷ items) = layouts_are (with_item m (Import h)) items
layouts_are m (Procedure p ∷ items) = layouts_are (with_item m (Procedure p)) items

pub areas_are : (m : SoFar) (items : List ItemSyntax) → (with_items m items).areas ≡ m.areas ++ areas_of m.names m.earlier items
areas_are m [] = none m.areas
areas_are m (BitsData i ∷ items) = areas_are (with_item m (BitsData i)) items
areas_are m (Struct i ∷ items) = areas_are (with_item m (Struct i)) items
areas_are m (Global i ∷ items) =
    behind m.areas (area_core (outside m.names m.earlier) i) (areas_of m.names (with_item m (Global i)).earlier items) (areas_are (with_item m (Global i)) items)
areas_are m (Import h ∷ items) = areas_are (with_item m (Import h)) items
areas_are m (Procedure p ∷ items) = areas_are (with_item m (Procedure p)) items

pub imports_are : (m : SoFar) (items : List ItemSyntax) → (with_items m items).imports ≡ m.imports ++ imports_of m.names m.earlier items
imports_are m [] = none m.imports
imports_are m (BitsData i ∷ items) = imports_are (with_item m (BitsData i)) items
imports_are m (Struct i ∷ items) = imports_are (with_item m (Struct i)) items
imports_are m (Global i ∷ items) = imports_are (with_item m (Global i)) items
imports_are m (Import h ∷ items) =
    behind m.imports (import_core (at_header m.names m.earlier h) h) (imports_of m.names (with_item m (Import h)).earlier items) (imports_are (with_item m (Import h)) items)
imports_are m (Procedure p ∷ items) = imports_are (with_item m (Procedure p)) items

-- the checks of each procedure have the numbers behind those of the procedures before it
pub procs_are : (m : SoFar) (items : List ItemSyntax) → (with_items m items).procs ≡ m.procs ++ procs_from m.next (procs_of m.names m.earlier items)
procs_are m [] = none m.procs
procs_are m (BitsData i ∷ items) = procs_are (with_item m (BitsData i)) items
procs_are m (Struct i ∷ items) = procs_are (with_item m (Struct i)) items
procs_are m (Global i ∷ items) = procs_are (with_item m (Global i)) items
procs_are m (Import h ∷ items) = procs_are (with_item m (Import h)) items
procs_are m (Procedure p ∷ items) =
    let core : ProcCore = proc_core (at_header m.names m.earlier p.header) p in
    behind m.procs (proc_from m.next core) (procs_from (proc_after m.next core) (procs_of m.names (with_item m (Procedure p)).earlier items)) (procs_are (with_item m (Procedure p)) items)
