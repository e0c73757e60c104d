-- The place and the static type of a name are told of what it stands for.
use Rattle.std.proofs.Common.{◌≡◌, ℕ, suc, List, [], ◌∷◌, ◌++◌, map, Bool, true, false, if◌then◌else◌, Option, Some, None, refl, ap, sym, ◌∙◌}
use Rattle.iv_words.specs.Words.{same_word}
use Rattle.c_ast.specs.declared.CStruct.{CStruct}
use Rattle.c_ast.specs.Names.{named}
use Rattle.c_ast.specs.StaticTypes.{Entity}
use Rattle.c_ast.specs.Syntax.{Name, FileObject}
use Rattle.c_meaning.specs.State.{Program, CState, Frame, Slot, Holding, Naming}
use Rattle.c_meaning.specs.Scopes.{slot_entity, local_entity, file_entity, scope_of}
use Rattle.c_meaning.specs.Places as places
use Rattle.c_meaning.specs.Places.{name_place, file_place}
use Rattle.c_expressions.specs.Names.{Meaning, OfObject, in_file, or_outer, meaning_of, place_of, entity_of}
use Rattle.c_expressions.specs.State.{own_of}

pub each_way : {A B : Type 0} (f : A → B) (b : Bool) (x y : A) → f (if b then x else y) ≡ (if b then f x else f y)
each_way f true x y = refl
each_way f false x y = refl

-- ---- places

file_is : (structs : List CStruct) (o : ℕ) (fs : List FileObject) (x : Name) → file_place structs o fs x ≡ place_of structs (in_file o fs x)
file_is structs o [] x = refl
file_is structs o (f ∷ fs) x =
    ap (λ r. if same_word f.name x then place_of structs (OfObject f.constant o f.base) else r) (file_is structs (suc o) fs x)
    ∙ sym (each_way (place_of structs) (same_word f.name x) (OfObject f.constant o f.base) (in_file (suc o) fs x))

slot_is : (structs : List CStruct) (slot : Option Slot) (outer : Meaning) → places.or_outer structs slot (place_of structs outer) ≡ place_of structs (or_outer slot outer)
slot_is structs (Some (Holding v)) outer = refl
slot_is structs (Some (Naming o b)) outer = refl
slot_is structs None outer = refl

pub place_is : (p : Program) (s : CState) (x : Name) → name_place p s x ≡ place_of p.unit.structs (meaning_of p s x)
place_is p s x =
    ap (places.or_outer p.unit.structs (named (own_of s) x)) (file_is p.unit.structs 0 p.unit.objects x)
    ∙ slot_is p.unit.structs (named (own_of s) x) (in_file 0 p.unit.objects x)

-- ---- static types

abbrev entity_in : Option Slot → Option Entity → Option Entity
entity_in (Some slot) outer = Some (slot_entity slot)
entity_in None outer = outer

inner : (own : Frame) (rest : List (Name × Entity)) (x : Name) → named (map local_entity own ++ rest) x ≡ entity_in (named own x) (named rest x)
inner [] rest x = refl
inner (n ∷ own) rest x =
    ap (λ r. if same_word n.0 x then Some (slot_entity n.1) else r) (inner own rest x)
    ∙ sym (each_way (λ (slot : Option Slot). entity_in slot (named rest x)) (same_word n.0 x) (Some n.1) (named own x))

outer_is : (o : ℕ) (fs : List FileObject) (x : Name) → named (map file_entity fs) x ≡ entity_of (in_file o fs x)
outer_is o [] x = refl
outer_is o (f ∷ fs) x =
    ap (λ r. if same_word f.name x then entity_of (OfObject f.constant o f.base) else r) (outer_is (suc o) fs x)
    ∙ sym (each_way entity_of (same_word f.name x) (OfObject f.constant o f.base) (in_file (suc o) fs x))

either_is : (slot : Option Slot) (outer : Meaning) → entity_in slot (entity_of outer) ≡ entity_of (or_outer slot outer)
either_is (Some (Holding v)) outer = refl
either_is (Some (Naming o b)) outer = refl
either_is None outer = refl

pub entity_is : (p : Program) (s : CState) (x : Name) → scope_of p s x ≡ entity_of (meaning_of p s x)
entity_is p s x =
    inner (own_of s) (map file_entity p.unit.objects) x
    ∙ ap (entity_in (named (own_of s) x)) (outer_is 0 p.unit.objects x)
    ∙ either_is (named (own_of s) x) (in_file 0 p.unit.objects x)
