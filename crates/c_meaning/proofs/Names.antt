-- A name that holds a value has the value's type, which is that of its declaration, and evaluates to it.
use Rattle.std.proofs.Common.{◌≡◌, Bool, true, false, List, [], ◌∷◌, map, Option, Some, None, ℤ, Result, Ok, Err, refl, sym, subst, ap, ◌∙◌}
use Rattle.std.specs.Prelude.{◌++◌, ◌&&◌, ◌||◌, not, if◌then◌else◌}
use Rattle.std.specs.Option.{option_map, option_and_then}
use Rattle.iv_words.specs.Words.{same_word}
use Rattle.c_ast.specs.Conversions.{convert_in}
use Rattle.c_ast.specs.StaticTypes.{Entity, Arithmetic, PointerTo, ConstName, same_base, declared, of_entity, of_read}
use Rattle.c_ast.specs.Targets.{table_of}
use Rattle.c_ast.specs.declared.CBase.{CBase}
use Rattle.c_ast.specs.declared.CKind.{CKind}
use Rattle.c_ast.specs.declared.CKind.TheVariants.{Scalar}
use Rattle.c_ast.specs.declared.CParam.{CParam}
use Rattle.c_ast.specs.declared.CType.{CType}
use Rattle.c_ast.specs.declared.CType.TheVariants.{Void, Value, Pointer}
use Rattle.c_ast.specs.declared.Target.{Target}
use Rattle.c_ast.specs.Syntax.{Name, Read, Var}
use Rattle.c_meaning.specs.Values.{Trouble, Stuck, Address, CValue, Num, Ptr, held_type, on_ok, typed, as_assigned, as_arguments}
use Rattle.c_meaning.specs.State.{Program, Slot, Holding, Naming, CState}
use Rattle.c_ast.specs.Names.{named}
use Rattle.c_meaning.specs.Scopes.{value_in, name_value, slot_entity, local_entity, file_entity, declarations, Declarations, and_name, of_params}
use Rattle.c_meaning.specs.Places.{Lvalue, or_outer, alive, read}
use Rattle.c_meaning.specs.Expressions.{static_type, eval}
use Rattle.c_meaning.specs.Laws.{NamesAreAsDeclared}
use Rattle.c_meaning.specs.Runs.{param_types, bound}

either : (v : CValue) (slot : Slot) (found : Option Slot) (entity : Option Entity) → (value_in found ≡ Some v → entity ≡ Some (ConstName (held_type v))) → (test : Bool)
    → value_in (if test then Some slot else found) ≡ Some v → (if test then Some (slot_entity slot) else entity) ≡ Some (ConstName (held_type v))
either v (Holding n) found entity later true e = let is : n ≡ v = cc in ap (λ u. let q : Option Entity = Some (ConstName (held_type u)) in q) is
either v (Naming object base) found entity later true e = let no : ⊥ = cc in absurd no
either v slot found entity later false e = later e

declared_as_held : (names : List (Name × Slot)) (rest : List (Name × Entity)) (x : Name) (v : CValue) → value_in (named names x) ≡ Some v → declared (map local_entity names ++ rest) x ≡ Some (ConstName (held_type v))
declared_as_held [] rest x v e = let no : ⊥ = cc in absurd no
declared_as_held (n ∷ names) rest x v e = either v n.1 (named names x) (declared (map local_entity names ++ rest) x) (declared_as_held names rest x v) (same_word n.0 x) e

pub name_type_is : (p : Program) (s : CState) (x : Name) (v : CValue) → name_value s x ≡ Some v → static_type p s (Read (Var x)) ≡ Some (held_type v)
name_type_is p s x v e =
    ap (λ found. option_and_then of_read (option_map (of_entity p.unit.structs) found)) (declared_as_held s.frames.own (map file_entity p.unit.objects) x v e)

-- a number needs no object
found_gives : (p : Program) (s : CState) (kind : CKind) (v : ℤ) (found : Option Slot) (outer : Result Lvalue Trouble) → value_in found ≡ Some (Num kind v) → on_ok (or_outer p.unit.structs found outer) (read p.target s) ≡ Ok (Num kind v)
found_gives p s kind v None outer e = let no : ⊥ = cc in absurd no
found_gives p s kind v (Some (Naming o b)) outer e = let no : ⊥ = cc in absurd no
found_gives p s kind v (Some (Holding u)) outer e = let is : u ≡ Num kind v = cc in ap (alive s) is

pub name_gives : (p : Program) (s : CState) (x : Name) (kind : CKind) (v : ℤ) → name_value s x ≡ Some (Num kind v) → eval p (Read (Var x)) s ≡ Ok (Num kind v)
name_gives p s x kind v e = found_gives p s kind v (named s.frames.own x) _ e

-- ---- names are as declared

typed_type : (kind : CKind) (r : Option ℤ) (a : CValue) → typed kind r ≡ Ok a → held_type a ≡ Arithmetic kind
typed_type kind None a e = let no : ⊥ = cc in absurd no
typed_type kind (Some v) a e = let is : Num kind v ≡ a = cc in ap held_type (sym is)

given_as : (constant : Bool) (base : CBase) (to : Address) (a : CValue) (test : Bool) → (if test then (let r : Result CValue Trouble = Ok (Ptr constant base to) in r) else Err Stuck) ≡ Ok a
    → (x : Name) (scope : Declarations) → (x, ConstName (held_type a)) ∷ scope ≡ (x, ConstName (PointerTo constant base)) ∷ scope
given_as constant base to a true e x scope = let is : Ptr constant base to ≡ a = cc in ap (λ v. (x, ConstName (held_type v)) ∷ scope) (sym is)
given_as constant base to a false e x scope = let no : ⊥ = cc in absurd no

assigned_as : (t : Target) (type : CType) (v a : CValue) → as_assigned t type v ≡ Ok a → (x : Name) (scope : Declarations) → (x, ConstName (held_type a)) ∷ scope ≡ and_name x type scope
assigned_as t (Value s) (Num kind v) a e x scope = ap (λ of_value. (x, ConstName of_value) ∷ scope) (typed_type (Scalar s) (convert_in (table_of t) (Scalar s) v) a e)
assigned_as t (Value s) (Ptr constant base to) a e x scope = let no : ⊥ = cc in absurd no
assigned_as t Void v a e x scope = let no : ⊥ = cc in absurd no
assigned_as t (Pointer constant base) (Num kind v) a e x scope = let no : ⊥ = cc in absurd no
assigned_as t (Pointer constant base) (Ptr c from to) a e x scope = given_as constant base to a (same_base from base && (not c || constant)) e x scope

-- one argument, and those after it
first_as : (t : Target) (x : CParam) (xs : List CParam) (v : CValue) (first : Result CValue Trouble) → as_assigned t x.ty v ≡ first → (rest : Result (List CValue) Trouble)
    → ((others : List CValue) → rest ≡ Ok others → map local_entity (bound xs others) ≡ of_params xs) → (args : List CValue) → on_ok first (λ a. on_ok rest (λ others. let r : Result (List CValue) Trouble = Ok (a ∷ others) in r)) ≡ Ok args
    → map local_entity (bound (x ∷ xs) args) ≡ of_params (x ∷ xs)
first_as t x xs v (Err why) is rest later args e = let no : ⊥ = cc in absurd no
first_as t x xs v (Ok a) is (Err why) later args e = let no : ⊥ = cc in absurd no
first_as t x xs v (Ok a) is (Ok others) later args e =
    let all : a ∷ others ≡ args = cc in
    subst (λ as'. map local_entity (bound (x ∷ xs) as') ≡ of_params (x ∷ xs)) all
    (ap (λ ds. (x.name, ConstName (held_type a)) ∷ ds) (later others refl) ∙ assigned_as t x.ty v a is x.name (of_params xs))

params_as : (t : Target) (params : List CParam) (values args : List CValue) → as_arguments t (param_types params) values ≡ Ok args → map local_entity (bound params args) ≡ of_params params
params_as t [] values args e = refl
params_as t (x ∷ xs) [] args e = let no : ⊥ = cc in absurd no
params_as t (x ∷ xs) (v ∷ vs) args e = first_as t x xs v (as_assigned t x.ty v) refl (as_arguments t (param_types xs) vs) (params_as t xs vs) args e

pub names_are_as_declared : NamesAreAsDeclared
names_are_as_declared = record {
  constants = λ p x type v a s e. assigned_as p.target type v a e x (declarations p s);
  parameters = params_as;
}
