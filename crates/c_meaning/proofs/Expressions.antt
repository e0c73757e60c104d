-- The values of expressions have the types of their expressions, and their numbers are numbers of these types; and typed expressions are
-- not stuck where what is read is held.
use Rattle.std.proofs.Common.{◌≡◌, ℕ, suc, ℤ, pos, Bool, true, false, not, IsTrue, List, [], ◌∷◌, Option, Some, None, Result, Ok, Err, IfOk, refl, sym, ap, subst, ◌∙◌}
use Rattle.std.specs.Prelude.{⊤, All, map, ◌++◌, if◌then◌else◌}
use Rattle.std.specs.Option.{option_map, option_and_then}
use Rattle.std.specs.Ordering.{int_eq}
use Rattle.std.proofs.lemmas.List.Elements.{All-head, All-tail}
use Rattle.iv_words.specs.Words.{same_word}
use Rattle.iv_words.specs.Kinds.{width, is_signed}
use Rattle.c_ast.specs.declared.Target.{Target}
use Rattle.c_ast.specs.declared.Arith.{Arith}
use Rattle.c_ast.specs.declared.CBase.{CBase}
use Rattle.c_ast.specs.declared.CScalar.{CScalar}
use Rattle.c_ast.specs.declared.CScalar.TheVariants.{Truth, Int as Exact}
use Rattle.c_ast.specs.declared.CKind.{CKind}
use Rattle.c_ast.specs.declared.CKind.TheVariants.{Scalar, Arith as Computed}
use Rattle.c_ast.specs.declared.CStruct.{CStruct}
use Rattle.c_ast.specs.declared.CType.TheVariants.{Void, Value, Pointer}
use Rattle.c_ast.specs.Syntax.{Name, FileObject, Expr, Number, Read, Address, Unary, Binary, Cast, Cond, Place, Var, At, Member, Element}
use Rattle.c_ast.specs.Structs.{CTree}
use Rattle.type_trees.specs.Trees.{Leaf, Many, Struct}
use Rattle.c_memory.specs.Access.{Fault}
use Rattle.run_records.specs.declared.Reason.TheVariants.{Dead, Bounds}
use Rattle.c_ast.specs.StaticTypes.{ValueType, Arithmetic, PointerTo, PlaceType, Stored, Entity, ObjectName, declared, of_unary, of_binary, of_choice, of_cast, of_entity, of_read, of_address, of_pointee, of_member, of_element, member_tree, of_both}
use Rattle.c_ast.specs.Targets.{TargetTable, table_of, arith_bits, arith_signed, common_type}
use Rattle.c_ast.specs.Conversions.{convert_in, can_hold, candidates, first_of_types, constant_type_in}
use Rattle.c_ast.proofs.Conversions.{converted_held}
use Rattle.c_ast.proofs.Promotions.{targets_are_sound}
use Rattle.c_meaning.specs.Values.{Trouble, Undefined, Stuck, Address as Pointing, CValue, Num, Ptr, held_type, is_true, on_ok, typed, as_kind, as_assigned, of_type}
use Rattle.c_meaning.specs.Memory.{CObjects, memory_of, answered, unless_refused}
use Rattle.c_meaning.specs.Places.{Lvalue, Known, Located, object_of, file_place, or_outer, pointee, part_at, member_of, element_of, of_scalar, read, address_of, pointer_cast, cast}
use Rattle.c_meaning.specs.Operators.{unary, binary}
use Rattle.c_meaning.specs.State.{Program, Slot, Holding, Naming, CState}
use Rattle.c_ast.specs.Names.{named}
use Rattle.c_meaning.specs.Scopes.{slot_entity, local_entity, file_entity}
use Rattle.c_meaning.specs.Expressions.{static_type, static_place_type, as_common, eval, eval_place}
use Rattle.c_meaning.specs.ExpressionLaws.{IsTyped, place_type_of, IsTypedPlace, HasItsPlaceType, PlacesHaveTheirTypes, SlotIsTyped, NamesAreTyped, HasItsType, ValuesHaveTheirTypes, ReadsAreHeld, TypedExpressionsAreNotStuck}
use Rattle.c_meaning.proofs.Operands.{Fine, Comes, some_is, fine_comes, on_ok_comes, unary_comes, binary_comes}

-- ---- conversions

bool_in_range : (t : TargetTable) (test : Bool) (w : ℤ) → (let r : Option ℤ = Some (if test then pos 0 else pos 1) in r) ≡ Some w → IsTrue (can_hold t (Scalar Truth) w)
bool_in_range t true w e = let q : pos 0 ≡ w = cc in ap (λ u. can_hold t (Scalar Truth) u) (sym q)
bool_in_range t false w e = let q : pos 1 ≡ w = cc in ap (λ u. can_hold t (Scalar Truth) u) (sym q)

-- what comes of a conversion is a number of the type
pub converted_is_held : (t : TargetTable) (to : CKind) (v w : ℤ) → convert_in t to v ≡ Some w → IsTrue (can_hold t to w)
converted_is_held t (Scalar Truth) v w e = bool_in_range t _ w e
converted_is_held t (Scalar (Exact kind)) v w e = converted_held (width kind) (is_signed kind) v w e
converted_is_held t (Computed a) v w e = converted_held (arith_bits t a) (arith_signed a) v w e

typed_fine : (t : TargetTable) (to : CKind) (v : ℤ) (r : Option ℤ) → convert_in t to v ≡ r → Fine t to (typed to r)
typed_fine t to v None e = tt
typed_fine t to v (Some w) e = record { typed = converted_is_held t to v w e; of_kind = refl }

pub as_kind_fine : (t : TargetTable) (to from : CKind) (v : ℤ) → Fine t to (as_kind t to (Num from v))
as_kind_fine t to from v = typed_fine t to v (convert_in t to v) refl

-- ---- constants

first_by : (t : TargetTable) (b : Arith) (rest : Option Arith) (v : ℤ) (a : Arith) → (rest ≡ Some a → IsTrue (can_hold t (Computed a) v)) → (test : Bool) → can_hold t (Computed b) v ≡ test
    → (if test then Some b else rest) ≡ Some a → IsTrue (can_hold t (Computed a) v)
first_by t b rest v a later true holds e = ap (λ c. can_hold t (Computed c) v) (sym (some_is e)) ∙ holds
first_by t b rest v a later false holds e = later e

-- the type of a constant has its number
pub first_holds : (t : TargetTable) (types : List Arith) (v : ℤ) (a : Arith) → first_of_types t types v ≡ Some a → IsTrue (can_hold t (Computed a) v)
first_holds t [] v a e = cc
first_holds t (b ∷ types) v a e = first_by t b (first_of_types t types v) v a (first_holds t types v a) (can_hold t (Computed b) v) refl e

of_type_comes : (t : TargetTable) (excuse : Type 0) (found : Option Arith) (v : ℕ) → ((a : Arith) → found ≡ Some a → IsTrue (can_hold t (Computed a) (pos v)))
    → Comes t excuse (option_map (λ a. Arithmetic (Computed a)) found) (of_type found v)
of_type_comes t excuse None v h = λ type is. cc
of_type_comes t excuse (Some a) v h = record { typed = h a refl; agrees = λ type is. some_is is }

-- ---- what is said of a part, and of the whole

-- what holds of the thing's own type holds of what is said
through : {A B : Type 0} (f : A → Option B) (said : Option A) (own : A) → ((q : A) → said ≡ Some q → own ≡ q) → (type : B) → option_and_then f said ≡ Some type → f own ≡ Some type
through f None own agrees type is = cc
through f (Some q) own agrees type is = subst (λ r. f r ≡ Some type) (sym (agrees q refl)) is

excused : {A B : Type 0} (excuse : Type 0) (f : A → Option B) (said : Option A) → ((q : A) → said ≡ Some q → excuse) → (type : B) → option_and_then f said ≡ Some type → excuse
excused excuse f None h type is = cc
excused excuse f (Some q) h type is = h q refl

-- ---- casts and arms

cast_of : (t : Target) (excuse : Type 0) (s : CScalar) (v : CValue) → Comes (table_of t) excuse (of_cast (Value s) (held_type v)) (as_assigned t (Value s) v)
cast_of t excuse s (Num k v) = fine_comes (table_of t) (targets_are_sound t) excuse (Scalar s) (of_cast (Value s) (Arithmetic k)) (as_assigned t (Value s) (Num k v)) (λ type is. some_is is) (as_kind_fine (table_of t) (Scalar s) k v)
cast_of t excuse s (Ptr constant base to) = λ type is. cc

-- a value of what is said of it: what holds of the value's own type holds of what is said
of_said : (t : TargetTable) (excuse : Type 0) (f : ValueType → Option ValueType) (said : Option ValueType) (v : CValue) (r : Result CValue Trouble) → HasItsType t said v → (said ≡ None → Comes t excuse None r) → Comes t excuse (f (held_type v)) r
    → Comes t excuse (option_and_then f said) r
of_said t excuse f None v r has none some = none refl
of_said t excuse f (Some u) v r has none some = subst (λ w. Comes t excuse (f w) r) (has.agrees u refl) some

said_less : (t : TargetTable) (excuse : Type 0) (said : Option ValueType) (r : Result CValue Trouble) → Comes t excuse said r → Comes t excuse None r
said_less t excuse said (Ok v) h = record { typed = h.typed; agrees = λ type is. cc }
said_less t excuse said (Err (Undefined reason)) h = tt
said_less t excuse said (Err Stuck) h = λ type is. cc

cast_comes : (t : Target) (excuse : Type 0) (s : CScalar) (said : Option ValueType) (v : CValue) → HasItsType (table_of t) said v → Comes (table_of t) excuse (option_and_then (of_cast (Value s)) said) (as_assigned t (Value s) v)
cast_comes t excuse s said v has =
    let of_value = cast_of t excuse s v in
    of_said (table_of t) excuse (of_cast (Value s)) said v (as_assigned t (Value s) v) has (λ none. said_less (table_of t) excuse (of_cast (Value s) (held_type v)) (as_assigned t (Value s) v) of_value) of_value

module _ (t : Target) (excuse : Type 0) where
  kind_comes : (kind k : CKind) (v : CValue) → HasItsType (table_of t) (Some (Arithmetic k)) v → Comes (table_of t) excuse (Some (Arithmetic kind)) (as_kind (table_of t) kind v)
  kind_comes kind k (Num from v) has = fine_comes (table_of t) (targets_are_sound t) excuse kind (Some (Arithmetic kind)) (as_kind (table_of t) kind (Num from v)) (λ type is. some_is is) (as_kind_fine (table_of t) kind from v)
  kind_comes kind k (Ptr constant base to) has = let no : ⊥ = (let e : PointerTo constant base ≡ Arithmetic k = has.agrees (Arithmetic k) refl in cc) in absurd no

  arm_comes : (kind k : CKind) (arm : Result CValue Trouble) → Comes (table_of t) excuse (Some (Arithmetic k)) arm → Comes (table_of t) excuse (Some (Arithmetic kind)) (on_ok arm (as_kind (table_of t) kind))
  arm_comes kind k arm g = on_ok_comes (table_of t) (targets_are_sound t) excuse (Some (Arithmetic k)) (Some (Arithmetic kind)) arm (as_kind (table_of t) kind) (λ none. cc) g (kind_comes kind k)

  either_arm : (kind k l : CKind) (test : Bool) (x y : Result CValue Trouble) → Comes (table_of t) excuse (Some (Arithmetic k)) x → Comes (table_of t) excuse (Some (Arithmetic l)) y
      → Comes (table_of t) excuse (Some (Arithmetic kind)) (on_ok (if test then x else y) (as_kind (table_of t) kind))
  either_arm kind k l true x y g h = arm_comes kind k x g
  either_arm kind k l false x y g h = arm_comes kind l y h

  -- the type of the whole, from those of its parts
  abbrev whole : (c a b : Option ValueType) → Option ValueType
  whole c a b = option_and_then (λ test. of_both (of_choice (table_of t) test) a b) c

  choice_comes : (c a b : Option ValueType) (test : Bool) (x y : Result CValue Trouble) → Comes (table_of t) excuse a x → Comes (table_of t) excuse b y → Comes (table_of t) excuse (whole c a b) (as_common (table_of t) (whole c a b) (if test then x else y))
  choice_comes None a b test x y g h = λ type is. cc
  choice_comes (Some u) None b test x y g h = λ type is. cc
  choice_comes (Some u) (Some v) None test x y g h = λ type is. cc
  choice_comes (Some (PointerTo constant base)) (Some v) (Some w) test x y g h = λ type is. cc
  choice_comes (Some (Arithmetic m)) (Some (PointerTo constant base)) (Some w) test x y g h = λ type is. cc
  choice_comes (Some (Arithmetic m)) (Some (Arithmetic k)) (Some (PointerTo constant base)) test x y g h = λ type is. cc
  choice_comes (Some (Arithmetic m)) (Some (Arithmetic k)) (Some (Arithmetic l)) test x y g h = either_arm (Computed (common_type (table_of t) k l)) k l test x y g h

  -- no choice is made by a pointer
  untested : (c a b : Option ValueType) (constant : Bool) (base : CBase) → ((type : ValueType) → c ≡ Some type → PointerTo constant base ≡ type) → (type : ValueType) → whole c a b ≡ Some type → excuse
  untested None a b constant base agrees type is = cc
  untested (Some (PointerTo c' base')) None b constant base agrees type is = cc
  untested (Some (PointerTo c' base')) (Some v) None constant base agrees type is = cc
  untested (Some (PointerTo c' base')) (Some v) (Some w) constant base agrees type is = cc
  untested (Some (Arithmetic m)) a b constant base agrees type is = let no : ⊥ = (let e : PointerTo constant base ≡ Arithmetic m = agrees (Arithmetic m) refl in cc) in absurd no

  cond_comes : (c a b : Option ValueType) (v : Result CValue Trouble) (x y : Result CValue Trouble) → Comes (table_of t) excuse c v → Comes (table_of t) excuse a x → Comes (table_of t) excuse b y
      → Comes (table_of t) excuse (whole c a b) (on_ok (on_ok v is_true) (λ holds. as_common (table_of t) (whole c a b) (if holds then x else y)))
  cond_comes c a b (Ok (Num k n)) x y f g h = choice_comes c a b (not (int_eq n (pos 0))) x y g h
  cond_comes c a b (Ok (Ptr constant base to)) x y f g h = untested c a b constant base f.agrees
  cond_comes c a b (Err (Undefined reason)) x y f g h = tt
  cond_comes None a b (Err Stuck) x y f g h = λ type is. cc
  cond_comes (Some u) a b (Err Stuck) x y f g h = λ type is. f u refl

-- ---- what places come to

-- a place of what is said of it, or a reason; stuck only where no type is said, or with an excuse
abbrev pub PlaceComes : TargetTable → (excuse : Type 0) → Option PlaceType → Result Lvalue Trouble → Type 0
PlaceComes t excuse said (Ok l) = HasItsPlaceType t said l
PlaceComes t excuse said (Err (Undefined reason)) = ⊤
PlaceComes t excuse said (Err Stuck) = (type : PlaceType) → said ≡ Some type → excuse

module _ (t : TargetTable) (excuse : Type 0) where
  value_said : {A : Type 0} (f : A → Option ValueType) (said : Option A) (own : A) (r : Result CValue Trouble) → ((q : A) → said ≡ Some q → own ≡ q) → Comes t excuse (f own) r → Comes t excuse (option_and_then f said) r
  value_said f said own (Ok v) agrees h = record { typed = h.typed; agrees = λ type is. h.agrees type (through f said own agrees type is) }
  value_said f said own (Err (Undefined reason)) agrees h = tt
  value_said f said own (Err Stuck) agrees h = λ type is. h type (through f said own agrees type is)

  place_said : {A : Type 0} (f : A → Option PlaceType) (said : Option A) (own : A) (r : Result Lvalue Trouble) → ((q : A) → said ≡ Some q → own ≡ q) → PlaceComes t excuse (f own) r → PlaceComes t excuse (option_and_then f said) r
  place_said f said own (Ok l) agrees h = record { typed = h.typed; agrees = λ type is. h.agrees type (through f said own agrees type is) }
  place_said f said own (Err (Undefined reason)) agrees h = tt
  place_said f said own (Err Stuck) agrees h = λ type is. h type (through f said own agrees type is)

  of_place : (f : PlaceType → Option ValueType) (said : Option PlaceType) (r : Result Lvalue Trouble) (next : Lvalue → Result CValue Trouble) → PlaceComes t excuse said r
      → ((l : Lvalue) → HasItsPlaceType t said l → Comes t excuse (f (place_type_of l)) (next l)) → Comes t excuse (option_and_then f said) (on_ok r next)
  of_place f said (Ok l) next h g = value_said f said (place_type_of l) (next l) h.agrees (g l h)
  of_place f said (Err (Undefined reason)) next h g = tt
  of_place f said (Err Stuck) next h g = excused excuse f said h

  of_value : (f : ValueType → Option ValueType) (said : Option ValueType) (r : Result CValue Trouble) (next : CValue → Result CValue Trouble) → Comes t excuse said r
      → ((v : CValue) → IsTyped t v → Comes t excuse (f (held_type v)) (next v)) → Comes t excuse (option_and_then f said) (on_ok r next)
  of_value f said (Ok v) next h g = value_said f said (held_type v) (next v) h.agrees (g v h.typed)
  of_value f said (Err (Undefined reason)) next h g = tt
  of_value f said (Err Stuck) next h g = excused excuse f said h

  place_of_place : (f : PlaceType → Option PlaceType) (said : Option PlaceType) (r : Result Lvalue Trouble) (next : Lvalue → Result Lvalue Trouble) → PlaceComes t excuse said r
      → ((l : Lvalue) → PlaceComes t excuse (f (place_type_of l)) (next l)) → PlaceComes t excuse (option_and_then f said) (on_ok r next)
  place_of_place f said (Ok l) next h g = place_said f said (place_type_of l) (next l) h.agrees (g l)
  place_of_place f said (Err (Undefined reason)) next h g = tt
  place_of_place f said (Err Stuck) next h g = excused excuse f said h

  place_of_value : (f : ValueType → Option PlaceType) (said : Option ValueType) (r : Result CValue Trouble) (next : CValue → Result Lvalue Trouble) → Comes t excuse said r
      → ((v : CValue) → PlaceComes t excuse (f (held_type v)) (next v)) → PlaceComes t excuse (option_and_then f said) (on_ok r next)
  place_of_value f said (Ok v) next h g = place_said f said (held_type v) (next v) h.agrees (g v)
  place_of_value f said (Err (Undefined reason)) next h g = tt
  place_of_value f said (Err Stuck) next h g = excused excuse f said h

-- ---- names

module _ (t : TargetTable) (excuse : Type 0) (structs : List CStruct) (x : Name) where
  abbrev name_type : Option Entity → Option PlaceType
  name_type found = option_map (of_entity structs) found

  file_by : (o : ℕ) (f : FileObject) (later : Result Lvalue Trouble) (entity : Option Entity) → PlaceComes t excuse (name_type entity) later → (test : Bool)
      → PlaceComes t excuse (name_type (if test then Some (ObjectName f.constant f.base) else entity)) (if test then Ok (object_of structs f.constant o f.base) else later)
  file_by o f later entity k true = record { typed = tt; agrees = λ type is. some_is is }
  file_by o f later entity k false = k

  file_comes : (objects : List FileObject) (o : ℕ) → PlaceComes t excuse (name_type (declared (map file_entity objects) x)) (file_place structs o objects x)
  file_comes [] o = λ type is. cc
  file_comes (f ∷ fs) o = file_by o f (file_place structs (suc o) fs x) (declared (map file_entity fs) x) (file_comes fs (suc o)) (same_word f.name x)

  name_by : (slot : Slot) (found : Option Slot) (outer : Result Lvalue Trouble) (entity : Option Entity) → SlotIsTyped t slot → PlaceComes t excuse (name_type entity) (or_outer structs found outer) → (test : Bool)
      → PlaceComes t excuse (name_type (if test then Some (slot_entity slot) else entity)) (or_outer structs (if test then Some slot else found) outer)
  name_by (Holding v) found outer entity h k true = record { typed = h; agrees = λ type is. some_is is }
  name_by (Naming o b) found outer entity h k true = record { typed = tt; agrees = λ type is. some_is is }
  name_by slot found outer entity h k false = k

  name_comes : (rest : List (Name × Entity)) (outer : Result Lvalue Trouble) → PlaceComes t excuse (name_type (declared rest x)) outer → (names : List (Name × Slot)) → All (λ n. SlotIsTyped t n.1) names
      → PlaceComes t excuse (name_type (declared (map local_entity names ++ rest) x)) (or_outer structs (named names x) outer)
  name_comes rest outer k [] h = k
  name_comes rest outer k (n ∷ names) h =
      name_by n.1 (named names x) outer (declared (map local_entity names ++ rest) x) (All-head (λ m. SlotIsTyped t m.1) n names h)
      (name_comes rest outer k names (All-tail (λ m. SlotIsTyped t m.1) n names h)) (same_word n.0 x)

-- ---- places and pointers

-- what is read of the memory is held, or there is an excuse
abbrev pub ReadsOr : Target → CObjects → (excuse : Type 0) → Type 0
ReadsOr t objects excuse = (o : ℕ) (x : ℕ × CScalar) (v : ℤ) → (memory_of t).read objects o x ≡ Ok v → can_hold (table_of t) (Scalar x.1) v ≡ false → excuse

module _ (p : Program) (s : CState) (excuse : Type 0) (reads : ReadsOr p.target s.objects excuse) where
  abbrev table : TargetTable
  table = table_of p.target

  alive_by : (constant : Bool) (b : CBase) (to : Pointing) (test : Bool) → Comes table excuse (Some (PointerTo constant b)) (if test then Ok (Ptr constant b to) else Err (Undefined Dead))
  alive_by constant b to true = record { typed = tt; agrees = λ type is. some_is is }
  alive_by constant b to false = tt

  scalar_by : (k : CScalar) (v : ℤ) → (can_hold table (Scalar k) v ≡ false → excuse) → (test : Bool) → can_hold table (Scalar k) v ≡ test → Comes table excuse (Some (Arithmetic (Scalar k))) (if test then Ok (Num (Scalar k) v) else Err Stuck)
  scalar_by k v o true is = record { typed = is; agrees = λ type e. some_is e }
  scalar_by k v o false is = λ type e. o is

  scalar_comes : (k : CScalar) (r : Result ℤ Fault) → ((v : ℤ) → r ≡ Ok v → can_hold table (Scalar k) v ≡ false → excuse) → Comes table excuse (Some (Arithmetic (Scalar k))) (on_ok (answered r) (of_scalar p.target k))
  scalar_comes k (Ok v) o = scalar_by k v (o v refl) (can_hold table (Scalar k) v) refl
  scalar_comes k (Err fault) o = tt

  read_comes : (l : Lvalue) → IsTypedPlace table l → Comes table excuse (of_read (place_type_of l)) (read p.target s l)
  read_comes (Known (Num k v)) h = record { typed = h; agrees = λ type is. some_is is }
  read_comes (Known (Ptr constant b to)) h = alive_by constant b to _
  read_comes (Located constant to (Leaf k)) h = scalar_comes k ((memory_of p.target).read s.objects to.object (to.offset, k)) (reads to.object (to.offset, k))
  read_comes (Located constant to (Many n a)) h = λ type is. cc
  read_comes (Located constant to (Struct k r)) h = λ type is. cc

  address_comes : (l : Lvalue) → Comes table excuse (of_address (place_type_of l)) (address_of l)
  address_comes (Known v) = λ type is. cc
  address_comes (Located constant to (Leaf k)) = record { typed = tt; agrees = λ type is. some_is is }
  address_comes (Located constant to (Many n a)) = λ type is. cc
  address_comes (Located constant to (Struct k r)) = record { typed = tt; agrees = λ type is. some_is is }

  pointer_by : (constant : Bool) (b : CBase) (to : Pointing) (fault : Option Fault) → Comes table excuse (Some (PointerTo constant b)) (unless_refused fault (Ok (Ptr constant b to)))
  pointer_by constant b to None = record { typed = tt; agrees = λ type is. some_is is }
  pointer_by constant b to (Some fault) = tt

  pointer_cast_comes : (constant : Bool) (b : CBase) (v : CValue) → Comes table excuse (of_cast (Pointer constant b) (held_type v)) (pointer_cast p.target s constant b v)
  pointer_cast_comes constant b (Num k v) = λ type is. cc
  pointer_cast_comes constant b (Ptr c from to) = pointer_by constant b to _

module _ (p : Program) (excuse : Type 0) where
  pointee_comes : (v : CValue) → PlaceComes (table_of p.target) excuse (of_pointee p.unit.structs (held_type v)) (pointee p.unit.structs v)
  pointee_comes (Num k v) = λ type is. cc
  pointee_comes (Ptr constant b to) = record { typed = tt; agrees = λ type is. some_is is }

  part_by : (constant : Bool) (to : Pointing) (found : Option CTree) → PlaceComes (table_of p.target) excuse (option_map (Stored constant) found) (part_at constant to found)
  part_by constant to None = λ type is. cc
  part_by constant to (Some a) = record { typed = tt; agrees = λ type is. some_is is }

  member_comes : (m : Name) (l : Lvalue) → PlaceComes (table_of p.target) excuse (of_member m (place_type_of l)) (member_of p.target m l)
  member_comes m (Known v) = λ type is. cc
  member_comes m (Located constant to (Leaf k)) = λ type is. cc
  member_comes m (Located constant to (Many n a)) = λ type is. cc
  member_comes m (Located constant to (Struct k r)) = part_by constant _ (member_tree r m)

  element_by : (constant : Bool) (to : Pointing) (a : CTree) (test : Bool) → PlaceComes (table_of p.target) excuse (Some (Stored constant a)) (if test then Ok (Located constant to a) else Err (Undefined Bounds))
  element_by constant to a true = record { typed = tt; agrees = λ type is. some_is is }
  element_by constant to a false = tt

  element_comes : (l : Lvalue) (v : CValue) → PlaceComes (table_of p.target) excuse (of_element (place_type_of l) (held_type v)) (element_of p.target l v)
  element_comes (Known u) v = λ type is. cc
  element_comes (Located constant to (Leaf k)) v = λ type is. cc
  element_comes (Located constant to (Struct k r)) v = λ type is. cc
  element_comes (Located constant to (Many n a)) (Num k i) = element_by constant _ a _
  element_comes (Located constant to (Many n a)) (Ptr c b other) = λ type is. cc

-- ---- all expressions

module _ (p : Program) (s : CState) (h : NamesAreTyped (table_of p.target) s) (excuse : Type 0) (reads : ReadsOr p.target s.objects excuse) where
  abbrev t : TargetTable
  t = table_of p.target

  abbrev said : Expr → Option ValueType
  said e = static_type p s e

  abbrev said_place : Place → Option PlaceType
  said_place place = static_place_type p s place

  read_of : (place : Place) → PlaceComes t excuse (said_place place) (eval_place p place s) → Comes t excuse (said (Read place)) (eval p (Read place) s)
  read_of place comes = of_place t excuse of_read (said_place place) (eval_place p place s) (read p.target s) comes (λ l is. read_comes p s excuse reads l is.typed)

  name_place_comes : (x : Name) → PlaceComes t excuse (said_place (Var x)) (eval_place p (Var x) s)
  name_place_comes x =
      name_comes t excuse p.unit.structs x (map file_entity p.unit.objects) (file_place p.unit.structs 0 p.unit.objects x) (file_comes t excuse p.unit.structs x p.unit.objects 0) s.frames.own h

  mutual
    value_comes : (e : Expr) → Comes t excuse (said e) (eval p e s)
    value_comes (Number v suffix) = of_type_comes t excuse (constant_type_in t suffix v) v (first_holds t (candidates suffix) (pos v))
    value_comes (Read place) = read_of place (place_comes place)
    value_comes (Address place) = of_place t excuse of_address (said_place place) (eval_place p place s) address_of (place_comes place) (λ l is. address_comes p s excuse reads l)
    value_comes (Unary op e) =
        on_ok_comes t (targets_are_sound p.target) excuse (said e) (said (Unary op e)) (eval p e s) (unary t op) (λ none. ap (option_and_then (of_unary t op)) none) (value_comes e)
        (unary_comes t (targets_are_sound p.target) excuse op (said e))
    value_comes (Binary op a b) =
        on_ok_comes t (targets_are_sound p.target) excuse (said a) (said (Binary op a b)) (eval p a s) (λ v. binary t op v (eval p b s)) (λ none. ap (λ u. of_both (of_binary t op) u (said b)) none) (value_comes a)
        (λ v has. binary_comes t (targets_are_sound p.target) excuse op (said a) (said b) v has (eval p b s) (value_comes b))
    value_comes (Cast Void e) = of_value t excuse (of_cast Void) (said e) (eval p e s) (cast p.target s Void) (value_comes e) (λ v typed. λ type is. cc)
    value_comes (Cast (Pointer constant base) e) =
        of_value t excuse (of_cast (Pointer constant base)) (said e) (eval p e s) (cast p.target s (Pointer constant base)) (value_comes e) (λ v typed. pointer_cast_comes p s excuse reads constant base v)
    value_comes (Cast (Value to) e) =
        on_ok_comes t (targets_are_sound p.target) excuse (said e) (said (Cast (Value to) e)) (eval p e s) (cast p.target s (Value to)) (λ none. ap (option_and_then (of_cast (Value to))) none) (value_comes e)
        (cast_comes p.target excuse to (said e))
    value_comes (Cond c a b) =
        cond_comes p.target excuse (said c) (said a) (said b) (eval p c s) (eval p a s) (eval p b s) (value_comes c) (value_comes a) (value_comes b)

    place_comes : (place : Place) → PlaceComes t excuse (said_place place) (eval_place p place s)
    place_comes (Var x) = name_place_comes x
    place_comes (At e) = place_of_value t excuse (of_pointee p.unit.structs) (said e) (eval p e s) (pointee p.unit.structs) (value_comes e) (pointee_comes p excuse)
    place_comes (Member place m) = place_of_place t excuse (of_member m) (said_place place) (eval_place p place s) (member_of p.target m) (place_comes place) (member_comes p excuse m)
    place_comes (Element place e) =
        place_of_place t excuse (λ array. option_and_then (of_element array) (said e)) (said_place place) (eval_place p place s) (λ array. on_ok (eval p e s) (element_of p.target array)) (place_comes place)
        (λ array. place_of_value t excuse (of_element (place_type_of array)) (said e) (eval p e s) (element_of p.target array) (value_comes e) (element_comes p excuse array))

-- ---- the laws

comes_if : (t : TargetTable) (excuse : Type 0) (said : Option ValueType) (r : Result CValue Trouble) → Comes t excuse said r → IfOk r (HasItsType t said)
comes_if t excuse said (Ok v) h = h
comes_if t excuse said (Err why) h = tt

pub values_have_their_types : ValuesHaveTheirTypes
values_have_their_types p e s h = comes_if (table_of p.target) ⊤ (static_type p s e) (eval p e s) (value_comes p s h ⊤ (λ o x v is not. tt) e)

place_if : (t : TargetTable) (said : Option PlaceType) (r : Result Lvalue Trouble) → PlaceComes t ⊤ said r → IfOk r (HasItsPlaceType t said)
place_if t said (Ok l) h = h
place_if t said (Err why) h = tt

pub places_have_their_types : PlacesHaveTheirTypes
places_have_their_types p place s h = place_if (table_of p.target) (static_place_type p s place) (eval_place p place s) (place_comes p s h ⊤ (λ o x v is not. tt) place)

none_unheld : (t : Target) (objects : CObjects) → ReadsAreHeld t objects → ReadsOr t objects ⊥
none_unheld t objects held o x v is not = let no : false ≡ true = sym not ∙ held o x v is in cc

-- an expression or a place with a type: a value or place of it, or a reason
pub typed_comes : (p : Program) (s : CState) → NamesAreTyped (table_of p.target) s → ReadsAreHeld p.target s.objects → (e : Expr) → Comes (table_of p.target) ⊥ (static_type p s e) (eval p e s)
typed_comes p s h held e = value_comes p s h ⊥ (none_unheld p.target s.objects held) e

pub typed_place_comes : (p : Program) (s : CState) → NamesAreTyped (table_of p.target) s → ReadsAreHeld p.target s.objects → (place : Place) → PlaceComes (table_of p.target) ⊥ (static_place_type p s place) (eval_place p place s)
typed_place_comes p s h held place = place_comes p s h ⊥ (none_unheld p.target s.objects held) place

pub typed_expressions_are_not_stuck : TypedExpressionsAreNotStuck
typed_expressions_are_not_stuck p e s type h held is stuck = subst (Comes (table_of p.target) ⊥ (static_type p s e)) stuck (typed_comes p s h held e) type is
