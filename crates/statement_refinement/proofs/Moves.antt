-- Related states stay related, for the names in scope, where both sides have moved on alike.
use Rattle.std.proofs.Common.{◌≡◌, ℕ, ◌<◌, ℤ, Bool, true, false, List, [], ◌∷◌, ◌++◌, length, map, Option, Some, None, Result, Ok, Err, refl, sym, ◌∙◌, ap, subst}
use Rattle.std.specs.Prelude.{if◌then◌else◌, slice_get, Contains}
use Rattle.std.specs.Option.{option_map, option_and_then}
use Rattle.iv_words.specs.Words.{same_word}
use Rattle.run_records.specs.declared.Reason.TheVariants as reason
use Rattle.type_trees.specs.Trees.{Leaf, Many, Struct, part}
use Rattle.area_types.specs.Syntax.{ValueType}
use Rattle.area_types.specs.Tables.{written_out}
use Rattle.area_types.specs.Trees.{Written}
use Rattle.core_tree.specs.Syntax.{AreaCore}
use Rattle.c_memory.specs.Abstract.{Same}
use Rattle.c_memory.specs.Access.{Fault, Dead}
use Rattle.c_ast.specs.declared.CBase.{CBase}
use Rattle.c_ast.specs.declared.CKind.TheVariants.{Scalar}
use Rattle.c_ast.specs.declared.CScalar.{CScalar}
use Rattle.c_ast.specs.Conversions.{can_hold}
use Rattle.c_ast.specs.Names.{named}
use Rattle.c_ast.specs.Scalars.{metric_of}
use Rattle.c_ast.specs.StaticTypes.{Entity, of_entity, of_read, of_pointee}
use Rattle.c_ast.specs.Structs.{CTree, tree}
use Rattle.c_ast.specs.Syntax.{Name, Expr, Read, Address, Place, Var, At}
use Rattle.c_ast.specs.Targets.{table_of}
use Rattle.c_meaning.specs.Expressions.{eval, eval_place, static_type, static_place_type}
use Rattle.c_meaning.specs.Memory.{memory_of, answered}
use Rattle.c_meaning.specs.Places.{Lvalue, Known, Located, or_outer, file_place, alive, of_scalar, read, address_of, pointee}
use Rattle.c_meaning.specs.Scopes.{slot_entity, local_entity, file_entity}
use Rattle.c_meaning.specs.State.{Program, CState, Slot, Holding, Naming, lives}
use Rattle.c_meaning.specs.Values as target
use Rattle.c_meaning.specs.Values.{Trouble, Undefined, Stuck, CValue, Ptr, on_ok}
use Rattle.core_meaning.specs.Areas.{Area, Live}
use Rattle.core_meaning.specs.State.{State, value_of}
use Rattle.core_meaning.specs.Values as source
use Rattle.core_meaning.specs.Values.{Value}
use Rattle.area_objects.specs.Both.{Map, Extends, LiveIn}
use Rattle.area_objects.specs.Holds.{CanHold}
use Rattle.area_objects.specs.Located.{begins, located}
use Rattle.area_objects.specs.PlaceLaws.{BothIn}
use Rattle.area_objects.specs.Shapes.{base_of}
use Rattle.area_objects.proofs.Alike.{lawful_in}
use Rattle.area_objects.proofs.Lives.{objects_live}
use Rattle.lower_types.specs.Names.{item_name}
use Rattle.lower_types.specs.Types.{scalar_for}
use Rattle.lower_values.specs.Expressions.{name_or_empty, area_place, local_place, local_value}
use Rattle.lower_values.specs.Frames.{is_object, name_of}
use Rattle.value_refinement.specs.Related.{PointerIs, PlaceIs, NameStands, Related}
use Rattle.value_refinement.specs.Settings.{Setting}
use Rattle.form_answers.specs.Standing.{HasScalar}
use Rattle.value_refinement.proofs.Standings.{item_is_old}
use Rattle.statement_refinement.specs.Apart.{OfNoArea, IsApart, CountersApart}
use Rattle.statement_refinement.specs.Moves.{StillLive, Moved, ScopeBefore, StatesMove}

-- what is still there, of the names in scope
pub record StillThere (g : Setting) (objects : Map) (s : State) (t : CState) (more : Map) (later : State) (u : CState) : Type 0 where
  pub extends : Extends objects more
  pub live : (k : ℕ) (a : Area) → slice_get s.areas k ≡ Some (Live a) → StillLive later.areas k a
  pub same : (o : ℕ) → o < length t.objects → OfNoArea objects o → Same (metric_of g.program.target) (memory_of g.program.target) t.objects u.objects o
  pub apart : (o : ℕ) → o < length t.objects → OfNoArea objects o → OfNoArea more o
  pub items : (x : Name) → named u.frames.own (item_name x) ≡ named t.frames.own (item_name x)
  pub names : (x : ℕ) (ty : ValueType) → Contains g.scope x → slice_get g.env.locals x ≡ Some ty → named u.frames.own (name_of g.frame x) ≡ named t.frames.own (name_of g.frame x)
  pub values : (x : ℕ) (ty : ValueType) → Contains g.scope x → slice_get g.env.locals x ≡ Some ty → value_of x later ≡ value_of x s

module _ (g : Setting) (objects : Map) (s : State) (t : CState) (more : Map) (later : State) (u : CState) (moved : StillThere g objects s t more later u)
    (both : BothIn g.program.target g.naming more later.areas u.objects) where
  abbrev p : Program
  p = g.program

  -- ---- areas

  -- a live area has its object
  still_in : (k o : ℕ) (a : Area) (l : LiveIn objects s.areas k o a) → LiveIn more later.areas k o (moved.live k a l.live).area
  still_in k o a l = record { live = (moved.live k a l.live).live; object = moved.extends k o l.object }

  still_lives : (k o : ℕ) (a : Area) → LiveIn objects s.areas k o a → lives u o ≡ true
  still_lives k o a l =
      objects_live (metric_of p.target) (CanHold (table_of p.target)) (memory_of p.target) (lawful_in (table_of p.target)) g.naming more later.areas u.objects k o (moved.live k a l.live).area both (still_in k o a l)

  abbrev pointer_on : (c : Bool) (e : Expr) (k : ℕ) (path : List ℕ) (h : PointerIs g objects s.areas t c e k path) → eval p e u ≡ eval p e t → PointerIs g more later.areas u c e k path
  pointer_on c e k path h same =
      let l : StillLive later.areas k h.area = moved.live k h.area h.lives.live in
      record {
        object = h.object;
        area = l.area;
        lives = record { live = l.live; object = moved.extends k h.object h.lives.object };
        content = h.content;
        leads = ap (λ ty. part ty path) l.type ∙ h.leads;
        is = same ∙ h.is ∙ ap (λ ty. let r : Result CValue Trouble = Ok (Ptr c (base_of g.naming h.content) (begins p.target g.naming h.object ty path)) in r) (sym l.type);
      }

  located_on : (c : Bool) (k o : ℕ) (a : Area) (l : StillLive later.areas k a) (path : List ℕ) (content : Written)
      → (let r : Result Lvalue Trouble = Ok (located p.target g.naming c o a.ty path content) in r) ≡ Ok (located p.target g.naming c o l.area.ty path content)
  located_on c k o a l path content = ap (λ ty. let r : Result Lvalue Trouble = Ok (located p.target g.naming c o ty path content) in r) (sym l.type)

  -- ---- what is read

  lives_of : (kind : CScalar) (o : ℕ) (x : ℕ × CScalar) (r : CValue) → on_ok (answered ((memory_of p.target).read t.objects o x)) (of_scalar p.target kind) ≡ Ok r → lives t o ≡ true
  lives_of kind o x r e = go (lives t o) refl where
    go : (l : Bool) → lives t o ≡ l → lives t o ≡ true
    go true is = is
    go false is = let dead : (memory_of p.target).read t.objects o x ≡ Err Dead = (lawful_in (table_of p.target)).dead_reads t.objects o x is in let no : ⊥ = cc in absurd no

  made_before : (o : ℕ) → lives t o ≡ true → o < length t.objects
  made_before o e = (lawful_in (table_of p.target)).numbered t.objects o e

  -- an object of no area that was read was made, and is read again
  object_made : (o : ℕ) (b : CTree) (r : CValue) → read p.target t (Located false (record { object = o; offset = 0 }) b) ≡ Ok r → o < length t.objects
  object_made o (Leaf kind) r e = made_before o (lives_of kind o (0, kind) r e)
  object_made o (Many n a) r e = let no : ⊥ = cc in absurd no
  object_made o (Struct n a) r e = let no : ⊥ = cc in absurd no

  object_read_on : (o : ℕ) → o < length t.objects → OfNoArea objects o → (b : CTree) (r : CValue) → read p.target t (Located false (record { object = o; offset = 0 }) b) ≡ Ok r → read p.target u (Located false (record { object = o; offset = 0 }) b) ≡ Ok r
  object_read_on o made apart (Leaf kind) r e = ap (λ z. on_ok (answered z) (of_scalar p.target kind)) ((moved.same o made apart).reads (0, kind)) ∙ e
  object_read_on o made apart (Many n a) r e = let no : ⊥ = cc in absurd no
  object_read_on o made apart (Struct n a) r e = let no : ⊥ = cc in absurd no

  -- no scalar of an object is a pointer
  scalar_no_pointer : (kind : CScalar) (r : Result ℤ Fault) (c : Bool) (b : CBase) (to : target.Address) → on_ok (answered r) (of_scalar p.target kind) ≡ Ok (Ptr c b to) → ⊥
  scalar_no_pointer kind (Ok i) c b to e = go (can_hold (table_of p.target) (Scalar kind) i) e where
    go : (l : Bool) → (let t : Result CValue Trouble = if l then Ok (target.Num (Scalar kind) i) else Err Stuck in t) ≡ Ok (Ptr c b to) → ⊥
    go true h = cc
    go false h = cc
  scalar_no_pointer kind (Err fault) c b to e = cc

  -- a pointer that was read is read again, while its object lives
  pointer_read_on : (l : Result Lvalue Trouble) (c : Bool) (b : CBase) (to : target.Address) → lives u to.object ≡ true → on_ok l (read p.target t) ≡ Ok (Ptr c b to) → on_ok l (read p.target u) ≡ Ok (Ptr c b to)
  pointer_read_on (Ok (Known (target.Num kind n))) c b to live e = let no : ⊥ = cc in absurd no
  pointer_read_on (Ok (Known (Ptr c2 b2 to2))) c b to live e = go (lives t to2.object) e where
    go : (d : Bool) → (let r : Result CValue Trouble = if d then Ok (Ptr c2 b2 to2) else Err (Undefined reason.Dead) in r) ≡ Ok (Ptr c b to) → alive u (Ptr c2 b2 to2) ≡ Ok (Ptr c b to)
    go true h =
        let here : to2 ≡ to = cc in
        ap (λ l. let r : Result CValue Trouble = if l then Ok (Ptr c2 b2 to2) else Err (Undefined reason.Dead) in r) (subst (λ a. lives u a.object ≡ true) (sym here) live) ∙ h
    go false h = let no : ⊥ = cc in absurd no
  pointer_read_on (Ok (Located d from (Leaf kind))) c b to live e = absurd (scalar_no_pointer kind ((memory_of p.target).read t.objects from.object (from.offset, kind)) c b to e)
  pointer_read_on (Ok (Located d from (Many n a))) c b to live e = let no : ⊥ = cc in absurd no
  pointer_read_on (Ok (Located d from (Struct n a))) c b to live e = let no : ⊥ = cc in absurd no
  pointer_read_on (Err trouble) c b to live e = let no : ⊥ = cc in absurd no

  -- ---- old names

  module _ (x : Name) (named_same : named u.frames.own x ≡ named t.frames.own x) where
    abbrev outer : Result Lvalue Trouble
    outer = file_place p.unit.structs 0 p.unit.objects x

    place_same : eval_place p (Var x) u ≡ eval_place p (Var x) t
    place_same = ap (λ found. or_outer p.unit.structs found outer) named_same

    abbrev entity : Option Slot → Option Entity → Option Entity
    entity (Some slot) rest = Some (slot_entity slot)
    entity None rest = rest

    entity_of : (names : List (Name × Slot)) (rest : List (Name × Entity)) → named (map local_entity names ++ rest) x ≡ entity (named names x) (named rest x)
    entity_of [] rest = refl
    entity_of (n ∷ names) rest = go (same_word n.0 x) (entity_of names rest) where
      go : (b : Bool) → named (map local_entity names ++ rest) x ≡ entity (named names x) (named rest x)
          → (if b then Some (slot_entity n.1) else named (map local_entity names ++ rest) x) ≡ entity (if b then Some n.1 else named names x) (named rest x)
      go true e = refl
      go false e = e

    place_type_same : static_place_type p u (Var x) ≡ static_place_type p t (Var x)
    place_type_same =
        ap (option_map (of_entity p.unit.structs))
        (entity_of u.frames.own (map file_entity p.unit.objects) ∙ ap (λ found. entity found (named (map file_entity p.unit.objects) x)) named_same ∙ sym (entity_of t.frames.own (map file_entity p.unit.objects)))

    type_same : static_type p u (Read (Var x)) ≡ static_type p t (Read (Var x))
    type_same = ap (option_and_then of_read) place_type_same

    -- an object of a name
    place_on : (c : Bool) (k : ℕ) (path : List ℕ) → PlaceIs g objects s.areas t c (Var x) k path → PlaceIs g more later.areas u c (Var x) k path
    place_on c k path h = record {
      pointer = pointer_on c (Address (Var x)) k path h.pointer (ap (λ l. on_ok l address_of) place_same);
      is = place_same ∙ h.is ∙ located_on c k h.pointer.object h.pointer.area (moved.live k h.pointer.area h.pointer.lives.live) path h.pointer.content;
      type = place_type_same ∙ h.type;
    }

    -- what a pointer's name leads to
    pointee_on : (c : Bool) (k : ℕ) (path : List ℕ) → PlaceIs g objects s.areas t c (At (Read (Var x))) k path → PlaceIs g more later.areas u c (At (Read (Var x))) k path
    pointee_on c k path h =
        let q : PointerIs g objects s.areas t c (Read (Var x)) k path = h.pointer in
        let again : eval p (Read (Var x)) u ≡ Ok (Ptr c (base_of g.naming q.content) (begins p.target g.naming q.object q.area.ty path)) =
        ap (λ l. on_ok l (read p.target u)) place_same
        ∙ pointer_read_on (eval_place p (Var x) t) c (base_of g.naming q.content) (begins p.target g.naming q.object q.area.ty path) (still_lives k q.object q.area q.lives) q.is in
        let same : eval p (Read (Var x)) u ≡ eval p (Read (Var x)) t = again ∙ sym q.is in
        record {
          pointer = pointer_on c (Read (Var x)) k path q same;
          is = ap (λ v. on_ok v (pointee p.unit.structs)) same ∙ h.is ∙ located_on c k q.object q.area (moved.live k q.area q.lives.live) path q.content;
          type = ap (option_and_then (of_pointee p.unit.structs)) type_same ∙ h.type;
        }

    -- ---- numbers

    holding_on : (v : CValue) (kind : CScalar) (n : ℤ) → alive t v ≡ Ok (target.Num (Scalar kind) n) → alive u v ≡ Ok (target.Num (Scalar kind) n)
    holding_on (target.Num k2 n2) kind n e = e
    holding_on (Ptr c b to) kind n e = absurd (go (lives t to.object) e) where
      go : (d : Bool) → (let r : Result CValue Trouble = if d then Ok (Ptr c b to) else Err (Undefined reason.Dead) in r) ≡ Ok (target.Num (Scalar kind) n) → ⊥
      go true h = cc
      go false h = cc

    number_read_on : (found : Option Slot) (kind : CScalar) (n : ℤ) → IsApart objects found → on_ok (or_outer p.unit.structs found outer) (read p.target t) ≡ Ok (target.Num (Scalar kind) n) → on_ok (or_outer p.unit.structs found outer) (read p.target u) ≡ Ok (target.Num (Scalar kind) n)
    number_read_on None kind n apart e = absurd apart
    number_read_on (Some (Holding v)) kind n apart e = holding_on v kind n e
    number_read_on (Some (Naming o b)) kind n apart e = object_read_on o (object_made o (tree p.unit.structs b) _ e) apart (tree p.unit.structs b) _ e

    still_apart : (found : Option Slot) (kind : CScalar) (n : ℤ) → IsApart objects found → on_ok (or_outer p.unit.structs found outer) (read p.target t) ≡ Ok (target.Num (Scalar kind) n) → IsApart more found
    still_apart None kind n apart e = apart
    still_apart (Some (Holding v)) kind n apart e = tt
    still_apart (Some (Naming o b)) kind n apart e = moved.apart o (object_made o (tree p.unit.structs b) _ e) apart

    scalar_on : IsApart objects (named t.frames.own x) → (kind : CScalar) (n : ℤ) → HasScalar p t kind (Read (Var x)) n → HasScalar p u kind (Read (Var x)) n
    scalar_on apart kind n h = record {
      gives = ap (λ l. on_ok l (read p.target u)) place_same ∙ number_read_on (named t.frames.own x) kind n apart h.gives;
      type = type_same ∙ h.type;
    }

    abbrev value_by : Bool → Expr
    value_by b = if b then Address (Var x) else Read (Var x)

    abbrev place_by : Bool → Place
    place_by b = if b then Var x else At (Read (Var x))

    no_number : (l : Result Lvalue Trouble) (kind : CScalar) (n : ℤ) → on_ok l address_of ≡ Ok (target.Num (Scalar kind) n) → ⊥
    no_number (Ok (Known v)) kind n e = cc
    no_number (Ok (Located c to (Leaf s))) kind n e = cc
    no_number (Ok (Located c to (Many i a))) kind n e = cc
    no_number (Ok (Located c to (Struct i a))) kind n e = cc
    no_number (Err trouble) kind n e = cc

    name_on : (b : Bool) (ty : ValueType) (v : Value) → ((n : ℤ) → v ≡ source.Num n → IsApart objects (named t.frames.own x)) → NameStands g objects s.areas t ty (value_by b) (place_by b) v → NameStands g more later.areas u ty (value_by b) (place_by b) v
    name_on true ty (source.Num n) numbers h = absurd (no_number (eval_place p (Var x) t) (scalar_for g.frame.table ty) n h.gives)
    name_on true ty (source.Ref k path) numbers h = place_on _ k path h
    name_on false ty (source.Num n) numbers h = scalar_on (numbers n refl) (scalar_for g.frame.table ty) n h
    name_on false ty (source.Ref k path) numbers h = pointee_on _ k path h

    apart_on : (b : Bool) (kind : CScalar) (n : ℤ) → IsApart objects (named t.frames.own x) → HasScalar p t kind (value_by b) n → IsApart more (named u.frames.own x)
    apart_on true kind n apart h = absurd (no_number (eval_place p (Var x) t) kind n h.gives)
    apart_on false kind n apart h = subst (IsApart more) (sym named_same) (still_apart (named t.frames.own x) kind n apart h.gives)

  -- ---- states

  module _ (related : Related g objects s t) where
    global_on : (n : ℕ) (a : AreaCore) → slice_get g.frame.core.areas n ≡ Some a → PlaceIs g more later.areas u a.constant (area_place g.frame n) n []
    global_on n a e =
        let is : area_place g.frame n ≡ Var (item_name a.name) = ap (λ found. Var (name_or_empty found)) e in
        subst (λ l. PlaceIs g more later.areas u a.constant l n []) (sym is)
        (place_on (item_name a.name) (moved.items a.name) a.constant n [] (subst (λ l. PlaceIs g objects s.areas t a.constant l n []) is (related.globals n a e)))

    own_on : (k : ℕ) (x : AreaCore) → slice_get g.frame.core.areas k ≡ Some x → (a : Area) × (a.ty ≡ written_out g.frame.core.structs x.area) × LiveIn more later.areas k k a
    own_on k x e =
        let q = related.own k x e in
        let l : StillLive later.areas k q.0 = moved.live k q.0 q.2.live in
        (l.area, l.type ∙ q.1, record { live = l.live; object = moved.extends k k q.2.object })

    module _ (no_outcome : g.env.outcome ≡ None) (apart : CountersApart g objects s t) where
      local_on : (x : ℕ) (ty : ValueType) (v : Value) → Contains g.scope x → slice_get g.env.locals x ≡ Some ty → value_of x later ≡ Some v → NameStands g more later.areas u ty (local_value g.frame x) (local_place g.frame x) v
      local_on x ty v here type has =
          let had : value_of x s ≡ Some v = sym (moved.values x ty here type) ∙ has in
          name_on (name_of g.frame x) (moved.names x ty here type) (is_object g.frame x) ty v (λ n e. apart x ty n here type (had ∙ ap Some e)) (related.locals x ty v here type had)

      pub related_still : Related g more later u
      related_still = record {
        both = both;
        own = own_on;
        globals = global_on;
        locals = local_on;
        result = λ ty v type has. (let no : ⊥ = cc in absurd no);
      }

      pub apart_still : CountersApart g more later u
      apart_still x ty n here type has =
          let had : value_of x s ≡ Some (source.Num n) = sym (moved.values x ty here type) ∙ has in
          apart_on (name_of g.frame x) (moved.names x ty here type) (is_object g.frame x) (scalar_for g.frame.table ty) n (apart x ty n here type had) (related.locals x ty (source.Num n) here type had)

-- what has moved is still there for a scope that stands before
still_there : (g : Setting) (next : ℕ) → ScopeBefore g next → (objects : Map) (s : State) (t : CState) (more : Map) (later : State) (u : CState) → Moved g.program next objects s t more later u → StillThere g objects s t more later u
still_there g next before objects s t more later u moved = record {
  extends = moved.extends;
  live = moved.live;
  same = moved.same;
  apart = moved.apart;
  items = λ x. moved.names (item_name x) (item_is_old next x);
  names = λ x ty here type. moved.names (name_of g.frame x) (before x ty here type).1;
  values = λ x ty here type. moved.values x (before x ty here type).0;
}

pub states_move_on : StatesMove
states_move_on g no_outcome next before objects s t related apart more later u moved both =
    let there : StillThere g objects s t more later u = still_there g next before objects s t more later u moved in
    (related_still g objects s t more later u there both related no_outcome apart, apart_still g objects s t more later u there both related no_outcome apart)
