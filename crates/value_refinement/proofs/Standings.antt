-- A state stays related, and a name stands for its value, while old names and objects are kept.
use Rattle.std.proofs.Common.{◌≡◌, ℕ, ◌<◌, ◌≤◌, ℤ, Bool, true, false, List, [], ◌∷◌, ◌++◌, length, map, Option, Some, None, Result, Ok, Err, refl, sym, ◌∙◌, ap, subst}
use Rattle.std.specs.Prelude.{if◌then◌else◌, slice_get}
use Rattle.std.specs.Option.{option_map, option_and_then}
use Rattle.iv_words.specs.Words.{same_word}
use Rattle.run_records.specs.declared.Reason.TheVariants as reason
use Rattle.type_trees.specs.Trees.{Leaf, Many, Struct}
use Rattle.area_types.specs.Syntax.{ValueType}
use Rattle.core_tree.specs.Syntax.{AreaCore}
use Rattle.c_memory.specs.Access.{Fault, Dead}
use Rattle.c_ast.specs.declared.CScalar.{CScalar}
use Rattle.c_ast.specs.declared.CKind.TheVariants.{Scalar}
use Rattle.c_ast.specs.Names.{named}
use Rattle.c_ast.specs.Scalars.{metric_of}
use Rattle.c_ast.specs.StaticTypes.{Entity, of_entity, of_read, of_pointee}
use Rattle.c_ast.specs.Syntax.{Name, Expr, Read, Address, Place, Var, At}
use Rattle.c_ast.specs.Targets.{table_of}
use Rattle.c_meaning.specs.Expressions.{eval, eval_place, static_type, static_place_type}
use Rattle.c_meaning.specs.Memory.{memory_of, answered}
use Rattle.c_meaning.specs.Places.{Lvalue, Known, Located, or_outer, file_place, alive, of_scalar, read, address_of, pointee}
use Rattle.c_meaning.specs.Scopes.{slot_entity, local_entity, file_entity}
use Rattle.c_meaning.specs.State.{Program, CState, Slot, lives}
use Rattle.c_meaning.specs.Values as target
use Rattle.c_meaning.specs.Values.{Trouble, Undefined, CValue, Ptr, on_ok}
use Rattle.core_meaning.specs.Areas.{Areas}
use Rattle.core_meaning.specs.State.{State}
use Rattle.core_meaning.specs.Values as source
use Rattle.core_meaning.specs.Values.{Value}
use Rattle.area_objects.specs.Both.{Map}
use Rattle.area_objects.proofs.Alike.{lawful_in}
use Rattle.area_objects.proofs.Kept.{both_kept}
use Rattle.lower_types.specs.Names.{item_name}
use Rattle.lower_types.specs.Types.{scalar_for}
use Rattle.lower_types.proofs.Names.{item_is_no_local}
use Rattle.lower_values.specs.Expressions.{name_or_empty, area_place}
use Rattle.lower_values.specs.Frames.{is_object, name_of}
use Rattle.value_refinement.specs.Kept.{Kept}
use Rattle.value_refinement.specs.Related.{PointerIs, PlaceIs, NameStands, Related}
use Rattle.value_refinement.specs.Settings.{Setting, Set, IsOld}
use Rattle.form_answers.specs.Standing.{HasScalar}
use Rattle.value_refinement.proofs.Keeping.{older}

module _ (p : Program) (k : ℕ) (u w : CState) (kept : Kept p k u w) where
  -- ---- objects

  -- an object that lives was made before
  made_before : (o : ℕ) → lives u o ≡ true → o < length u.objects
  made_before o e = (lawful_in (table_of p.target)).numbered u.objects o e

  lives_on : (o : ℕ) → lives u o ≡ true → lives w o ≡ true
  lives_on o e = (kept.objects o (made_before o e)).live ∙ e

  alive_on : (v r : CValue) → alive u v ≡ Ok r → alive w v ≡ Ok r
  alive_on (target.Num kind n) r e = e
  alive_on (Ptr c b to) r e = go (lives u to.object) refl e where
    go : (l : Bool) → lives u to.object ≡ l → (if l then Ok (Ptr c b to) else Err (Undefined reason.Dead)) ≡ Ok r → alive w (Ptr c b to) ≡ Ok r
    go true is h = ap (λ l. let t : Result CValue Trouble = if l then Ok (Ptr c b to) else Err (Undefined reason.Dead) in t) (lives_on to.object is) ∙ h
    go false is h = let no : ⊥ = cc in absurd no

  -- what was read of an object is read again
  read_object : (o : ℕ) (x : ℕ × CScalar) (n : ℤ) → (memory_of p.target).read u.objects o x ≡ Ok n → (memory_of p.target).read w.objects o x ≡ Ok n
  read_object o x n e = go (lives u o) refl where
    go : (l : Bool) → lives u o ≡ l → (memory_of p.target).read w.objects o x ≡ Ok n
    go true is = (kept.objects o (made_before o is)).reads x ∙ e
    go false is = let dead : (memory_of p.target).read u.objects o x ≡ Err Dead = (lawful_in (table_of p.target)).dead_reads u.objects o x is in let no : ⊥ = cc in absurd no

  answered_on : (kind : CScalar) (o : ℕ) (x : ℕ × CScalar) (r : CValue) (first second : Result ℤ Fault) → ((n : ℤ) → first ≡ Ok n → second ≡ Ok n) → on_ok (answered first) (of_scalar p.target kind) ≡ Ok r → on_ok (answered second) (of_scalar p.target kind) ≡ Ok r
  answered_on kind o x r (Ok n) second h e = ap (λ s. on_ok (answered s) (of_scalar p.target kind)) (h n refl) ∙ e
  answered_on kind o x r (Err fault) second h e = let no : ⊥ = cc in absurd no

  read_on : (l : Lvalue) (r : CValue) → read p.target u l ≡ Ok r → read p.target w l ≡ Ok r
  read_on (Known v) r e = alive_on v r e
  read_on (Located c to (Leaf kind)) r e =
      answered_on kind to.object (to.offset, kind) r _ _ (read_object to.object (to.offset, kind)) e
  read_on (Located c to (Many n a)) r e = let no : ⊥ = cc in absurd no
  read_on (Located c to (Struct n a)) r e = let no : ⊥ = cc in absurd no

  -- ---- old names

  module _ (x : Name) (old : IsOld k x) where
    pub name_place_on : eval_place p (Var x) w ≡ eval_place p (Var x) u
    name_place_on = ap (λ found. or_outer p.unit.structs found (file_place p.unit.structs 0 p.unit.objects x)) (kept.names x old)

    then_read : (l : Result Lvalue Trouble) (r : CValue) → on_ok l (read p.target u) ≡ Ok r → on_ok l (read p.target w) ≡ Ok r
    then_read (Ok l) r e = read_on l r e
    then_read (Err trouble) r e = let no : ⊥ = cc in absurd no

    pub name_read_on : (r : CValue) → eval p (Read (Var x)) u ≡ Ok r → eval p (Read (Var x)) w ≡ Ok r
    name_read_on r e = ap (λ l. on_ok l (read p.target w)) name_place_on ∙ then_read (eval_place p (Var x) u) r e

    abbrev entity : Option Slot → Option Entity → Option Entity
    entity (Some slot) outer = Some (slot_entity slot)
    entity None outer = outer

    entity_of : (names : List (Name × Slot)) (rest : List (Name × Entity)) → named (map local_entity names ++ rest) x ≡ entity (named names x) (named rest x)
    entity_of [] rest = refl
    entity_of (n ∷ names) rest = go (same_word n.0 x) (entity_of names rest) where
      go : (b : Bool) → named (map local_entity names ++ rest) x ≡ entity (named names x) (named rest x)
          → (if b then Some (slot_entity n.1) else named (map local_entity names ++ rest) x) ≡ entity (if b then Some n.1 else named names x) (named rest x)
      go true e = refl
      go false e = e

    pub place_type_on : static_place_type p w (Var x) ≡ static_place_type p u (Var x)
    place_type_on =
        ap (option_map (of_entity p.unit.structs))
        (entity_of w.frames.own (map file_entity p.unit.objects) ∙ ap (λ found. entity found (named (map file_entity p.unit.objects) x)) (kept.names x old) ∙ sym (entity_of u.frames.own (map file_entity p.unit.objects)))

    pub type_on : static_type p w (Read (Var x)) ≡ static_type p u (Read (Var x))
    type_on = ap (option_and_then of_read) place_type_on

-- ---- what stands for a name

module _ (g : Setting) (objects : Map) (areas : Areas) (k : ℕ) (u w : CState) (kept : Kept g.program k u w) (x : Name) (old : IsOld k x) where
  pub scalar_on : (kind : CScalar) (n : ℤ) → HasScalar g.program u kind (Read (Var x)) n → HasScalar g.program w kind (Read (Var x)) n
  scalar_on kind n h = record { gives = name_read_on g.program k u w kept x old _ h.gives; type = type_on g.program k u w kept x old ∙ h.type }

  -- an object of a name
  pub place_on : (c : Bool) (j : ℕ) (path : List ℕ) → PlaceIs g objects areas u c (Var x) j path → PlaceIs g objects areas w c (Var x) j path
  place_on c j path h =
      let same : eval_place g.program (Var x) w ≡ eval_place g.program (Var x) u = name_place_on g.program k u w kept x old in
      let q : PointerIs g objects areas w c (Address (Var x)) j path = record {
        object = h.pointer.object;
        area = h.pointer.area;
        lives = h.pointer.lives;
        content = h.pointer.content;
        leads = h.pointer.leads;
        is = ap (λ l. on_ok l address_of) same ∙ h.pointer.is;
      } in
      record { pointer = q; is = same ∙ h.is; type = place_type_on g.program k u w kept x old ∙ h.type }

  -- what a pointer's name leads to
  pub pointee_on : (c : Bool) (j : ℕ) (path : List ℕ) → PlaceIs g objects areas u c (At (Read (Var x))) j path → PlaceIs g objects areas w c (At (Read (Var x))) j path
  pointee_on c j path h =
      let same : eval g.program (Read (Var x)) w ≡ eval g.program (Read (Var x)) u = name_read_on g.program k u w kept x old _ h.pointer.is ∙ sym h.pointer.is in
      let q : PointerIs g objects areas w c (Read (Var x)) j path = record {
        object = h.pointer.object;
        area = h.pointer.area;
        lives = h.pointer.lives;
        content = h.pointer.content;
        leads = h.pointer.leads;
        is = same ∙ h.pointer.is;
      } in
      record {
        pointer = q;
        is = ap (λ v. on_ok v (pointee g.program.unit.structs)) same ∙ h.is;
        type = ap (option_and_then (of_pointee g.program.unit.structs)) (type_on g.program k u w kept x old) ∙ h.type;
      }

  abbrev value_by : Bool → Expr
  value_by b = if b then Address (Var x) else Read (Var x)

  abbrev place_by : Bool → Place
  place_by b = if b then Var x else At (Read (Var x))

  -- an object, or else a name that holds its value
  pub name_on : (b : Bool) (ty : ValueType) (v : Value) → NameStands g objects areas u ty (value_by b) (place_by b) v → NameStands g objects areas w ty (value_by b) (place_by b) v
  name_on true ty (source.Num n) h = absurd (no_number (eval_place g.program (Var x) u) h.gives) where
    no_number : (l : Result Lvalue Trouble) → on_ok l address_of ≡ Ok (target.Num (Scalar (scalar_for g.frame.table ty)) n) → ⊥
    no_number (Ok (Known v)) e = let no : ⊥ = cc in absurd no
    no_number (Ok (Located c to (Leaf s))) e = let no : ⊥ = cc in absurd no
    no_number (Ok (Located c to (Many i a))) e = let no : ⊥ = cc in absurd no
    no_number (Ok (Located c to (Struct i a))) e = let no : ⊥ = cc in absurd no
    no_number (Err trouble) e = let no : ⊥ = cc in absurd no
  name_on true ty (source.Ref j path) h = place_on _ j path h
  name_on false ty (source.Num n) h = scalar_on _ n h
  name_on false ty (source.Ref j path) h = pointee_on _ j path h

-- ---- states

pub item_is_old : (k : ℕ) (name : Name) → IsOld k (item_name name)
item_is_old k name j le = item_is_no_local name j

module _ (g : Setting) (objects : Map) (s : State) (k : ℕ) (u w : CState) (kept : Kept g.program k u w) (related : Related g objects s u) where
  -- the module's areas, whichever temporaries were declared
  pub global_on : (n : ℕ) (a : AreaCore) → slice_get g.frame.core.areas n ≡ Some a → PlaceIs g objects s.areas w a.constant (area_place g.frame n) n []
  global_on n a e =
      let is : area_place g.frame n ≡ Var (item_name a.name) = ap (λ found. Var (name_or_empty found)) e in
      subst (λ l. PlaceIs g objects s.areas w a.constant l n []) (sym is)
      (place_on g objects s.areas k u w kept (item_name a.name) (item_is_old k a.name) a.constant n [] (subst (λ l. PlaceIs g objects s.areas u a.constant l n []) is (related.globals n a e)))

module _ (g : Setting) (set : Set g) (objects : Map) (s : State) (k : ℕ) (from : g.first ≤ k) (u w : CState) (kept : Kept g.program k u w) (related : Related g objects s u) where
  pub related_on : Related g objects s w
  related_on = record {
    both = both_kept (metric_of g.program.target) _ (memory_of g.program.target) g.naming objects s.areas s.areas u.objects w.objects related.both refl kept.count (λ j o a l. (l, kept.objects o (related.both.made j o l.object)));
    own = related.own;
    globals = global_on g objects s k u w kept related;
    locals = λ x ty v here type has.
        name_on g objects s.areas k u w kept (name_of g.frame x) (older g.first k (name_of g.frame x) from (set.locals x ty type)) (is_object g.frame x) ty v (related.locals x ty v here type has);
    result = λ ty v type has. (let o = set.result ty type in result_on ty v o.name o.is (older g.first k o.name from o.old) (related.result ty v type has));
  } where
    result_on : (ty : ValueType) (v : Value) (x : Name) → g.frame.outcome ≡ Read (Var x) → IsOld k x → NameStands g objects s.areas u ty g.frame.outcome (At g.frame.outcome) v → NameStands g objects s.areas w ty g.frame.outcome (At g.frame.outcome) v
    result_on ty v x is old h =
        subst (λ e. NameStands g objects s.areas w ty e (At e) v) (sym is) (name_on g objects s.areas k u w kept x old false ty v (subst (λ e. NameStands g objects s.areas u ty e (At e) v) is h))
