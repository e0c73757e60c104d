-- The states behind an `alloc`: a further area with a further object that holds it, and a name that stands for both.
use Rattle.std.proofs.Common.{◌≡◌, ℕ, zero, suc, ◌<◌, ◌≤◌, ℤ, true, false, List, [], ◌∷◌, ◌++◌, length, map, Contains, Option, Some, Result, Ok, refl, sym, ◌∙◌, ap, subst, arith, ⊎_elim, inl, inr}
use Rattle.std.specs.Prelude.{if◌then◌else◌, slice_get, ◌⊎◌}
use Rattle.std.specs.Option.{option_map}
use Rattle.iv_words.proofs.Equality.{same_self}
use Rattle.type_trees.specs.Values.{cells}
use Rattle.area_types.specs.Syntax as types
use Rattle.area_types.specs.Syntax.{ValueType, Ref}
use Rattle.area_types.specs.declared.region.Region.TheVariants.{Own}
use Rattle.area_types.specs.Tables.{written_out}
use Rattle.area_types.specs.Trees.{Written}
use Rattle.core_tree.specs.Environments.{Point}
use Rattle.core_tree.specs.Syntax.{Local}
use Rattle.core_tree.specs.TypedStatements.{IsNext}
use Rattle.core_meaning.specs.Areas.{Held, Area, Live}
use Rattle.core_meaning.specs.State.{State, value_of, with_area}
use Rattle.core_meaning.specs.Values as source
use Rattle.core_meaning.specs.Values.{Value}
use Rattle.region_soundness.specs.Laws.{PlaceIn}
use Rattle.region_soundness.proofs.Standing.{name_here, name_past}
use Rattle.c_memory.specs.Abstract.{Same}
use Rattle.c_ast.specs.declared.CBase.{CBase}
use Rattle.c_ast.specs.Names.{named}
use Rattle.c_ast.specs.Scalars.{metric_of}
use Rattle.c_ast.specs.StaticTypes.{ObjectName, PlaceType, Stored, of_entity}
use Rattle.c_ast.specs.Structs.{tree}
use Rattle.c_ast.specs.Syntax.{Name, Read, Address, Var, At}
use Rattle.c_ast.specs.Targets.{table_of}
use Rattle.c_meaning.specs.Expressions.{eval_place}
use Rattle.c_meaning.specs.Memory.{CObjects, memory_of}
use Rattle.c_meaning.specs.Places.{Lvalue, Located, address_of, or_outer, file_place}
use Rattle.c_meaning.specs.Scopes.{local_entity, file_entity}
use Rattle.c_meaning.specs.State.{CState, Naming, declare_object}
use Rattle.c_meaning.specs.Values.{Trouble, on_ok}
use Rattle.area_objects.specs.Both.{Map}
use Rattle.area_objects.specs.Holds.{CellsFit, CanHold}
use Rattle.area_objects.specs.Located.{begins, located}
use Rattle.area_objects.specs.PlaceLaws.{BothIn}
use Rattle.area_objects.specs.Shapes.{shape}
use Rattle.area_objects.proofs.Alike.{lawful_in}
use Rattle.area_objects.proofs.Lives.{areas_made}
use Rattle.area_objects.proofs.Located.{parts_pointed_to}
use Rattle.area_objects.proofs.Places.{get_append, get_last, get_append_cases}
use Rattle.lower_types.specs.Names.{local_name}
use Rattle.lower_types.specs.Types.{base_for}
use Rattle.lower_values.specs.Expressions.{area_place, local_place, local_value}
use Rattle.lower_values.specs.Frames.{is_object, name_of}
use Rattle.value_refinement.specs.Kept.{Kept}
use Rattle.value_refinement.specs.Related.{PointerIs, PlaceIs, NameStands, Related}
use Rattle.value_refinement.specs.Settings.{Setting, HasCType}
use Rattle.value_refinement.proofs.Keeping.{kept_less, kept_object, kept_twice}
use Rattle.value_refinement.proofs.Lets.{place_with, stands_with}
use Rattle.statement_refinement.specs.Apart.{OfNoArea, CountersApart}
use Rattle.statement_refinement.specs.Moves.{Moved}
use Rattle.statement_refinement.proofs.Moves.{states_move_on}
use Rattle.body_refinement.specs.Bodies.{Lowered, env_in, frame_in, program_in, within}
use Rattle.body_refinement.specs.Statements.{CameWith}
use Rattle.body_refinement.proofs.Coming.{set_in, scope_before}
use Rattle.body_refinement.proofs.Places.{local_named, params_before}

contains_cases : (y z : ℕ) (xs : List ℕ) → Contains (y ∷ xs) z → (y ≡ z) ⊎ Contains xs z
contains_cases y z xs (zero, lt, e) = inl e
contains_cases y z xs (suc k, lt, e) = inr (k, omega arith, e)

-- an allocated local is in scope behind its statement, so the C type of its area is declared
pub has_type : (d : Lowered) (at : Point) (number : ℕ) (area : types.Area) → IsNext (env_in d) at number (Ref false Own area) → HasCType (within d (number ∷ at.scope)) area
has_type d at number area next =
    (set_in d (number ∷ at.scope)).types (Local (record { ty = Ref false Own area; checks = [] }) number) false Own area (record { in_scope = (zero, omega arith, refl); type = next.type; unchecked = refl }) refl

module _ (d : Lowered) (at : Point) (place : PlaceIn d.proc at) (number : ℕ) (area : types.Area) (next : IsNext (env_in d) at number (Ref false Own area)) (object : is_object (frame_in d) number ≡ true)
    (objects : Map) (s : State) (t u : CState) (held : Held) (related : Related (within d at.scope) objects s t) (apart : CountersApart (within d at.scope) objects s t)
    (from : ℕ) (le : at.next ≤ from) (kept : Kept (program_in d) from t u) (both : BothIn d.target (within d at.scope).naming objects s.areas u.objects)
    (fits : CellsFit (CanHold (table_of d.target)) (within d at.scope).naming (written_out d.core.structs area) held) where
  abbrev g : Setting
  g = within d at.scope

  abbrev ty : Written
  ty = written_out d.core.structs area

  abbrev a : Area
  a = record { ty = ty; constant = false; held = held }

  abbrev x : Name
  x = local_name number

  abbrev base : CBase
  base = base_for g.frame.table area

  abbrev o : ℕ
  o = length u.objects

  abbrev new : CObjects
  new = (memory_of d.target).initialize u.objects (shape g.naming ty) false (cells held)

  abbrev behind : CState
  behind = declare_object x base new u

  abbrev later : State
  later = with_area number ty held s

  abbrev more : Map
  more = objects ++ o ∷ []

  abbrev made : BothIn d.target g.naming more (s.areas ++ Live a ∷ []) new × (length new ≡ suc o) × ((q : ℕ) → q < o → Same (metric_of d.target) (memory_of d.target) u.objects new q)
  made = areas_made (metric_of d.target) (CanHold (table_of d.target)) (memory_of d.target) (lawful_in (table_of d.target)) g.naming objects s.areas u.objects a both fits

  -- ---- both sides move on

  kept_behind : Kept (program_in d) at.next t behind
  kept_behind =
      kept_twice (program_in d) at.next at.next t u behind (omega arith) (kept_less (program_in d) at.next from t u le kept)
      (kept_object (program_in d) at.next number base new u (omega (arith, next.number_is)) (omega (arith, made.1)) (λ q lt. made.2 q lt))

  -- the new area has a new object
  still_apart : (q : ℕ) → q < length t.objects → OfNoArea objects q → OfNoArea more q
  still_apart q lt none k e = ⊎_elim (λ old. none k old) (λ last. absurd (omega (arith, last.1, lt, kept.count))) (get_append_cases objects o q k e)

  moved : Moved (program_in d) at.next objects s t more later behind
  moved = record {
    extends = λ k q h. get_append objects (o ∷ []) k q h;
    live = λ k b h. record { area = b; live = get_append s.areas (Live a ∷ []) k (Live b) h; type = refl; access = refl };
    count = kept_behind.count;
    same = λ q lt none. kept_behind.objects q lt;
    apart = still_apart;
    names = kept_behind.names;
    callers = kept_behind.callers;
    values = λ y lt. name_past s.frames.own.names number y (source.Ref (length s.areas) []) (λ same. let no : ⊥ = omega (arith, lt, same, next.number_is) in no);
  }

  -- the older names go on to stand for what they did
  older_names : Related g more later behind × CountersApart g more later behind
  older_names = states_move_on g refl at.next (scope_before d at place) objects s t related apart more later behind moved made.0

  -- ---- the new name

  abbrev longer : Setting
  longer = within d (number ∷ at.scope)

  declared : HasCType longer area
  declared = has_type d at number area next

  tree_is : tree g.program.unit.structs base ≡ shape g.naming ty
  tree_is = ap (tree g.program.unit.structs) declared.base ∙ declared.type

  stands : eval_place g.program (Var x) behind ≡ Ok (located d.target g.naming false o ty [] ty)
  stands =
      ap (λ b. or_outer g.program.unit.structs (if b then Some (Naming o base) else named u.frames.own x) (file_place g.program.unit.structs 0 g.program.unit.objects x)) (same_self x)
      ∙ ap (λ c. let r : Result Lvalue Trouble = Ok (Located false (begins d.target g.naming o ty []) c) in r) tree_is

  abbrev pointer : PointerIs longer more later.areas behind false (Address (Var x)) (length s.areas) []
  pointer = record {
    object = o;
    area = a;
    lives = record { live = get_last s.areas (Live a); object = subst (λ k. slice_get more k ≡ Some o) both.many (get_last objects o) };
    content = ty;
    leads = refl;
    is = ap (λ l. on_ok l address_of) stands ∙ (parts_pointed_to d.target g.naming g.program.unit.structs false o ty [] ty declared.type).0;
  }

  is_there : PlaceIs longer more later.areas behind false (Var x) (length s.areas) []
  is_there = record {
    pointer = pointer;
    is = stands;
    type = ap (λ b. option_map (of_entity g.program.unit.structs) (if b then Some (ObjectName false base) else named (map local_entity u.frames.own ++ map file_entity g.program.unit.objects) x)) (same_self x)
        ∙ ap (λ c. let r : Option PlaceType = Some (Stored false c) in r) tree_is;
  }

  -- it is its object's
  place_is : local_place g.frame number ≡ Var x
  place_is =
      ap (λ b. if b then Var (name_of g.frame number) else At (Read (Var (name_of g.frame number)))) object
      ∙ ap Var (local_named d number (subst (λ n. length d.proc.params ≤ n) (sym next.number_is) (params_before d.proc at place)))

  here : (v : Value) → value_of number later ≡ Some v → v ≡ source.Ref (length s.areas) []
  here v has = let same : Some (source.Ref (length s.areas) []) ≡ Some v = sym (name_here s.frames.own.names number (source.Ref (length s.areas) [])) ∙ has in cc

  here_stands : (y : ℕ) (held_type : ValueType) (v : Value) → number ≡ y → slice_get d.proc.locals y ≡ Some held_type → value_of y later ≡ Some v
      → NameStands longer more later.areas behind held_type (local_value g.frame y) (local_place g.frame y) v
  here_stands y held_type v same type has =
      let type_is : Ref false Own area ≡ held_type = (let both_are : Some (Ref false Own area) ≡ Some held_type = sym next.type ∙ ap (slice_get d.proc.locals) same ∙ type in cc) in
      let value_is : v ≡ source.Ref (length s.areas) [] = here v (ap (λ i. value_of i later) same ∙ has) in
      subst (λ i. NameStands longer more later.areas behind held_type (local_value g.frame i) (local_place g.frame i) v) same
      (subst (λ z. NameStands longer more later.areas behind held_type (local_value g.frame number) (local_place g.frame number) z) (sym value_is)
      (subst (λ z. NameStands longer more later.areas behind z (local_value g.frame number) (local_place g.frame number) (source.Ref (length s.areas) [])) type_is
      (subst (λ l. PlaceIs longer more later.areas behind false l (length s.areas) []) (sym place_is) is_there)))

  here_apart : (n : ℤ) → value_of number later ≡ Some (source.Num n) → ⊥
  here_apart n has = let is : source.Num n ≡ source.Ref (length s.areas) [] = here (source.Num n) has in cc

  -- ---- with the name in scope

  related_behind : Related g more later behind → Related longer more later behind
  related_behind r = record {
    both = r.both;
    own = r.own;
    globals = λ n b e. place_with g number more later.areas behind b.constant (area_place g.frame n) n [] (r.globals n b e);
    locals = λ y held_type v among type has.
        ⊎_elim (λ same. here_stands y held_type v same type has)
        (λ old. stands_with g number more later.areas behind held_type (local_value g.frame y) (local_place g.frame y) v (r.locals y held_type v old type has)) (contains_cases number y at.scope among);
    result = λ held_type v type has. (let no : ⊥ = cc in absurd no);
  }

  apart_behind : CountersApart g more later behind → CountersApart longer more later behind
  apart_behind h y held_type n among type has =
      ⊎_elim (λ same. absurd (here_apart n (ap (λ i. value_of i later) same ∙ has))) (λ old. h y held_type n old type has) (contains_cases number y at.scope among)

  pub came_behind : CameWith d at.next objects s t (number ∷ at.scope) later behind
  came_behind = record { more = more; moved = moved; related = related_behind older_names.0; apart = apart_behind older_names.1 }
