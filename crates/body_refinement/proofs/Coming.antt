-- How both sides come on in a body: from related states to later ones, one stretch after another, and out of a block.
use Rattle.std.proofs.Common.{◌≡◌, ℕ, zero, suc, ◌<◌, ◌≤◌, List, [], ◌∷◌, length, Some, None, refl, sym, ◌∙◌, subst, arith}
use Rattle.std.specs.Prelude.{slice_get, Option}
use Rattle.area_types.specs.Syntax.{ValueType}
use Rattle.c_memory.specs.Abstract.{Left}
use Rattle.c_ast.specs.Scalars.{metric_of}
use Rattle.c_ast.specs.Targets.{table_of}
use Rattle.c_meaning.specs.Memory.{memory_of}
use Rattle.c_meaning.specs.State as target
use Rattle.c_meaning.specs.State.{Program, CState}
use Rattle.c_meaning.specs.Values.{CValue}
use Rattle.core_tree.specs.Environments.{Point}
use Rattle.core_meaning.specs.Areas.{Area, Live, marked, from_place}
use Rattle.core_meaning.specs.State as source
use Rattle.core_meaning.specs.State.{State}
use Rattle.core_meaning.specs.Values.{Value, Num, Ref}
use Rattle.area_objects.specs.Both.{Map}
use Rattle.area_objects.specs.PlaceLaws.{BothIn}
use Rattle.area_objects.proofs.Alike.{lawful_in, objects_hold_areas}
use Rattle.region_soundness.specs.Fitting.{Entry}
use Rattle.region_soundness.specs.Laws.{PlaceIn, inside}
use Rattle.region_soundness.specs.Scoped.{Activation, Scoped}
use Rattle.lower_values.specs.Frames.{name_of}
use Rattle.value_refinement.specs.Kept.{Kept}
use Rattle.value_refinement.specs.Laws.{Stage}
use Rattle.value_refinement.specs.Related.{Related}
use Rattle.value_refinement.specs.Settings.{Set, IsOld}
use Rattle.value_refinement.proofs.Keeping.{older, same_twice}
use Rattle.lowered_surroundings.specs.Surroundings.{naming_for}
use Rattle.lowered_surroundings.proofs.NamesApart.{named_old}
use Rattle.lowered_surroundings.proofs.Procedures.{procedures_are_set}
use Rattle.lowered_surroundings.proofs.Staged.{scoped_states_are_staged}
use Rattle.statement_refinement.specs.Apart.{CountersApart}
use Rattle.statement_refinement.specs.Moves.{StillLive, Moved, ScopeBefore}
use Rattle.statement_refinement.proofs.Moves.{states_move_on}
use Rattle.statement_refinement.proofs.Movements.{moves_join}
use Rattle.body_refinement.specs.Bodies.{Lowered, frame_in, program_in, within}
use Rattle.body_refinement.specs.Results.{ResultGiven, ValueGiven}
use Rattle.body_refinement.specs.Statements.{CameTo, CameWith, CameBack}

-- ---- one stretch

-- temporaries move both sides on
pub kept_moved : (p : Program) (next k : ℕ) → next ≤ k → (objects : Map) (s : State) (t u : CState) → Kept p k t u → Moved p next objects s t objects s u
kept_moved p next k le objects s t u kept = record {
  extends = λ j o h. h;
  live = λ j a h. record { area = a; live = h; type = refl; access = refl };
  count = kept.count;
  same = λ o lt none. kept.objects o lt;
  apart = λ o lt none. none;
  names = λ x old. kept.names x (older next k x le old);
  callers = kept.callers;
  values = λ x lt. refl;
}

-- names of later locals are not asked about
pub moved_less : (p : Program) (next later_next : ℕ) → next ≤ later_next → (objects : Map) (s : State) (t : CState) (more : Map) (later : State) (u : CState) → Moved p later_next objects s t more later u → Moved p next objects s t more later u
moved_less p next later_next le objects s t more later u m = record {
  extends = m.extends;
  live = m.live;
  count = m.count;
  same = m.same;
  apart = m.apart;
  names = λ x old. m.names x (older next later_next x le old);
  callers = m.callers;
  values = λ x lt. m.values x (omega (arith, lt, le));
}

module _ (d : Lowered) where
  pub set_in : (scope : List ℕ) → Set (within d scope)
  set_in scope = procedures_are_set d.core d.valid d.number d.proc d.is d.skip d.target d.functions scope

  pub stage_in : (scope : List ℕ) (entry : Entry) (waiting : List Activation) (s : State) → Scoped d.core (inside d.proc scope entry) waiting s → Stage (within d scope) s
  stage_in scope entry waiting s scoped = scoped_states_are_staged d.core d.valid d.number d.proc d.is d.skip d.target d.functions scope entry waiting s scoped

  pub name_before : (x next : ℕ) → x < next → IsOld next (name_of (frame_in d) x)
  name_before x next lt = named_old (slice_get (frame_in d).params x) x next lt

  pub scope_before : (at : Point) → PlaceIn d.proc at → ScopeBefore (within d at.scope) at.next
  scope_before at place x ty here type = (place.before x here, name_before x at.next (place.before x here))

  -- states are related again, for the names that were in scope
  pub came_with : (at : Point) → PlaceIn d.proc at → (objects : Map) (s : State) (t : CState) → Related (within d at.scope) objects s t → CountersApart (within d at.scope) objects s t
      → (later : State) (u : CState) → CameTo d at.next objects s t later u → CameWith d at.next objects s t at.scope later u
  came_with at place objects s t related apart later u came =
      let both = states_move_on (within d at.scope) refl at.next (scope_before at place) objects s t related apart came.more later u came.moved came.both in
      record { more = came.more; moved = came.moved; related = both.0; apart = both.1 }

  pub came_of : (next : ℕ) (objects : Map) (s : State) (t : CState) (scope : List ℕ) (later : State) (u : CState) → CameWith d next objects s t scope later u → CameTo d next objects s t later u
  came_of next objects s t scope later u came = record { more = came.more; moved = came.moved; both = came.related.both }

  pub stayed : (next : ℕ) (objects : Map) (s : State) (t : CState) → BothIn d.target (naming_for d.core) objects s.areas t.objects → CameTo d next objects s t s t
  stayed next objects s t both =
      record { more = objects; moved = kept_moved (program_in d) next next (omega arith) objects s t t (record { names = λ x old. refl; callers = refl; count = omega arith; objects = λ o lt. record { live = refl; reads = λ x. refl; refuses = λ x. refl; shows = λ c a us h. h } }); both = both }

  -- ---- one stretch after another

  module _ (next later_next : ℕ) (le : next ≤ later_next) (o1 o2 : Map) (s1 s2 s3 : State) (t1 t2 t3 : CState) (first : Moved (program_in d) next o1 s1 t1 o2 s2 t2) where
    pub came_join : CameTo d later_next o2 s2 t2 s3 t3 → CameTo d next o1 s1 t1 s3 t3
    came_join c = record { more = c.more; moved = moves_join (program_in d) next later_next le o1 o2 c.more s1 s2 s3 t1 t2 t3 first c.moved; both = c.both }

    pub back_join : (entry : Entry) (value : Option Value) (result : Option CValue) → CameBack d later_next o2 s2 t2 entry value s3 result t3 → CameBack d next o1 s1 t1 entry value s3 result t3
    back_join entry value result c = record { more = c.more; moved = moves_join (program_in d) next later_next le o1 o2 c.more s1 s2 s3 t1 t2 t3 first c.moved; both = c.both; given = c.given }

-- ---- out of a block

early_place : {A : Type 0} (f : A → A) (n k : ℕ) (xs : List A) → k < n → slice_get (from_place f n xs) k ≡ slice_get xs k
early_place f zero k xs lt = absurd (omega (arith, lt))
early_place f (suc n) k [] lt = refl
early_place f (suc n) zero (x ∷ xs) lt = refl
early_place f (suc n) (suc k) (x ∷ xs) lt = early_place f n k xs (omega (arith, lt))

there_is : {A : Type 0} (xs : List A) (k : ℕ) → k < length xs → (x : A) × (slice_get xs k ≡ Some x)
there_is [] k lt = absurd (omega (arith, lt))
there_is (x ∷ xs) zero lt = (x, refl)
there_is (x ∷ xs) (suc k) lt = there_is xs k (omega (arith, lt))

is_within : {A : Type 0} (xs : List A) (k : ℕ) (x : A) → slice_get xs k ≡ Some x → k < length xs
is_within [] k x e = let no : ⊥ = cc in absurd no
is_within (y ∷ xs) zero x e = omega arith
is_within (y ∷ xs) (suc k) x e = let r = is_within xs k x e in omega (arith, r)

module _ (d : Lowered) (next inner : ℕ) (le : next ≤ inner) (objects : Map) (s : State) (t : CState) (both : BothIn d.target (naming_for d.core) objects s.areas t.objects) (more : Map) (later : State) (u : CState)
    (moved : Moved (program_in d) inner objects s t more later u) (now : BothIn d.target (naming_for d.core) more later.areas u.objects) where
  left : Left (metric_of d.target) (memory_of d.target) u.objects (length t.objects) ((memory_of d.target).leave (length t.objects) u.objects)
  left = (lawful_in (table_of d.target)).leaves u.objects (length t.objects)

  -- an earlier area is live behind the block
  still : (k : ℕ) (a : Area) → k < length s.areas → slice_get later.areas k ≡ Some (Live a) → slice_get (source.leave s later).areas k ≡ Some (Live a)
  still k a lt h = early_place marked (length s.areas) k later.areas lt ∙ h

  -- its object was made before the block
  made : (j o : ℕ) → j < length s.areas → slice_get more j ≡ Some o → o < length t.objects
  made j o lt e =
      let had = there_is objects j (omega (arith, lt, both.many)) in
      let again : slice_get more j ≡ Some had.0 = moved.extends j had.0 had.1 in
      let same : Some had.0 ≡ Some o = sym again ∙ e in
      let is : had.0 ≡ o = cc in
      subst (λ q. q < length t.objects) is (both.made j had.0 had.1)

  pub left_moved : Moved (program_in d) next objects s t more (source.leave s later) (target.leave t u)
  left_moved = record {
    extends = moved.extends;
    live = λ k a h. (let q : StillLive later.areas k a = moved.live k a h in record { area = q.area; live = still k q.area (is_within s.areas k (Live a) h) q.live; type = q.type; access = q.access });
    count = omega (arith, moved.count, left.count);
    same = λ o lt none. same_twice (metric_of d.target) (memory_of d.target) t.objects u.objects ((memory_of d.target).leave (length t.objects) u.objects) o (moved.same o lt none) (left.others o lt);
    apart = moved.apart;
    names = λ x old. refl;
    callers = moved.callers;
    values = λ x lt. refl;
  }

  pub left_both : BothIn d.target (naming_for d.core) more (source.leave s later).areas (target.leave t u).objects
  left_both = (objects_hold_areas (table_of d.target) (naming_for d.core)).block_ended more later.areas u.objects (length s.areas) (length t.objects) now made

  pub left_came : CameTo d next objects s t (source.leave s later) (target.leave t u)
  left_came = record { more = more; moved = left_moved; both = left_both }

  -- what is given back was there before
  module _ (entry : Entry) (room : entry.first ≤ length s.areas) where
    value_left : (ty : ValueType) (v : Value) (c : CValue) → ValueGiven d entry more later.areas ty v c → ValueGiven d entry more (source.leave s later).areas ty v c
    value_left ty (Num n) c g = g
    value_left ty (Ref k path) c g = record {
      object = g.object;
      area = g.area;
      lives = record { live = still k g.area (omega (arith, g.earlier, room)) g.lives.live; object = g.lives.object };
      earlier = g.earlier;
      content = g.content;
      leads = g.leads;
      is = g.is;
    }

    result_left : (ty : Option ValueType) (value : Option Value) (result : Option CValue) → ResultGiven d entry more later.areas ty value result → ResultGiven d entry more (source.leave s later).areas ty value result
    result_left None None None g = tt
    result_left (Some ty) (Some v) (Some c) g = value_left ty v c g
    result_left None None (Some c) g = absurd g
    result_left None (Some v) result g = absurd g
    result_left (Some ty) None result g = absurd g
    result_left (Some ty) (Some v) None g = absurd g

    pub left_back : (value : Option Value) (result : Option CValue) → ResultGiven d entry more later.areas d.proc.result value result → CameBack d next objects s t entry value (source.leave s later) result (target.leave t u)
    left_back value result g = record { more = more; moved = left_moved; both = left_both; given = result_left d.proc.result value result g }
