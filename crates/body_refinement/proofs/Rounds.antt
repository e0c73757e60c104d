-- States around the turns of a loop that counts: the name of the count, what the declaration of its counter keeps, and what both sides come to
-- behind a turn that has counted.
use Rattle.std.proofs.Common.{Contains, ◌≡◌, ◌≢◌, ◌⊎◌, ⊎_elim, inl, inr, ℕ, zero, suc, ◌<◌, ◌≤◌, pos, false, List, [], ◌∷◌, length, Some, refl, sym, ◌∙◌, ap, subst, arith}
use Rattle.std.specs.Prelude.{slice_get, map, if◌then◌else◌}
use Rattle.type_trees.specs.Values.{cells}
use Rattle.area_types.specs.Syntax.{ValueType, Ix}
use Rattle.c_memory.specs.Abstract.{Left, Same}
use Rattle.c_ast.specs.Names.{named}
use Rattle.c_ast.specs.Scalars.{metric_of}
use Rattle.c_ast.specs.Syntax.{Read, Address, Var}
use Rattle.c_ast.specs.Targets.{table_of}
use Rattle.c_meaning.specs.Memory.{CObjects, memory_of}
use Rattle.c_meaning.specs.State as target
use Rattle.c_meaning.specs.State.{CState}
use Rattle.core_meaning.specs.Areas.{Area, Areas}
use Rattle.core_meaning.specs.State as source
use Rattle.core_meaning.specs.State.{State, value_of, with_name}
use Rattle.core_meaning.specs.Values.{Value, Num}
use Rattle.area_objects.specs.Both.{Map, LiveIn}
use Rattle.area_objects.specs.Holds.{CanHold, HoldsArea}
use Rattle.area_objects.specs.PlaceLaws.{BothIn}
use Rattle.area_objects.specs.Shapes.{shape}
use Rattle.area_objects.proofs.Alike.{lawful_in, objects_hold_areas}
use Rattle.region_soundness.proofs.Standing.{name_here, name_past}
use Rattle.lower_types.specs.Names.{local_name}
use Rattle.lower_values.specs.Expressions as lowered
use Rattle.lower_values.specs.Expressions.{local_value, local_place}
use Rattle.lower_values.specs.Frames.{is_object, name_of}
use Rattle.form_answers.specs.Standing.{HasScalar}
use Rattle.value_refinement.specs.Related.{NameStands, Related}
use Rattle.value_refinement.proofs.Keeping.{older, same_twice}
use Rattle.value_refinement.proofs.Lets.{place_with, stands_with}
use Rattle.lowered_surroundings.specs.Surroundings.{naming_for}
use Rattle.statement_refinement.specs.Apart.{OfNoArea, IsApart, CountersApart}
use Rattle.statement_refinement.specs.Moves.{Moved}
use Rattle.body_refinement.specs.Bodies.{Lowered, env_in, frame_in, program_in, within}
use Rattle.body_refinement.proofs.Counters.{counter_scalar}

-- ---- the name of the count

contains_cases : (y z : ℕ) (xs : List ℕ) → Contains (y ∷ xs) z → (y ≡ z) ⊎ Contains xs z
contains_cases y z xs (zero, lt, e) = inl e
contains_cases y z xs (suc k, lt, e) = inr (k, omega arith, e)

module _ (d : Lowered) (scope : List ℕ) (x length : ℕ) (type : slice_get (env_in d).locals x ≡ Some (Ix length)) (before : (y : ℕ) → Contains scope y → y < x)
    (value : is_object (frame_in d) x ≡ false) (name : name_of (frame_in d) x ≡ local_name x)
    (objects : Map) (s : State) (t : CState) (related : Related (within d scope) objects s t) (apart : CountersApart (within d scope) objects s t)
    (i o : ℕ) (slot : IsApart objects (named t.frames.own (local_name x))) (reads : HasScalar (program_in d) t counter_scalar (Read (Var (local_name x))) (pos i)) where
  abbrev counted : State
  counted = with_name x (Num (pos i)) s

  past : (y : ℕ) → Contains scope y → value_of y counted ≡ value_of y s
  past y among = name_past s.frames.own.names x y (Num (pos i)) (λ same. let lt : y < x = before y among in absurd (omega (arith, lt, same)))

  here : (ty : ValueType) (v : Value) → slice_get (env_in d).locals x ≡ Some ty → value_of x counted ≡ Some v → NameStands (within d scope) objects s.areas t ty (local_value (frame_in d) x) (local_place (frame_in d) x) v
  here ty v type_is has =
      let ty_is : Ix length ≡ ty = (let both : Some (Ix length) ≡ Some ty = sym type ∙ type_is in cc) in
      let v_is : Num (pos i) ≡ v = (let both : Some (Num (pos i)) ≡ Some v = sym (name_here s.frames.own.names x (Num (pos i))) ∙ has in cc) in
      subst (λ z. NameStands (within d scope) objects s.areas t z (local_value (frame_in d) x) (local_place (frame_in d) x) v) ty_is
      (subst (λ z. NameStands (within d scope) objects s.areas t (Ix length) (local_value (frame_in d) x) (local_place (frame_in d) x) z) v_is
      (subst (λ b. HasScalar (program_in d) t counter_scalar (if b then Address (Var (name_of (frame_in d) x)) else Read (Var (name_of (frame_in d) x))) (pos i)) (sym value)
      (subst (λ n. HasScalar (program_in d) t counter_scalar (Read (Var n)) (pos i)) (sym name) reads)))

  local_stands : (y : ℕ) (ty : ValueType) (v : Value) → Contains (x ∷ scope) y → slice_get (env_in d).locals y ≡ Some ty → value_of y counted ≡ Some v
      → NameStands (within d scope) objects s.areas t ty (local_value (frame_in d) y) (local_place (frame_in d) y) v
  local_stands y ty v among type_is has = ⊎_elim new old (contains_cases x y scope among) where
    new : x ≡ y → NameStands (within d scope) objects s.areas t ty (local_value (frame_in d) y) (local_place (frame_in d) y) v
    new same =
        subst (λ z. NameStands (within d scope) objects s.areas t ty (local_value (frame_in d) z) (local_place (frame_in d) z) v) same
        (here ty v (ap (slice_get (env_in d).locals) same ∙ type_is) (ap (λ z. value_of z counted) same ∙ has))

    old : Contains scope y → NameStands (within d scope) objects s.areas t ty (local_value (frame_in d) y) (local_place (frame_in d) y) v
    old among = related.locals y ty v among type_is (sym (past y among) ∙ has)

  pub related_named : Related (within d (x ∷ scope)) objects counted t
  related_named = record {
    both = related.both;
    own = related.own;
    globals = λ n a e. place_with (within d scope) x objects s.areas t a.constant (lowered.area_place (frame_in d) n) n [] (related.globals n a e);
    locals = λ y ty v among type_is has. stands_with (within d scope) x objects s.areas t ty (local_value (frame_in d) y) (local_place (frame_in d) y) v (local_stands y ty v among type_is has);
    result = λ ty v type_is has. (let no : ⊥ = cc in absurd no);
  }

  pub apart_named : CountersApart (within d (x ∷ scope)) objects counted t
  apart_named y ty n among type_is has = ⊎_elim new old (contains_cases x y scope among) where
    new : x ≡ y → IsApart objects (named t.frames.own (name_of (frame_in d) y))
    new same = subst (λ z. IsApart objects (named t.frames.own (name_of (frame_in d) z))) same (subst (λ z. IsApart objects (named t.frames.own z)) (sym name) slot)

    old : Contains scope y → IsApart objects (named t.frames.own (name_of (frame_in d) y))
    old among = apart y ty n among type_is (sym (past y among) ∙ has)

-- what moves on from a state with one more name moves on from the one without
pub moved_unnamed : (d : Lowered) (next x : ℕ) (v : Value) → x ≡ next → (o1 o2 : Map) (s1 s2 : State) (t1 t2 : CState) → Moved (program_in d) (suc next) o1 (with_name x v s1) t1 o2 s2 t2 → Moved (program_in d) next o1 s1 t1 o2 s2 t2
moved_unnamed d next x v is o1 o2 s1 s2 t1 t2 m = record {
  extends = m.extends;
  live = m.live;
  count = m.count;
  same = m.same;
  apart = m.apart;
  names = λ y old. m.names y (older next (suc next) y (omega arith) old);
  callers = m.callers;
  values = λ y lt. m.values y (omega (arith, lt)) ∙ name_past s1.frames.own.names x y v (λ same. absurd (omega (arith, lt, is, same)));
}

-- ---- the counter

-- objects that no area has may come and change
module _ (d : Lowered) (objects : Map) (areas : Areas) (before after : CObjects) (both : BothIn d.target (naming_for d.core) objects areas before) where
  module _ (count : length before ≤ length after) (same : (k o : ℕ) → slice_get objects k ≡ Some o → Same (metric_of d.target) (memory_of d.target) before after o) where
    holds_on : (j o : ℕ) (a : Area) → LiveIn objects areas j o a → HoldsArea (CanHold (table_of d.target)) (memory_of d.target) (naming_for d.core) after o a
    holds_on j o a l =
        let h = both.holds j o a l in
        record { fits = h.fits; shows = (same j o l.object).shows a.constant (shape (naming_for d.core) a.ty) (map (λ n. Some n) (cells a.held)) h.shows }

    both_on : BothIn d.target (naming_for d.core) objects areas after
    both_on = record { many = both.many; made = λ j o e. (let lt = both.made j o e in omega (arith, lt, count)); apart = both.apart; holds = holds_on }

  pub both_made : length before ≤ length after → ((o : ℕ) → o < length before → Same (metric_of d.target) (memory_of d.target) before after o) → BothIn d.target (naming_for d.core) objects areas after
  both_made count same = both_on count (λ k o e. same o (both.made k o e))

  pub both_counted : (counter : ℕ) → OfNoArea objects counter → length after ≡ length before → ((o : ℕ) → o ≢ counter → Same (metric_of d.target) (memory_of d.target) before after o) → BothIn d.target (naming_for d.core) objects areas after
  both_counted counter free count same = both_on (omega (arith, count)) (λ k o e. same o (λ is. free k (e ∙ ap Some is)))

  pub next_is_free : OfNoArea objects (length before)
  next_is_free j e = let lt = both.made j (length before) e in absurd (omega (arith, lt))

-- ---- a turn that has counted

there_is : {A : Type 0} (xs : List A) (k : ℕ) → k < length xs → (x : A) × (slice_get xs k ≡ Some x)
there_is [] k lt = absurd (omega (arith, lt))
there_is (x ∷ xs) zero lt = (x, refl)
there_is (x ∷ xs) (suc k) lt = there_is xs k (omega (arith, lt))

-- from the turn's start to where the counter was assigned, and out of the block
module _ (d : Lowered) (o1 : Map) (s1 : State) (t1 : CState) (both : BothIn d.target (naming_for d.core) o1 s1.areas t1.objects) (o2 : Map) (s2 : State) (t3 : CState) (extends : (k o : ℕ) → slice_get o1 k ≡ Some o → slice_get o2 k ≡ Some o)
    (now : BothIn d.target (naming_for d.core) o2 s2.areas t3.objects) where
  -- the object of an area that there was at the start was made before it
  made_before : (j o : ℕ) → j < length s1.areas → slice_get o2 j ≡ Some o → o < length t1.objects
  made_before j o lt e =
      let had = there_is o1 j (omega (arith, lt, both.many)) in
      let same : Some had.0 ≡ Some o = sym (extends j had.0 had.1) ∙ e in
      let is : had.0 ≡ o = cc in
      subst (λ q. q < length t1.objects) is (both.made j had.0 had.1)

  pub round_both : BothIn d.target (naming_for d.core) o2 (source.leave s1 s2).areas (target.leave t1 t3).objects
  round_both = (objects_hold_areas (table_of d.target) (naming_for d.core)).block_ended o2 s2.areas t3.objects (length s1.areas) (length t1.objects) now made_before

-- what has moved to where the body's block would have ended has moved to where it ends with the count
pub round_moved : (d : Lowered) (next : ℕ) (o0 : Map) (s0 : State) (t0 : CState) (o1 : Map) (s1 : State) (t1 : CState) → Moved (program_in d) next o0 s0 t0 o1 s1 t1
    → (o2 : Map) (s2 : State) (t2 : CState) → Moved (program_in d) next o0 s0 t0 o2 (source.leave s1 s2) (target.leave t1 t2)
    → ((o : ℕ) → o < length t0.objects → OfNoArea o0 o → Same (metric_of d.target) (memory_of d.target) t0.objects t2.objects o)
    → (counter : ℕ) → length t0.objects ≤ counter → (t3 : CState) → t3.frames ≡ t2.frames → length t1.objects ≤ length t3.objects → ((o : ℕ) → o ≢ counter → Same (metric_of d.target) (memory_of d.target) t2.objects t3.objects o)
    → Moved (program_in d) next o0 s0 t0 o2 (source.leave s1 s2) (target.leave t1 t3)
round_moved d next o0 s0 t0 o1 s1 t1 first o2 s2 t2 moved still counter since t3 frames more others = record {
  extends = moved.extends;
  live = moved.live;
  count = omega (arith, first.count, more, ended.count);
  same = λ o lt none.
      same_twice (metric_of d.target) (memory_of d.target) t0.objects t3.objects (target.leave t1 t3).objects o
      (same_twice (metric_of d.target) (memory_of d.target) t0.objects t2.objects t3.objects o (still o lt none) (others o (λ is. absurd (omega (arith, is, lt, since)))))
      (ended.others o (omega (arith, lt, first.count)));
  apart = moved.apart;
  names = first.names;
  callers = ap (λ (u : CState). u.frames.callers) same_frames ∙ moved.callers;
  values = first.values;
} where
  ended : Left (metric_of d.target) (memory_of d.target) t3.objects (length t1.objects) (target.leave t1 t3).objects
  ended = (lawful_in (table_of d.target)).leaves t3.objects (length t1.objects)

  same_frames : (let u : CState = record t2 { frames = t3.frames } in u) ≡ t2
  same_frames = ap (λ f. let u : CState = record { frames = f; objects = t2.objects } in u) frames
