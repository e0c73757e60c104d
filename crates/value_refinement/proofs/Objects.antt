-- Objects of one scalar that temporaries name: made with a first value or without, read, assigned, and still there behind a block.
use Rattle.std.proofs.Common.{◌≡◌, ◌≢◌, ℕ, ◌+◌, ◌<◌, ◌≤◌, ℤ, Bool, true, false, List, [], ◌∷◌, ◌++◌, length, map, Option, Some, None, Result, Ok, Err, refl, ◌∙◌, ap, arith}
use Rattle.std.specs.Prelude.{if◌then◌else◌, IsTrue}
use Rattle.std.specs.Option.{option_map, option_and_then}
use Rattle.iv_words.specs.Words.{same_word}
use Rattle.iv_words.proofs.Equality.{same_self}
use Rattle.type_trees.specs.Trees.{Leaf}
use Rattle.type_trees.specs.Values.{cells}
use Rattle.step_semantics.specs.Control.{Falls}
use Rattle.step_semantics.specs.Steps.{World, change, tick}
use Rattle.step_semantics.specs.Takes.{Takes}
use Rattle.c_memory.specs.Access.{Fault}
use Rattle.c_memory.specs.Abstract.{Same, At, Written, Made, Left}
use Rattle.c_memory.specs.Initializers as values
use Rattle.c_ast.specs.declared.CBase.{CBase}
use Rattle.c_ast.specs.declared.CBase.TheVariants as base
use Rattle.c_ast.specs.declared.CKind.TheVariants.{Scalar}
use Rattle.c_ast.specs.declared.CScalar.{CScalar}
use Rattle.c_ast.specs.Conversions.{convert_in, can_hold}
use Rattle.c_ast.specs.Names.{named}
use Rattle.c_ast.specs.Scalars.{metric_of}
use Rattle.c_ast.specs.StaticTypes.{Entity, ObjectName, Stored, of_entity, of_read}
use Rattle.c_ast.specs.Syntax.{Name, Expr, Read, Var, One, Object, Assign}
use Rattle.c_ast.specs.Targets.{table_of}
use Rattle.c_meaning.specs.Calls.{given}
use Rattle.c_meaning.specs.Expressions.{eval, eval_place, static_place_type}
use Rattle.c_meaning.specs.Initializers.{eval_init, made_with, number_of}
use Rattle.c_meaning.specs.Memory.{CObjects, memory_of, nought, answered, unless_refused}
use Rattle.c_meaning.specs.Places.{Lvalue, Located, or_outer, file_place, of_scalar, read}
use Rattle.c_meaning.specs.Scopes.{slot_entity, local_entity, file_entity}
use Rattle.c_meaning.specs.State.{Program, CState, Slot, Naming, declare_object, leave}
use Rattle.c_meaning.specs.Statements.{exec, object, object_with, assign, stored}
use Rattle.c_meaning.specs.Values.{CValue, Trouble, Stuck, Num, on_ok, typed}
use Rattle.area_objects.proofs.Alike.{lawful_in}
use Rattle.lower_types.specs.Names.{local_name}
use Rattle.lower_types.proofs.Names.{locals_differ}
use Rattle.value_refinement.specs.Kept.{Kept}
use Rattle.value_refinement.specs.Settings.{Setting, IsOld}
use Rattle.form_answers.specs.Standing.{HasScalar, Converts}
use Rattle.value_refinement.proofs.Keeping.{same_twice, kept_object}
use Rattle.value_refinement.proofs.Running.{takes_value, takes_one}

-- a temporary is an old name for those of later numbers
pub temporary_is_old : (j k : ℕ) → j < k → IsOld k (local_name j)
temporary_is_old j k lt i le e = let same : j ≡ i = locals_differ j i e in absurd (omega (arith, lt, le, same))

-- the name is that of an object of the scalar, with this value or none
pub record ObjectIs (p : Program) (u : CState) (x : Name) (k : CScalar) (o : ℕ) (value : Option ℤ) : Type 0 where
  pub slot : named u.frames.own x ≡ Some (Naming o (base.Scalar k))
  pub shows : (memory_of p.target).Shows u.objects o false (Leaf k) (value ∷ [])

module _ (p : Program) where
  -- ---- where it is

  whole_object : (k : CScalar) → At (metric_of p.target) (memory_of p.target) (Leaf k) (0, k) [] []
  whole_object k = record { left = []; right = []; is = refl; number = refl }

  pub object_made : (u : CState) (x : Name) (k : CScalar) (o : ℕ) (value : Option ℤ) → ObjectIs p u x k o value → o < length u.objects
  object_made u x k o value h =
      (lawful_in (table_of p.target)).numbered u.objects o ((lawful_in (table_of p.target)).lives u.objects o false (Leaf k) (value ∷ []) h.shows)

  abbrev whole : ℕ → CScalar → Lvalue
  whole o k = Located false (record { object = o; offset = 0 }) (Leaf k)

  object_place : (u : CState) (x : Name) (k : CScalar) (o : ℕ) (value : Option ℤ) → ObjectIs p u x k o value → eval_place p (Var x) u ≡ Ok (whole o k)
  object_place u x k o value h = ap (λ found. or_outer p.unit.structs found (file_place p.unit.structs 0 p.unit.objects x)) h.slot

  entity_named : (names : List (Name × Slot)) (rest : List (Name × Entity)) (x : Name) (o : ℕ) (b : CBase) → named names x ≡ Some (Naming o b) → named (map local_entity names ++ rest) x ≡ Some (ObjectName false b)
  entity_named [] rest x o b e = let no_ : ⊥ = cc in absurd no_
  entity_named (n ∷ names) rest x o b e = go (same_word n.0 x) e (entity_named names rest x o b) where
    go : (same : Bool) → (if same then Some n.1 else named names x) ≡ Some (Naming o b)
        → (named names x ≡ Some (Naming o b) → named (map local_entity names ++ rest) x ≡ Some (ObjectName false b))
        → (if same then Some (local_entity n).1 else named (map local_entity names ++ rest) x) ≡ Some (ObjectName false b)
    go true e later = let is : n.1 ≡ Naming o b = cc in ap (λ slot. Some (slot_entity slot)) is
    go false e later = later e

  object_type : (u : CState) (x : Name) (k : CScalar) (o : ℕ) (value : Option ℤ) → ObjectIs p u x k o value → static_place_type p u (Var x) ≡ Some (Stored false (Leaf k))
  object_type u x k o value h = ap (option_map (of_entity p.unit.structs)) (entity_named u.frames.own (map file_entity p.unit.objects) x o (base.Scalar k) h.slot)

  -- ---- reading it

  pub object_read : (u : CState) (x : Name) (k : CScalar) (o : ℕ) (n : ℤ) → ObjectIs p u x k o (Some n) → IsTrue (can_hold (table_of p.target) (Scalar k) n) → HasScalar p u k (Read (Var x)) n
  object_read u x k o n h can =
      let known : (memory_of p.target).read u.objects o (0, k) ≡ Ok n = (lawful_in (table_of p.target)).reads u.objects o false (Leaf k) (0, k) [] [] (Some n) h.shows (whole_object k) in
      record {
        gives = ap (λ l. on_ok l (read p.target u)) (object_place u x k o (Some n) h)
            ∙ ap (λ r. on_ok (answered r) (of_scalar p.target k)) known
            ∙ ap (λ b. let r : Result CValue Trouble = if b then Ok (Num (Scalar k) n) else Err Stuck in r) can;
        type = ap (option_and_then of_read) (object_type u x k o (Some n) h);
      }

  -- ---- keeping it

  pub object_kept : (j : ℕ) (u w : CState) (x : Name) (k : CScalar) (o : ℕ) (value : Option ℤ) → IsOld j x → Kept p j u w → ObjectIs p u x k o value → ObjectIs p w x k o value
  object_kept j u w x k o value old kept h =
      record { slot = kept.names x old ∙ h.slot; shows = (kept.objects o (object_made u x k o value h)).shows false (Leaf k) (value ∷ []) h.shows }

  -- ---- blocks

  ended : (t w : CState) → length t.objects ≤ length w.objects → Left (metric_of p.target) (memory_of p.target) w.objects (length t.objects) (leave t w).objects
  ended t w many = (lawful_in (table_of p.target)).leaves w.objects (length t.objects)

  -- what was there before a block is as it was left in it
  pub object_left : (t w : CState) (x : Name) (k : CScalar) (o : ℕ) (value : Option ℤ) → length t.objects ≤ length w.objects → o < length t.objects
      → named t.frames.own x ≡ Some (Naming o (base.Scalar k)) → (memory_of p.target).Shows w.objects o false (Leaf k) (value ∷ []) → ObjectIs p (leave t w) x k o value
  object_left t w x k o value many lt slot shows = record { slot = slot; shows = ((ended t w many).others o lt).shows false (Leaf k) (value ∷ []) shows }

  -- the end of a block in which objects of before state `first` were kept
  pub kept_left : (k : ℕ) (first t w : CState) → Kept p k first t → w.frames.callers ≡ t.frames.callers → length t.objects ≤ length w.objects
      → ((o : ℕ) → o < length first.objects → Same (metric_of p.target) (memory_of p.target) t.objects w.objects o) → Kept p k first (leave t w)
  kept_left k first t w h callers many same =
      let l = ended t w many in
      record {
        names = h.names;
        callers = callers ∙ h.callers;
        count = omega (arith, h.count, many, l.count);
        objects = λ o lt.
            same_twice (metric_of p.target) (memory_of p.target) first.objects w.objects (leave t w).objects o
            (same_twice (metric_of p.target) (memory_of p.target) first.objects t.objects w.objects o (h.objects o lt) (same o lt))
            (l.others o (omega (arith, lt, h.count)));
      }

  -- ---- making it

  made_here : (j : ℕ) (k : CScalar) (made : CObjects) (t : CState) (value : Option ℤ) → Made (metric_of p.target) (memory_of p.target) t.objects made false (Leaf k) (value ∷ [])
      → ObjectIs p (declare_object (local_name j) (base.Scalar k) made t) (local_name j) k (length t.objects) value
  made_here j k made t value h =
      record { slot = ap (λ b. if b then Some (Naming (length t.objects) (base.Scalar k)) else named t.frames.own (local_name j)) (same_self (local_name j)); shows = h.shows }

  kept_made : (j : ℕ) (k : CScalar) (made : CObjects) (t : CState) (value : Option ℤ) → Made (metric_of p.target) (memory_of p.target) t.objects made false (Leaf k) (value ∷ [])
      → Kept p j t (declare_object (local_name j) (base.Scalar k) made t)
  kept_made j k made t value h = kept_object p j j (base.Scalar k) made t (omega arith) (omega (arith, h.count)) h.others

-- the object is further, and all that was is kept
pub record Declared (g : Setting) (w : World) (t : CState) (j : ℕ) (k : CScalar) (value : Option ℤ) (u : CState) : Type 0 where
  pub object : ObjectIs g.program u (local_name j) k (length t.objects) value
  pub kept : Kept g.program j t u

module _ (g : Setting) (w : World) (t : CState) (j : ℕ) (k : CScalar) where
  abbrev blank : CState
  blank = declare_object (local_name j) (base.Scalar k) ((memory_of g.program.target).create t.objects (Leaf k)) t

  -- without a value
  pub takes_object : (u : CState) × Takes 1 (exec g.program g.functions (Object (local_name j) (base.Scalar k) None)) w t Falls u × Declared g w t j k None u
  takes_object =
      let made : Made (metric_of g.program.target) (memory_of g.program.target) t.objects ((memory_of g.program.target).create t.objects (Leaf k)) false (Leaf k) (None ∷ []) = (lawful_in (table_of g.program.target)).creates t.objects (Leaf k) in (
        blank,
        takes_one g.program w t (object g.program (local_name j) (base.Scalar k)) Falls blank (λ i. refl),
        record { object = made_here g.program j k _ t None made; kept = kept_made g.program j k _ t None made },
      )

  abbrev with_number : ℤ → CState
  with_number n = declare_object (local_name j) (base.Scalar k) ((memory_of g.program.target).initialize t.objects (Leaf k) false (n ∷ [])) t

  -- with one
  pub takes_object_with : (e : Expr) (n : ℤ) → Converts g.program t k e n → IsTrue (can_hold (table_of g.program.target) (Scalar k) n)
      → (u : CState) × Takes 1 (exec g.program g.functions (Object (local_name j) (base.Scalar k) (Some (One e)))) w t Falls u × Declared g w t j k (Some n) u
  takes_object_with e n h can =
      let made : Made (metric_of g.program.target) (memory_of g.program.target) t.objects ((memory_of g.program.target).initialize t.objects (Leaf k) false (n ∷ [])) false (Leaf k) (Some n ∷ []) =
      (lawful_in (table_of g.program.target)).initializes t.objects (Leaf k) false (n ∷ []) (can, tt) in
      let v : CValue = Num h.kind h.number in
      let first : made_with g.program.target (Leaf k) false t.objects (values.One v) ≡ Ok ((memory_of g.program.target).initialize t.objects (Leaf k) false (n ∷ [])) =
      ap (λ c. on_ok (on_ok (on_ok (typed (Scalar k) c) number_of) (λ i. Ok (values.One i))) (λ numbers. Ok ((memory_of g.program.target).initialize t.objects (Leaf k) false (cells (values.initial {N = Name} nought (Leaf k) numbers))))) h.converted in (
        with_number n,
        takes_value g.program w t 1 (eval_init g.program (One e)) (values.One v) (λ i. tick (object_with g.program (local_name j) (base.Scalar k) i)) Falls (with_number n)
            (ap (λ r. on_ok r (λ i. Ok (values.One i))) h.gives)
            (takes_one g.program w t (object_with g.program (local_name j) (base.Scalar k) (values.One v)) Falls (with_number n)
            (λ i. ap (λ r. given g.program r (λ objects. change Falls (declare_object (local_name j) (base.Scalar k) objects)) i w t) first)),
        record { object = made_here g.program j k _ t (Some n) made; kept = kept_made g.program j k _ t (Some n) made },
      )

-- ---- assigning it

module _ (g : Setting) (w : World) (t : CState) (x : Name) (k : CScalar) (o : ℕ) (value : Option ℤ) (object : ObjectIs g.program t x k o value) (e : Expr) (n : ℤ) (is : Converts g.program t k e n) (can : IsTrue (can_hold (table_of g.program.target) (Scalar k) n)) where
  new_objects : Written (metric_of g.program.target) (memory_of g.program.target) t.objects o (Leaf k) (0, k) [] n []
  new_objects = (lawful_in (table_of g.program.target)).writes t.objects o (Leaf k) (0, k) [] [] value n object.shows (whole_object g.program k) can

  unrefused : (refused : Option Fault) → (memory_of g.program.target).refuses t.objects o (0, k) ≡ refused → refused ≡ None
  unrefused None r = refl
  unrefused (Some fault) r =
      let not_written : (memory_of g.program.target).write t.objects o (0, k) n ≡ Err fault = (lawful_in (table_of g.program.target)).refusals t.objects o (0, k) n fault r in
      let written : (memory_of g.program.target).write t.objects o (0, k) n ≡ Ok new_objects.new = new_objects.is in
      let no_ : ⊥ = cc in absurd no_

  number_stored : stored g.program.target t (whole g.program o k) (Num is.kind is.number) ≡ Ok new_objects.new
  number_stored =
      let mem = memory_of g.program.target in
      ap (λ r. unless_refused r (on_ok (on_ok (typed (Scalar k) (convert_in (table_of g.program.target) (Scalar k) is.number)) number_of) (λ v. answered (mem.write t.objects o (0, k) v)))) (unrefused (mem.refuses t.objects o (0, k)) refl)
      ∙ ap (λ c. on_ok (on_ok (typed (Scalar k) c) number_of) (λ v. answered (mem.write t.objects o (0, k) v))) is.converted
      ∙ ap answered new_objects.is

  -- what an assignment leaves
  pub record Assigned (u : CState) : Type 0 where
    pub frames : u.frames ≡ t.frames
    pub shows : (memory_of g.program.target).Shows u.objects o false (Leaf k) (Some n ∷ [])
    pub count : length u.objects ≡ length t.objects
    pub others : (q : ℕ) → q ≢ o → Same (metric_of g.program.target) (memory_of g.program.target) t.objects u.objects q

  pub takes_assign : (u : CState) × Takes 1 (exec g.program g.functions (Assign (Var x) e)) w t Falls u × Assigned u
  takes_assign =
      let v : CValue = Num is.kind is.number in
      let u : CState = record t { objects = new_objects.new } in
      let stores : Takes 1 (tick (assign g.program (whole g.program o k) v)) w t Falls u =
      takes_one g.program w t (assign g.program (whole g.program o k) v) Falls u (λ i. ap (λ r. given g.program r (λ objects. change Falls (λ s. record s { objects = objects })) i w t) number_stored) in
      let placed : (i : ℕ) → exec g.program g.functions (Assign (Var x) e) i w t ≡ tick (assign g.program (whole g.program o k) v) i w t = λ i.
      ap (λ r. given g.program r (λ l. given g.program (eval g.program e t) (λ a. tick (assign g.program l a))) i w t) (object_place g.program t x k o value object)
      ∙ ap (λ r. given g.program r (λ a. tick (assign g.program (whole g.program o k) a)) i w t) is.gives in (
        u,
        record { waits = λ i lt. placed i ∙ stores.waits i lt; finishes = λ i. placed (1 + i) ∙ stores.finishes i },
        record {
          frames = refl;
          shows = new_objects.shows;
          count = (lawful_in (table_of g.program.target)).count_stays t.objects new_objects.new o (0, k) n new_objects.is;
          others = λ q differ. (lawful_in (table_of g.program.target)).others_stay t.objects new_objects.new o (0, k) n q new_objects.is differ;
        },
      )
