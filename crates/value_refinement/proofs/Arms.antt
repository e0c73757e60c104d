-- A value that is left in an object: by a block that ends with an assignment, and where an expression's own value is in one.
use Rattle.std.proofs.Common.{◌≡◌, ℕ, zero, suc, ◌+◌, ◌<◌, ◌≤◌, ℤ, Bool, true, false, List, [], ◌∷◌, ◌++◌, length, Option, Some, None, refl, sym, ◌∙◌, ap, subst, arith}
use Rattle.std.specs.Prelude.{if◌then◌else◌, not, slice_get, unwrap_or, IsTrue}
use Rattle.iv_words.specs.declared.IntKind.{IntKind}
use Rattle.iv_words.specs.declared.IntKind.TheVariants.{U8}
use Rattle.step_semantics.specs.Control.{Control, Falls, Broke, Returned, onward}
use Rattle.step_semantics.specs.Follows.{Follows}
use Rattle.step_semantics.specs.Steps.{World, Progress, Exhausted, Part, give, after, bind, tick, ticks, left}
use Rattle.step_semantics.specs.Takes.{Reaches}
use Rattle.step_semantics.proofs.ControlFollows.{Falling, Read as Looks, bound_read}
use Rattle.step_semantics.proofs.Equations.{after_give}
use Rattle.step_semantics.proofs.Following.{rests, wrapped}
use Rattle.step_semantics.proofs.Paying.{pays_to}
use Rattle.area_types.specs.Syntax as types
use Rattle.area_types.specs.Syntax.{ValueType}
use Rattle.area_types.specs.Tables.{has_index_length}
use Rattle.area_objects.specs.Both.{Map}
use Rattle.area_objects.specs.Scalars.{scalar_of}
use Rattle.area_objects.proofs.Scalars.{numbers_can_be_held}
use Rattle.source_types.specs.Values.{is_reference}
use Rattle.core_tree.specs.Syntax.{ModuleCore, ExprCore, type_of}
use Rattle.core_tree.specs.Types.{is_value, is_word}
use Rattle.core_tree.specs.TypedExpressions.{ExprTyped}
use Rattle.core_meaning.specs.Areas.{Areas}
use Rattle.core_meaning.specs.Expressions.{eval}
use Rattle.core_meaning.specs.Gives.{Gives}
use Rattle.core_meaning.specs.State.{State}
use Rattle.core_meaning.specs.Values.{Value, Num, Ref}
use Rattle.region_check.specs.Calls.{reference_of}
use Rattle.region_soundness.specs.Fitting.{Entry, RefersAs, ValueFits}
use Rattle.c_ast.specs.declared.CKind.TheVariants.{Scalar}
use Rattle.c_ast.specs.declared.CScalar.{CScalar}
use Rattle.c_ast.specs.declared.CScalar.TheVariants as scalar
use Rattle.c_ast.specs.Conversions.{can_hold}
use Rattle.c_ast.specs.Scalars.{metric_of}
use Rattle.c_ast.specs.Syntax.{Name, Expr, Read, Var, Stmt, Assign}
use Rattle.c_ast.specs.Targets.{table_of}
use Rattle.c_meaning.specs.Calls.{given}
use Rattle.c_meaning.specs.Memory.{memory_of}
use Rattle.c_meaning.specs.State.{Program, CState, leave}
use Rattle.c_meaning.specs.Statements.{with_truth}
use Rattle.c_meaning.specs.Values.{CValue}
use Rattle.c_meaning.proofs.HeldNumbers.{held_converts}
use Rattle.lower_types.specs.Names.{local_name}
use Rattle.lower_types.specs.Types.{table_for, scalar_in, scalar_for}
use Rattle.lower_values.specs.Choices.{into}
use Rattle.lower_values.specs.Expressions.{raw}
use Rattle.lower_values.specs.Pieces.{Piece, Standing, Exact, Same, Near, is_exact}
use Rattle.value_refinement.specs.Kept.{Kept}
use Rattle.value_refinement.specs.Laws.{owing, spare, Stage, running, RawFollows}
use Rattle.value_refinement.specs.Related.{Related}
use Rattle.value_refinement.specs.Settings.{Setting, Set, IsOld}
use Rattle.form_answers.specs.Standing.{IsNumber, Converts, Stands, TestIs}
use Rattle.value_refinement.specs.Values.{Simple, StandsFor, Comes}
use Rattle.value_refinement.proofs.Growing.{raw_grows}
use Rattle.value_refinement.proofs.Keeping.{kept_same, same_twice}
use Rattle.value_refinement.proofs.Objects.{ObjectIs, temporary_is_old, object_made, object_read, object_kept, object_left, kept_left, takes_assign}
use Rattle.form_answers.proofs.OperandValues.{exact_held}
use Rattle.value_refinement.proofs.Running.{runs_first}
use Rattle.value_refinement.proofs.Standings.{related_on}

-- ---- numbers of a type

scalars_agree : (core : ModuleCore) (ty : ValueType) (n : ℤ) → IsTrue (is_value core.structs ty n) → scalar_of core.structs.words ty ≡ scalar_for (table_for core) ty
scalars_agree core types.Truth n h = refl
scalars_agree core (types.Int kind) n h = refl
scalars_agree core (types.Ix i) n h = refl
scalars_agree core (types.Bits k) n h = go (slice_get core.structs.words k) h where
  go : (word : Option IntKind) → IsTrue (is_word word n) → scalar.Int (unwrap_or word U8) ≡ scalar_in word
  go (Some word) h = refl
  go None h = let no_ : ⊥ = cc in absurd no_
scalars_agree core (types.Ref constant region area) n h = let no_ : ⊥ = cc in absurd no_

pub number_held : (g : Setting) → Set g → (ty : ValueType) (n : ℤ) → IsTrue (has_index_length ty) → IsTrue (is_value g.frame.core.structs ty n) → IsTrue (can_hold (table_of g.program.target) (Scalar (scalar_for g.frame.table ty)) n)
number_held g set ty n length fits =
    subst (λ table. IsTrue (can_hold (table_of g.program.target) (Scalar (scalar_for table ty)) n)) (sym set.table)
    (subst (λ k. IsTrue (can_hold (table_of g.program.target) (Scalar k) n)) (scalars_agree g.frame.core ty n fits) (numbers_can_be_held (table_of g.program.target) g.frame.core.structs ty n length fits))

-- no reference is a value of another type
pub no_reference : (core : ModuleCore) (entry : Entry) (areas : Areas) (ty : ValueType) (k : ℕ) (path : List ℕ) → IsTrue (not (is_reference ty)) → RefersAs core entry areas (reference_of ty) k path → ⊥
no_reference core entry areas types.Truth k path h r = r
no_reference core entry areas (types.Int kind) k path h r = r
no_reference core entry areas (types.Ix n) k path h r = r
no_reference core entry areas (types.Bits n) k path h r = r
no_reference core entry areas (types.Ref constant region area) k path h r = cc

-- whatever stands for a number is the number once it is converted to a type that holds it
pub stands_converts : (p : Program) (u : CState) (standing : Standing) (k : CScalar) (e : Expr) (n : ℤ) → Stands standing p u k e n → IsTrue (can_hold (table_of p.target) (Scalar k) n) → Converts p u k e n
stands_converts p u Exact k e n h can =
    let held = exact_held p u k e n h can in
    record { kind = held.kind; number = n; gives = held.gives; converted = held_converts (table_of p.target) (Scalar k) n can }
stands_converts p u Same k e n h can =
    let is : IsNumber p u e n = h in
    record { kind = is.0; number = n; gives = is.1; converted = held_converts (table_of p.target) (Scalar k) n can }
stands_converts p u Near k e n h can = h

-- ---- choices by a truth

module _ (g : Setting) where
  -- a statement that tests an expression takes its step, and goes on as the truth says
  pub truth_reaches : (e : Expr) (b : Bool) (next : Bool → Part CState (Control (Option CValue))) (rest : List Stmt) (w : World) (u : CState) → TestIs g.program u e b
      → Reaches 1 w (λ j. after (with_truth g.program e next j w u) (onward (running g rest))) (λ j. after (next b j w u) (onward (running g rest)))
  truth_reaches e b next rest w u tests = record { waits = waits; comes = comes } where
    tested : (i : ℕ) → after (with_truth g.program e next i w u) (onward (running g rest)) ≡ after (tick (next b) i w u) (onward (running g rest))
    tested i = ap (λ r. after (given g.program r (λ holds. tick (next holds)) i w u) (onward (running g rest))) tests

    waits : (j : ℕ) → j < 1 → after (with_truth g.program e next j w u) (onward (running g rest)) ≡ Exhausted w
    waits zero lt = tested 0
    waits (suc j) lt = absurd (omega (arith, lt))

    comes : (j : ℕ) → after (with_truth g.program e next (1 + j) w u) (onward (running g rest)) ≡ after (next b j w u) (onward (running g rest))
    comes j = let one : 1 + j ≡ suc j = omega arith in ap (λ i. after (with_truth g.program e next i w u) (onward (running g rest))) one ∙ tested (suc j)

pub owing_few : (b : Bool) → owing b ≤ 1
owing_few true = omega arith
owing_few false = omega arith

-- ---- the value of an expression in an object

-- The piece is the name of a temporary's object that was made since, with the value in it.
pub record InObject (p : Program) (k : CScalar) (t : CState) (piece : Piece) (v : Value) (u : CState) : Type 0 where
  pub owed : piece.owed ≡ false
  pub exact : piece.standing ≡ Exact
  pub temporary : ℕ
  pub below : temporary < piece.next
  pub value_is : piece.value ≡ Read (Var (local_name temporary))
  pub object : ℕ
  pub since : length t.objects ≤ object
  pub number : ℤ
  pub is : v ≡ Num number
  pub holds : ObjectIs p u (local_name temporary) k object (Some number)

module _ (g : Setting) (objects : Map) (s : State) where
  pub record GoesOn {A : Type 0} (post : A → State → Control (Option CValue) → CState → Type 0) (go : Value → Part State A) (rest : List Stmt) (x y from : ℕ) (p : Piece) (e : ExprCore) (t : CState) : Type 0 where
    pub by : (v : Value) (u : CState) → Gives g.frame.core g.outcome s e v → Kept g.program from t u → InObject g.program (scalar_for g.frame.table (type_of e)) t p v u
        → (m : ℕ) (w : World) → Follows g.frame.skip post x y m (go v m w s) (λ j. running g rest j w u)

  -- as RawFollows, of an expression whose value is in an object
  abbrev pub ObjectFollows : ExprCore → Type 1
  ObjectFollows e =
      (A : Type 0) (post : A → State → Control (Option CValue) → CState → Type 0) (go : Value → Part State A) (rest : List Stmt) (x y from : ℕ) → g.first ≤ from
      → (t : CState) → Related g objects s t → GoesOn {A = A} post go rest x y from (raw g.frame e from) e t
      → (n : ℕ) (w : World) → Follows g.frame.skip post x y n (bind (eval g.frame.core g.outcome e) go n w s) (λ j. running g ((raw g.frame e from).before ++ rest) j w t)

module _ (g : Setting) (set : Set g) (objects : Map) (s : State) (stage : Stage g s) where
  -- a number that the expression gives is held by its type's scalar
  pub given_held : (e : ExprCore) → ExprTyped g.env g.scope e → (v : Value) (n : ℤ) → v ≡ Num n → Gives g.frame.core g.outcome s e v → IsTrue (can_hold (table_of g.program.target) (Scalar (scalar_for g.frame.table (type_of e))) n)
  given_held e typed v n is gives =
      number_held g set (type_of e) n (stage.indexed e typed) (subst (λ a. ValueFits g.frame.core stage.entry s.areas (type_of e) a) is (stage.fits e v typed gives))

  object_stands : (ty : ValueType) (t u w : CState) (p : Piece) (v : Value) (h : InObject g.program (scalar_for g.frame.table ty) t p v u) → IsTrue (can_hold (table_of g.program.target) (Scalar (scalar_for g.frame.table ty)) h.number) → Kept g.program p.next u w
      → StandsFor g objects s p ty w v
  object_stands ty t u w p v h can kept =
      let k : CScalar = scalar_for g.frame.table ty in
      let name : Name = local_name h.temporary in
      let base : Simple g.program w Exact false (Read (Var name)) × Stands Exact g.program w k (Read (Var name)) h.number =
      (refl, object_read g.program w name k h.object h.number (object_kept g.program p.next u w name k h.object (Some h.number) (temporary_is_old h.temporary p.next h.below) kept h.holds) can) in
      subst (λ a. StandsFor g objects s p ty w a) (sym h.is)
      (subst (λ st. Simple g.program w st p.owed p.value × Stands st g.program w k p.value h.number) (sym h.exact)
      (subst (λ b. Simple g.program w Exact b p.value × Stands Exact g.program w k p.value h.number) (sym h.owed)
      (subst (λ e. Simple g.program w Exact false e × Stands Exact g.program w k e h.number) (sym h.value_is) base)))

  no_spare : (p : Piece) (x : ℕ) → p.owed ≡ false → p.standing ≡ Exact → x + spare p ≡ x
  no_spare p x owed exact =
      let none : spare p ≡ 0 = ap (λ b. if b then 0 else if is_exact p.standing then 0 else 8) owed ∙ ap (λ st. if is_exact st then 0 else 8) exact in omega (arith, none)

  -- an expression whose value is in an object is followed as any other is
  pub object_raw : (e : ExprCore) → ExprTyped g.env g.scope e → ObjectFollows g objects s e → RawFollows g objects s e
  object_raw e typed follows A post go rest x y from le t related goes n w =
      follows A post go rest x y from le t related (record { by = on_value }) n w
    where
      on_value : (v : Value) (u : CState) → Gives g.frame.core g.outcome s e v → Kept g.program from t u → InObject g.program (scalar_for g.frame.table (type_of e)) t (raw g.frame e from) v u
          → (m : ℕ) (i : World) → Follows g.frame.skip post x y m (go v m i s) (λ j. running g rest j i u)
      on_value v u gives kept h m i =
          let p : Piece = raw g.frame e from in
          let comes : Comes g objects s from p (type_of e) t v u = record {
            grows = raw_grows g.frame e from;
            kept = kept;
            stands = λ q later. object_stands (type_of e) t u q p v h (given_held e typed v h.number h.is gives) later;
          } in
          subst (λ r. Follows g.frame.skip post x y m r (λ j. running g rest j i u)) (ap (λ b. ticks (owing b) (go v) m i s) h.owed)
          (subst (λ c. Follows g.frame.skip post c y m (ticks (owing p.owed) (go v) m i s) (λ j. running g rest j i u)) (no_spare p x h.owed h.exact) (goes.by v u gives comes m i))

  -- ---- blocks

  -- what a block leaves in the object of a name that was there before
  pub record LeftIn (first : CState) (k : ℕ) (x : Name) (o : ℕ) (e : ExprCore) (v : Value) (u : CState) : Type 0 where
    pub gives : Gives g.frame.core g.outcome s e v
    pub number : ℤ
    pub is : v ≡ Num number
    pub holds : ObjectIs g.program u x (scalar_for g.frame.table (type_of e)) o (Some number)
    pub kept : Kept g.program k first u

  falls_on : (A : Type 0) (holds : A → CState → Type 0) (t : CState) (a : A) (u : State) (b : Control (Option CValue)) (v : CState)
      → Falling (Looks s (λ a v. holds a (leave t v))) a u b v → Falling (Looks s holds) a u b (leave t v)
  falls_on A holds t a u Falls v h = record { same = h.same; value = h.value }
  falls_on A holds t a u Broke v h = h
  falls_on A holds t a u (Returned c) v h = h

  module _ (e : ExprCore) (typed : ExprTyped g.env g.scope e) (value : IsTrue (not (is_reference (type_of e)))) (first t : CState) (k from : ℕ) (low : g.first ≤ k) (le : k ≤ from) (before : Kept g.program k first t) (x : Name) (old : IsOld from x) (o : ℕ) (since : length first.objects ≤ o) (us : Option ℤ) (object : ObjectIs g.program t x (scalar_for g.frame.table (type_of e)) o us) where
    -- the assignment, and the end of the block
    abbrev Within : Value → State → Control (Option CValue) → CState → Type 0
    Within = Falling (Looks s (λ v u. LeftIn first k x o e v (leave t u)))

    assigned : (v : Value) (w : CState) → ValueFits g.frame.core stage.entry s.areas (type_of e) v → Gives g.frame.core g.outcome s e v → Comes g objects s from (raw g.frame e from) (type_of e) t v w
        → (y m : ℕ) (i : World) → Follows g.frame.skip Within (suc y + spare (raw g.frame e from)) y m (ticks (owing (raw g.frame e from).owed) (give v) m i s) (λ j. running g (Assign (Var x) (raw g.frame e from).value ∷ []) j i w)
    assigned (Ref area path) w fits gives comes y m i = absurd (no_reference g.frame.core stage.entry s.areas (type_of e) area path value fits)
    assigned (Num n) w fits gives comes y m i =
        let p : Piece = raw g.frame e from in
        let c : CScalar = scalar_for g.frame.table (type_of e) in
        let can : IsTrue (can_hold (table_of g.program.target) (Scalar c) n) = number_held g set (type_of e) n (stage.indexed e typed) fits in
        let both : Simple g.program w p.standing p.owed p.value × Stands p.standing g.program w c p.value n = comes.stands w (kept_same g.program p.next w) in
        let is : Converts g.program w c p.value n = stands_converts g.program w p.standing c p.value n both.1 can in
        let there : ObjectIs g.program w x c o us = object_kept g.program from t w x c o us old comes.kept object in
        let a = takes_assign g i w x c o us there p.value n is can in
        let u : CState = a.0 in
        let many : length t.objects ≤ length u.objects = omega (arith, comes.kept.count, a.2.count) in
        let made : o < length t.objects = object_made g.program t x c o us object in
        let leaves : LeftIn first k x o e (Num n) (leave t u) = record {
          gives = gives;
          number = n;
          is = refl;
          holds = object_left g.program t u x c o (Some n) many made object.slot a.2.shows;
          kept = kept_left g.program k first t u before (ap (λ f. f.callers) a.2.frames ∙ comes.kept.callers) many
              (λ q lt.
              same_twice (metric_of g.program.target) (memory_of g.program.target) t.objects w.objects u.objects q (comes.kept.objects q (omega (arith, lt, before.count)))
              (a.2.others q (λ e. absurd (omega (arith, lt, since, e)))));
        } in
        let done : Looks s (λ v u. LeftIn first k x o e v (leave t u)) (Num n) s u = record { same = refl; value = leaves } in
        pays_to g.frame.skip Within 1 (owing p.owed) (suc y + spare p) y y (give (Num n)) i s (owing_few p.owed) (omega arith)
        (λ j. running g (Assign (Var x) p.value ∷ []) j i w) (λ j. running g [] j i u)
        (runs_first g 1 (Assign (Var x) p.value) [] i w u a.1)
        (λ r. rests g.frame.skip Within y (Num n) Falls r i s u done)
        m

    -- a block that evaluates the expression into the object, and what comes after it
    pub arm_follows : RawFollows g objects s e → Related g objects s first → (A : Type 0) (post : A → State → Control (Option CValue) → CState → Type 0) (go : Value → Part State A) (rest : List Stmt) (y z : ℕ)
        → ((v : Value) (u : CState) → LeftIn first k x o e v u → (m : ℕ) (w : World) → Follows g.frame.skip post y z m (go v m w s) (λ j. running g rest j w u))
        → (n : ℕ) (w : World) → Follows g.frame.skip post (suc y) z n (bind (eval g.frame.core g.outcome e) go n w s) (λ j. after (left leave t (running g (into (Var x) (raw g.frame e from)) j w t)) (onward (running g rest)))
    arm_follows follows related A post go rest y z goes n w =
        let p : Piece = raw g.frame e from in
        let r : Progress State Value = eval g.frame.core g.outcome e n w s in
        let inside : Follows g.frame.skip Within (suc y) y n r (λ j. running g (into (Var x) p) j w t) =
        subst (λ q. Follows g.frame.skip Within (suc y) y n q (λ j. running g (into (Var x) p) j w t)) (after_give r)
        (follows Value Within give (Assign (Var x) p.value ∷ []) (suc y) y from (omega (arith, low, le)) t (related_on g set objects s k low first t before related)
        (record { by = λ v u gives comes m i. assigned v u (stage.fits e v typed gives) gives comes y m i }) n w) in
        bound_read g.frame.skip s (λ v u. LeftIn first k x o e v u) post (suc y) y z n r (λ j. left leave t (running g (into (Var x) p) j w t)) go (running g rest)
        (wrapped g.frame.skip Within (Falling (Looks s (λ v u. LeftIn first k x o e v u))) leave t (suc y) y n r (λ j. running g (into (Var x) p) j w t)
        (λ a u b v h. falls_on Value (λ v u. LeftIn first k x o e v u) t a u b v h) inside)
        (λ v u h m le i. goes v u h m i)
