-- `&&` and `||`: the left operand in an object, which the right one, in a block, is assigned to where the left one leaves the truth open.
use Rattle.std.proofs.Common.{◌≡◌, ℕ, zero, suc, ◌+◌, ◌≤◌, ℤ, pos, negsuc, Bool, true, false, List, [], ◌∷◌, ◌++◌, length, Option, Some, refl, sym, ◌∙◌, ap, subst, arith, append_assoc}
use Rattle.std.specs.Prelude.{if◌then◌else◌, not, IsTrue}
use Rattle.std.specs.Ordering.{int_eq}
use Rattle.std.proofs.lemmas.Int.{ints}
use Rattle.index_types.specs.Indices.{is_index}
use Rattle.ivory_tree.specs.declared.BinOp.{BinOp}
use Rattle.ivory_tree.specs.declared.BinOp.TheVariants as op
use Rattle.ivory_tree.specs.declared.BinOp.TheVariants.{OrElse, AndAlso}
use Rattle.step_semantics.specs.Control.{Control, Falls, onward}
use Rattle.step_semantics.specs.Follows.{Follows}
use Rattle.step_semantics.specs.Steps.{World, Progress, Part, give, after, bind, tick, ticks, left, block}
use Rattle.step_semantics.specs.Takes.{Reaches}
use Rattle.step_semantics.proofs.Equations.{after_after, tick_then, ticks_same, ticks_last}
use Rattle.step_semantics.proofs.Following.{eased}
use Rattle.step_semantics.proofs.Paying.{reaches_more, pays_to}
use Rattle.area_types.specs.Syntax as types
use Rattle.area_types.specs.Syntax.{ValueType, Truth}
use Rattle.area_objects.specs.Both.{Map}
use Rattle.source_types.specs.Values.{is_truth, is_reference}
use Rattle.core_tree.specs.Syntax.{Label, ExprCore, Binary, Whole, type_of}
use Rattle.core_tree.specs.Types.{is_value}
use Rattle.core_tree.specs.TypedExpressions.{BinaryTyped, WholeTyped, ExprTyped}
use Rattle.core_meaning.specs.Checks.{on_truth}
use Rattle.core_meaning.specs.Expressions.{eval}
use Rattle.core_meaning.specs.Gives.{Gives, Chosen}
use Rattle.core_meaning.specs.State.{State}
use Rattle.core_meaning.specs.Values.{Value, Num, Ref}
use Rattle.region_soundness.specs.Fitting.{ValueFits}
use Rattle.c_ast.specs.declared.CKind.TheVariants.{Scalar}
use Rattle.c_ast.specs.declared.CScalar.{CScalar}
use Rattle.c_ast.specs.declared.CScalar.TheVariants as scalar
use Rattle.c_ast.specs.Conversions.{can_hold}
use Rattle.c_ast.specs.Syntax.{Name, One, Stmt, Object, If}
use Rattle.c_ast.specs.Targets.{table_of}
use Rattle.c_ast.specs.View.{stmts_from}
use Rattle.c_meaning.specs.State.{CState, leave}
use Rattle.c_meaning.specs.Values.{CValue, is_true, on_ok}
use Rattle.lower_types.specs.Names.{local_name}
use Rattle.lower_types.specs.Types.{scalar_for}
use Rattle.lower_values.specs.Choices.{is_logic, is_truth_chain, left_object, goes_on, place_of, into, logic}
use Rattle.lower_values.specs.Expressions.{raw}
use Rattle.lower_values.specs.Frames.{base_in}
use Rattle.lower_values.specs.Pieces.{Piece}
use Rattle.value_refinement.specs.Kept.{Kept}
use Rattle.value_refinement.specs.Laws.{owing, spare, Stage, running, RawFollows}
use Rattle.value_refinement.specs.Related.{Related}
use Rattle.value_refinement.specs.Settings.{Setting, Set}
use Rattle.form_answers.specs.Standing.{Converts, Stands, TestIs}
use Rattle.value_refinement.specs.Values.{Simple, Comes}
use Rattle.value_refinement.proofs.Arms.{no_reference, stands_converts, truth_reaches, owing_few, InObject, GoesOn, ObjectFollows, given_held, LeftIn, arm_follows}
use Rattle.value_refinement.proofs.Growing.{object_grows, raw_grows}
use Rattle.value_refinement.proofs.Keeping.{kept_same, kept_twice}
use Rattle.value_refinement.proofs.Objects.{ObjectIs, temporary_is_old, object_read, takes_object_with}
use Rattle.value_refinement.proofs.Running.{runs_first, not_tests}

-- ---- truths

not_below_two : (n : ℕ) → IsTrue (is_index 2 (pos (suc (suc n)))) → ⊥
not_below_two n h = grind (arith, ints)

-- a truth that holds is 1, and one that does not is 0
pub truth_one : (n : ℤ) → IsTrue (is_index 2 n) → not (int_eq n (pos 0)) ≡ true → n ≡ pos 1
truth_one (pos zero) h e = let no_ : ⊥ = cc in absurd no_
truth_one (pos (suc zero)) h e = refl
truth_one (pos (suc (suc n))) h e = absurd (not_below_two n h)
truth_one (negsuc n) h e = let no_ : ⊥ = cc in absurd no_

suc_holds : (n : ℕ) → not (int_eq (pos (suc n)) (pos 0)) ≡ false → ⊥
suc_holds n e = grind (arith, ints, e)

pub truth_zero : (n : ℤ) → not (int_eq n (pos 0)) ≡ false → n ≡ pos 0
truth_zero (pos zero) e = refl
truth_zero (pos (suc n)) e = absurd (suc_holds n e)
truth_zero (negsuc n) e = let no_ : ⊥ = cc in absurd no_

is_the_truth : (ty : ValueType) → IsTrue (is_truth ty) → ty ≡ Truth
is_the_truth Truth h = refl
is_the_truth (types.Int kind) h = let no_ : ⊥ = cc in absurd no_
is_the_truth (types.Ix n) h = let no_ : ⊥ = cc in absurd no_
is_the_truth (types.Bits n) h = let no_ : ⊥ = cc in absurd no_
is_the_truth (types.Ref constant region area) h = let no_ : ⊥ = cc in absurd no_

abbrev as_is : Bool → Bool
as_is b = b

module _ (g : Setting) (set : Set g) (objects : Map) (s : State) (stage : Stage g s) where
  truth_scalar : (ty : ValueType) → ty ≡ Truth → scalar_for g.frame.table ty ≡ scalar.Truth
  truth_scalar ty is = ap (scalar_for g.frame.table) is

  -- ---- the left operand

  -- one step of C further, what was behind a step of the source follows
  pub record Onward {A : Type 0} (post : A → State → Control (Option CValue) → CState → Type 0) (part : ℤ → Part State A) (rest : List Stmt) (x y : ℕ) (n : ℤ) (u : CState) (w : World) : Type 0 where
    pub later : ℕ → Progress CState (Control (Option CValue))
    pub reaches : Reaches 1 w (λ j. running g rest j w u) later
    pub follows : (m : ℕ) → Follows g.frame.skip post (x + 14) y m (part n m w s) later

  module _ (first : ExprCore) (typed : ExprTyped g.env g.scope first) (truth : type_of first ≡ Truth) (A : Type 0) (post : A → State → Control (Option CValue) → CState → Type 0) (go : Value → Part State A) (part : ℤ → Part State A)
      (is : (n : ℤ) (m : ℕ) (w : World) (q : State) → go (Num n) m w q ≡ tick (part n) m w q) (rest : List Stmt) (x y from : ℕ) (low : g.first ≤ from) (t : CState) (related : Related g objects s t) where
    abbrev raw_first : Piece
    raw_first = raw g.frame first from

    -- what comes after the object
    abbrev GoesOnward : Bool → Type 0
    GoesOnward b =
        (n : ℤ) (u : CState) → Gives g.frame.core g.outcome s first (Num n) → Kept g.program from t u → InObject g.program scalar.Truth t (left_object g.frame b raw_first) (Num n) u → (w : World)
        → Onward post part rest x y n u w

    chain_goes : GoesOnward true → (v : Value) (u : CState) → Gives g.frame.core g.outcome s first v → Kept g.program from t u → InObject g.program (scalar_for g.frame.table (type_of first)) t raw_first v u
        → (m : ℕ) (w : World) → Follows g.frame.skip post x y m (go v m w s) (λ j. running g rest j w u)
    chain_goes goes v u gives kept h m w =
        let n : ℤ = h.number in
        let there : InObject g.program scalar.Truth t raw_first (Num n) u =
        subst (λ k. InObject g.program k t raw_first (Num n) u) (truth_scalar (type_of first) truth) (subst (λ a. InObject g.program (scalar_for g.frame.table (type_of first)) t raw_first a u) h.is h) in
        let o : Onward post part rest x y n u w = goes n u (subst (λ a. Gives g.frame.core g.outcome s first a) h.is gives) kept there w in
        subst (λ a. Follows g.frame.skip post x y m (go a m w s) (λ j. running g rest j w u)) (sym h.is)
        (subst (λ r. Follows g.frame.skip post x y m r (λ j. running g rest j w u)) (sym (is n m w s))
        (pays_to g.frame.skip post 1 1 x (x + 14) y (part n) w s (omega arith) (omega arith) (λ j. running g rest j w u) o.later o.reaches o.follows m))

    abbrev first_object : Stmt
    first_object = Object (local_name raw_first.next) (base_in g.frame Truth) (Some (One raw_first.value))

    single_goes : GoesOnward false → (v : Value) (u : CState) → ValueFits g.frame.core stage.entry s.areas (type_of first) v → Gives g.frame.core g.outcome s first v → Comes g objects s from raw_first (type_of first) t v u
        → (m : ℕ) (w : World) → Follows g.frame.skip post (x + spare raw_first) y m (ticks (owing raw_first.owed) (go v) m w s) (λ j. running g (first_object ∷ rest) j w u)
    single_goes goes (Ref area path) u fits gives comes m w =
        absurd (no_reference g.frame.core stage.entry s.areas (type_of first) area path (subst (λ ty. IsTrue (not (is_reference ty))) (sym truth) refl) fits)
    single_goes goes (Num n) u fits gives comes m w =
        let p : Piece = raw_first in
        let k : CScalar = scalar_for g.frame.table (type_of first) in
        let can : IsTrue (can_hold (table_of g.program.target) (Scalar k) n) = given_held g set objects s stage first typed (Num n) n refl gives in
        let both : Simple g.program u p.standing p.owed p.value × Stands p.standing g.program u k p.value n = comes.stands u (kept_same g.program p.next u) in
        let is_here : Converts g.program u scalar.Truth p.value n =
        subst (λ c. Converts g.program u c p.value n) (truth_scalar (type_of first) truth) (stands_converts g.program u p.standing k p.value n both.1 can) in
        let d = takes_object_with g w u p.next scalar.Truth p.value n is_here (subst (λ c. IsTrue (can_hold (table_of g.program.target) (Scalar c) n)) (truth_scalar (type_of first) truth) can) in
        let v : CState = d.0 in
        let there : InObject g.program scalar.Truth t (left_object g.frame false p) (Num n) v = record {
          owed = refl;
          exact = refl;
          temporary = p.next;
          below = omega arith;
          value_is = refl;
          object = length u.objects;
          since = comes.kept.count;
          number = n;
          is = refl;
          holds = d.2.object;
        } in
        let o : Onward post part rest x y n v w = goes n v gives (kept_twice g.program from p.next t u v comes.grows comes.kept d.2.kept) there w in
        let few : owing p.owed ≤ 1 = owing_few p.owed in
        subst (λ r. Follows g.frame.skip post (x + spare p) y m r (λ j. running g (first_object ∷ rest) j w u))
        (sym (ticks_same (owing p.owed) (go (Num n)) (tick (part n)) (is n) m w s ∙ ticks_last (owing p.owed) (part n) m w s))
        (pays_to g.frame.skip post (1 + 1) (suc (owing p.owed)) (x + spare p) (x + 14) y (part n) w s (omega (arith, few)) (omega arith) (λ j. running g (first_object ∷ rest) j w u) o.later
        (reaches_more 1 1 w (λ j. running g (first_object ∷ rest) j w u) (λ j. running g rest j w v) o.later (runs_first g 1 first_object rest w u v d.1) o.reaches) o.follows m)

    -- the object of a chain is used again, and another operand gets one
    left_follows : (b : Bool) → is_truth_chain first ≡ b → RawFollows g objects s first → (IsTrue (is_truth_chain first) → ObjectFollows g objects s first) → GoesOnward b
        → (n : ℕ) (w : World) → Follows g.frame.skip post x y n (bind (eval g.frame.core g.outcome first) go n w s) (λ j. running g ((left_object g.frame b raw_first).before ++ rest) j w t)
    left_follows true chain alone in_object goes n w =
        in_object chain A post go rest x y from low t related (record { by = λ v u gives kept h m i. chain_goes goes v u gives kept h m i }) n w
    left_follows false chain alone in_object goes n w =
        subst (λ ss. Follows g.frame.skip post x y n (bind (eval g.frame.core g.outcome first) go n w s) (λ j. running g ss j w t)) (sym (append_assoc raw_first.before (first_object ∷ []) rest))
        (alone A post go (first_object ∷ rest) x y from low t related (record { by = λ v u gives comes m i. single_goes goes v u (stage.fits first v typed gives) gives comes m i }) n w)

  -- ---- the right one

  module _ (op : BinOp) (e first second : ExprCore) (typed : ExprTyped g.env g.scope first) (typed_second : ExprTyped g.env g.scope second) (truth : type_of first ≡ Truth) (truth_second : type_of second ≡ Truth) (truth_here : type_of e ≡ Truth) (follows : RawFollows g objects s second)
      (A : Type 0) (post : A → State → Control (Option CValue) → CState → Type 0) (go : Value → Part State A) (rest : List Stmt) (x y from : ℕ) (low : g.first ≤ from) (t : CState) (related : Related g objects s t) where
    abbrev left_one : Piece
    left_one = left_object g.frame (is_truth_chain first) (raw g.frame first from)

    abbrev right_one : Piece
    right_one = raw g.frame second left_one.next

    abbrev assigned : Stmt
    assigned = If (goes_on op left_one.value) (stmts_from (into (place_of left_one.value) right_one))

    abbrev taken : Bool → Part CState (Control (Option CValue))
    taken holds = if holds then block leave (running g (into (place_of left_one.value) right_one)) else give Falls

    module _ (goes : GoesOn g objects s post go rest x y from (logic op left_one right_one) e t) (n : ℤ) (u : CState) (kept : Kept g.program from t u) (there : InObject g.program scalar.Truth t left_one (Num n) u) where
      later_number : from ≤ left_one.next
      later_number = object_grows g.frame (is_truth_chain first) (raw g.frame first from) from (raw_grows g.frame first from)

      same_number : there.number ≡ n
      same_number = let is : Num n ≡ Num there.number = there.is in let same : n ≡ there.number = cc in sym same

      -- the object with a value of the whole
      whole_object : (v : Value) (number : ℤ) (q : CState) → v ≡ Num number → ObjectIs g.program q (local_name there.temporary) scalar.Truth there.object (Some number)
          → InObject g.program (scalar_for g.frame.table (type_of e)) t (logic op left_one right_one) v q
      whole_object v number q is holds =
          let more : left_one.next ≤ right_one.next = raw_grows g.frame second left_one.next in
          record {
            owed = there.owed;
            exact = there.exact;
            temporary = there.temporary;
            below = omega (arith, there.below, more);
            value_is = there.value_is;
            object = there.object;
            since = there.since;
            number = number;
            is = is;
            holds = subst (λ k. ObjectIs g.program q (local_name there.temporary) k there.object (Some number)) (sym (truth_scalar (type_of e) truth_here)) holds;
          }

      -- it is not evaluated
      settles : Gives g.frame.core g.outcome s e (Num n) → (m : ℕ) (w : World) → Follows g.frame.skip post (x + 14) y m (go (Num n) m w s) (λ j. running g rest j w u)
      settles gives m w =
          eased g.frame.skip post x y (x + 14) y m (go (Num n) m w s) (λ j. running g rest j w u) (omega arith) (omega arith)
          (goes.by (Num n) u gives kept (whole_object (Num n) n u refl (subst (λ i. ObjectIs g.program u (local_name there.temporary) scalar.Truth there.object (Some i)) same_number there.holds)) m w)

      second_goes : ((v : Value) → Gives g.frame.core g.outcome s second v → Gives g.frame.core g.outcome s e v) → (v : Value) (q : CState) → LeftIn g set objects s stage t from (local_name there.temporary) there.object second v q
          → (m : ℕ) (w : World) → Follows g.frame.skip post x y m (go v m w s) (λ j. running g rest j w q)
      second_goes gives v q h m w =
          goes.by v q (gives v h.gives) h.kept
          (whole_object v h.number q h.is (subst (λ k. ObjectIs g.program q (local_name there.temporary) k there.object (Some h.number)) (truth_scalar (type_of second) truth_second) h.holds)) m w

      -- it is
      leaves_open : ((v : Value) → Gives g.frame.core g.outcome s second v → Gives g.frame.core g.outcome s e v) → (m : ℕ) (w : World)
          → Follows g.frame.skip post (x + 14) y m (bind (eval g.frame.core g.outcome second) go m w s) (λ j. after (left leave u (running g (into (place_of left_one.value) right_one) j w u)) (onward (running g rest)))
      leaves_open gives m w =
          let name : Name = local_name there.temporary in
          eased g.frame.skip post (suc x) y (x + 14) y m (bind (eval g.frame.core g.outcome second) go m w s) (λ j. after (left leave u (running g (into (place_of left_one.value) right_one) j w u)) (onward (running g rest))) (omega arith) (omega arith)
          (subst (λ value. Follows g.frame.skip post (suc x) y m (bind (eval g.frame.core g.outcome second) go m w s) (λ j. after (left leave u (running g (into (place_of value) right_one) j w u)) (onward (running g rest)))) (sym there.value_is)
          (arm_follows g set objects s stage second typed_second (subst (λ ty. IsTrue (not (is_reference ty))) (sym truth_second) refl) t u from left_one.next low later_number kept name
          (temporary_is_old there.temporary left_one.next there.below) there.object there.since (Some there.number)
          (subst (λ k. ObjectIs g.program u name k there.object (Some there.number)) (sym (truth_scalar (type_of second) truth_second)) there.holds)
          follows related A post go rest x y (second_goes gives) m w))

      -- the left one as a test
      tells : Gives g.frame.core g.outcome s first (Num n) → TestIs g.program u left_one.value (not (int_eq n (pos 0)))
      tells gives =
          let can : IsTrue (can_hold (table_of g.program.target) (Scalar scalar.Truth) n) =
          subst (λ c. IsTrue (can_hold (table_of g.program.target) (Scalar c) n)) (truth_scalar (type_of first) truth) (given_held g set objects s stage first typed (Num n) n refl gives) in
          let held : ObjectIs g.program u (local_name there.temporary) scalar.Truth there.object (Some n) = subst (λ i. ObjectIs g.program u (local_name there.temporary) scalar.Truth there.object (Some i)) same_number there.holds in
          subst (λ value. TestIs g.program u value (not (int_eq n (pos 0)))) (sym there.value_is)
          (ap (λ r. on_ok r is_true) (object_read g.program u (local_name there.temporary) scalar.Truth there.object n held can).gives)

      truth_fits : Gives g.frame.core g.outcome s first (Num n) → IsTrue (is_index 2 n)
      truth_fits gives =
          let fits : IsTrue (is_value g.frame.core.structs (type_of first) n) = stage.fits first (Num n) typed gives in
          subst (λ ty. IsTrue (is_value g.frame.core.structs ty n)) truth fits

    -- The whole, where `parts` is what the source does once the left operand's truth is known, and `opens` says of that whether the right
    -- one is evaluated.
    abbrev Tests : (Bool → Bool) → Type 0
    Tests opens =
        (n : ℤ) (u : CState) → Kept g.program from t u → InObject g.program scalar.Truth t left_one (Num n) u → Gives g.frame.core g.outcome s first (Num n) → TestIs g.program u (goes_on op left_one.value) (opens (not (int_eq n (pos 0))))

    abbrev Chooses : (Bool → Part State Value) → (Bool → Bool) → Type 0
    Chooses parts opens =
        (n : ℤ) (u : CState) → Kept g.program from t u → InObject g.program scalar.Truth t left_one (Num n) u → Gives g.frame.core g.outcome s first (Num n) → (m : ℕ) (w : World) (b : Bool) → not (int_eq n (pos 0)) ≡ b
        → Follows g.frame.skip post (x + 14) y m (bind (parts b) go m w s) (λ j. after (taken (opens b) j w u) (onward (running g rest)))

    operands_follow : (parts : Bool → Part State Value) (opens : Bool → Bool) → Tests opens → Chooses parts opens → RawFollows g objects s first → (IsTrue (is_truth_chain first) → ObjectFollows g objects s first)
        → (n : ℕ) (w : World) → Follows g.frame.skip post x y n (after (after (eval g.frame.core g.outcome first n w s) (λ v. on_truth g.frame.core v (λ holds. tick (parts holds)))) go) (λ j. running g ((logic op left_one right_one).before ++ rest) j w t)
    operands_follow parts opens tests chooses alone in_object n w =
        let next : Value → Part State Value = λ v. on_truth g.frame.core v (λ holds. tick (parts holds)) in
        let part : ℤ → Part State A = λ i. bind (parts (not (int_eq i (pos 0)))) go in
        let onto : (i : ℤ) (u : CState) → Gives g.frame.core g.outcome s first (Num i) → Kept g.program from t u → InObject g.program scalar.Truth t left_one (Num i) u → (v : World) → Onward post part (assigned ∷ rest) x y i u v = λ i u gives kept there v.
        record {
          later = λ j. after (taken (opens (not (int_eq i (pos 0)))) j v u) (onward (running g rest));
          reaches = truth_reaches g (goes_on op left_one.value) (opens (not (int_eq i (pos 0)))) taken rest v u (tests i u kept there gives);
          follows = λ m. chooses i u kept there gives m v (not (int_eq i (pos 0))) refl;
        } in
        subst (λ r. Follows g.frame.skip post x y n r (λ j. running g ((logic op left_one right_one).before ++ rest) j w t)) (sym (after_after (eval g.frame.core g.outcome first n w s) next go))
        (subst (λ ss. Follows g.frame.skip post x y n (bind (eval g.frame.core g.outcome first) (λ v. bind (next v) go) n w s) (λ j. running g ss j w t)) (sym (append_assoc left_one.before (assigned ∷ []) rest))
        (left_follows first typed truth A post (λ v. bind (next v) go) part (λ i m v r. tick_then (parts (not (int_eq i (pos 0)))) go m v r) (assigned ∷ rest) x y from low t related
        (is_truth_chain first) refl alone in_object onto n w))

  -- ---- `||` and `&&`

  -- both operands are truths
  module _ (l : Label) (op : BinOp) (first second : ExprCore) (typed : BinaryTyped l op (type_of first) (type_of second)) (for_truths : IsTrue (is_truth (type_of first))) where
    first_truth : type_of first ≡ Truth
    first_truth = is_the_truth (type_of first) for_truths

    second_truth : type_of second ≡ Truth
    second_truth = typed.same ∙ first_truth

  module _ (l : Label) (first second : ExprCore) (typed : ExprTyped g.env g.scope (Binary l OrElse first second)) (follows_first : RawFollows g objects s first) (chain_first : IsTrue (is_truth_chain first) → ObjectFollows g objects s first) (follows : RawFollows g objects s second) where
    or_first : type_of first ≡ Truth
    or_first = let b : BinaryTyped l OrElse (type_of first) (type_of second) = typed.2 in first_truth l OrElse first second b b.is_for

    or_second : type_of second ≡ Truth
    or_second = let b : BinaryTyped l OrElse (type_of first) (type_of second) = typed.2 in second_truth l OrElse first second b b.is_for

    or_here : l.ty ≡ Truth
    or_here = let b : BinaryTyped l OrElse (type_of first) (type_of second) = typed.2 in b.type ∙ or_first

    abbrev or_else : Bool → Part State Value
    or_else holds = if holds then give (Num (pos 1)) else eval g.frame.core g.outcome second

    module _ (A : Type 0) (post : A → State → Control (Option CValue) → CState → Type 0) (go : Value → Part State A) (rest : List Stmt) (x y from : ℕ) (low : g.first ≤ from) (t : CState) (related : Related g objects s t)
        (goes : GoesOn g objects s post go rest x y from (raw g.frame (Binary l OrElse first second) from) (Binary l OrElse first second) t) where
      or_tests : Tests OrElse (Binary l OrElse first second) first second typed.0 typed.1 or_first or_second or_here follows A post go rest x y from low t related not
      or_tests i u kept there gives = not_tests g.program u (left_object g.frame (is_truth_chain first) (raw g.frame first from)).value (not (int_eq i (pos 0))) (tells OrElse (Binary l OrElse first second) first second typed.0 typed.1 or_first or_second or_here follows A post go rest x y from low t related goes i u kept there gives)

      or_chooses : Chooses OrElse (Binary l OrElse first second) first second typed.0 typed.1 or_first or_second or_here follows A post go rest x y from low t related or_else not
      or_chooses i u kept there gives m w true is =
          let is_so : i ≡ pos 1 = truth_one i (truth_fits OrElse (Binary l OrElse first second) first second typed.0 typed.1 or_first or_second or_here follows A post go rest x y from low t related goes i u kept there gives) is in
          subst (λ k. Follows g.frame.skip post (x + 14) y m (go (Num k) m w s) (λ j. running g rest j w u)) is_so
          (settles OrElse (Binary l OrElse first second) first second typed.0 typed.1 or_first or_second or_here follows A post go rest x y from low t related goes i u kept there (record { operand = i; is_given = gives; chosen = subst (λ c. Chosen c (Num i ≡ Num (pos 1)) (Gives g.frame.core g.outcome s second (Num i))) (sym is) (ap Num is_so) }) m w)
      or_chooses i u kept there gives m w false is =
          leaves_open OrElse (Binary l OrElse first second) first second typed.0 typed.1 or_first or_second or_here follows A post go rest x y from low t related goes i u kept there (λ a h. record { operand = i; is_given = gives; chosen = subst (λ c. Chosen c (a ≡ Num (pos 1)) (Gives g.frame.core g.outcome s second a)) (sym is) h }) m w

      or_goes : (n : ℕ) (w : World) → Follows g.frame.skip post x y n (bind (eval g.frame.core g.outcome (Binary l OrElse first second)) go n w s) (λ j. running g ((raw g.frame (Binary l OrElse first second) from).before ++ rest) j w t)
      or_goes n w = operands_follow OrElse (Binary l OrElse first second) first second typed.0 typed.1 or_first or_second or_here follows A post go rest x y from low t related or_else not or_tests or_chooses follows_first chain_first n w

    pub or_object : ObjectFollows g objects s (Binary l OrElse first second)
    or_object A post go rest x y from low t related goes n w = or_goes A post go rest x y from low t related goes n w

  module _ (l : Label) (first second : ExprCore) (typed : ExprTyped g.env g.scope (Binary l AndAlso first second)) (follows_first : RawFollows g objects s first) (chain_first : IsTrue (is_truth_chain first) → ObjectFollows g objects s first) (follows : RawFollows g objects s second) where
    and_first : type_of first ≡ Truth
    and_first = let b : BinaryTyped l AndAlso (type_of first) (type_of second) = typed.2 in first_truth l AndAlso first second b b.is_for

    and_second : type_of second ≡ Truth
    and_second = let b : BinaryTyped l AndAlso (type_of first) (type_of second) = typed.2 in second_truth l AndAlso first second b b.is_for

    and_here : l.ty ≡ Truth
    and_here = let b : BinaryTyped l AndAlso (type_of first) (type_of second) = typed.2 in b.type ∙ and_first

    abbrev and_also : Bool → Part State Value
    and_also holds = if holds then eval g.frame.core g.outcome second else give (Num (pos 0))

    module _ (A : Type 0) (post : A → State → Control (Option CValue) → CState → Type 0) (go : Value → Part State A) (rest : List Stmt) (x y from : ℕ) (low : g.first ≤ from) (t : CState) (related : Related g objects s t)
        (goes : GoesOn g objects s post go rest x y from (raw g.frame (Binary l AndAlso first second) from) (Binary l AndAlso first second) t) where
      and_tests : Tests AndAlso (Binary l AndAlso first second) first second typed.0 typed.1 and_first and_second and_here follows A post go rest x y from low t related as_is
      and_tests i u kept there gives = (tells AndAlso (Binary l AndAlso first second) first second typed.0 typed.1 and_first and_second and_here follows A post go rest x y from low t related goes i u kept there gives)

      and_chooses : Chooses AndAlso (Binary l AndAlso first second) first second typed.0 typed.1 and_first and_second and_here follows A post go rest x y from low t related and_also as_is
      and_chooses i u kept there gives m w true is =
          leaves_open AndAlso (Binary l AndAlso first second) first second typed.0 typed.1 and_first and_second and_here follows A post go rest x y from low t related goes i u kept there (λ a h. record { operand = i; is_given = gives; chosen = subst (λ c. Chosen c (Gives g.frame.core g.outcome s second a) (a ≡ Num (pos 0))) (sym is) h }) m w
      and_chooses i u kept there gives m w false is =
          let is_so : i ≡ pos 0 = truth_zero i is in
          subst (λ k. Follows g.frame.skip post (x + 14) y m (go (Num k) m w s) (λ j. running g rest j w u)) is_so
          (settles AndAlso (Binary l AndAlso first second) first second typed.0 typed.1 and_first and_second and_here follows A post go rest x y from low t related goes i u kept there (record { operand = i; is_given = gives; chosen = subst (λ c. Chosen c (Gives g.frame.core g.outcome s second (Num i)) (Num i ≡ Num (pos 0))) (sym is) (ap Num is_so) }) m w)

      and_goes : (n : ℕ) (w : World) → Follows g.frame.skip post x y n (bind (eval g.frame.core g.outcome (Binary l AndAlso first second)) go n w s) (λ j. running g ((raw g.frame (Binary l AndAlso first second) from).before ++ rest) j w t)
      and_goes n w = operands_follow AndAlso (Binary l AndAlso first second) first second typed.0 typed.1 and_first and_second and_here follows A post go rest x y from low t related and_also as_is and_tests and_chooses follows_first chain_first n w

    pub and_object : ObjectFollows g objects s (Binary l AndAlso first second)
    and_object A post go rest x y from low t related goes n w = and_goes A post go rest x y from low t related goes n w

  -- ---- either operator, and chains of both

  pub logic_object : (l : Label) (op : BinOp) (first second : ExprCore) → IsTrue (is_logic op) → ExprTyped g.env g.scope (Binary l op first second) → RawFollows g objects s first → (IsTrue (is_truth_chain first) → ObjectFollows g objects s first) → RawFollows g objects s second
      → ObjectFollows g objects s (Binary l op first second)
  logic_object l op.OrElse first second h typed alone in_object follows = or_object l first second typed alone in_object follows
  logic_object l op.AndAlso first second h typed alone in_object follows = and_object l first second typed alone in_object follows
  logic_object l op.Or first second h typed alone in_object follows = let no_ : ⊥ = cc in absurd no_
  logic_object l op.Xor first second h typed alone in_object follows = let no_ : ⊥ = cc in absurd no_
  logic_object l op.And first second h typed alone in_object follows = let no_ : ⊥ = cc in absurd no_
  logic_object l op.Eq first second h typed alone in_object follows = let no_ : ⊥ = cc in absurd no_
  logic_object l op.Ne first second h typed alone in_object follows = let no_ : ⊥ = cc in absurd no_
  logic_object l op.Lt first second h typed alone in_object follows = let no_ : ⊥ = cc in absurd no_
  logic_object l op.Le first second h typed alone in_object follows = let no_ : ⊥ = cc in absurd no_
  logic_object l op.Gt first second h typed alone in_object follows = let no_ : ⊥ = cc in absurd no_
  logic_object l op.Ge first second h typed alone in_object follows = let no_ : ⊥ = cc in absurd no_
  logic_object l op.Shl first second h typed alone in_object follows = let no_ : ⊥ = cc in absurd no_
  logic_object l op.Shr first second h typed alone in_object follows = let no_ : ⊥ = cc in absurd no_
  logic_object l op.Add first second h typed alone in_object follows = let no_ : ⊥ = cc in absurd no_
  logic_object l op.Sub first second h typed alone in_object follows = let no_ : ⊥ = cc in absurd no_
  logic_object l op.WrapAdd first second h typed alone in_object follows = let no_ : ⊥ = cc in absurd no_
  logic_object l op.WrapSub first second h typed alone in_object follows = let no_ : ⊥ = cc in absurd no_
  logic_object l op.Mul first second h typed alone in_object follows = let no_ : ⊥ = cc in absurd no_
  logic_object l op.Div first second h typed alone in_object follows = let no_ : ⊥ = cc in absurd no_
  logic_object l op.Rem first second h typed alone in_object follows = let no_ : ⊥ = cc in absurd no_
  logic_object l op.WrapMul first second h typed alone in_object follows = let no_ : ⊥ = cc in absurd no_

  pub chain_follows : (l : Label) (e : ExprCore) → ExprTyped g.env g.scope (Whole l e) → ObjectFollows g objects s e → ObjectFollows g objects s (Whole l e)
  chain_follows l e typed follows A post go rest x y from low t related goes n w =
      let whole : WholeTyped l (type_of e) = typed.1 in
      follows A post go rest x y from low t related
      (record { by = λ v u gives kept h m i. goes.by v u gives kept (subst (λ ty. InObject g.program (scalar_for g.frame.table ty) t (raw g.frame e from) v u) (sym whole.type) h) m i }) n w
