-- `? :`: an object without a value, which is assigned in the block of the arm that is taken.
use Rattle.std.proofs.Common.{◌≡◌, ℕ, suc, ◌+◌, ◌<◌, ◌≤◌, ℤ, pos, Bool, true, false, List, [], ◌∷◌, ◌++◌, length, Option, Some, None, Result, Ok, Err, refl, sym, ◌∙◌, ap, subst, arith, append_assoc}
use Rattle.std.specs.Prelude.{if◌then◌else◌, not, IsTrue}
use Rattle.std.specs.Ordering.{int_eq}
use Rattle.run_records.specs.declared.Reason.{Reason}
use Rattle.step_semantics.specs.Control.{Control, onward}
use Rattle.step_semantics.specs.Follows.{Follows}
use Rattle.step_semantics.specs.Steps.{World, Progress, Part, after, bind, tick, ticks, left, block}
use Rattle.step_semantics.specs.Takes.{Reaches}
use Rattle.step_semantics.proofs.Equations.{after_after, tick_then, ticks_same, ticks_last}
use Rattle.step_semantics.proofs.Following.{eased}
use Rattle.step_semantics.proofs.Paying.{reaches_more, pays_to}
use Rattle.area_objects.specs.Both.{Map}
use Rattle.source_types.specs.Values.{is_reference}
use Rattle.core_tree.specs.Syntax.{Label, ExprCore, Cond, type_of}
use Rattle.core_tree.specs.TypedExpressions.{CondTyped, ExprTyped}
use Rattle.core_meaning.specs.Checks.{on_truth}
use Rattle.core_meaning.specs.Expressions.{eval}
use Rattle.core_meaning.specs.Gives.{Gives, Chosen}
use Rattle.core_meaning.specs.State.{State}
use Rattle.core_meaning.specs.Values.{Value, Num, Ref}
use Rattle.region_soundness.specs.Fitting.{ValueFits}
use Rattle.c_ast.specs.declared.CBinary.{CBinary}
use Rattle.c_ast.specs.declared.CBinary.TheVariants.{Add, Sub, Mul, Div, Rem, And, Or, Xor, Shl, Shr, Eq, Ne, Lt, Le, Gt, Ge, AndAlso, OrElse}
use Rattle.c_ast.specs.declared.CUnary.TheVariants.{Not}
use Rattle.c_ast.specs.declared.CKind.TheVariants.{Scalar}
use Rattle.c_ast.specs.declared.CScalar.{CScalar}
use Rattle.c_ast.specs.declared.CScalar.TheVariants as scalar
use Rattle.c_ast.specs.Conversions.{can_hold}
use Rattle.c_ast.specs.Syntax as c
use Rattle.c_ast.specs.Syntax.{Name, Expr, Var, Stmt, Object, IfElse}
use Rattle.c_ast.specs.Targets.{TargetTable, table_of}
use Rattle.c_ast.specs.View.{stmts_from}
use Rattle.c_meaning.specs.Expressions as target
use Rattle.c_meaning.specs.Operators.{unary, binary, truth, with_number}
use Rattle.c_meaning.specs.State.{Program, CState, leave}
use Rattle.c_meaning.specs.Values as values
use Rattle.c_meaning.specs.Values.{CValue, Trouble, is_true, on_ok}
use Rattle.lower_types.specs.Names.{local_name}
use Rattle.lower_types.specs.Types.{scalar_for}
use Rattle.lower_values.specs.Choices.{condition, into}
use Rattle.lower_values.specs.Expressions.{raw}
use Rattle.lower_values.specs.Frames.{base_in}
use Rattle.lower_values.specs.Pieces.{Piece, pad, paid}
use Rattle.value_refinement.specs.Kept.{Kept}
use Rattle.value_refinement.specs.Laws.{owing, spare, Stage, running, RawFollows}
use Rattle.value_refinement.specs.Related.{Related}
use Rattle.value_refinement.specs.Settings.{Setting, Set}
use Rattle.form_answers.specs.Standing.{Converts, Stands, TestIs}
use Rattle.value_refinement.specs.Values.{Simple, Comes}
use Rattle.value_refinement.proofs.Arms.{no_reference, stands_converts, truth_reaches, owing_few, GoesOn, ObjectFollows, given_held, arm_follows}
use Rattle.value_refinement.proofs.Growing.{raw_grows}
use Rattle.value_refinement.proofs.Keeping.{kept_twice}
use Rattle.value_refinement.proofs.Objects.{ObjectIs, temporary_is_old, takes_object}
use Rattle.value_refinement.proofs.Running.{runs_first, takes_pad}

-- ---- conditions

-- what is not equal is what is not
unequal_tests : (t : TargetTable) (x y : Result ℤ Reason) (b : Bool) → on_ok (with_number x (λ v. with_number y (λ w. Ok (truth (int_eq v w))))) is_true ≡ Ok b
    → on_ok (on_ok (with_number x (λ v. with_number y (λ w. Ok (truth (not (int_eq v w)))))) (unary t Not)) is_true ≡ Ok b
unequal_tests t (Err why) y b h = let no_ : ⊥ = cc in absurd no_
unequal_tests t (Ok v) (Err why) b h = let no_ : ⊥ = cc in absurd no_
unequal_tests t (Ok v) (Ok w) b h = go (int_eq v w) h where
  go : (same : Bool) → on_ok (Ok (truth same)) is_true ≡ Ok b → on_ok (on_ok (Ok (truth (not same))) (unary t Not)) is_true ≡ Ok b
  go true h = h
  go false h = h

equality_tests : (t : TargetTable) (l r : Result CValue Trouble) (b : Bool) → on_ok (on_ok l (λ v. binary t Eq v r)) is_true ≡ Ok b → on_ok (on_ok (on_ok l (λ v. binary t Ne v r)) (unary t Not)) is_true ≡ Ok b
equality_tests t (Err why) r b h = let no_ : ⊥ = cc in absurd no_
equality_tests t (Ok v) (Err why) b h = let no_ : ⊥ = cc in absurd no_
equality_tests t (Ok (values.Ptr constant base to)) (Ok w) b h = let no_ : ⊥ = cc in absurd no_
equality_tests t (Ok (values.Num k x)) (Ok (values.Ptr constant base to)) b h = let no_ : ⊥ = cc in absurd no_
equality_tests t (Ok (values.Num k x)) (Ok (values.Num l y)) b h = unequal_tests t _ _ b h

module _ (p : Program) (u : CState) where
  operator_tests : (o : CBinary) (x y : Expr) (b : Bool) → TestIs p u (c.Binary o x y) b → TestIs p u (condition (c.Binary o x y)) b
  operator_tests Eq x y b h = equality_tests (table_of p.target) (target.eval p x u) (target.eval p y u) b h
  operator_tests Ne x y b h = h
  operator_tests Add x y b h = h
  operator_tests Sub x y b h = h
  operator_tests Mul x y b h = h
  operator_tests Div x y b h = h
  operator_tests Rem x y b h = h
  operator_tests And x y b h = h
  operator_tests Or x y b h = h
  operator_tests Xor x y b h = h
  operator_tests Shl x y b h = h
  operator_tests Shr x y b h = h
  operator_tests Lt x y b h = h
  operator_tests Le x y b h = h
  operator_tests Gt x y b h = h
  operator_tests Ge x y b h = h
  operator_tests AndAlso x y b h = h
  operator_tests OrElse x y b h = h

  -- a condition is true just where the expression is
  pub condition_tests : (e : Expr) (b : Bool) → TestIs p u e b → TestIs p u (condition e) b
  condition_tests (c.Number n suffix) b h = h
  condition_tests (c.Read place) b h = h
  condition_tests (c.Address place) b h = h
  condition_tests (c.Unary o e) b h = h
  condition_tests (c.Binary o x y) b h = operator_tests o x y b h
  condition_tests (c.Cast to e) b h = h
  condition_tests (c.Cond e x y) b h = h

  truth_kept : (none : Bool) (n : ℤ) → Some (if none then pos 0 else pos 1) ≡ Some n → not (int_eq n (pos 0)) ≡ not none
  truth_kept true n e = let is : n ≡ pos 0 = cc in ap (λ i. not (int_eq i (pos 0))) is
  truth_kept false n e = let is : n ≡ pos 1 = cc in ap (λ i. not (int_eq i (pos 0))) is

  -- what is a truth once it is converted tells so
  pub truth_tests : (e : Expr) (n : ℤ) → Converts p u scalar.Truth e n → TestIs p u e (not (int_eq n (pos 0)))
  truth_tests e n h = ap (λ r. on_ok r is_true) h.gives ∙ ap Ok (sym (truth_kept (int_eq h.number (pos 0)) n h.converted))

-- ---- the test

module _ (g : Setting) where
  -- what is owed is paid by a statement that does nothing
  pub pads_reach : (b : Bool) (rest : List Stmt) (w : World) (u : CState) → Reaches (owing b) w (λ j. running g (paid b ++ rest) j w u) (λ j. running g rest j w u)
  pads_reach true rest w u = runs_first g 1 pad rest w u u (takes_pad g w u)
  pads_reach false rest w u = record { waits = λ j lt. absurd (omega (arith, lt)); comes = λ j. let e : 0 + j ≡ j = omega arith in ap (λ i. running g rest i w u) e }

module _ (g : Setting) (set : Set g) (objects : Map) (s : State) (stage : Stage g s) (l : Label) (test first second : ExprCore) (typed : ExprTyped g.env g.scope (Cond l test first second)) where
  cond_typed : CondTyped l (type_of test) (type_of first) (type_of second)
  cond_typed = typed.3

  module _ (A : Type 0) (post : A → State → Control (Option CValue) → CState → Type 0) (go : Value → Part State A) (rest : List Stmt) (x y from : ℕ) (low : g.first ≤ from) (t : CState) (related : Related g objects s t)
      (goes : GoesOn g objects s post go rest x y from (raw g.frame (Cond l test first second) from) (Cond l test first second) t) where
    abbrev whole : ExprCore
    whole = Cond l test first second

    abbrev test_piece : Piece
    test_piece = raw g.frame test from

    -- the object's number
    abbrev arm : ℕ
    arm = test_piece.next

    abbrev first_piece : Piece
    first_piece = raw g.frame first (suc arm)

    abbrev second_piece : Piece
    second_piece = raw g.frame second first_piece.next

    below : arm < second_piece.next
    below =
        let a : suc arm ≤ first_piece.next = raw_grows g.frame first (suc arm) in
        let b : first_piece.next ≤ second_piece.next = raw_grows g.frame second first_piece.next in omega (arith, a, b)

    abbrev arm_object : Stmt
    arm_object = Object (local_name arm) (base_in g.frame l.ty) None

    abbrev both_arms : Stmt
    both_arms = IfElse (condition test_piece.value) (stmts_from (into (Var (local_name arm)) first_piece)) (stmts_from (into (Var (local_name arm)) second_piece))

    -- an arm that is taken
    arm_goes : (e : ExprCore) → ExprTyped g.env g.scope e → (same : type_of e ≡ l.ty) → RawFollows g objects s e → (k : ℕ) → suc arm ≤ k → ((v : Value) → Gives g.frame.core g.outcome s e v → Gives g.frame.core g.outcome s whole v)
        → (o : ℕ) → length t.objects ≤ o → (u : CState) → Kept g.program from t u → from ≤ arm → ObjectIs g.program u (local_name arm) (scalar_for g.frame.table l.ty) o None → (m : ℕ) (w : World)
        → Follows g.frame.skip post (x + 14) y m (bind (eval g.frame.core g.outcome e) go m w s) (λ j. after (left leave u (running g (into (Var (local_name arm)) (raw g.frame e k)) j w u)) (onward (running g rest)))
    arm_goes e typed_arm same follows k le gives o since u kept grows object m w =
        let name : Name = local_name arm in
        eased g.frame.skip post (suc x) y (x + 14) y m (bind (eval g.frame.core g.outcome e) go m w s) (λ j. after (left leave u (running g (into (Var name) (raw g.frame e k)) j w u)) (onward (running g rest))) (omega arith) (omega arith)
        (arm_follows g set objects s stage e typed_arm (subst (λ ty. IsTrue (not (is_reference ty))) (sym same) cond_typed.value) t u from k low (omega (arith, grows, le)) kept name (temporary_is_old arm k (omega (arith, le))) o since None
        (subst (λ ty. ObjectIs g.program u name (scalar_for g.frame.table ty) o None) (sym same) object) follows related A post go rest x y
        (λ v q h i z.
        goes.by v q (gives v h.gives) h.kept
        (record {
          owed = refl;
          exact = refl;
          temporary = arm;
          below = below;
          value_is = refl;
          object = o;
          since = since;
          number = h.number;
          is = h.is;
          holds = subst (λ ty. ObjectIs g.program q name (scalar_for g.frame.table ty) o (Some h.number)) same h.holds;
        }) i z)
        m w)

    abbrev chosen_part : Bool → Part State Value
    chosen_part holds = if holds then eval g.frame.core g.outcome first else eval g.frame.core g.outcome second

    abbrev chosen_arm : Bool → Part CState (Control (Option CValue))
    chosen_arm holds = if holds then block leave (running g (into (Var (local_name arm)) first_piece)) else block leave (running g (into (Var (local_name arm)) second_piece))

    abbrev onto : Value → Part State Value
    onto v = on_truth g.frame.core v (λ holds. tick (chosen_part holds))

    module _ (follows_first : RawFollows g objects s first) (follows_second : RawFollows g objects s second) where
      either_goes : (i : ℤ) → Gives g.frame.core g.outcome s test (Num i) → (o : ℕ) → length t.objects ≤ o → (u : CState) → Kept g.program from t u → from ≤ arm → ObjectIs g.program u (local_name arm) (scalar_for g.frame.table l.ty) o None
          → (m : ℕ) (w : World) (b : Bool) → not (int_eq i (pos 0)) ≡ b → Follows g.frame.skip post (x + 14) y m (bind (chosen_part b) go m w s) (λ j. after (chosen_arm b j w u) (onward (running g rest)))
      either_goes i gives o since u kept grows object m w true is =
          arm_goes first typed.1 cond_typed.first_is follows_first (suc arm) (omega arith)
          (λ v h. record { operand = i; is_given = gives; chosen = subst (λ b. Chosen b (Gives g.frame.core g.outcome s first v) (Gives g.frame.core g.outcome s second v)) (sym is) h })
          o since u kept grows object m w
      either_goes i gives o since u kept grows object m w false is =
          arm_goes second typed.2 cond_typed.second_is follows_second first_piece.next (raw_grows g.frame first (suc arm))
          (λ v h. record { operand = i; is_given = gives; chosen = subst (λ b. Chosen b (Gives g.frame.core g.outcome s first v) (Gives g.frame.core g.outcome s second v)) (sym is) h })
          o since u kept grows object m w

      test_goes : (v : Value) (u : CState) → ValueFits g.frame.core stage.entry s.areas (type_of test) v → Gives g.frame.core g.outcome s test v → Comes g objects s from test_piece (type_of test) t v u
          → (m : ℕ) (w : World) → Follows g.frame.skip post (x + spare test_piece) y m (ticks (owing test_piece.owed) (λ i q a. bind (onto v) go i q a) m w s) (λ j. running g (paid test_piece.owed ++ (arm_object ∷ both_arms ∷ rest)) j w u)
      test_goes (Ref area path) u fits gives comes m w =
          absurd (no_reference g.frame.core stage.entry s.areas (type_of test) area path (subst (λ ty. IsTrue (not (is_reference ty))) (sym cond_typed.test_is) refl) fits)
      test_goes (Num i) u fits gives comes m w =
          let p : Piece = test_piece in
          let k : CScalar = scalar_for g.frame.table (type_of test) in
          let d = takes_object g w u arm (scalar_for g.frame.table l.ty) in
          let v : CState = d.0 in
          let can : IsTrue (can_hold (table_of g.program.target) (Scalar k) i) = given_held g set objects s stage test typed.0 (Num i) i refl gives in
          let both : Simple g.program v p.standing p.owed p.value × Stands p.standing g.program v k p.value i = comes.stands v d.2.kept in
          let truth_is : Converts g.program v scalar.Truth p.value i =
          subst (λ ty. Converts g.program v (scalar_for g.frame.table ty) p.value i) cond_typed.test_is (stands_converts g.program v p.standing k p.value i both.1 can) in
          let b : Bool = not (int_eq i (pos 0)) in
          let tests : TestIs g.program v (condition p.value) b = condition_tests g.program v p.value b (truth_tests g.program v p.value i truth_is) in
          let rest_of : List Stmt = arm_object ∷ both_arms ∷ rest in
          let later : ℕ → Progress CState (Control (Option CValue)) = λ j. after (chosen_arm b j w v) (onward (running g rest)) in
          let few : owing p.owed ≤ 1 = owing_few p.owed in
          subst (λ r. Follows g.frame.skip post (x + spare p) y m r (λ j. running g (paid p.owed ++ rest_of) j w u))
          (sym (ticks_same (owing p.owed) (bind (onto (Num i)) go) (tick (bind (chosen_part b) go)) (λ j q a. tick_then (chosen_part b) go j q a) m w s ∙ ticks_last (owing p.owed) (bind (chosen_part b) go) m w s))
          (pays_to g.frame.skip post (owing p.owed + (1 + 1)) (suc (owing p.owed)) (x + spare p) (x + 14) y (bind (chosen_part b) go) w s (omega arith) (omega arith) (λ j. running g (paid p.owed ++ rest_of) j w u) later
          (reaches_more (owing p.owed) (1 + 1) w (λ j. running g (paid p.owed ++ rest_of) j w u) (λ j. running g rest_of j w u) later (pads_reach g p.owed rest_of w u)
          (reaches_more 1 1 w (λ j. running g rest_of j w u) (λ j. running g (both_arms ∷ rest) j w v) later (runs_first g 1 arm_object (both_arms ∷ rest) w u v d.1)
          (truth_reaches g (condition p.value) b chosen_arm rest w v tests)))
          (λ j. either_goes i gives (length u.objects) comes.kept.count v (kept_twice g.program from arm t u v comes.grows comes.kept d.2.kept) comes.grows d.2.object j w b refl) m)

  pub cond_object : RawFollows g objects s test → RawFollows g objects s first → RawFollows g objects s second → ObjectFollows g objects s (Cond l test first second)
  cond_object follows_test follows_first follows_second A post go rest x y from low t related goes n w =
      let core = g.frame.core in
      let p : Piece = raw g.frame test from in
      let o : Stmt = arm_object A post go rest x y from low t related goes in
      let i : Stmt = both_arms A post go rest x y from low t related goes in
      let next : Value → Part State Value = onto A post go rest x y from low t related goes in
      subst (λ r. Follows g.frame.skip post x y n r (λ j. running g ((raw g.frame (Cond l test first second) from).before ++ rest) j w t)) (sym (after_after (eval core g.outcome test n w s) next go))
      (subst (λ ss. Follows g.frame.skip post x y n (bind (eval core g.outcome test) (λ v. bind (next v) go) n w s) (λ j. running g ss j w t))
      (sym (append_assoc (p.before ++ paid p.owed) (o ∷ i ∷ []) rest ∙ append_assoc p.before (paid p.owed) (o ∷ i ∷ rest)))
      (follows_test A post (λ v. bind (next v) go) (paid p.owed ++ (o ∷ i ∷ rest)) x y from low t related
      (record { by = λ v u gives comes m z. test_goes A post go rest x y from low t related goes follows_first follows_second v u (stage.fits test v typed.0 gives) gives comes m z }) n w))
