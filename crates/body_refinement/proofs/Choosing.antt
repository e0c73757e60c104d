-- A choice of statements follows the source's: the test takes the step of the choice, and then both go the same way.
use Rattle.std.proofs.Common.{◌≡◌, ℕ, ◌+◌, ◌≤◌, pos, Bool, [], ◌∷◌, ◌++◌, Option, refl, sym, ◌∙◌, ap, subst, arith, append_assoc}
use Rattle.std.specs.Prelude.{not, IsTrue}
use Rattle.std.specs.Ordering.{int_eq}
use Rattle.step_semantics.specs.Control.{Control, Falls, Broke, Returned, onward}
use Rattle.step_semantics.specs.Follows.{Follows}
use Rattle.step_semantics.specs.Steps.{World, Progress, Finished, Halted, Exhausted, Part, after, bind, tick, ticks}
use Rattle.step_semantics.specs.Takes.{Reaches}
use Rattle.step_semantics.proofs.Paying.{pays_to}
use Rattle.area_types.specs.Syntax.{Truth}
use Rattle.source_types.specs.Values.{is_reference}
use Rattle.core_tree.specs.Checks.{expr_checks}
use Rattle.core_tree.specs.Syntax.{ExprCore, type_of}
use Rattle.core_tree.specs.TypedExpressions.{HasType}
use Rattle.core_meaning.specs.Checks.{on_truth}
use Rattle.core_meaning.specs.Expressions.{eval}
use Rattle.core_meaning.specs.Gives.{Gives}
use Rattle.core_meaning.specs.State.{State}
use Rattle.core_meaning.specs.Statements.{Flow}
use Rattle.core_meaning.specs.Values.{Value, Num, Ref}
use Rattle.region_soundness.specs.Fitting.{ValueFits}
use Rattle.c_ast.specs.declared.CKind.TheVariants.{Scalar}
use Rattle.c_ast.specs.declared.CScalar.{CScalar}
use Rattle.c_ast.specs.declared.CScalar.TheVariants as scalar
use Rattle.c_ast.specs.Conversions.{can_hold}
use Rattle.c_ast.specs.Syntax.{Stmt}
use Rattle.c_ast.specs.Targets.{table_of}
use Rattle.c_meaning.specs.State.{CState}
use Rattle.c_meaning.specs.Statements.{exec, with_truth}
use Rattle.c_meaning.specs.Values.{CValue}
use Rattle.area_objects.specs.Both.{Map}
use Rattle.lower_types.specs.Types.{scalar_for}
use Rattle.lower_values.specs.Choices.{condition}
use Rattle.lower_values.specs.Expressions.{raw}
use Rattle.lower_values.specs.Pieces.{Piece, paid}
use Rattle.form_answers.specs.Standing.{Converts, Stands, TestIs}
use Rattle.value_refinement.specs.Kept.{Kept}
use Rattle.value_refinement.specs.Laws.{Numbered, Stage, owing, spare, running}
use Rattle.value_refinement.specs.Related.{Related}
use Rattle.value_refinement.specs.Settings.{Setting, Set}
use Rattle.value_refinement.specs.Values.{Comes, Simple}
use Rattle.value_refinement.proofs.Arms.{given_held, no_reference, stands_converts, truth_reaches}
use Rattle.value_refinement.proofs.Choices.{condition_tests, truth_tests}
use Rattle.value_refinement.proofs.Expressions.{raw_all}
use Rattle.value_refinement.proofs.Keeping.{kept_same}
use Rattle.value_refinement.proofs.Operands.{padded}

-- the last statement of a row
pub nothing_after : {S V : Type 0} (r : Progress S (Control V)) (rest : Part S (Control V)) → ((n : ℕ) (w : World) (s : S) → rest n w s ≡ Finished Falls w s n) → after r (onward rest) ≡ r
nothing_after (Finished Falls w s n) rest h = h n w s
nothing_after (Finished Broke w s n) rest h = refl
nothing_after (Finished (Returned v) w s n) rest h = refl
nothing_after (Halted how w seen) rest h = refl
nothing_after (Exhausted w) rest h = refl

module _ (g : Setting) (set : Set g) (objects : Map) (s : State) (stage : Stage g s) (e : ExprCore) (typed : HasType g.env g.scope e Truth) (small : Numbered (expr_checks e))
    (post : Flow → State → Control (Option CValue) → CState → Type 0) (from : ℕ) (le : g.first ≤ from) (t : CState) (related : Related g objects s t)
    (sides : Bool → Part State Flow) (arms : Bool → Part CState (Control (Option CValue))) (choice : Stmt)
    (is : (j : ℕ) (w : World) (u : CState) → exec g.program g.functions choice j w u ≡ with_truth g.program (condition (raw g.frame e from).value) arms j w u)
    (next : (u : CState) → Kept g.program from t u → (b : Bool) (m : ℕ) (w : World) → Follows g.frame.skip post 0 0 m (sides b m w s) (λ j. arms b j w u)) where
  abbrev piece : Piece
  piece = raw g.frame e from

  abbrev onto : Value → Part State Flow
  onto v = on_truth g.frame.core v (λ holds. tick (sides holds))

  choice_reaches : (b : Bool) (u : CState) (w : World) → TestIs g.program u (condition piece.value) b → Reaches 1 w (λ j. running g (choice ∷ []) j w u) (λ j. arms b j w u)
  choice_reaches b u w tests =
      let r = truth_reaches g (condition piece.value) b arms [] w u tests in
      let same : (j : ℕ) → running g (choice ∷ []) j w u ≡ after (with_truth g.program (condition piece.value) arms j w u) (onward (running g [])) = λ j. ap (λ q. after q (onward (running g []))) (is j w u) in
      record {
        waits = λ j lt. same j ∙ r.waits j lt;
        comes = λ j. same (1 + j) ∙ r.comes j ∙ nothing_after (arms b j w u) (running g []) (λ n a z. refl);
      }

  goes : (v : Value) (u : CState) → ValueFits g.frame.core stage.entry s.areas (type_of e) v → Gives g.frame.core g.outcome s e v → Comes g objects s from piece (type_of e) t v u
      → (m : ℕ) (w : World) → Follows g.frame.skip post (0 + spare piece) 0 m (ticks (owing piece.owed) (onto v) m w s) (λ j. running g (paid piece.owed ++ (choice ∷ [])) j w u)
  goes (Ref area path) u fits gives comes m w =
      absurd (no_reference g.frame.core stage.entry s.areas (type_of e) area path (subst (λ ty. IsTrue (not (is_reference ty))) (sym typed.type) refl) fits)
  goes (Num i) u fits gives comes m w =
      let p : Piece = piece in
      let k : CScalar = scalar_for g.frame.table (type_of e) in
      let can : IsTrue (can_hold (table_of g.program.target) (Scalar k) i) = given_held g set objects s stage e typed.typed (Num i) i refl gives in
      let both : Simple g.program u p.standing p.owed p.value × Stands p.standing g.program u k p.value i = comes.stands u (kept_same g.program p.next u) in
      let truth_is : Converts g.program u scalar.Truth p.value i =
      subst (λ ty. Converts g.program u (scalar_for g.frame.table ty) p.value i) typed.type (stands_converts g.program u p.standing k p.value i both.1 can) in
      let b : Bool = not (int_eq i (pos 0)) in
      let tests : TestIs g.program u (condition p.value) b = condition_tests g.program u p.value b (truth_tests g.program u p.value i truth_is) in
      padded g s post (onto (Num i)) (choice ∷ []) 0 0 (spare p) u w p.owed
      (λ j. pays_to g.frame.skip post 1 1 0 0 0 (sides b) w s (omega arith) (omega arith) (λ q. running g (choice ∷ []) q w u) (λ q. arms b q w u) (choice_reaches b u w tests) (λ q. next u comes.kept b q w) j) m

  pub choosing_follows : (n : ℕ) (w : World) → Follows g.frame.skip post 0 0 n (bind (eval g.frame.core g.outcome e) onto n w s) (λ j. running g ((piece.before ++ paid piece.owed) ++ (choice ∷ [])) j w t)
  choosing_follows n w =
      subst (λ ss. Follows g.frame.skip post 0 0 n (bind (eval g.frame.core g.outcome e) onto n w s) (λ j. running g ss j w t)) (sym (append_assoc piece.before (paid piece.owed) (choice ∷ [])))
      (raw_all g set objects s stage e typed.typed small Flow post onto (paid piece.owed ++ (choice ∷ [])) 0 0 from le t related
      (record { by = λ v u gives comes m z. goes v u (stage.fits e v typed.typed gives) gives comes m z }) n w)
