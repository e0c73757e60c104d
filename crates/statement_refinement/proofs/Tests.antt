-- A test of a condition follows the source's: where the condition holds both go on, and where it does not both stop at its site, unless that
-- is left out.
use Rattle.std.proofs.Common.{◌≡◌, ℕ, zero, suc, ◌+◌, ◌^◌, ◌<◌, ◌≤◌, pos, Bool, true, false, List, [], ◌∷◌, ◌++◌, Option, None, refl, sym, ◌∙◌, ap, subst, arith, append_assoc, append-nil}
use Rattle.std.specs.Prelude.{if◌then◌else◌, not, All, IsTrue}
use Rattle.std.specs.Ordering.{int_eq}
use Rattle.std.proofs.lemmas.List.Elements.{All-head, All-tail}
use Rattle.step_semantics.specs.Control.{Control, Falls}
use Rattle.step_semantics.specs.Follows.{Follows, Ends, Owed}
use Rattle.step_semantics.specs.Steps.{World, Halted, Exhausted, FailedCheck, Part, give, bind, tick, ticks}
use Rattle.step_semantics.specs.Takes.{Reaches}
use Rattle.step_semantics.proofs.Equations.{after_after, after_give, tick_then}
use Rattle.step_semantics.proofs.Following.{rests}
use Rattle.step_semantics.proofs.Paying.{pays_to}
use Rattle.area_types.specs.Syntax.{Truth}
use Rattle.area_objects.specs.Both.{Map}
use Rattle.source_types.specs.Values.{is_reference}
use Rattle.core_tree.specs.Checks.{expr_checks}
use Rattle.core_tree.specs.declared.Check.{Check}
use Rattle.core_tree.specs.Syntax.{ExprCore, ContractCore, Assert, type_of}
use Rattle.core_tree.specs.TypedExpressions.{HasType}
use Rattle.core_meaning.specs.Calls.{Calls}
use Rattle.core_meaning.specs.Checks.{passes, on_truth}
use Rattle.core_meaning.specs.Conditions as source
use Rattle.core_meaning.specs.Conditions.{Ensured, tested_all}
use Rattle.core_meaning.specs.Expressions.{eval}
use Rattle.core_meaning.specs.Gives.{Gives}
use Rattle.core_meaning.specs.State.{State, seen}
use Rattle.core_meaning.specs.Statements.{Flow, exec}
use Rattle.core_meaning.specs.Values.{Value, Num, Ref}
use Rattle.region_soundness.specs.Fitting.{ValueFits}
use Rattle.c_ast.specs.declared.CKind.TheVariants.{Scalar}
use Rattle.c_ast.specs.declared.CScalar.{CScalar}
use Rattle.c_ast.specs.declared.CScalar.TheVariants as scalar
use Rattle.c_ast.specs.Conversions.{can_hold}
use Rattle.c_ast.specs.Syntax.{Expr, Stmt}
use Rattle.c_ast.specs.Targets.{table_of}
use Rattle.c_meaning.specs.State.{CState}
use Rattle.c_meaning.specs.Values.{CValue}
use Rattle.lower_types.specs.Types.{scalar_for}
use Rattle.lower_values.specs.Expressions.{raw}
use Rattle.lower_values.specs.Pieces.{Piece, pad, paid}
use Rattle.lower_values.specs.Tests.{test, test_for}
use Rattle.lower_statements.specs.Conditions.{tested, contract_tests}
use Rattle.form_answers.specs.Standing.{Converts, Stands, TestIs}
use Rattle.value_refinement.specs.Kept.{Kept}
use Rattle.value_refinement.specs.Laws.{Numbered, Stage, owing, spare, running}
use Rattle.value_refinement.specs.Related.{Related}
use Rattle.value_refinement.specs.Settings.{Setting, Set}
use Rattle.value_refinement.specs.Values.{Comes, Simple}
use Rattle.value_refinement.proofs.Arms.{given_held, no_reference, stands_converts}
use Rattle.value_refinement.proofs.Choices.{truth_tests}
use Rattle.value_refinement.proofs.Expressions.{raw_all}
use Rattle.value_refinement.proofs.Growing.{raw_grows}
use Rattle.value_refinement.proofs.Keeping.{kept_same, kept_twice}
use Rattle.value_refinement.proofs.NumberForms.{areas_alike}
use Rattle.value_refinement.proofs.Operands.{padded}
use Rattle.value_refinement.proofs.Running.{runs_first, takes_pad, takes_test, stops_test, test_waits}
use Rattle.value_refinement.proofs.Standings.{related_on}
use Rattle.statement_refinement.specs.Tests.{Passed, AssertDone}

-- ---- one test

module _ (g : Setting) (set : Set g) (objects : Map) (s : State) (u : CState) (related : Related g objects s u) (A : Type 0) (post : A → State → Control (Option CValue) → CState → Type 0) (go : Unit {0} → Part State A) (rest : List Stmt) (x y : ℕ)
    (cond : Expr) (check : Check) where
  abbrev passing : Bool → Part State (Unit {0})
  passing b = tick (passes g.frame.core ((check.site, b) ∷ []) (give tt))

  -- the statement, whether its site is left out or not
  abbrev test_by : Bool → List Stmt
  test_by skipped = (if skipped then pad else test_for cond check.site) ∷ rest

  test_passes : (skipped : Bool) → TestIs g.program u cond true → (w : World) → Reaches 1 w (λ j. running g (test_by skipped) j w u) (λ j. running g rest j w u)
  test_passes true holds w = runs_first g 1 pad rest w u u (takes_pad g w u)
  test_passes false holds w = runs_first g 1 (test_for cond check.site) rest w u u (takes_test g w u cond check.site holds)

  first_waits : (skipped : Bool) → TestIs g.program u cond false → (w : World) → running g (test_by skipped) 0 w u ≡ Exhausted w
  first_waits true fails w = (runs_first g 1 pad rest w u u (takes_pad g w u)).waits 0 (omega arith)
  first_waits false fails w = test_waits g w u cond check.site rest fails

  test_stops : (skipped : Bool) → check.site < 2 ^ 32 → TestIs g.program u cond false → (m : ℕ) (w : World) → Owed skipped (Ends x (suc m) (FailedCheck check.site) w (seen g.frame.core s) (λ j. running g (test_by skipped) j w u))
  test_stops true small fails m w = tt
  test_stops false small fails m w =
      record { steps = 2; few = omega arith; is = stops_test g w u cond check.site rest small fails 0 ∙ ap (λ cells. Halted (FailedCheck check.site) w cells) (areas_alike g set objects s u related) }

  -- the step of the test, and what comes after it where it passes
  test_follows : (b : Bool) → check.site < 2 ^ 32 → TestIs g.program u cond b → ((m : ℕ) (w : World) → Follows g.frame.skip post x y m (go tt m w s) (λ j. running g rest j w u))
      → (n : ℕ) (w : World) → Follows g.frame.skip post x y n (bind (passing b) go n w s) (λ j. running g (test g.frame cond check ∷ rest) j w u)
  test_follows true small tests next n w =
      subst (λ r. Follows g.frame.skip post x y n r (λ j. running g (test g.frame cond check ∷ rest) j w u)) (sym (tick_then (give tt) go n w s))
      (pays_to g.frame.skip post 1 1 x x y (go tt) w s (omega arith) (omega arith) (λ j. running g (test g.frame cond check ∷ rest) j w u) (λ j. running g rest j w u) (test_passes (g.frame.skip check.site) tests w) (λ m. next m w) n)
  test_follows false small tests next zero w = record { steps = 0; many = omega arith; few = omega arith; is = first_waits (g.frame.skip check.site) tests w }
  test_follows false small tests next (suc m) w = test_stops (g.frame.skip check.site) small tests m w

-- ---- conditions

-- what is left of the source's test once its condition has a value
abbrev onto : Setting → Check → Value → Part State (Unit {0})
onto g check v = on_truth g.frame.core v (λ holds. tick (passes g.frame.core ((check.site, holds) ∷ []) (give tt)))

module _ (g : Setting) (set : Set g) (objects : Map) (s : State) (stage : Stage g s) where
  module _ (e : ExprCore) (typed : HasType g.env g.scope e Truth) (check : Check) (small : Numbered (check ∷ expr_checks e)) (A : Type 0) (post : A → State → Control (Option CValue) → CState → Type 0) (go : Unit {0} → Part State A)
      (rest : List Stmt) (x y from : ℕ) (le : g.first ≤ from) (t : CState) (related : Related g objects s t)
      (next : (u : CState) → Kept g.program from t u → (m : ℕ) (w : World) → Follows g.frame.skip post x y m (go tt m w s) (λ j. running g rest j w u)) where
    abbrev cond_piece : Piece
    cond_piece = raw g.frame e from

    cond_goes : (v : Value) (u : CState) → ValueFits g.frame.core stage.entry s.areas (type_of e) v → Gives g.frame.core g.outcome s e v → Comes g objects s from cond_piece (type_of e) t v u
        → (m : ℕ) (w : World) → Follows g.frame.skip post (x + spare cond_piece) y m (ticks (owing cond_piece.owed) (bind (onto g check v) go) m w s) (λ j. running g (paid cond_piece.owed ++ (test g.frame cond_piece.value check ∷ rest)) j w u)
    cond_goes (Ref area path) u fits gives comes m w =
        absurd (no_reference g.frame.core stage.entry s.areas (type_of e) area path (subst (λ ty. IsTrue (not (is_reference ty))) (sym typed.type) refl) fits)
    cond_goes (Num i) u fits gives comes m w =
        let p : Piece = cond_piece in
        let k : CScalar = scalar_for g.frame.table (type_of e) in
        let can : IsTrue (can_hold (table_of g.program.target) (Scalar k) i) = given_held g set objects s stage e typed.typed (Num i) i refl gives in
        let both : Simple g.program u p.standing p.owed p.value × Stands p.standing g.program u k p.value i = comes.stands u (kept_same g.program p.next u) in
        let truth_is : Converts g.program u scalar.Truth p.value i =
        subst (λ ty. Converts g.program u (scalar_for g.frame.table ty) p.value i) typed.type (stands_converts g.program u p.standing k p.value i both.1 can) in
        let b : Bool = not (int_eq i (pos 0)) in
        padded g s post (bind (onto g check (Num i)) go) (test g.frame p.value check ∷ rest) x y (spare p) u w p.owed
        (λ j. test_follows g set objects s u (related_on g set objects s from le t u comes.kept related) A post go rest x y p.value check b (All-head (λ c. c.site < 2 ^ 32) check (expr_checks e) small)
        (truth_tests g.program u p.value i truth_is) (λ q z. next u comes.kept q z) j w) m

    -- a test, and what comes after it
    pub tested_follows : (n : ℕ) (w : World) → Follows g.frame.skip post x y n (bind (source.tested g.frame.core g.outcome e check) go n w s) (λ j. running g ((tested g.frame e check from).stmts ++ rest) j w t)
    tested_follows n w =
        let p : Piece = cond_piece in
        let one : Stmt = test g.frame p.value check in
        subst (λ r. Follows g.frame.skip post x y n r (λ j. running g ((tested g.frame e check from).stmts ++ rest) j w t)) (sym (after_after (eval g.frame.core g.outcome e n w s) (onto g check) go))
        (subst (λ ss. Follows g.frame.skip post x y n (bind (eval g.frame.core g.outcome e) (λ v. bind (onto g check v) go) n w s) (λ j. running g ss j w t))
        (sym (append_assoc (p.before ++ paid p.owed) (one ∷ []) rest ∙ append_assoc p.before (paid p.owed) (one ∷ rest)))
        (raw_all g set objects s stage e typed.typed (All-tail (λ c. c.site < 2 ^ 32) check (expr_checks e) small) A post (λ v. bind (onto g check v) go) (paid p.owed ++ (one ∷ rest)) x y from le t related
        (record { by = λ v u gives comes m z. cond_goes v u (stage.fits e v typed.typed gives) gives comes m z }) n w))

  -- ---- contracts

  -- tests one after another, and what comes after them
  pub contracts_go_on : (cs : List ContractCore) → All (λ c. HasType g.env g.scope c.cond Truth) cs → All (λ c. Numbered (c.check ∷ expr_checks c.cond)) cs
      → (A : Type 0) (post : A → State → Control (Option CValue) → CState → Type 0) (go : Unit {0} → Part State A) (rest : List Stmt) (x y from : ℕ) → g.first ≤ from → (t : CState) → Related g objects s t
      → ((u : CState) → Kept g.program from t u → (m : ℕ) (w : World) → Follows g.frame.skip post x y m (go tt m w s) (λ j. running g rest j w u))
      → (n : ℕ) (w : World) → Follows g.frame.skip post x y n (bind (tested_all g.frame.core g.outcome cs) go n w s) (λ j. running g ((contract_tests g.frame cs from).stmts ++ rest) j w t)
  contracts_go_on [] typed small A post go rest x y from le t related next n w = next t (kept_same g.program from t) n w
  contracts_go_on (c ∷ cs) typed small A post go rest x y from le t related next n w =
      let i : ℕ = (raw g.frame c.cond from).next in
      let grows : from ≤ i = raw_grows g.frame c.cond from in
      let others : Unit {0} → Part State (Unit {0}) = λ done. tested_all g.frame.core g.outcome cs in
      let first : List Stmt = (tested g.frame c.cond c.check from).stmts in
      let later : List Stmt = (contract_tests g.frame cs i).stmts in
      subst (λ r. Follows g.frame.skip post x y n r (λ j. running g ((first ++ later) ++ rest) j w t)) (sym (after_after (source.tested g.frame.core g.outcome c.cond c.check n w s) others go))
      (subst (λ ss. Follows g.frame.skip post x y n (bind (source.tested g.frame.core g.outcome c.cond c.check) (λ done. bind (others done) go) n w s) (λ j. running g ss j w t)) (sym (append_assoc first later rest))
      (tested_follows c.cond (All-head (λ d. HasType g.env g.scope d.cond Truth) c cs typed) c.check (All-head (λ d. Numbered (d.check ∷ expr_checks d.cond)) c cs small) A post (λ done. bind (others done) go) (later ++ rest) x y from le t related
      (λ u kept m z.
      contracts_go_on cs (All-tail (λ d. HasType g.env g.scope d.cond Truth) c cs typed) (All-tail (λ d. Numbered (d.check ∷ expr_checks d.cond)) c cs small) A post go rest x y i (omega (arith, le, grows)) u (related_on g set objects s from le t u kept related)
      (λ v more q a. next v (kept_twice g.program from i t u v grows kept more) q a) m z)
      n w))

  -- ---- the laws

  pub assert_follows : g.outcome ≡ None → (e : ExprCore) → HasType g.env g.scope e Truth → (check : Check) → Numbered (check ∷ expr_checks e) → (calls : Calls) (ensured : Ensured) (from : ℕ) → g.first ≤ from → (t : CState) → Related g objects s t → (n : ℕ) (w : World)
      → Follows g.frame.skip (AssertDone g s from t) 0 0 n (exec g.frame.core calls ensured (Assert e check) n w s) (λ j. running g (tested g.frame e check from).stmts j w t)
  assert_follows none e typed check small calls ensured from le t related n w =
      let go : Unit {0} → Part State Flow = λ done. give Falls in
      subst (λ result. Follows g.frame.skip (AssertDone g s from t) 0 0 n (bind (source.tested g.frame.core result e check) go n w s) (λ j. running g (tested g.frame e check from).stmts j w t)) none
      (subst (λ ss. Follows g.frame.skip (AssertDone g s from t) 0 0 n (bind (source.tested g.frame.core g.outcome e check) go n w s) (λ j. running g ss j w t)) (append-nil (tested g.frame e check from).stmts)
      (tested_follows e typed check small Flow (AssertDone g s from t) go [] 0 0 from le t related (λ u kept m z. rests g.frame.skip (AssertDone g s from t) 0 Falls Falls m z s u (refl, kept)) n w))

  pub contracts_follow : (cs : List ContractCore) → All (λ c. HasType g.env g.scope c.cond Truth) cs → All (λ c. Numbered (c.check ∷ expr_checks c.cond)) cs → (from : ℕ) → g.first ≤ from → (t : CState) → Related g objects s t → (n : ℕ) (w : World)
      → Follows g.frame.skip (Passed g s from t) 0 0 n (tested_all g.frame.core g.outcome cs n w s) (λ j. running g (contract_tests g.frame cs from).stmts j w t)
  contracts_follow cs typed small from le t related n w =
      subst (λ r. Follows g.frame.skip (Passed g s from t) 0 0 n r (λ j. running g (contract_tests g.frame cs from).stmts j w t)) (after_give (tested_all g.frame.core g.outcome cs n w s))
      (subst (λ ss. Follows g.frame.skip (Passed g s from t) 0 0 n (bind (tested_all g.frame.core g.outcome cs) give n w s) (λ j. running g ss j w t)) (append-nil (contract_tests g.frame cs from).stmts)
      (contracts_go_on cs typed small (Unit {0}) (Passed g s from t) give [] 0 0 from le t related (λ u kept m z. rests g.frame.skip (Passed g s from t) 0 tt Falls m z s u (refl, kept)) n w))
