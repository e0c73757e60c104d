-- A turn of a loop that counts: the source's block and the block of C that ends with the test of the last turn and the count.
use Rattle.std.proofs.Common.{◌≡◌, ℕ, zero, suc, ◌+◌, ◌<◌, ◌≤◌, ◌^◌, ℤ, pos, Bool, true, false, List, [], ◌∷◌, ◌++◌, Option, refl, ◌∙◌, ap, arith}
use Rattle.std.specs.Prelude.{not, if◌then◌else◌}
use Rattle.step_semantics.specs.Control.{Control, Falls, Broke, Returned, onward}
use Rattle.step_semantics.specs.Follows.{Follows}
use Rattle.step_semantics.specs.Steps.{World, Progress, Finished, Halted, Exhausted, Part, give, after, tick, block}
use Rattle.step_semantics.specs.Takes.{Takes, Reaches}
use Rattle.step_semantics.proofs.Following.{eased, rests}
use Rattle.step_semantics.proofs.Leading.{leads_free}
use Rattle.step_semantics.proofs.Paying.{reaches_more, takes_bind, takes_give, takes_tick}
use Rattle.c_ast.specs.declared.CUnary.TheVariants.{Not}
use Rattle.c_ast.specs.Syntax.{Name, Expr, Var, Unary, Stmt, Assign, Break, Cons, Nil}
use Rattle.c_ast.specs.Targets.{table_of}
use Rattle.c_meaning.specs.Expressions.{eval}
use Rattle.c_meaning.specs.State.{CState, leave}
use Rattle.c_meaning.specs.Statements.{exec, exec_all}
use Rattle.c_meaning.specs.Values.{CValue, is_true, on_ok}
use Rattle.lower_statements.specs.Loops.{unless_left}
use Rattle.form_answers.specs.Standing.{Converts, TestIs}
use Rattle.value_refinement.specs.Laws.{running}
use Rattle.value_refinement.specs.Settings.{Setting}
use Rattle.value_refinement.proofs.Objects.{ObjectIs, Assigned, takes_assign}
use Rattle.value_refinement.proofs.Running.{runs_first, nothing_left, not_tests, takes_value}
use Rattle.body_refinement.proofs.Counters.{counter_scalar, counter_holds}

-- ---- where the first has finished

module _ {S T A B : Type 0} (excused : ℕ → Bool) where
  -- the second comes to its end within its credit
  pub ends_within : (post : A → S → B → T → Type 0) (c x n : ℕ) → c ≤ x → (w : World) (a : A) (s : S) (b : B) (t : T) (f : ℕ → Progress T B) → post a s b t → Reaches c w f (λ k. Finished b w t k) → Follows excused post x 0 n (Finished a w s n) f
  ends_within post c x n le w a s b t f h r = record { value = b; state = t; holds = h; leads = leads_free x 0 n f (λ k. Finished b w t k) (λ k. (c + k, omega arith, omega (arith, le), r.comes k)) }

  -- with no step
  pub ends_here : (post : A → S → B → T → Type 0) (x n : ℕ) (w : World) (a : A) (s : S) (b : B) (t : T) → post a s b t → Follows excused post x 0 n (Finished a w s n) (λ j. Finished b w t j)
  ends_here post x n w a s b t h = eased excused post 0 0 x 0 n (Finished a w s n) (λ j. Finished b w t j) (omega arith) (omega arith) (rests excused post 0 a b n w s t h)

-- ---- statements in a row

onward_more : {S V : Type 0} (r : Progress S (Control V)) (a b c : Part S (Control V)) → ((n : ℕ) (w : World) (s : S) → c n w s ≡ after (a n w s) (onward b)) → after r (onward c) ≡ after (after r (onward a)) (onward b)
onward_more (Finished Falls w s n) a b c h = h n w s
onward_more (Finished Broke w s n) a b c h = refl
onward_more (Finished (Returned v) w s n) a b c h = refl
onward_more (Halted how w seen) a b c h = refl
onward_more (Exhausted w) a b c h = refl

-- what is behind the statements of a list
pub running_more : (g : Setting) (first second : List Stmt) (j : ℕ) (w : World) (t : CState) → running g (first ++ second) j w t ≡ after (running g first j w t) (onward (running g second))
running_more g [] second j w t = refl
running_more g (x ∷ first) second j w t = onward_more (exec g.program g.functions x j w t) (running g first) (running g second) (running g (first ++ second)) (λ n a u. running_more g first second n a u)

-- ---- the end of a turn

abbrev pub closing : Name → (more step : Expr) → List Stmt
closing x more step = unless_left more ∷ Assign (Var x) step ∷ []

module _ (g : Setting) (x : Name) (more step : Expr) (w : World) (t : CState) where
  breaks : Takes 1 (block leave (exec_all g.program g.functions (Cons Break Nil))) w t Broke t
  breaks = record { waits = waits; finishes = finishes } where
    waits : (j : ℕ) → j < 1 → block leave (exec_all g.program g.functions (Cons Break Nil)) j w t ≡ Exhausted w
    waits zero lt = refl
    waits (suc j) lt = absurd (omega (arith, lt))

    finishes : (j : ℕ) → block leave (exec_all g.program g.functions (Cons Break Nil)) (1 + j) w t ≡ Finished Broke w t j
    finishes j =
        let e : 1 + j ≡ suc j = omega arith in
        ap (λ n. block leave (exec_all g.program g.functions (Cons Break Nil)) n w t) e ∙ ap (λ u. Finished Broke w u j) (nothing_left t)

  abbrev arm : Bool → Part CState (Control (Option CValue))
  arm holds = if holds then block leave (exec_all g.program g.functions (Cons Break Nil)) else give Falls

  leaves : (b : Bool) → TestIs g.program t more b → (c : ℕ) (control : Control (Option CValue)) → Takes c (arm (not b)) w t control t → Takes (suc c) (exec g.program g.functions (unless_left more)) w t control t
  leaves b tests c control h =
      takes_value g.program w t (suc c) (λ u. on_ok (eval g.program (Unary Not more) u) is_true) (not b) (λ holds. tick (arm holds)) control t (not_tests g.program t more b tests)
      (takes_tick c (arm (not b)) w t control t h)

  -- the last turn breaks off
  pub last_breaks : TestIs g.program t more false → Reaches 2 w (λ j. running g (closing x more step) j w t) (λ k. Finished Broke w t k)
  last_breaks tests =
      let h = takes_bind 2 0 (exec g.program g.functions (unless_left more)) (onward (running g (Assign (Var x) step ∷ []))) w t t t Broke Broke (leaves false tests 1 Broke breaks) (takes_give Broke w t) in
      record { waits = h.waits; comes = h.finishes }

  -- another turn counts
  module _ (o : ℕ) (value : Option ℤ) (counter : ObjectIs g.program t x counter_scalar o value) (n : ℕ) (small : n < 2 ^ 16) (is : Converts g.program t counter_scalar step (pos n)) where
    pub record Counted (u : CState) : Type 0 where
      pub reaches : Reaches 2 w (λ j. running g (closing x more step) j w t) (λ k. Finished Falls w u k)
      pub assigned : Assigned g w t x counter_scalar o value counter step (pos n) is (counter_holds (table_of g.program.target) n small) u

    pub goes_round : TestIs g.program t more true → (u : CState) × Counted u
    goes_round tests =
        let a = takes_assign g w t x counter_scalar o value counter step (pos n) is (counter_holds (table_of g.program.target) n small) in (
          a.0,
          record {
            reaches =
                reaches_more 1 1 w (λ j. running g (closing x more step) j w t) (λ j. running g (Assign (Var x) step ∷ []) j w t) (λ j. running g [] j w a.0)
                (runs_first g 1 (unless_left more) (Assign (Var x) step ∷ []) w t t (leaves true tests 0 Falls (takes_give Falls w t)))
                (runs_first g 1 (Assign (Var x) step) [] w t a.0 a.1);
            assigned = a.2;
          },
        )
