-- A step, and what comes after it, as one part and the next.
use Rattle.std.proofs.Common.{◌≡◌, ℕ, zero, suc, List, Bool, Result, Ok, Err, refl, sym, subst}
use Rattle.step_semantics.specs.Steps as steps
use Rattle.step_semantics.specs.Steps.{Part, Progress, after, bind, tick, give}
use Rattle.c_ast.specs.Syntax.{Expr}
use Rattle.c_meaning.specs.State.{Program, CState, seen}
use Rattle.c_meaning.specs.Values.{Trouble, CValue, on_ok, is_true}
use Rattle.c_meaning.specs.Expressions.{eval, eval_all}
use Rattle.c_meaning.specs.Calls.{given}
use Rattle.c_meaning.specs.Statements.{with_value, with_truth}
use Rattle.c_expressions.specs.Programs.{Parts, program_of}
use Rattle.c_expressions.specs.State.{state_of}
use Rattle.run_world.specs.Comes.{Comes, world_of}
use Rattle.run_world.specs.declared.Stopped.{Stopped}
use Rattle.run_world.proofs.Comes.{goes_on, stops}
use Rattle.c_statements.specs.Parts.{Does}
use Rattle.c_statements.specs.Steps.{with_arguments}
use Rattle.c_statements.specs.declared.parts.Run.{Run}

ticked_then : {A B : Type 0} (a : A) (next : A → Part CState B) (n : ℕ) (w : steps.World) (s : CState) → tick (next a) n w s ≡ after (tick (give a) n w s) next
ticked_then a next zero w s = refl
ticked_then a next (suc n) w s = refl

given_split : {A B : Type 0} (p : Program) (r : Result A Trouble) (next : A → Part CState B) (n : ℕ) (w : steps.World) (s : CState) → given p r (λ a. tick (next a)) n w s ≡ after (given p r (λ a. tick (give a)) n w s) next
given_split p (Ok a) next n w s = ticked_then a next n w s
given_split p (Err trouble) next n w s = refl

module _ (p : Parts) {C D : Type 0} (view : D → C) where
  -- a part and the next, which the code does one after the other
  pub one_then_next : {A B : Type 0} (view' : B → A) (whole : Part CState C) (part : Part CState A) (next : A → Part CState C) (old mid new : Run) (b : B) (r : Result D Stopped)
      → ((n : ℕ) (w : steps.World) (s : CState) → whole n w s ≡ after (part n w s) next) → Does p view' part old mid (Ok b) → Does p view (next (view' b)) mid new r → Does p view whole old new r
  one_then_next view' whole part next old mid new b r e h k =
      subst (λ x. Comes (seen (program_of p)) view x r new.world (state_of new.state)) (sym (e old.world.steps (world_of old.world) (state_of old.state)))
      (goes_on (seen (program_of p)) view (part old.world.steps (world_of old.world) (state_of old.state)) next r new.world (state_of new.state) h k)

  pub first_stops : {A B : Type 0} (view' : B → A) (whole : Part CState C) (part : Part CState A) (next : A → Part CState C) (old mid : Run) (why : Stopped)
      → ((n : ℕ) (w : steps.World) (s : CState) → whole n w s ≡ after (part n w s) next) → Does p view' part old mid (Err why) → Does p view whole old mid (Err why)
  first_stops view' whole part next old mid why e h =
      subst (λ x. Comes (seen (program_of p)) view x (Err why) mid.world (state_of mid.state)) (sym (e old.world.steps (world_of old.world) (state_of old.state)))
      (stops (seen (program_of p)) view' view (part old.world.steps (world_of old.world) (state_of old.state)) next why mid.world (state_of mid.state) h)

module _ (p : Program) {C : Type 0} where
  pub value_split : (e : Expr) (next : CValue → Part CState C) (n : ℕ) (w : steps.World) (s : CState) → with_value p e next n w s ≡ after (with_value p e give n w s) next
  value_split e next n w s = given_split p (eval p e s) next n w s

  pub truth_split : (e : Expr) (next : Bool → Part CState C) (n : ℕ) (w : steps.World) (s : CState) → with_truth p e next n w s ≡ after (with_truth p e give n w s) next
  truth_split e next n w s = given_split p (on_ok (eval p e s) is_true) next n w s

  pub arguments_split : (es : List Expr) (next : List CValue → Part CState C) (n : ℕ) (w : steps.World) (s : CState) → with_arguments p es next n w s ≡ after (with_arguments p es give n w s) next
  arguments_split es next n w s = given_split p (eval_all p es s) next n w s
