-- What comes behind a truth and its step.
use Rattle.std.proofs.Common.{◌≡◌, ℕ, Bool, Some, Ok, Err, refl, ap, sym, ◌∙◌, subst}
use Rattle.std.specs.Prelude.{Result, pos, not}
use Rattle.std.specs.Ordering.{int_eq}
use Rattle.run_records.specs.declared.Reason.TheVariants.{Dead}
use Rattle.step_semantics.specs.Steps as steps
use Rattle.step_semantics.specs.Steps.{Part, Progress, Finished, Halted, Exhausted, give, after, bind, tick}
use Rattle.step_semantics.proofs.Equations.{after_after, after_same, tick_then}
use Rattle.core_tree.specs.Syntax.{ModuleCore}
use Rattle.core_meaning.specs.State.{State, seen}
use Rattle.core_meaning.specs.Values.{Value, Num, Ref}
use Rattle.core_state.specs.State.{value_of}
use Rattle.core_state.specs.declared.Value.{Value as CodeValue}
use Rattle.core_expressions.specs.Operands.{truth_in, Chosen, chosen, Decided}
use Rattle.core_expressions.specs.Reads.{with_truth}
use Rattle.core_expressions.proofs.Values.{by_truth, no_truth}
use Rattle.run_world.proofs.Comes.{stops}
use Rattle.run_world.specs.declared.Stopped.{Stopped}
use Rattle.run_world.specs.declared.Stopped.TheVariants as stopped
use Rattle.run_world.specs.declared.World.{World}
use Rattle.run_world.specs.Comes.{world_of, halt_of, Comes, Ticked}

pub not_chosen : (x : Value) (holds : Bool) (why : Stopped) (old new : World) → Some holds ≡ truth_in x → Ticked {A = Unit {0}} (Err why) old new → Chosen x (Err why) old new
not_chosen x holds (stopped.Halted how) old new h t = absurd t
not_chosen x holds stopped.Exhausted old new h t = record { holds = holds; has = sym h; none = t.1; same = t.0 }
not_chosen x holds stopped.Memory old new h t = absurd t

pub chosen_goes : {A B : Type 0} (core : ModuleCore) (view : B → A) (x : Value) (next : Bool → Part State A) (holds : Bool) (old new : World) (s : State) (r : Result B Stopped) (u : World) (t : State) → Chosen x (Ok holds) old new
    → Comes (seen core) view (next holds new.steps (world_of new) s) r u t → Comes (seen core) view (chosen core x next old.steps (world_of old) s) r u t
chosen_goes core view x next holds old new s r u t h g =
    subst (λ p. Comes (seen core) view p r u t) (sym (by_truth core old.steps (world_of old) s x holds (λ b. tick (next b)) (sym h.0) ∙ ap (λ w. tick (next holds) w.steps (world_of w) s) h.1)) g

pub chosen_stops : {A B : Type 0} (core : ModuleCore) (view : B → A) (x : Value) (next : Bool → Part State A) (why : Stopped) (old new : World) (s : State) → Chosen x (Err why) old new
    → Comes (seen core) view (chosen core x next old.steps (world_of old) s) (Err why) new s
chosen_stops core view x next (stopped.Halted how) old new s h =
    no_truth core old.steps (world_of old) s x (λ b. tick (next b)) (sym h.0) ∙ ap (λ w. Halted (steps.NoMeaning Dead) (world_of w) (seen core s)) (sym h.2) ∙ ap (λ k. Halted (halt_of k) (world_of new) (seen core s)) (sym h.1)
chosen_stops core view x next stopped.Exhausted old new s h =
    by_truth core old.steps (world_of old) s x h.holds (λ b. tick (next b)) (sym h.has) ∙ ap (λ n. tick (next h.holds) n (world_of old) s) h.none ∙ ap (λ w. Exhausted (world_of w)) (sym h.same)
chosen_stops core view x next stopped.Memory old new s h = absurd h

-- ---- a truth behind an operand

pub decided_of : (core : ModuleCore) (said : Progress State Value) (s : State) (x : CodeValue) (result : Result Bool Stopped) (old new : World) → said ≡ Finished (value_of x) (world_of old) s old.steps → Chosen (value_of x) result old new → Decided core said s result new
decided_of core said s x (Ok holds) old new e h = λ next.
    ap (λ p. after p (λ y. chosen core y next)) e
    ∙ by_truth core old.steps (world_of old) s (value_of x) holds (λ b. tick (next b)) (sym h.0) ∙ ap (λ w. tick (next holds) w.steps (world_of w) s) h.1
decided_of core said s x (Err why) old new e h = λ next.
    subst (λ p. Comes {B = CodeValue} (seen core) value_of (after p (λ y. chosen core y next)) (Err why) new s) (sym e) (chosen_stops core value_of (value_of x) next why old new s h)

pub undecided : (core : ModuleCore) (said : Progress State Value) (s : State) (why : Stopped) (w : World) → Comes {B = CodeValue} (seen core) value_of said (Err why) w s → Decided core said s (Err why) w
undecided core said s why w h = λ next. stops {C = CodeValue} {D = CodeValue} (seen core) value_of value_of said (λ x. chosen core x next) why w s h

-- ---- a truth, and then what comes with it

chosen_then : {A : Type 0} (core : ModuleCore) (x : Value) (next : Bool → Part State A) (n : ℕ) (w : steps.World) (s : State) → chosen core x next n w s ≡ after (chosen core x give n w s) next
chosen_then core (Num v) next n w s = sym (tick_then (give (not (int_eq v (pos 0)))) next n w s)
chosen_then core (Ref k path) next n w s = refl

pub truth_splits : {A : Type 0} (core : ModuleCore) (test : Part State Value) (next : Bool → Part State A) (n : ℕ) (w : steps.World) (s : State) → with_truth core test next n w s ≡ after (with_truth core test give n w s) next
truth_splits core test next n w s =
    after_same (test n w s) (λ x. chosen core x next) (λ x. bind (chosen core x give) next) (λ x m u t. chosen_then core x next m u t)
    ∙ sym (after_after (test n w s) (λ x. chosen core x give) next)
