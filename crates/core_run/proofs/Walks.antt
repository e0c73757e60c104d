-- How the walk over blocks, turns and calls comes out as the meaning does.
use Rattle.std.proofs.Common.{◌≡◌, ℕ, zero, suc, ℤ, Bool, true, false, List, [], ◌∷◌, ◌++◌, length, map, Option, None, Result, Ok, Err, refl, sym, ap, ◌∙◌, subst}
use Rattle.std.specs.Prelude.{pos, unsigned_abs, if◌then◌else◌}
use Rattle.std.proofs.lemmas.List.{append_assoc, length-map, length-reverse}
use Rattle.step_semantics.specs.Steps as steps
use Rattle.step_semantics.specs.Steps.{Part, Progress, Finished, Halted, Exhausted, give, after, bind, tick, block, left}
use Rattle.step_semantics.specs.Safe.{Keeps}
use Rattle.core_tree.specs.Cores.{Parts, core_of}
use Rattle.core_tree.specs.Syntax.{ModuleCore, ExprCore, StmtsCore}
use Rattle.core_tree.specs.View.{proc_of}
use Rattle.core_tree.specs.declared.CoreProc.{CoreProc}
use Rattle.core_meaning.specs.Checks.{on_truth, on_number}
use Rattle.core_meaning.specs.Conditions.{ensured}
use Rattle.core_meaning.specs.Expressions.{choice, eval}
use Rattle.core_meaning.specs.State as meaning
use Rattle.core_meaning.specs.State.{seen, leave, with_name}
use Rattle.core_meaning.specs.Statements.{Flow, exec_all, turn}
use Rattle.core_meaning.specs.Values as values
use Rattle.core_meaning.specs.Values.{Num, Ref}
use Rattle.core_state.specs.Changes.{names_of, LeavesBlock}
use Rattle.core_state.specs.State.{name_of, slot_of, state_of}
use Rattle.core_state.specs.declared.Name.{Name}
use Rattle.core_state.specs.declared.State.{State}
use Rattle.core_expressions.specs.Reads.{with_truth}
use Rattle.run_world.specs.Comes.{Comes, world_of}
use Rattle.run_world.specs.declared.World.{World}
use Rattle.run_world.specs.declared.Stopped.{Stopped}
use Rattle.run_world.proofs.Comes.{goes_on, stops, leaves}
use Rattle.core_statements.specs.Parts.{control_of, Does}
use Rattle.core_statements.specs.declared.Control.{Control}
use Rattle.core_statements.specs.declared.Run.{Run}
use Rattle.core_run.specs.Calls.{calls_of}
use Rattle.core_run.specs.Loops.{bound_behind, with_bound}
use Rattle.core_run.specs.Within.{frames_of, Within}
use Rattle.core_run.proofs.Within.{any, calls_steady, exec_all_adds}

-- ---- a part and the next, which the code does one after the other

module _ (p : Parts) {C D : Type 0} (view : D → C) where
  pub one_then_next : {A B : Type 0} (view' : B → A) (whole : Part meaning.State C) (part : Part meaning.State A) (next : A → Part meaning.State C) (old mid new : Run) (b : B) (r : Result D Stopped)
      → ((n : ℕ) (w : steps.World) (s : meaning.State) → whole n w s ≡ after (part n w s) next) → Does p view' part old mid (Ok b) → Does p view (next (view' b)) mid new r → Does p view whole old new r
  one_then_next view' whole part next old mid new b r e h k =
      subst (λ x. Comes (seen (core_of p)) view x r new.world (state_of new.state)) (sym (e old.world.steps (world_of old.world) (state_of old.state)))
      (goes_on (seen (core_of p)) view (part old.world.steps (world_of old.world) (state_of old.state)) next r new.world (state_of new.state) h k)

  pub first_stops : {A B : Type 0} (view' : B → A) (whole : Part meaning.State C) (part : Part meaning.State A) (next : A → Part meaning.State C) (old mid : Run) (why : Stopped)
      → ((n : ℕ) (w : steps.World) (s : meaning.State) → whole n w s ≡ after (part n w s) next) → Does p view' part old mid (Err why) → Does p view whole old mid (Err why)
  first_stops view' whole part next old mid why e h =
      subst (λ x. Comes (seen (core_of p)) view x (Err why) mid.world (state_of mid.state)) (sym (e old.world.steps (world_of old.world) (state_of old.state)))
      (stops (seen (core_of p)) view' view (part old.world.steps (world_of old.world) (state_of old.state)) next why mid.world (state_of mid.state) h)

-- ---- a choice or a loop with a bound, as such parts

truth_then : {A : Type 0} (core : ModuleCore) (r : Progress meaning.State values.Value) (next : Bool → Part meaning.State A) → after r (λ x. on_truth core x (λ b. tick (next b))) ≡ after (after r (λ x. on_truth core x (λ b. tick (give b)))) next
truth_then core (Finished (Num v) w s zero) next = refl
truth_then core (Finished (Num v) w s (suc n)) next = refl
truth_then core (Finished (Ref k path) w s n) next = refl
truth_then core (Halted how w cells) next = refl
truth_then core (Exhausted w) next = refl

pub choice_split : (core : ModuleCore) (test : Part meaning.State values.Value) (first second : Part meaning.State Flow) (n : ℕ) (w : steps.World) (s : meaning.State) → choice core test first second n w s ≡ after (with_truth core test give n w s) (λ b. if b then first else second)
choice_split core test first second n w s = truth_then core (test n w s) (λ b. if b then first else second)

bound_then : {A : Type 0} (core : ModuleCore) (r : Progress meaning.State values.Value) (next : ℕ → Part meaning.State A) → after r (λ x. bound_behind core x next) ≡ after (after r (λ x. bound_behind core x give)) next
bound_then core (Finished (Num v) w s zero) next = refl
bound_then core (Finished (Num v) w s (suc n)) next = refl
bound_then core (Finished (Ref k path) w s n) next = refl
bound_then core (Halted how w cells) next = refl
bound_then core (Exhausted w) next = refl

pub bound_split : {A : Type 0} (core : ModuleCore) (e : ExprCore) (next : ℕ → Part meaning.State A) (n : ℕ) (w : steps.World) (s : meaning.State) → with_bound core e next n w s ≡ after (with_bound core e give n w s) next
bound_split core e next n w s = bound_then core (eval core None e n w s) next

-- ---- blocks

names_length : (names : List Name) → length (names_of names) ≡ length names
names_length names = length-reverse (map name_of names) ∙ length-map names name_of

module _ (p : Parts) (ps : List CoreProc) (proc : CoreProc) where
  abbrev pub body_of : StmtsCore → Part meaning.State Flow
  body_of ss = exec_all (core_of p) (calls_of (core_of p) ps) (ensured (core_of p) (proc_of proc)) ss

  within_of : (ss : StmtsCore) (old mid : Run) (c : Control) → Does p control_of (body_of ss) old mid (Ok c) → Within (state_of old.state) (state_of mid.state)
  within_of ss old mid c h =
      subst (λ r. Keeps any (λ a u. Within (state_of old.state) u) r) h
      ((exec_all_adds (core_of p) (calls_of (core_of p) ps) (calls_steady (core_of p) ps) (proc_of proc) ss).adds old.world.steps (world_of old.world) (state_of old.state))

  pub block_ends : (ss : StmtsCore) (old mid : Run) (c : Control) (names areas : ℕ) (new : State) → Does p control_of (body_of ss) old mid (Ok c) → names ≡ length old.state.own.names → areas ≡ length old.state.areas.items
      → LeavesBlock names areas (state_of mid.state) (state_of new) → Does p control_of (block leave (body_of ss)) old (record mid { state = new }) (Ok c)
  block_ends ss old mid c names areas new h n a gone =
      let k = within_of ss old mid c h in
      let e = gone (state_of old.state) k.more k.names (n ∙ sym (names_length old.state.own.names)) (a ∙ sym (length-map old.state.areas.items slot_of)) in
      let part : Progress meaning.State Flow = body_of ss old.world.steps (world_of old.world) (state_of old.state) in
      subst (λ s. Comes (seen (core_of p)) control_of (left leave (state_of old.state) part) (Ok c) mid.world s) (sym e) (leaves (seen (core_of p)) control_of leave (state_of old.state) part c mid.world (state_of mid.state) h)

  -- a turn whose name is there already
  pub turn_ends : (ss : StmtsCore) (number i : ℕ) (old named mid : Run) (c : Control) (names areas : ℕ) (new : State) → state_of named.state ≡ with_name number (Num (pos i)) (state_of old.state) → named.world ≡ old.world
      → Does p control_of (body_of ss) named mid (Ok c) → names ≡ length old.state.own.names → areas ≡ length old.state.areas.items → LeavesBlock names areas (state_of mid.state) (state_of new)
      → Does p control_of (turn number (body_of ss) i) old (record mid { state = new }) (Ok c)
  turn_ends ss number i old named mid c names areas new is same h n a gone =
      let before = state_of old.state in
      let k = within_of ss named mid c h in
      let more = k.more ++ (number, Num (pos i)) ∷ [] in
      let kept = k.names ∙ ap (λ (s : meaning.State). k.more ++ (frames_of s).own.names) is ∙ sym (append_assoc k.more ((number, Num (pos i)) ∷ []) (frames_of before).own.names) in
      let e = gone before more kept (n ∙ sym (names_length old.state.own.names)) (a ∙ sym (length-map old.state.areas.items slot_of)) in
      let part : Progress meaning.State Flow = body_of ss old.world.steps (world_of old.world) (with_name number (Num (pos i)) before) in
      let inner = ap (λ (w : World). body_of ss w.steps (world_of w) (with_name number (Num (pos i)) before)) (sym same) ∙ ap (λ s. body_of ss named.world.steps (world_of named.world) s) (sym is) ∙ h in
      subst (λ s. Comes (seen (core_of p)) control_of (left leave before part) (Ok c) mid.world s) (sym e) (leaves (seen (core_of p)) control_of leave before part c mid.world (state_of mid.state) inner)
