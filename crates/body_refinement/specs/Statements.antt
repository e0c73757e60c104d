-- What the statements of a procedure's body take and leave on both sides. From related states C follows the source with no credit before or
-- after; where both fall through or break off, they have moved on alike; and where they return, they return the same.
use Rattle.std.specs.Prelude.{◌≡◌, ℕ, ◌≤◌, List, length, Option, None}
use Rattle.step_semantics.specs.Alike.{Same}
use Rattle.step_semantics.specs.Control.{Control, Falls, Broke, Returned}
use Rattle.step_semantics.specs.Follows.{Follows}
use Rattle.step_semantics.specs.Steps.{World}
use Rattle.core_tree.specs.Checks.{stmt_checks, stmts_checks}
use Rattle.core_tree.specs.Environments.{Point, after}
use Rattle.core_tree.specs.Syntax.{StmtCore, StmtsCore}
use Rattle.core_tree.specs.TypedItems.{start}
use Rattle.core_tree.specs.TypedStatements.{StmtTyped, StmtsTyped}
use Rattle.core_meaning.specs.Conditions.{ensured}
use Rattle.core_meaning.specs.Run.{body_of}
use Rattle.core_meaning.specs.State.{State}
use Rattle.core_meaning.specs.Statements.{Flow, exec, exec_all}
use Rattle.core_meaning.specs.Values.{Value}
use Rattle.c_meaning.specs.State.{CState}
use Rattle.c_meaning.specs.Statements as target
use Rattle.c_meaning.specs.Values.{CValue}
use Rattle.area_objects.specs.Both.{Map}
use Rattle.area_objects.specs.PlaceLaws.{BothIn}
use Rattle.region_soundness.specs.Fitting.{Entry}
use Rattle.region_soundness.specs.Laws.{PlaceIn, calls_before, inside}
use Rattle.region_soundness.specs.Scoped.{Activation, Scoped}
use Rattle.lower_values.specs.Frames.{allocated}
use Rattle.lower_statements.specs.Statements.{stmt_body, stmts_body}
use Rattle.value_refinement.specs.Laws.{Numbered, running}
use Rattle.value_refinement.specs.Related.{Related}
use Rattle.lowered_surroundings.specs.Surroundings.{naming_for}
use Rattle.statement_refinement.specs.Apart.{CountersApart}
use Rattle.statement_refinement.specs.Moves.{Moved}
use Rattle.body_refinement.specs.Bodies.{Lowered, env_in, frame_in, home_in, program_in, function_in, within}
use Rattle.body_refinement.specs.Kinds.{KindsAre, AllKindsAre}
use Rattle.body_refinement.specs.Results.{ResultGiven}

-- ---- where both sides come to, from related states at a place behind which the next local has the number `next`

module _ (d : Lowered) (next : ℕ) (objects : Map) (s : State) (t : CState) where
  -- the areas that are live have their objects
  pub record CameTo (later : State) (u : CState) : Type 0 where
    pub more : Map
    pub moved : Moved (program_in d) next objects s t more later u
    pub both : BothIn d.target (naming_for d.core) more later.areas u.objects

  -- and the states are related, with these locals in scope
  pub record CameWith (scope : List ℕ) (later : State) (u : CState) : Type 0 where
    pub more : Map
    pub moved : Moved (program_in d) next objects s t more later u
    pub related : Related (within d scope) more later u
    pub apart : CountersApart (within d scope) more later u

  -- with a result
  pub record CameBack (entry : Entry) (value : Option Value) (later : State) (result : Option CValue) (u : CState) : Type 0 where
    pub more : Map
    pub moved : Moved (program_in d) next objects s t more later u
    pub both : BothIn d.target (naming_for d.core) more later.areas u.objects
    pub given : ResultGiven d entry more later.areas d.proc.result value result

-- ---- statements

abbrev pub StmtDone : Lowered → Entry → Point → StmtCore → Map → State → CState → Flow → State → Control (Option CValue) → CState → Type 0
StmtDone d entry at c objects s t Falls later Falls u = CameWith d at.next objects s t (after c at).scope later u
StmtDone d entry at c objects s t Broke later Broke u = CameTo d at.next objects s t later u
StmtDone d entry at c objects s t (Returned value) later (Returned result) u = CameBack d at.next objects s t entry value later result u
StmtDone d entry at c objects s t flow later control u = ⊥

-- of statements in a row: their names are not asked about
abbrev pub StmtsDone : Lowered → Entry → (next : ℕ) → Map → State → CState → Flow → State → Control (Option CValue) → CState → Type 0
StmtsDone d entry next objects s t = Same (CameTo d next objects s t) (CameBack d next objects s t entry)

-- what is so before statements at a place of the body, on both sides
pub record Before (d : Lowered) (at : Point) (entry : Entry) (waiting : List Activation) (objects : Map) (s : State) (t : CState) : Type 0 where
  pub room : at.next ≤ length d.proc.locals
  pub scoped : Scoped d.core (inside d.proc at.scope entry) waiting s
  pub related : Related (within d at.scope) objects s t
  pub apart : CountersApart (within d at.scope) objects s t

abbrev pub StmtFollows : Lowered → Point → StmtCore → Type 0
StmtFollows d at c =
    PlaceIn d.proc at → StmtTyped (env_in d) at c → KindsAre (allocated d.proc.body) c → Numbered (stmt_checks c)
    → (entry : Entry) (waiting : List Activation) (objects : Map) (s : State) (t : CState) → Before d at entry waiting objects s t → (from : ℕ) → length d.proc.locals ≤ from → (n : ℕ) (w : World)
    → Follows d.skip (StmtDone d entry at c objects s t) 0 0 n (exec d.core (calls_before d.core d.number) (ensured d.core d.proc) c n w s) (λ j. running (within d at.scope) (stmt_body (frame_in d) (home_in d) c from).stmts j w t)

abbrev pub StmtsFollow : Lowered → Point → StmtsCore → Type 0
StmtsFollow d at ss =
    PlaceIn d.proc at → StmtsTyped (env_in d) at ss → AllKindsAre (allocated d.proc.body) ss → Numbered (stmts_checks ss)
    → (entry : Entry) (waiting : List Activation) (objects : Map) (s : State) (t : CState) → Before d at entry waiting objects s t → (from : ℕ) → length d.proc.locals ≤ from → (n : ℕ) (w : World)
    → Follows d.skip (StmtsDone d entry at.next objects s t) 0 0 n (exec_all d.core (calls_before d.core d.number) (ensured d.core d.proc) ss n w s) (λ j. running (within d at.scope) (stmts_body (frame_in d) (home_in d) ss from).stmts j w t)

-- ---- a whole body

-- it falls off its end without a result, or returns; no break leaves it
abbrev pub BodyDone : Lowered → Entry → Map → State → CState → Option Value → State → Control (Option CValue) → CState → Type 0
BodyDone d entry objects s t value later Falls u = (value ≡ None) × (d.proc.result ≡ None) × CameTo d (length d.proc.params) objects s t later u
BodyDone d entry objects s t value later (Returned result) u = CameBack d (length d.proc.params) objects s t entry value later result u
BodyDone d entry objects s t value later Broke u = ⊥

-- what the procedure requires, its statements and what it ensures, from where its parameters alone are in scope
abbrev pub BodyFollows : Lowered → Type 0
BodyFollows d =
    (entry : Entry) (waiting : List Activation) (objects : Map) (s : State) (t : CState) → Before d (start d.proc) entry waiting objects s t → (n : ℕ) (w : World)
    → Follows d.skip (BodyDone d entry objects s t) 0 0 n (body_of d.core (calls_before d.core d.number) d.proc n w s) (λ j. target.exec_all (program_in d) d.functions (function_in d).body j w t)
