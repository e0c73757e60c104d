-- How the walk over blocks, loops and calls comes out as the meaning does.
use Rattle.std.proofs.Common.{◌≡◌, ℕ, suc, List, [], ◌∷◌, ◌++◌, length, map, Option, Ok, Err, sym, ap, ◌∙◌, subst}
use Rattle.std.proofs.lemmas.List.{length-map, length-reverse}
use Rattle.step_semantics.specs.Steps.{Part, Progress, Finished, after, tick, block, left}
use Rattle.step_semantics.specs.Control as control
use Rattle.step_semantics.specs.Control.{onward, also, again, turns, forever}
use Rattle.step_semantics.specs.Safe.{Keeps}
use Rattle.c_ast.specs.Syntax.{Stmts}
use Rattle.c_ast.specs.View.{stmt_of, stmts_of}
use Rattle.c_ast.specs.declared.CFunction.{CFunction}
use Rattle.c_ast.specs.declared.CStmt.{CStmt}
use Rattle.c_meaning.specs.Calls.{Calls}
use Rattle.c_meaning.specs.State.{CState, Frame, leave, enter, back, in_own_frame, seen}
use Rattle.c_meaning.specs.Statements.{exec, exec_all}
use Rattle.c_meaning.specs.Values.{CValue}
use Rattle.c_objects.specs.Store.{objects_of}
use Rattle.c_expressions.specs.Programs.{Parts, program_of}
use Rattle.c_expressions.specs.State.{state_of, own_of, frame_of, local_of}
use Rattle.c_expressions.specs.declared.Local.{Local}
use Rattle.c_expressions.specs.declared.State.{State}
use Rattle.run_world.specs.Comes.{Comes, world_of, Ticked}
use Rattle.run_world.specs.declared.World.{World}
use Rattle.run_world.specs.declared.Stopped.{Stopped}
use Rattle.run_world.proofs.Comes.{stops, leaves, stops_within, ticked, not_ticked}
use Rattle.c_statements.specs.Parts.{control_of, Does}
use Rattle.c_statements.specs.declared.Control.{Control}
use Rattle.c_statements.specs.declared.Control.TheVariants.{Falls, Broke, Returned}
use Rattle.c_statements.specs.declared.Run.{Run}
use Rattle.c_run.specs.Calls.{calls_of}
use Rattle.c_run.specs.Within.{Within}
use Rattle.c_run.proofs.Calls.{calls_steady}
use Rattle.c_run.proofs.Within.{any, exec_all_adds}

pub length_of_frame : (xs : List Local) → length (frame_of xs) ≡ length xs
length_of_frame xs = length-reverse (map local_of xs) ∙ length-map xs local_of

module _ (p : Parts) where
  -- ---- blocks

  module _ (fs : List CFunction) where
    within_of : (ss : Stmts) (old mid : Run) (c : Control) → Does p control_of (exec_all (program_of p) (calls_of (program_of p) fs) ss) old mid (Ok c) → Within (state_of old.state) (state_of mid.state)
    within_of ss old mid c h =
        subst (λ r. Keeps any (λ a u. Within (state_of old.state) u) r) h
        ((exec_all_adds (program_of p) (calls_of (program_of p) fs) (calls_steady (program_of p) fs) ss).adds old.world.steps (world_of old.world) (state_of old.state))

    pub block_ends : (ss : Stmts) (old mid : Run) (c : Control) (names objects : ℕ) (new : State) → Does p control_of (exec_all (program_of p) (calls_of (program_of p) fs) ss) old mid (Ok c) → names ≡ length old.state.own → objects ≡ length (objects_of old.state.objects)
        → ((before : CState) (more : Frame) → own_of (state_of mid.state) ≡ more ++ own_of before → names ≡ length (own_of before) → objects ≡ length before.objects → state_of new ≡ leave before (state_of mid.state))
        → Does p control_of (block leave (exec_all (program_of p) (calls_of (program_of p) fs) ss)) old (record mid { state = new }) (Ok c)
    block_ends ss old mid c names objects new h n o gone =
        let k = within_of ss old mid c h in
        let e = gone (state_of old.state) k.more k.own (n ∙ sym (length_of_frame old.state.own)) o in
        let part : Progress CState _ = exec_all (program_of p) (calls_of (program_of p) fs) ss old.world.steps (world_of old.world) (state_of old.state) in
        subst (λ s. Comes (seen (program_of p)) control_of (left leave (state_of old.state) part) (Ok c) mid.world s) (sym e)
        (leaves (seen (program_of p)) control_of leave (state_of old.state) part c mid.world (state_of mid.state) h)

    pub block_stops : (ss : Stmts) (old mid : Run) (why : Stopped) → Does p control_of (exec_all (program_of p) (calls_of (program_of p) fs) ss) old mid (Err why) → Does p control_of (block leave (exec_all (program_of p) (calls_of (program_of p) fs) ss)) old mid (Err why)
    block_stops ss old mid why h =
        stops_within (seen (program_of p)) control_of control_of leave (state_of old.state) (exec_all (program_of p) (calls_of (program_of p) fs) ss old.world.steps (world_of old.world) (state_of old.state)) why mid.world (state_of mid.state) h

  -- ---- loops

  module _ (body : Part CState (control.Control (Option CValue))) where
    -- so many turns from here on are the whole
    abbrev pub TurnsLeft : ℕ → Run → Progress CState (control.Control (Option CValue)) → Type 0
    TurnsLeft most run whole = whole ≡ turns most body run.world.steps (world_of run.world) (state_of run.state)

    turn : (most : ℕ) (run mid new : Run) (c : Control) → Ticked {A = Unit {0}} (Ok (tt {0})) run.world mid.world → state_of mid.state ≡ state_of run.state → Does p control_of body mid new (Ok c)
        → turns (suc most) body run.world.steps (world_of run.world) (state_of run.state) ≡ again (turns most body) (control_of c) new.world.steps (world_of new.world) (state_of new.state)
    turn most run mid new c e s h =
        let k : body mid.world.steps (world_of mid.world) (state_of run.state) ≡ Finished (control_of c) (world_of new.world) (state_of new.state) new.world.steps = ap (λ u. body mid.world.steps (world_of mid.world) u) (sym s) ∙ h in
        ap (λ x. after x (again (turns most body))) (ticked (seen (program_of p)) control_of body (tt {0}) run.world mid.world (state_of run.state) (Ok c) new.world (state_of new.state) e k)

    pub turn_falls : (most more : ℕ) (run mid new : Run) (whole : Progress CState (control.Control (Option CValue))) → most ≡ suc more → TurnsLeft most run whole → Ticked {A = Unit {0}} (Ok (tt {0})) run.world mid.world → state_of mid.state ≡ state_of run.state → Does p control_of body mid new (Ok Falls) → TurnsLeft more new whole
    turn_falls most more run mid new whole is h e s k = h ∙ ap (λ n. turns n body run.world.steps (world_of run.world) (state_of run.state)) is ∙ turn more run mid new Falls e s k

    pub turn_breaks : (most more : ℕ) (run mid new : Run) (whole : Progress CState (control.Control (Option CValue))) → most ≡ suc more → TurnsLeft most run whole → Ticked {A = Unit {0}} (Ok (tt {0})) run.world mid.world → state_of mid.state ≡ state_of run.state → Does p control_of body mid new (Ok Broke) → whole ≡ Finished control.Falls (world_of new.world) (state_of new.state) new.world.steps
    turn_breaks most more run mid new whole is h e s k = h ∙ ap (λ n. turns n body run.world.steps (world_of run.world) (state_of run.state)) is ∙ turn more run mid new Broke e s k

    pub turn_returns : (most more : ℕ) (run mid new : Run) (whole : Progress CState (control.Control (Option CValue))) (v : Option _) → most ≡ suc more → TurnsLeft most run whole → Ticked {A = Unit {0}} (Ok (tt {0})) run.world mid.world → state_of mid.state ≡ state_of run.state → Does p control_of body mid new (Ok (Returned v)) → whole ≡ Finished (control_of (Returned v)) (world_of new.world) (state_of new.state) new.world.steps
    turn_returns most more run mid new whole v is h e s k = h ∙ ap (λ n. turns n body run.world.steps (world_of run.world) (state_of run.state)) is ∙ turn more run mid new (Returned v) e s k

    pub turn_stops : (most more : ℕ) (run mid new : Run) (whole : Progress CState (control.Control (Option CValue))) (why : Stopped) → most ≡ suc more → TurnsLeft most run whole → Ticked {A = Unit {0}} (Ok (tt {0})) run.world mid.world → state_of mid.state ≡ state_of run.state → Does p control_of body mid new (Err why)
        → Comes (seen (program_of p)) control_of whole (Err why) new.world (state_of new.state)
    turn_stops most more run mid new whole why is h e s k =
        let w : ℕ → Progress CState (control.Control (Option CValue)) = λ n. turns n body run.world.steps (world_of run.world) (state_of run.state) in
        subst (λ x. Comes (seen (program_of p)) control_of x (Err why) new.world (state_of new.state)) (sym (h ∙ ap w is))
        (stops (seen (program_of p)) control_of control_of (tick body run.world.steps (world_of run.world) (state_of run.state)) (again (turns more body)) why new.world (state_of new.state)
        (ticked (seen (program_of p)) control_of body (tt {0}) run.world mid.world (state_of run.state) (Err why) new.world (state_of new.state) e
        (subst (λ u. Comes (seen (program_of p)) control_of (body mid.world.steps (world_of mid.world) u) (Err why) new.world (state_of new.state)) s k)))

    pub no_turn : (most more : ℕ) (run : Run) (new : World) (whole : Progress CState (control.Control (Option CValue))) (why : Stopped) → most ≡ suc more → TurnsLeft most run whole → Ticked {A = Unit {0}} (Err why) run.world new → Comes (seen (program_of p)) control_of whole (Err why) new (state_of run.state)
    no_turn most more run new whole why is h e =
        let w : ℕ → Progress CState (control.Control (Option CValue)) = λ n. turns n body run.world.steps (world_of run.world) (state_of run.state) in
        subst (λ x. Comes (seen (program_of p)) control_of x (Err why) new (state_of run.state)) (sym (h ∙ ap w is))
        (stops (seen (program_of p)) control_of control_of (tick body run.world.steps (world_of run.world) (state_of run.state)) (again (turns more body)) why new (state_of run.state)
        (not_ticked (Unit {0}) (seen (program_of p)) control_of body why run.world new (state_of run.state) e))

  -- ---- rows of statements

  module _ (calls : Calls) where
    -- the statements that are left are the whole from here on
    abbrev pub RestIs : List CStmt → Run → Progress CState (control.Control (Option CValue)) → Type 0
    RestIs rest run whole = whole ≡ exec_all (program_of p) calls (stmts_of rest) run.world.steps (world_of run.world) (state_of run.state)

    pub next_statement : (stmt : CStmt) (now rest : List CStmt) (run new : Run) (whole : Progress CState (control.Control (Option CValue))) (c : Control) → now ≡ stmt ∷ rest → RestIs now run whole → Does p control_of (exec (program_of p) calls (stmt_of stmt)) run new (Ok c)
        → whole ≡ onward (exec_all (program_of p) calls (stmts_of rest)) (control_of c) new.world.steps (world_of new.world) (state_of new.state)
    next_statement stmt now rest run new whole c is h k =
        h ∙ ap (λ xs. exec_all (program_of p) calls (stmts_of xs) run.world.steps (world_of run.world) (state_of run.state)) is ∙ ap (λ x. after x (onward (exec_all (program_of p) calls (stmts_of rest)))) k

    pub statement_stops : (stmt : CStmt) (now rest : List CStmt) (run new : Run) (whole : Progress CState (control.Control (Option CValue))) (why : Stopped) → now ≡ stmt ∷ rest → RestIs now run whole → Does p control_of (exec (program_of p) calls (stmt_of stmt)) run new (Err why)
        → Comes (seen (program_of p)) control_of whole (Err why) new.world (state_of new.state)
    statement_stops stmt now rest run new whole why is h k =
        subst (λ x. Comes (seen (program_of p)) control_of x (Err why) new.world (state_of new.state))
        (sym (h ∙ ap (λ xs. exec_all (program_of p) calls (stmts_of xs) run.world.steps (world_of run.world) (state_of run.state)) is))
        (stops (seen (program_of p)) control_of control_of (exec (program_of p) calls (stmt_of stmt) run.world.steps (world_of run.world) (state_of run.state)) (onward (exec_all (program_of p) calls (stmts_of rest))) why new.world (state_of new.state) k)

    pub no_statement : (now : List CStmt) (run : Run) (whole : Progress CState (control.Control (Option CValue))) → now ≡ [] → RestIs now run whole → whole ≡ Finished control.Falls (world_of run.world) (state_of run.state) run.world.steps
    no_statement now run whole is h = h ∙ ap (λ xs. exec_all (program_of p) calls (stmts_of xs) run.world.steps (world_of run.world) (state_of run.state)) is

  -- ---- frames

  module _ {A B : Type 0} (view : B → A) (part : Part CState A) (params : Frame) where
    pub frame_ends : (old mid : Run) (entered new : State) (b : B) → state_of entered ≡ enter params (state_of old.state) → Does p view part (record old { state = entered }) mid (Ok b) → state_of new ≡ back (state_of mid.state) → Does p view (in_own_frame params part) old (record mid { state = new }) (Ok b)
    frame_ends old mid entered new b e h k =
        let inner : part old.world.steps (world_of old.world) (enter params (state_of old.state)) ≡ Finished (view b) (world_of mid.world) (state_of mid.state) mid.world.steps = ap (λ s. part old.world.steps (world_of old.world) s) (sym e) ∙ h in
        ap (left (λ before end. back end) (state_of old.state)) inner ∙ ap (λ s. Finished (view b) (world_of mid.world) s mid.world.steps) (sym k)

    pub frame_stops : {D : Type 0} (view' : D → A) (old mid : Run) (entered : State) (why : Stopped) → state_of entered ≡ enter params (state_of old.state) → Does p view part (record old { state = entered }) mid (Err why) → Does p view' (in_own_frame params part) old mid (Err why)
    frame_stops view' old mid entered why e h =
        stops_within (seen (program_of p)) view view' (λ before end. back end) (state_of old.state) (part old.world.steps (world_of old.world) (enter params (state_of old.state))) why mid.world (state_of mid.state)
        (subst (λ s. Comes (seen (program_of p)) view (part old.world.steps (world_of old.world) s) (Err why) mid.world (state_of mid.state)) e h)
