-- Blocks follow where what stands in them does: choices, narrowing blocks and loops without an end of their own.
use Rattle.std.proofs.Common.{◌≡◌, ℕ, ◌+◌, ◌≤◌, Bool, true, false, List, [], ◌∷◌, ◌++◌, length, Option, refl, sym, ◌∙◌, subst, arith}
use Rattle.std.specs.Prelude.{if◌then◌else◌}
use Rattle.step_semantics.specs.Alike.{Same}
use Rattle.step_semantics.specs.Control.{Control, Falls, Broke, Returned, forever}
use Rattle.step_semantics.specs.Follows.{Follows}
use Rattle.step_semantics.specs.Safe.{HasMeaning}
use Rattle.step_semantics.specs.Steps.{World, Part, block, give, tick}
use Rattle.step_semantics.proofs.ControlFollows.{block_follows, forever_follows, same_moves}
use Rattle.step_semantics.proofs.Following.{weaker, kept, as_is, rests, both_tick, eased}
use Rattle.step_semantics.proofs.Laws.{block_lawful}
use Rattle.alloc_effects.specs.declared.allowed.Allowed.{Allowed}
use Rattle.core_tree.specs.Checks.{expr_checks, stmts_checks}
use Rattle.core_tree.specs.Environments.{Point, named_by, all_locals, skipping, looping}
use Rattle.core_tree.specs.Syntax.{ExprCore, StmtCore, If, IfElse, Forever, Break, StmtsCore}
use Rattle.core_tree.specs.TypedStatements.{StmtsTyped}
use Rattle.core_meaning.specs.Conditions.{ensured}
use Rattle.core_meaning.specs.State as source
use Rattle.core_meaning.specs.State.{State}
use Rattle.core_meaning.specs.Statements.{Flow, exec_all}
use Rattle.core_meaning.specs.Values.{Value}
use Rattle.c_ast.specs.Syntax as c
use Rattle.c_ast.specs.Syntax.{Stmt}
use Rattle.c_ast.specs.View.{stmts_from}
use Rattle.c_meaning.specs.State as target
use Rattle.c_meaning.specs.State.{CState}
use Rattle.c_meaning.specs.Statements as target_statements
use Rattle.c_meaning.specs.Values.{CValue}
use Rattle.c_meaning.proofs.Lawful.{exec_all_lawful}
use Rattle.area_objects.specs.Both.{Map}
use Rattle.region_soundness.specs.Fitting.{Entry}
use Rattle.region_soundness.specs.Laws.{PlaceIn, calls_before, inside}
use Rattle.region_soundness.specs.Scoped.{Activation, Scoped}
use Rattle.region_soundness.proofs.Scopes.{blocks_keep_scopes}
use Rattle.lower_values.specs.Expressions.{raw}
use Rattle.lower_values.specs.Frames.{allocated}
use Rattle.lower_statements.specs.Statements.{stmts_body}
use Rattle.value_refinement.specs.Kept.{Kept}
use Rattle.value_refinement.specs.Laws.{Numbered, running}
use Rattle.value_refinement.proofs.Given.{first_checks, last_checks}
use Rattle.value_refinement.proofs.Growing.{raw_grows}
use Rattle.value_refinement.proofs.Standings.{related_on}
use Rattle.statement_refinement.proofs.Written.{counters_kept}
use Rattle.body_refinement.specs.Bodies.{Lowered, env_in, frame_in, home_in, program_in, within}
use Rattle.body_refinement.specs.Kinds.{AllKindsAre}
use Rattle.body_refinement.specs.Statements.{CameTo, CameWith, CameBack, StmtDone, StmtsDone, Before, StmtFollows, StmtsFollow}
use Rattle.body_refinement.proofs.Choosing.{choosing_follows, nothing_after}
use Rattle.body_refinement.proofs.Coming.{kept_moved, set_in, stage_in, came_with, came_join, back_join, stayed, left_came, left_back}
use Rattle.body_refinement.proofs.Growing.{stmts_grow}
use Rattle.body_refinement.proofs.Places.{place_on, stmts_room}

-- ---- before a place

module _ (d : Lowered) (at : Point) (place : PlaceIn d.proc at) (entry : Entry) (waiting : List Activation) (objects : Map) (s : State) (t : CState) (before : Before d at entry waiting objects s t) where
  -- where no name comes, what statements in a row leave is what a statement does
  pub done_of : (c : StmtCore) → named_by c ≡ [] → (flow : Flow) (later : State) (control : Control (Option CValue)) (u : CState) → StmtsDone d entry at.next objects s t flow later control u → StmtDone d entry at c objects s t flow later control u
  done_of c none Falls later Falls u came =
      subst (λ names. CameWith d at.next objects s t (names ++ at.scope) later u) (sym none) (came_with d at place objects s t before.related before.apart later u came)
  done_of c none Broke later Broke u came = came
  done_of c none (Returned v) later (Returned r) u came = came
  done_of c none Falls later Broke u came = absurd came
  done_of c none Falls later (Returned r) u came = absurd came
  done_of c none Broke later Falls u came = absurd came
  done_of c none Broke later (Returned r) u came = absurd came
  done_of c none (Returned v) later Falls u came = absurd came
  done_of c none (Returned v) later Broke u came = absurd came

  -- behind temporaries
  module _ (from : ℕ) (low : length d.proc.locals ≤ from) (u : CState) (kept_from : Kept (program_in d) from t u) where
    pub before_kept : Before d at entry waiting objects s u
    before_kept = record {
      room = before.room;
      scoped = before.scoped;
      related = related_on (within d at.scope) (set_in d at.scope) objects s from low t u kept_from before.related;
      apart = counters_kept (within d at.scope) (set_in d at.scope) objects s from low t u kept_from before.apart;
    }

    pub since_kept : (flow : Flow) (later : State) (control : Control (Option CValue)) (v : CState) → StmtsDone d entry at.next objects s u flow later control v → StmtsDone d entry at.next objects s t flow later control v
    since_kept flow later control v done =
        let moved = kept_moved (program_in d) at.next from (omega (arith, before.room, low)) objects s t u kept_from in
        same_moves (CameTo d at.next objects s u) (CameTo d at.next objects s t) (CameBack d at.next objects s u entry) (CameBack d at.next objects s t entry) later later v v
        (λ came. came_join d at.next at.next (omega arith) objects objects s s later t u v moved came)
        (λ value result came. back_join d at.next at.next (omega arith) objects objects s s later t u v moved entry value result came) flow control done

  -- ---- a block, at this place or further on in the text

  module _ (m : ℕ) (allowed : Allowed) (le : at.next ≤ m) (room : m ≤ length d.proc.locals) where
    abbrev inner : Point
    inner = record { scope = at.scope; next = m; allowed = allowed }

    pub block_in : (ss : StmtsCore) → StmtsFollow d inner ss → StmtsTyped (env_in d) inner ss → AllKindsAre (allocated d.proc.body) ss → Numbered (stmts_checks ss) → (from : ℕ) → length d.proc.locals ≤ from → (n : ℕ) (w : World)
        → Follows d.skip (StmtsDone d entry at.next objects s t) 0 0 n (block source.leave (exec_all d.core (calls_before d.core d.number) (ensured d.core d.proc) ss) n w s)
        (λ j. block target.leave (running (within d at.scope) (stmts_body (frame_in d) (home_in d) ss from).stmts) j w t)
    block_in ss follows typed kinds small from low n w =
        block_follows d.skip (CameTo d m objects s t) (CameBack d m objects s t entry) (CameTo d at.next objects s t) (CameBack d at.next objects s t entry) source.leave target.leave s t 0 0 n
        (exec_all d.core (calls_before d.core d.number) (ensured d.core d.proc) ss n w s) (λ j. running (within d at.scope) (stmts_body (frame_in d) (home_in d) ss from).stmts j w t)
        (λ u v came. left_came d at.next m le objects s t before.related.both came.more u v came.moved came.both)
        (λ value u result v came. left_back d at.next m le objects s t before.related.both came.more u v came.moved came.both entry before.scoped.frame.room value result came.given)
        (follows (place_on d.proc at place inner refl le) typed kinds small entry waiting objects s t (record { room = room; scoped = before.scoped; related = before.related; apart = before.apart }) from low n w)

-- ---- loops without an end of their own

module _ (d : Lowered) (at : Point) (place : PlaceIn d.proc at) (entry : Entry) (waiting : List Activation) (allowed : Allowed) (ss : StmtsCore) (follows : StmtsFollow d (record { scope = at.scope; next = at.next; allowed = allowed }) ss)
    (typed : StmtsTyped (env_in d) (record { scope = at.scope; next = at.next; allowed = allowed }) ss) (kinds : AllKindsAre (allocated d.proc.body) ss) (small : Numbered (stmts_checks ss))
    (from : ℕ) (low : length d.proc.locals ≤ from) (objects : Map) (s : State) (t : CState) (before : Before d at entry waiting objects s t) where
  abbrev in_loop : Point
  in_loop = record { scope = at.scope; next = at.next; allowed = allowed }

  abbrev turn : Part State Flow
  turn = block source.leave (exec_all d.core (calls_before d.core d.number) (ensured d.core d.proc) ss)

  abbrev c_turn : Part CState (Control (Option CValue))
  c_turn = block target.leave (running (within d at.scope) (stmts_body (frame_in d) (home_in d) ss from).stmts)

  -- before each turn
  abbrev Between : State → CState → Type 0
  Between u v = Scoped d.core (inside d.proc at.scope entry) waiting u × CameTo d at.next objects s t u v

  abbrev Back : Option Value → State → Option CValue → CState → Type 0
  Back = CameBack d at.next objects s t entry

  turn_follows : (u : State) (v : CState) → Between u v → (n : ℕ) (w : World) → Follows d.skip (Same Between Back) 0 0 n (turn n w u) (λ j. c_turn j w v)
  turn_follows u v between n w =
      let with_names : CameWith d at.next objects s t at.scope u v = came_with d at place objects s t before.related before.apart u v between.1 in
      let here : Before d at entry waiting with_names.more u v = record { room = before.room; scoped = between.0; related = with_names.related; apart = with_names.apart } in
      weaker d.skip (λ flow x control y. StmtsDone d entry at.next with_names.more u v flow x control y × Scoped d.core (inside d.proc at.scope entry) waiting x) (Same Between Back) 0 0 n (turn n w u) (λ j. c_turn j w v)
      (λ flow x control y both.
      same_moves (CameTo d at.next with_names.more u v) Between (CameBack d at.next with_names.more u v entry) Back x x y y
      (λ came. (both.1, came_join d at.next at.next (omega arith) objects with_names.more s u x t v y with_names.moved came))
      (λ value result came. back_join d at.next at.next (omega arith) objects with_names.more s u x t v y with_names.moved entry value result came) flow control both.0)
      (kept d.skip HasMeaning (StmtsDone d entry at.next with_names.more u v) (λ flow x. Scoped d.core (inside d.proc at.scope entry) waiting x) 0 0 n (turn n w u) (λ j. c_turn j w v)
      (blocks_keep_scopes d.core d.valid d.number d.proc d.is in_loop ss (place_on d.proc at place in_loop refl (omega arith)) typed entry waiting u between.0 n w)
      (block_in d at place entry waiting with_names.more u v here at.next allowed (omega arith) before.room ss follows typed kinds small from low n w))

  pub forever_in : (n : ℕ) (w : World) → Follows d.skip (StmtsDone d entry at.next objects s t) 0 0 n (forever turn n w s) (λ j. forever c_turn j w t)
  forever_in n w =
      weaker d.skip (Same Between Back) (StmtsDone d entry at.next objects s t) 0 0 n (forever turn n w s) (λ j. forever c_turn j w t)
      (λ flow x control y. same_moves Between (CameTo d at.next objects s t) Back Back x x y y (λ b. b.1) (λ value result b. b) flow control)
      (forever_follows d.skip Between Back 0 turn c_turn (block_lawful target.leave _ (exec_all_lawful (program_in d) d.functions d.lawful (stmts_from (stmts_body (frame_in d) (home_in d) ss from).stmts))) turn_follows n w s t
      (before.scoped, stayed d at.next objects s t before.related.both))

-- ---- statements

-- the last statement of a row
alone : (d : Lowered) (at : Point) (one : Stmt) (part : Part CState (Control (Option CValue))) → ((j : ℕ) (w : World) (t : CState) → target_statements.exec (program_in d) d.functions one j w t ≡ part j w t) → (j : ℕ) (w : World) (t : CState) → running (within d at.scope) (one ∷ []) j w t ≡ part j w t
alone d at one part is j w t =
    nothing_after (target_statements.exec (program_in d) d.functions one j w t) (running (within d at.scope) []) (λ n a z. refl) ∙ is j w t

pub forever_follows_in : (d : Lowered) (at : Point) (a : StmtsCore) → StmtsFollow d (looping at) a → StmtFollows d at (Forever a)
forever_follows_in d at a follows place typed kinds small entry waiting objects s t before from low n w =
    let loop : Stmt = c.Forever (stmts_from (stmts_body (frame_in d) (home_in d) a from).stmts) in
    let turn : Part State Flow = block source.leave (exec_all d.core (calls_before d.core d.number) (ensured d.core d.proc) a) in
    let c_turn : Part CState (Control (Option CValue)) = block target.leave (running (within d at.scope) (stmts_body (frame_in d) (home_in d) a from).stmts) in
    weaker d.skip (StmtsDone d entry at.next objects s t) (StmtDone d entry at (Forever a) objects s t) 0 0 n (forever turn n w s) (λ j. running (within d at.scope) (loop ∷ []) j w t)
    (done_of d at place entry waiting objects s t before (Forever a) refl)
    (as_is d.skip (StmtsDone d entry at.next objects s t) 0 0 n (forever turn n w s) (λ j. running (within d at.scope) (loop ∷ []) j w t) (λ j. forever c_turn j w t) (λ j. alone d at loop (forever c_turn) (λ i z q. refl) j w t)
    (forever_in d at place entry waiting (looping at).allowed a follows typed kinds small from low objects s t before n w))

-- a block that only takes a permission away
module _ (d : Lowered) (at : Point) (allowed : Allowed) (a : StmtsCore) (whole : StmtCore) (none : named_by whole ≡ []) (follows : StmtsFollow d (record { scope = at.scope; next = at.next; allowed = allowed }) a) (place : PlaceIn d.proc at)
    (typed : StmtsTyped (env_in d) (record { scope = at.scope; next = at.next; allowed = allowed }) a) (kinds : AllKindsAre (allocated d.proc.body) a) (small : Numbered (stmts_checks a))
    (entry : Entry) (waiting : List Activation) (objects : Map) (s : State) (t : CState) (before : Before d at entry waiting objects s t) (from : ℕ) (low : length d.proc.locals ≤ from) where
  pub narrowed_follows : (n : ℕ) (w : World) → Follows d.skip (StmtDone d entry at whole objects s t) 0 0 n (block source.leave (exec_all d.core (calls_before d.core d.number) (ensured d.core d.proc) a) n w s)
      (λ j. running (within d at.scope) (c.Block (stmts_from (stmts_body (frame_in d) (home_in d) a from).stmts) ∷ []) j w t)
  narrowed_follows n w =
      let one : Stmt = c.Block (stmts_from (stmts_body (frame_in d) (home_in d) a from).stmts) in
      let part : Part State Flow = block source.leave (exec_all d.core (calls_before d.core d.number) (ensured d.core d.proc) a) in
      let c_part : Part CState (Control (Option CValue)) = block target.leave (running (within d at.scope) (stmts_body (frame_in d) (home_in d) a from).stmts) in
      weaker d.skip (StmtsDone d entry at.next objects s t) (StmtDone d entry at whole objects s t) 0 0 n (part n w s) (λ j. running (within d at.scope) (one ∷ []) j w t) (done_of d at place entry waiting objects s t before whole none)
      (as_is d.skip (StmtsDone d entry at.next objects s t) 0 0 n (part n w s) (λ j. running (within d at.scope) (one ∷ []) j w t) (λ j. c_part j w t) (λ j. alone d at one c_part (λ i z q. refl) j w t)
      (block_in d at place entry waiting objects s t before at.next allowed (omega arith) before.room a follows typed kinds small from low n w))

pub breaks_follow : (d : Lowered) (at : Point) → StmtFollows d at Break
breaks_follow d at place typed kinds small entry waiting objects s t before from low n w =
    let came : CameTo d at.next objects s t s t = stayed d at.next objects s t before.related.both in
    as_is d.skip (StmtDone d entry at Break objects s t) 0 0 n (tick (give Broke) n w s) (λ j. running (within d at.scope) (c.Break ∷ []) j w t) (λ j. tick (give Broke) j w t) (λ j. alone d at c.Break (tick (give Broke)) (λ i z q. refl) j w t)
    (both_tick d.skip (StmtDone d entry at Break objects s t) 0 0 (give Broke) (give Broke) w s t
    (λ m. eased d.skip (StmtDone d entry at Break objects s t) 0 0 15 0 m (give Broke m w s) (λ j. give Broke j w t) (omega arith) (omega arith) (rests d.skip (StmtDone d entry at Break objects s t) 0 Broke Broke m w s t came)) n)

module _ (d : Lowered) (at : Point) (place : PlaceIn d.proc at) (entry : Entry) (waiting : List Activation) (objects : Map) (s : State) (t : CState) (before : Before d at entry waiting objects s t) (from : ℕ) (low : length d.proc.locals ≤ from)
    (whole : StmtCore) (none : named_by whole ≡ []) (u : CState) (kept_u : Kept (program_in d) from t u) where
  -- a side of a choice that is a block
  side_follows : (m : ℕ) (allowed : Allowed) → at.next ≤ m → m ≤ length d.proc.locals → (a : StmtsCore) → StmtsFollow d (record { scope = at.scope; next = m; allowed = allowed }) a → StmtsTyped (env_in d) (record { scope = at.scope; next = m; allowed = allowed }) a
      → AllKindsAre (allocated d.proc.body) a → Numbered (stmts_checks a) → (k : ℕ) → length d.proc.locals ≤ k → (n : ℕ) (w : World)
      → Follows d.skip (StmtDone d entry at whole objects s t) 0 0 n (block source.leave (exec_all d.core (calls_before d.core d.number) (ensured d.core d.proc) a) n w s)
      (λ j. block target.leave (running (within d at.scope) (stmts_body (frame_in d) (home_in d) a k).stmts) j w u)
  side_follows m allowed le room a follows typed kinds small k low_k n w =
      let part : Part State Flow = block source.leave (exec_all d.core (calls_before d.core d.number) (ensured d.core d.proc) a) in
      let c_part : Part CState (Control (Option CValue)) = block target.leave (running (within d at.scope) (stmts_body (frame_in d) (home_in d) a k).stmts) in
      weaker d.skip (StmtsDone d entry at.next objects s u) (StmtDone d entry at whole objects s t) 0 0 n (part n w s) (λ j. c_part j w u)
      (λ flow later control v done. done_of d at place entry waiting objects s t before whole none flow later control v (since_kept d at place entry waiting objects s t before from low u kept_u flow later control v done))
      (block_in d at place entry waiting objects s u (before_kept d at place entry waiting objects s t before from low u kept_u) m allowed le room a follows typed kinds small k low_k n w)

  -- one that is nothing
  side_falls : (n : ℕ) (w : World) → Follows d.skip (StmtDone d entry at whole objects s t) 0 0 n (give Falls n w s) (λ j. give Falls j w u)
  side_falls n w =
      rests d.skip (StmtDone d entry at whole objects s t) 0 Falls Falls n w s u
      (done_of d at place entry waiting objects s t before whole none Falls s Falls u
      (since_kept d at place entry waiting objects s t before from low u kept_u Falls s Falls u (stayed d at.next objects s u (before_kept d at place entry waiting objects s t before from low u kept_u).related.both)))

pub ifs_follow : (d : Lowered) (at : Point) (e : ExprCore) (a : StmtsCore) → StmtsFollow d at a → StmtFollows d at (If e a)
ifs_follow d at e a follows place typed kinds small entry waiting objects s t before from low n w =
    let g = within d at.scope in
    let k : ℕ = (raw (frame_in d) e from).next in
    let part : Part State Flow = block source.leave (exec_all d.core (calls_before d.core d.number) (ensured d.core d.proc) a) in
    let c_part : Part CState (Control (Option CValue)) = block target.leave (running g (stmts_body (frame_in d) (home_in d) a k).stmts) in
    let grows : from ≤ k = raw_grows (frame_in d) e from in
    choosing_follows g (set_in d at.scope) objects s (stage_in d at.scope entry waiting s before.scoped) e typed.0 (first_checks (expr_checks e) (stmts_checks a) small) (StmtDone d entry at (If e a) objects s t) from low t before.related
    (λ b. if b then part else give Falls) (λ b. if b then c_part else give Falls) (c.If _ (stmts_from (stmts_body (frame_in d) (home_in d) a k).stmts)) (λ j z q. refl)
    (λ u kept_u b. side u kept_u b) n w
  where
    side : (u : CState) → Kept (program_in d) from t u → (b : Bool) (m : ℕ) (z : World) → Follows d.skip (StmtDone d entry at (If e a) objects s t) 0 0 m ((if b then block source.leave (exec_all d.core (calls_before d.core d.number) (ensured d.core d.proc) a) else give Falls) m z s)
        (λ j. (if b then block target.leave (running (within d at.scope) (stmts_body (frame_in d) (home_in d) a (raw (frame_in d) e from).next).stmts) else give Falls) j z u)
    side u kept_u true m z =
        let k : ℕ = (raw (frame_in d) e from).next in
        let grows : from ≤ k = raw_grows (frame_in d) e from in
        side_follows d at place entry waiting objects s t before from low (If e a) refl u kept_u at.next at.allowed (omega arith) before.room a follows typed.1 kinds (last_checks (expr_checks e) (stmts_checks a) small) k (omega (arith, low, grows)) m z
    side u kept_u false m z = side_falls d at place entry waiting objects s t before from low (If e a) refl u kept_u m z

pub if_elses_follow : (d : Lowered) (at : Point) (e : ExprCore) (a b : StmtsCore) → StmtsFollow d at a → StmtsFollow d (skipping (all_locals a) at) b → StmtFollows d at (IfElse e a b)
if_elses_follow d at e a b first second place typed kinds small entry waiting objects s t before from low n w =
    let g = within d at.scope in
    let k : ℕ = (raw (frame_in d) e from).next in
    let i : ℕ = (stmts_body (frame_in d) (home_in d) a k).next in
    let part : StmtsCore → Part State Flow = λ ss. block source.leave (exec_all d.core (calls_before d.core d.number) (ensured d.core d.proc) ss) in
    let c_part : StmtsCore → ℕ → Part CState (Control (Option CValue)) = λ ss q. block target.leave (running g (stmts_body (frame_in d) (home_in d) ss q).stmts) in
    choosing_follows g (set_in d at.scope) objects s (stage_in d at.scope entry waiting s before.scoped) e typed.0 (first_checks (expr_checks e) (stmts_checks a ++ stmts_checks b) small) (StmtDone d entry at (IfElse e a b) objects s t) from low t before.related
    (λ holds. if holds then part a else part b) (λ holds. if holds then c_part a k else c_part b i) (c.IfElse _ (stmts_from (stmts_body (frame_in d) (home_in d) a k).stmts) (stmts_from (stmts_body (frame_in d) (home_in d) b i).stmts)) (λ j z q. refl)
    (λ u kept_u holds. side u kept_u holds) n w
  where
    side : (u : CState) → Kept (program_in d) from t u → (holds : Bool) (m : ℕ) (z : World)
        → Follows d.skip (StmtDone d entry at (IfElse e a b) objects s t) 0 0 m
        ((if holds then block source.leave (exec_all d.core (calls_before d.core d.number) (ensured d.core d.proc) a) else block source.leave (exec_all d.core (calls_before d.core d.number) (ensured d.core d.proc) b)) m z s)
        (λ j. (if holds then block target.leave (running (within d at.scope) (stmts_body (frame_in d) (home_in d) a (raw (frame_in d) e from).next).stmts)
        else block target.leave (running (within d at.scope) (stmts_body (frame_in d) (home_in d) b (stmts_body (frame_in d) (home_in d) a (raw (frame_in d) e from).next).next).stmts)) j z u)
    side u kept_u true m z =
        let k : ℕ = (raw (frame_in d) e from).next in
        let grows : from ≤ k = raw_grows (frame_in d) e from in
        side_follows d at place entry waiting objects s t before from low (IfElse e a b) refl u kept_u at.next at.allowed (omega arith) before.room a first typed.1 kinds.0
        (first_checks (stmts_checks a) (stmts_checks b) (last_checks (expr_checks e) (stmts_checks a ++ stmts_checks b) small)) k (omega (arith, low, grows)) m z
    side u kept_u false m z =
        let k : ℕ = (raw (frame_in d) e from).next in
        let i : ℕ = (stmts_body (frame_in d) (home_in d) a k).next in
        let grows : from ≤ k = raw_grows (frame_in d) e from in
        let more : k ≤ i = stmts_grow (frame_in d) (home_in d) a k in
        side_follows d at place entry waiting objects s t before from low (IfElse e a b) refl u kept_u (at.next + all_locals a) at.allowed (omega arith) (stmts_room (env_in d) a at typed.1 before.room) b second typed.2 kinds.1
        (last_checks (stmts_checks a) (stmts_checks b) (last_checks (expr_checks e) (stmts_checks a ++ stmts_checks b) small)) i (omega (arith, low, grows, more)) m z
