-- All statements of a body follow, one behind the other, where those do whose laws are given.
use Rattle.std.proofs.Common.{◌≡◌, ℕ, ◌≤◌, List, [], ◌∷◌, ◌++◌, Option, refl, arith}
use Rattle.step_semantics.specs.Control.{Control, Falls, Broke, Returned, also, onward}
use Rattle.step_semantics.specs.Follows.{Follows}
use Rattle.step_semantics.specs.Safe.{HasMeaning}
use Rattle.step_semantics.specs.Steps.{World, Progress, Finished, Halted, Exhausted, Part, after}
use Rattle.step_semantics.proofs.Following.{bound, kept, as_is, rests, weaker}
use Rattle.step_semantics.proofs.ControlFollows.{same_moves}
use Rattle.core_tree.specs.Checks.{stmt_checks, stmts_checks}
use Rattle.core_tree.specs.Environments.{Point, locals_in, within_loop, skipping, narrowing, looping}
use Rattle.core_tree.specs.Environments as place
use Rattle.core_tree.specs.Syntax.{StmtCore, StmtsCore, Let, LetCall, Alloc, Store, Copy, Call, If, IfElse, Map, Upto, Downto, Forever, Break, Return, Assert, NoAlloc, NoBreak, NoReturn, NoStmts, MoreStmts}
use Rattle.core_meaning.specs.Conditions.{ensured}
use Rattle.core_meaning.specs.State.{State}
use Rattle.core_meaning.specs.Statements.{Flow, exec, exec_all}
use Rattle.c_ast.specs.Syntax.{Stmt}
use Rattle.c_meaning.specs.State.{CState}
use Rattle.c_meaning.specs.Statements as target
use Rattle.c_meaning.specs.Values.{CValue}
use Rattle.region_soundness.specs.Laws.{calls_before, KeepsScope}
use Rattle.region_soundness.proofs.Scopes.{statements_keep_scopes}
use Rattle.lower_statements.specs.Statements.{stmt_body, stmts_body}
use Rattle.value_refinement.specs.Laws.{running}
use Rattle.value_refinement.proofs.Given.{first_checks, last_checks}
use Rattle.body_refinement.specs.Bodies.{Lowered, env_in, frame_in, home_in, program_in, within}
use Rattle.body_refinement.specs.Laws.{OthersFollow, StatementsFollow}
use Rattle.body_refinement.specs.Statements.{CameTo, CameWith, CameBack, StmtDone, StmtsDone, StmtFollows, StmtsFollow}
use Rattle.body_refinement.proofs.Blocks.{ifs_follow, if_elses_follow, breaks_follow, narrowed_follows, forever_follows_in}
use Rattle.body_refinement.proofs.Allocs.{allocs_follow_all}
use Rattle.body_refinement.proofs.Copies.{copies_follow}
use Rattle.body_refinement.proofs.Counting.{map_follows, downto_follows}
use Rattle.body_refinement.proofs.Returns.{returns_follow}
use Rattle.body_refinement.proofs.Coming.{came_join, back_join, stayed}
use Rattle.body_refinement.proofs.Growing.{stmt_grows}
use Rattle.body_refinement.proofs.Places.{place_after, stmt_room}
use Rattle.body_refinement.proofs.Simple.{lets_follow_in, stores_follow_in, asserts_follow_in}

-- ---- rows of C

row_after : (r : Progress CState (Control (Option CValue))) (first rest all : Part CState (Control (Option CValue))) → ((j : ℕ) (w : World) (t : CState) → all j w t ≡ after (first j w t) (onward rest)) → after r (onward all) ≡ after (after r (onward first)) (onward rest)
row_after (Finished Falls w t k) first rest all h = h k w t
row_after (Finished Broke w t k) first rest all h = refl
row_after (Finished (Returned a) w t k) first rest all h = refl
row_after (Halted how w seen) first rest all h = refl
row_after (Exhausted w) first rest all h = refl

module _ (d : Lowered) (scope : List ℕ) where
  -- what comes behind a row of statements
  pub rows : (first rest : List Stmt) (j : ℕ) (w : World) (t : CState) → running (within d scope) (first ++ rest) j w t ≡ after (running (within d scope) first j w t) (onward (running (within d scope) rest))
  rows [] rest j w t = refl
  rows (x ∷ first) rest j w t = row_after (target.exec (program_in d) d.functions x j w t) (running (within d scope) first) (running (within d scope) rest) (running (within d scope) (first ++ rest)) (λ k v u. rows first rest k v u)

-- ---- one statement, and those behind it

module _ (d : Lowered) (at : Point) (c : StmtCore) (ss : StmtsCore) (first : StmtFollows d at c) (rest : StmtsFollow d (place.after c at) ss) where
  pub more_follow : StmtsFollow d at (MoreStmts c ss)
  more_follow placed typed kinds small entry waiting objects s t before from low n w =
      as_is d.skip (StmtsDone d entry at.next objects s t) 0 0 n (also c_part ss_part n w s) (λ j. running (within d at.scope) ((stmt_body (frame_in d) (home_in d) c from).stmts ++ (stmts_body (frame_in d) (home_in d) ss k).stmts) j w t)
      (λ j. after (running (within d at.scope) (stmt_body (frame_in d) (home_in d) c from).stmts j w t) (onward later))
      (λ j. rows d at.scope (stmt_body (frame_in d) (home_in d) c from).stmts (stmts_body (frame_in d) (home_in d) ss k).stmts j w t)
      (bound d.skip Mid (StmtsDone d entry at.next objects s t) 0 0 0 n (c_part n w s) (λ j. running (within d at.scope) (stmt_body (frame_in d) (home_in d) c from).stmts j w t) (onward ss_part) (onward later)
      (kept d.skip HasMeaning (StmtDone d entry at c objects s t) (KeepsScope d.core d.proc at c entry waiting) 0 0 n (c_part n w s) (λ j. running (within d at.scope) (stmt_body (frame_in d) (home_in d) c from).stmts j w t)
      (statements_keep_scopes d.core d.valid d.number d.proc d.is at c placed typed.0 entry waiting s before.scoped n w)
      (first placed typed.0 kinds.0 (first_checks (stmt_checks c) (stmts_checks ss) small) entry waiting objects s t before from low n w))
      (λ flow u control v both m le z. go flow u control v both m z))
    where
      k : ℕ
      k = (stmt_body (frame_in d) (home_in d) c from).next

      c_part : Part State Flow
      c_part = exec d.core (calls_before d.core d.number) (ensured d.core d.proc) c

      ss_part : Part State Flow
      ss_part = exec_all d.core (calls_before d.core d.number) (ensured d.core d.proc) ss

      later : Part CState (Control (Option CValue))
      later = running (within d at.scope) (stmts_body (frame_in d) (home_in d) ss k).stmts

      Mid : Flow → State → Control (Option CValue) → CState → Type 0
      Mid flow u control v = StmtDone d entry at c objects s t flow u control v × KeepsScope d.core d.proc at c entry waiting flow u

      go : (flow : Flow) (u : State) (control : Control (Option CValue)) (v : CState) → StmtDone d entry at c objects s t flow u control v × KeepsScope d.core d.proc at c entry waiting flow u → (m : ℕ) (z : World)
          → Follows d.skip (StmtsDone d entry at.next objects s t) 0 0 m (onward ss_part flow m z u) (λ j. onward later control j z v)
      go Falls u Falls v both m z =
          let came : CameWith d at.next objects s t (place.after c at).scope u v = both.0 in
          let grows : from ≤ k = stmt_grows (frame_in d) (home_in d) c from in
          weaker d.skip (StmtsDone d entry (place.after c at).next came.more u v) (StmtsDone d entry at.next objects s t) 0 0 m (ss_part m z u) (λ j. later j z v)
          (λ flow x control y. same_moves (CameTo d (place.after c at).next came.more u v) (CameTo d at.next objects s t) (CameBack d (place.after c at).next came.more u v entry) (CameBack d at.next objects s t entry) x x y y
          (λ done. came_join d at.next (place.after c at).next (omega arith) objects came.more s u x t v y came.moved done)
          (λ value result done. back_join d at.next (place.after c at).next (omega arith) objects came.more s u x t v y came.moved entry value result done) flow control)
          (rest (place_after d.proc (env_in d) c at typed.0 placed) typed.2 kinds.1 (last_checks (stmt_checks c) (stmts_checks ss) small) entry waiting came.more u v
          (record { room = stmt_room (env_in d) c at typed.0 before.room; scoped = both.1; related = came.related; apart = came.apart }) k (omega (arith, low, grows)) m z)
      go Broke u Broke v both m z = rests d.skip (StmtsDone d entry at.next objects s t) 0 Broke Broke m z u v both.0
      go (Returned value) u (Returned result) v both m z = rests d.skip (StmtsDone d entry at.next objects s t) 0 (Returned value) (Returned result) m z u v both.0
      go Falls u Broke v both m z = absurd both.0
      go Falls u (Returned r) v both m z = absurd both.0
      go Broke u Falls v both m z = absurd both.0
      go Broke u (Returned r) v both m z = absurd both.0
      go (Returned value) u Falls v both m z = absurd both.0
      go (Returned value) u Broke v both m z = absurd both.0

pub none_follow : (d : Lowered) (at : Point) → StmtsFollow d at NoStmts
none_follow d at placed typed kinds small entry waiting objects s t before from low n w = rests d.skip (StmtsDone d entry at.next objects s t) 0 Falls Falls n w s t (stayed d at.next objects s t before.related.both)

-- ---- all of them

module _ (d : Lowered) (others : OthersFollow d) where
  mutual
    stmt_follows : (c : StmtCore) (at : Point) → StmtFollows d at c
    stmt_follows (Let x e) at = lets_follow_in d at x e
    stmt_follows (LetCall x c) at = others.named_call at x c
    stmt_follows (Alloc x area init) at = allocs_follow_all d at x area init
    stmt_follows (Store target value) at = stores_follow_in d at target value
    stmt_follows (Copy target source) at = copies_follow d at target source
    stmt_follows (Call c) at = others.call at c
    stmt_follows (If e a) at = ifs_follow d at e a (stmts_follow a at)
    stmt_follows (IfElse e a b) at = if_elses_follow d at e a b (stmts_follow a at) (stmts_follow b (skipping _ at))
    stmt_follows (Map x n a) at = map_follows d at x n a (stmts_follow a (within_loop x at))
    stmt_follows (Upto x n e a) at = others.upto at x n e a (stmts_follow a (within_loop x at))
    stmt_follows (Downto x n e a) at = downto_follows d at x n e a (stmts_follow a (within_loop x at))
    stmt_follows (Forever a) at = forever_follows_in d at a (stmts_follow a (looping at))
    stmt_follows Break at = breaks_follow d at
    stmt_follows (Return value) at = returns_follow d at value
    stmt_follows (Assert e check) at = asserts_follow_in d at e check
    stmt_follows (NoAlloc a) at = λ placed typed kinds small entry waiting objects s t before from low n w. narrowed_follows d at _ a (NoAlloc a) refl (stmts_follow a _) placed typed kinds small entry waiting objects s t before from low n w
    stmt_follows (NoBreak a) at = λ placed typed kinds small entry waiting objects s t before from low n w. narrowed_follows d at _ a (NoBreak a) refl (stmts_follow a _) placed typed kinds small entry waiting objects s t before from low n w
    stmt_follows (NoReturn a) at = λ placed typed kinds small entry waiting objects s t before from low n w. narrowed_follows d at _ a (NoReturn a) refl (stmts_follow a _) placed typed kinds small entry waiting objects s t before from low n w

    pub stmts_follow : (ss : StmtsCore) (at : Point) → StmtsFollow d at ss
    stmts_follow NoStmts at = none_follow d at
    stmts_follow (MoreStmts c ss) at = more_follow d at c ss (stmt_follows c at) (stmts_follow ss (place.after c at))

pub statements_follow : StatementsFollow
statements_follow d others at ss = stmts_follow d others ss at
