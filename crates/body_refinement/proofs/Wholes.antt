-- A whole body follows: what is required is tested before it, and what is ensured where it falls off its end.
use Rattle.std.proofs.Common.{Contains, ◌≡◌, ℕ, zero, suc, ◌<◌, ◌≤◌, Bool, true, false, List, [], ◌++◌, length, Option, Some, None, refl, sym, subst, arith, append-nil}
use Rattle.std.specs.Prelude.{◌||◌, not, if◌then◌else◌, is_none, take, IsTrue}
use Rattle.std.specs.List.{flat_map}
use Rattle.step_semantics.specs.Control.{Control, Falls, Broke, Returned, onward}
use Rattle.step_semantics.specs.Follows.{Follows}
use Rattle.step_semantics.specs.Safe.{HasMeaning}
use Rattle.step_semantics.specs.Steps.{World, Part, bind, give, after}
use Rattle.step_semantics.proofs.Following.{as_is, bound, kept, rests}
use Rattle.area_types.specs.Syntax.{ValueType}
use Rattle.core_tree.specs.Checks.{contract_checks, stmts_checks}
use Rattle.core_tree.specs.Environments.{Point}
use Rattle.core_tree.specs.Falling.{stmts_fall, stmts_break}
use Rattle.core_tree.specs.Syntax.{ContractCore}
use Rattle.core_tree.specs.TypedItems.{below, start, ProcTyped}
use Rattle.core_meaning.specs.Conditions.{ensured, ensures_of, requires_of}
use Rattle.core_meaning.specs.Run.{result_of, body_of}
use Rattle.core_meaning.specs.State.{State}
use Rattle.core_meaning.specs.Statements.{Flow, exec_all}
use Rattle.core_meaning.specs.Values.{Value}
use Rattle.c_ast.specs.declared.Suffix.TheVariants.{Plain}
use Rattle.c_ast.specs.Syntax as c
use Rattle.c_ast.specs.Syntax.{Stmt}
use Rattle.c_meaning.specs.State.{CState}
use Rattle.c_meaning.specs.Values.{CValue}
use Rattle.area_objects.specs.Both.{Map}
use Rattle.region_soundness.specs.Fitting.{Entry}
use Rattle.region_soundness.specs.Laws.{PlaceIn, calls_before, inside}
use Rattle.region_soundness.specs.Scoped.{Activation, Scoped}
use Rattle.region_soundness.proofs.Scopes.{scoped_with, stmts_come}
use Rattle.region_soundness.proofs.Standing.{Came}
use Rattle.region_soundness.proofs.Statements.{after_all}
use Rattle.value_fitting.specs.Known.{ResultFits}
use Rattle.lower_statements.specs.Bodies.{nothing, followed_by}
use Rattle.lower_statements.specs.Conditions as lowered
use Rattle.lower_statements.specs.Conditions.{contract_tests}
use Rattle.lower_statements.specs.Procedures.{falling_off}
use Rattle.lower_statements.specs.Statements.{stmts_body}
use Rattle.value_refinement.specs.Kept.{Kept}
use Rattle.value_refinement.specs.Laws.{running}
use Rattle.value_refinement.proofs.Given.{last_checks}
use Rattle.value_refinement.proofs.Standings.{related_on}
use Rattle.lowered_surroundings.proofs.Procedures.{plain_ensures_are_set}
use Rattle.statement_refinement.proofs.Tests.{contracts_go_on}
use Rattle.body_refinement.specs.Bodies.{Lowered, env_in, frame_in, home_in, program_in, within}
use Rattle.body_refinement.specs.Laws.{OthersFollow, BodiesFollow}
use Rattle.body_refinement.specs.Statements.{CameTo, CameWith, StmtsDone, Before, BodyDone}
use Rattle.body_refinement.proofs.Blocks.{before_kept}
use Rattle.body_refinement.proofs.Coming.{kept_moved, set_in, stage_in, came_with, came_join, back_join}
use Rattle.body_refinement.proofs.Contracts.{selected_are, required_typed, required_small, ensures_go_on}
use Rattle.body_refinement.proofs.DeclaredKinds.{kinds_known}
use Rattle.body_refinement.proofs.Growing.{tests_grow, stmts_grow}
use Rattle.body_refinement.proofs.Statements.{rows, stmts_follow}

within_below : (n m : ℕ) → Contains (below n) m → m < n
within_below zero m h = let lt = h.1 in absurd (omega (arith, lt))
within_below (suc n) m (zero, lt, e) = let is : n ≡ m = cc in omega (arith, is)
within_below (suc n) m (suc k, lt, e) = let r : m < n = within_below n m (k, omega (arith, lt), e) in omega (arith, r)

-- a body that may fall off its end has no result
no_result : (r : Option ValueType) (falls : Bool) → IsTrue (is_none r || not falls) → IsTrue falls → r ≡ None
no_result None falls h g = refl
no_result (Some ty) true h g = let no : ⊥ = cc in absurd no
no_result (Some ty) false h g = let no : ⊥ = cc in absurd no

module _ (d : Lowered) (others : OthersFollow d) (entry : Entry) (waiting : List Activation) (objects : Map) (s : State) (t : CState) (before : Before d (start d.proc) entry waiting objects s t) where
  abbrev params : List ℕ
  params = below (length d.proc.params)

  abbrev at : Point
  at = start d.proc

  typed : ProcTyped d.core (take d.number d.core.procs) d.proc
  typed = d.valid.procs d.number d.proc d.is

  place : PlaceIn d.proc at
  place = record { before = λ m here. within_below (length d.proc.params) m here; parameters = λ m here. here }

  abbrev body_part : Part State Flow
  body_part = exec_all d.core (calls_before d.core d.number) (ensured d.core d.proc) d.proc.body

  abbrev going : Flow → Part State (Option Value)
  going = result_of d.core (ensured d.core d.proc)

  abbrev Post : Option Value → State → Control (Option CValue) → CState → Type 0
  Post = BodyDone d entry objects s t

  -- from the state behind what is required
  module _ (k : ℕ) (low : length d.proc.locals ≤ k) (u : CState) (kept_u : Kept (program_in d) (length d.proc.locals) t u) where
    abbrev last : ℕ
    last = (stmts_body (frame_in d) (home_in d) d.proc.body k).next

    low_last : length d.proc.locals ≤ last
    low_last = let r : k ≤ last = stmts_grow (frame_in d) (home_in d) d.proc.body k in omega (arith, low, r)

    before_u : Before d at entry waiting objects s u
    before_u = before_kept d at place entry waiting objects s t before (length d.proc.locals) (omega arith) u kept_u

    -- since the body's start
    since : (later : State) (v : CState) → CameTo d at.next objects s u later v → CameTo d at.next objects s t later v
    since later v came =
        came_join d at.next at.next (omega arith) objects objects s s later t u v (kept_moved (program_in d) at.next (length d.proc.locals) before.room objects s t u kept_u) came

    -- it has fallen off its end
    fallen : (later : State) (v : CState) → CameTo d at.next objects s u later v → Came (env_in d) params entry s (after_all d.proc.body at).scope (after_all d.proc.body at).next (stmts_fall d.proc.body) (stmts_break d.proc.body) at.allowed.may_break Falls later
        → (m : ℕ) (w : World) → Follows d.skip Post 0 0 m (going Falls m w later) (λ j. running (within d params) (falling_off (frame_in d) d.proc last).stmts j w v)
    fallen later v came came_source m w =
        let none : d.proc.result ≡ None = no_result d.proc.result (stmts_fall d.proc.body) typed.returns came_source.reached in
        let with_names : CameWith d at.next objects s u at.scope later v = came_with d at place objects s u before_u.related before_u.apart later v came in
        let scope : List ℕ = (after_all d.proc.body at).scope in
        let scoped_later : Scoped d.core (inside d.proc scope entry) waiting later =
        scoped_with d.core d.proc entry waiting at.scope s before.scoped scope later came_source.lasts came_source.stands.knows.areas came_source.stands.knows.names came_source.stands.named came_source.stands.args in
        let tests : List ContractCore → List Stmt = λ cs. (contract_tests (frame_in d) cs last).stmts in
        subst (λ falls. Follows d.skip Post 0 0 m (going Falls m w later) (λ j. running (within d params) (if falls then contract_tests (frame_in d) (lowered.ensured d.proc.contracts) last else nothing last).stmts j w v)) (sym came_source.reached)
        (subst (λ cs. Follows d.skip Post 0 0 m (going Falls m w later) (λ j. running (within d params) (tests cs) j w v)) (sym (selected_are lowered.is_ensured d.proc.contracts))
        (subst (λ ss. Follows d.skip Post 0 0 m (going Falls m w later) (λ j. running (within d params) ss j w v)) (append-nil (tests (ensures_of d.proc)))
        (ensures_go_on d scope params came_source.stands.parameters (λ i h. h) (c.Number 0 Plain) None last (plain_ensures_are_set d.core d.valid d.number d.proc d.is none d.skip d.target d.functions params (c.Number 0 Plain) None last low_last) entry waiting with_names.more later v scoped_later
        (subst (λ r. ResultFits d.core entry later.areas r None) (sym none) tt) with_names.related (λ ty z some has. let no : ⊥ = cc in absurd no) (Option Value) Post (λ q. give None) [] 0 0 last (omega arith)
        (λ z kept_z i q. rests d.skip Post 0 None Falls i q later z (
          refl,
          none,
          since later z (came_join d at.next at.next (omega arith) objects with_names.more s later later u v z with_names.moved
              (record { more = with_names.more; moved = kept_moved (program_in d) at.next last (let r = before.room in omega (arith, r, low_last)) with_names.more later v z kept_z; both = (related_on (within d params) (set_in d params) with_names.more later last low_last v z kept_z with_names.related).both })),
        )) m w)))

    ended : (flow : Flow) (later : State) (control : Control (Option CValue)) (v : CState) → StmtsDone d entry at.next objects s u flow later control v
        → Came (env_in d) params entry s (after_all d.proc.body at).scope (after_all d.proc.body at).next (stmts_fall d.proc.body) (stmts_break d.proc.body) at.allowed.may_break flow later
        → (m : ℕ) (w : World) → Follows d.skip Post 0 0 m (going flow m w later) (λ j. onward (running (within d params) (falling_off (frame_in d) d.proc last).stmts) control j w v)
    ended Falls later Falls v came source m w = fallen later v came source m w
    ended Broke later Broke v came source m w = let no : ⊥ = (let a = source.allowed in cc) in absurd no
    ended (Returned value) later (Returned result) v back source m w =
        rests d.skip Post 0 value (Returned result) m w later v
        (back_join d at.next at.next (omega arith) objects objects s s later t u v (kept_moved (program_in d) at.next (length d.proc.locals) before.room objects s t u kept_u) entry value result back)
    ended Falls later Broke v came source m w = absurd came
    ended Falls later (Returned r) v came source m w = absurd came
    ended Broke later Falls v came source m w = absurd came
    ended Broke later (Returned r) v came source m w = absurd came
    ended (Returned value) later Falls v came source m w = absurd came
    ended (Returned value) later Broke v came source m w = absurd came

    statements_then : (n : ℕ) (w : World) → Follows d.skip Post 0 0 n (bind body_part going n w s) (λ j. running (within d params) ((stmts_body (frame_in d) (home_in d) d.proc.body k).stmts ++ (falling_off (frame_in d) d.proc last).stmts) j w u)
    statements_then n w =
        let body : List Stmt = (stmts_body (frame_in d) (home_in d) d.proc.body k).stmts in
        let falling : List Stmt = (falling_off (frame_in d) d.proc last).stmts in
        let CameSource : Flow → State → Type 0 = Came (env_in d) params entry s (after_all d.proc.body at).scope (after_all d.proc.body at).next (stmts_fall d.proc.body) (stmts_break d.proc.body) at.allowed.may_break in
        as_is d.skip Post 0 0 n (bind body_part going n w s) (λ j. running (within d params) (body ++ falling) j w u) (λ j. after (running (within d params) body j w u) (onward (running (within d params) falling))) (λ j. rows d params body falling j w u)
        (bound d.skip (λ flow x control y. StmtsDone d entry at.next objects s u flow x control y × CameSource flow x) Post 0 0 0 n (body_part n w s) (λ j. running (within d params) body j w u) going (onward (running (within d params) falling))
        (kept d.skip HasMeaning (StmtsDone d entry at.next objects s u) CameSource 0 0 n (body_part n w s) (λ j. running (within d params) body j w u) (stmts_come d.core d.valid d.number d.proc d.is entry waiting at place s before.scoped d.proc.body typed.body n w)
        (stmts_follow d others d.proc.body at place typed.body (kinds_known d.core d.valid d.number d.proc d.is) (last_checks (flat_map contract_checks d.proc.contracts) (stmts_checks d.proc.body) d.numbered) entry waiting objects s u before_u k low n w))
        (λ flow x control y both m le z. ended flow x control y both.0 both.1 m z))

  pub body_follows : (n : ℕ) (w : World) → Follows d.skip Post 0 0 n (body_of d.core (calls_before d.core d.number) d.proc n w s)
      (λ j. running (within d params) (followed_by (contract_tests (frame_in d) (lowered.required d.proc.contracts) (length d.proc.locals)) (λ k. followed_by (stmts_body (frame_in d) (home_in d) d.proc.body k) (falling_off (frame_in d) d.proc))).stmts j w t)
  body_follows n w =
      subst (λ cs. Follows d.skip Post 0 0 n (body_of d.core (calls_before d.core d.number) d.proc n w s)
      (λ j. running (within d params) (followed_by (contract_tests (frame_in d) cs (length d.proc.locals)) (λ k. followed_by (stmts_body (frame_in d) (home_in d) d.proc.body k) (falling_off (frame_in d) d.proc))).stmts j w t))
      (sym (selected_are (λ (c : ContractCore). c.before) d.proc.contracts))
      (let k : ℕ = (contract_tests (frame_in d) (requires_of d.proc) (length d.proc.locals)).next in
      contracts_go_on (within d params) (set_in d params) objects s (stage_in d params entry waiting s before.scoped) (requires_of d.proc) (required_typed d) (required_small d) (Option Value) Post (λ q. bind body_part going)
      ((stmts_body (frame_in d) (home_in d) d.proc.body k).stmts ++ (falling_off (frame_in d) d.proc (stmts_body (frame_in d) (home_in d) d.proc.body k).next).stmts) 0 0 (length d.proc.locals) (omega arith) t before.related
      (λ u kept_u m z. statements_then k (tests_grow (frame_in d) (requires_of d.proc) (length d.proc.locals)) u kept_u m z) n w)

pub bodies_follow : BodiesFollow
bodies_follow d others entry waiting objects s t before n w = body_follows d others entry waiting objects s t before n w
