-- The three loops that count: over all indices of a length, from 0 up to a bound, and from a bound down to 0.
use Rattle.std.proofs.Common.{◌≡◌, ℕ, zero, suc, pred, ◌+◌, ◌-◌, ◌<◌, ◌≤◌, ◌^◌, ℤ, pos, negsuc, false, List, [], ◌++◌, length, Option, Some, None, refl, sym, ap, subst, arith, append_assoc}
use Rattle.std.specs.Prelude.{not, unsigned_abs, IsTrue, ◌≢◌}
use Rattle.std.specs.Ordering.{int_eq}
use Rattle.std.proofs.lemmas.Int.{ints}
use Rattle.step_semantics.specs.Alike.{Same}
use Rattle.step_semantics.specs.Control.{Control, Falls, Broke, Returned, counted}
use Rattle.step_semantics.specs.Follows.{Follows}
use Rattle.step_semantics.specs.Steps.{World, Part, bind, tick, ticks}
use Rattle.step_semantics.proofs.Following.{weaker}
use Rattle.index_types.specs.Indices.{is_index}
use Rattle.area_types.specs.Tables.{is_length}
use Rattle.source_types.specs.Values.{is_reference}
use Rattle.core_tree.specs.Checks.{expr_checks, stmt_checks, stmts_checks}
use Rattle.core_tree.specs.Environments.{Point, named_by, within_loop}
use Rattle.core_tree.specs.Syntax.{ExprCore, StmtCore, StmtsCore, Map as Indices, Downto, type_of}
use Rattle.core_tree.specs.Types.{is_value}
use Rattle.core_tree.specs.TypedStatements.{StmtTyped, StmtsTyped, LoopTyped}
use Rattle.core_meaning.specs.Checks.{on_number}
use Rattle.core_meaning.specs.Conditions.{ensured}
use Rattle.core_meaning.specs.Expressions.{eval}
use Rattle.core_meaning.specs.Gives.{Gives}
use Rattle.core_meaning.specs.State.{State}
use Rattle.core_meaning.specs.Statements.{Flow, turn, exec, exec_all}
use Rattle.core_meaning.specs.Values.{Value, Num, Ref}
use Rattle.c_memory.specs.Abstract.{Same as SameObject}
use Rattle.c_ast.specs.declared.CBinary.TheVariants.{Add, Sub, Ne}
use Rattle.c_ast.specs.declared.CKind.TheVariants.{Scalar}
use Rattle.c_ast.specs.declared.Suffix.TheVariants.{Plain}
use Rattle.c_ast.specs.Conversions.{can_hold}
use Rattle.c_ast.specs.Scalars.{metric_of}
use Rattle.c_ast.specs.Syntax.{Name, Expr, Number, Read, Var, Binary, Stmt}
use Rattle.c_ast.specs.Targets.{table_of}
use Rattle.c_ast.proofs.Conversions.{held_stays}
use Rattle.c_meaning.specs.Memory.{memory_of}
use Rattle.c_meaning.specs.State.{Program, CState}
use Rattle.c_meaning.specs.Values.{CValue}
use Rattle.overflow_checks.proofs.Numbers.{natural}
use Rattle.overflow_checks.proofs.Tables.{table_of_target}
use Rattle.area_objects.specs.Both.{Map}
use Rattle.region_soundness.specs.Fitting.{Entry, ValueFits}
use Rattle.region_soundness.specs.Laws.{PlaceIn, calls_before}
use Rattle.region_soundness.specs.Scoped.{Activation}
use Rattle.region_soundness.proofs.Forms.{index_within}
use Rattle.lower_types.specs.Names.{local_name}
use Rattle.lower_types.specs.Types.{scalar_for}
use Rattle.lower_values.specs.Expressions.{raw}
use Rattle.lower_values.specs.Frames.{allocated, is_object}
use Rattle.lower_values.specs.Pieces.{Piece, paid}
use Rattle.lower_statements.specs.Loops.{counting_to, counting_down}
use Rattle.lower_statements.specs.Statements.{stmt_body, stmts_body}
use Rattle.form_answers.specs.Standing.{Converts, TestIs, Stands}
use Rattle.form_answers.proofs.Naturals.{plain_held}
use Rattle.form_answers.proofs.OperandValues.{IsHeld}
use Rattle.value_refinement.specs.Kept.{Kept}
use Rattle.value_refinement.specs.Laws.{Numbered, Stage, owing, spare, running}
use Rattle.value_refinement.specs.Settings.{Setting, Set}
use Rattle.value_refinement.specs.Values.{Comes, Simple}
use Rattle.value_refinement.proofs.Arms.{given_held, no_reference, stands_converts}
use Rattle.value_refinement.proofs.Expressions.{raw_all}
use Rattle.value_refinement.proofs.Given.{first_checks, last_checks}
use Rattle.value_refinement.proofs.Growing.{raw_grows}
use Rattle.value_refinement.proofs.Keeping.{kept_same}
use Rattle.value_refinement.proofs.Objects.{ObjectIs, Declared}
use Rattle.value_refinement.proofs.Operands.{padded}
use Rattle.statement_refinement.specs.Apart.{OfNoArea}
use Rattle.body_refinement.specs.Bodies.{Lowered, env_in, frame_in, home_in, program_in, within}
use Rattle.body_refinement.specs.Kinds.{KindsAre, AllKindsAre}
use Rattle.body_refinement.specs.Laws.{MapsFollow, DowntosFollow}
use Rattle.body_refinement.specs.Statements.{CameTo, CameBack, CameWith, StmtDone, Before, StmtsFollow}
use Rattle.body_refinement.proofs.Coming.{set_in, stage_in, came_with}
use Rattle.body_refinement.proofs.Counters.{counter_scalar, tests_last, tests_nought, counts_up, counts_down}
use Rattle.body_refinement.proofs.Loops.{is_more, length_small, loop_follows}

-- ---- numbers

more_to_last : (m i last : ℕ) → i + m ≡ last → not (int_eq (pos i) (pos last)) ≡ is_more m
more_to_last zero i last e = let same : i ≡ last = omega (arith, e) in grind (arith, ints)
more_to_last (suc m) i last e = let less : i < last = omega (arith, e) in grind (arith, ints)

more_to_nought : (m i : ℕ) → i ≡ m → not (int_eq (pos i) (pos 0)) ≡ is_more m
more_to_nought zero i e = grind (arith, ints)
more_to_nought (suc m) i e = grind (arith, ints)

index_is : (n : ℕ) (v : ℤ) → IsTrue (is_index n v) → v ≡ pos (unsigned_abs v)
index_is n (pos i) h = refl
index_is n (negsuc i) h = let no : ⊥ = cc in absurd no

some_index : (n : ℕ) → IsTrue (is_length n) → 0 < n
some_index n h = grind (arith)

most_index : (n : ℕ) → IsTrue (is_length n) → n ≤ 65535
most_index n h = grind (arith)

less_one : (n : ℕ) → n - 1 ≡ pred n
less_one zero = refl
less_one (suc n) = omega arith

nought_converts : (p : Program) (u : CState) → Converts p u counter_scalar (Number 0 Plain) (pos 0)
nought_converts p u =
    let h : IsHeld p u (Number 0 Plain) (pos 0) = plain_held p u (table_of_target p.target) 0 (omega arith) in
    record { kind = h.kind; number = pos 0; gives = h.gives; converted = held_stays 16 false (pos 0) (natural 16 0 (omega arith)) }

-- what a loop leaves is what its statement leaves
loop_done : (d : Lowered) (at : Point) (place : PlaceIn d.proc at) (c : StmtCore) → named_by c ≡ [] → (entry : Entry) (waiting : List Activation) (objects : Map) (s : State) (t : CState) → Before d at entry waiting objects s t
    → (a : Flow) (later : State) (b : Control (Option CValue)) (u : CState) → Same (CameTo d at.next objects s t) (CameBack d at.next objects s t entry) a later b u → StmtDone d entry at c objects s t a later b u
loop_done d at place c none entry waiting objects s t before Falls later Falls u h =
    subst (λ names. CameWith d at.next objects s t (names ++ at.scope) later u) (sym none) (came_with d at place objects s t before.related before.apart later u h)
loop_done d at place c none entry waiting objects s t before Broke later Broke u h = h
loop_done d at place c none entry waiting objects s t before (Returned value) later (Returned result) u h = h
loop_done d at place c none entry waiting objects s t before Falls later Broke u h = absurd h
loop_done d at place c none entry waiting objects s t before Falls later (Returned result) u h = absurd h
loop_done d at place c none entry waiting objects s t before Broke later Falls u h = absurd h
loop_done d at place c none entry waiting objects s t before Broke later (Returned result) u h = absurd h
loop_done d at place c none entry waiting objects s t before (Returned value) later Falls u h = absurd h
loop_done d at place c none entry waiting objects s t before (Returned value) later Broke u h = absurd h

module _ (d : Lowered) (at : Point) (number length_of : ℕ) (body : StmtsCore) (place : PlaceIn d.proc at) (typed : LoopTyped (env_in d) at number length_of) (body_typed : StmtsTyped (env_in d) (within_loop number at) body)
    (value : is_object (frame_in d) number ≡ false) (kinds : AllKindsAre (allocated d.proc.body) body) (small : Numbered (stmts_checks body)) (follows : StmtsFollow d (within_loop number at) body)
    (entry : Entry) (waiting : List Activation) (objects : Map) (s : State) (t : CState) (before : Before d at entry waiting objects s t) (from : ℕ) (le : length d.proc.locals ≤ from)
    (k : ℕ) (low : length d.proc.locals ≤ k) (t1 : CState) (kept : Kept (program_in d) k t t1) where
  abbrev x : Name
  x = local_name number

  short : (i : ℕ) → i < length_of → i < 2 ^ 16
  short i lt = length_small d at number length_of body place typed body_typed value kinds small follows entry waiting objects s t before from le i lt

  abbrev body_part : Part State Flow
  body_part = exec_all d.core (calls_before d.core d.number) (ensured d.core d.proc) body

  abbrev code : List Stmt
  code = (stmts_body (frame_in d) (home_in d) body from).stmts

  abbrev Post : Flow → State → Control (Option CValue) → CState → Type 0
  Post = Same (CameTo d at.next objects s t) (CameBack d at.next objects s t entry)

  -- ---- down to 0

  -- i is the count of a turn behind which m come
  abbrev DownWithin : ℕ → ℕ → Type 0
  DownWithin m i = (i ≡ m) × (i < length_of)

  down_counts : (m i : ℕ) → DownWithin (suc m) i → (u : CState) (o : ℕ) → ObjectIs (program_in d) u x counter_scalar o (Some (pos i)) → Converts (program_in d) u counter_scalar (Binary Sub (Read (Var x)) (Number 1 Plain)) (pos (pred i))
  down_counts m i w u o has =
      subst (λ j. Converts (program_in d) u counter_scalar (Binary Sub (Read (Var x)) (Number 1 Plain)) (pos j)) (sym (ap pred w.0)) (counts_down (program_in d) u x o i (short i w.1) has m w.0)

  down_on : (m i : ℕ) → DownWithin (suc m) i → DownWithin m (pred i)
  down_on m i w = let e : pred i ≡ m = ap pred w.0 in (e, omega (arith, e, w.0, w.1))

  pub down_follows : (first : Expr) (i : ℕ) → i < length_of → Converts (program_in d) t1 counter_scalar first (pos i) → (n : ℕ) (w : World)
      → Follows d.skip Post 0 0 n (tick (counted i pred i (turn number body_part)) n w s) (λ j. running (within d at.scope) (counting_down x first code) j w t1)
  down_follows first i lt gives n w =
      loop_follows d at number length_of body place typed body_typed value kinds small follows entry waiting objects s t before from le pred (Read (Var x)) (Binary Sub (Read (Var x)) (Number 1 Plain)) DownWithin (λ m j w. w.1) down_on
      (λ o j u. Unit {0}) (λ o os s1 u lt h s2 v came. tt) (λ o o1 o2 u v same stays h. tt)
      (λ m j w os u o h has. subst (TestIs (program_in d) u (Read (Var x))) (more_to_nought m j w.0) (tests_nought (program_in d) u x o j (short j w.1) has))
      down_counts k low t1 kept i i (refl, lt) first gives (λ w u declared. tt) n w

  -- ---- up to a last number

  module _ (last_piece : Expr) (last : ℕ) (last_lt : last < length_of) (Lasting : Map → ℕ → CState → Type 0)
      (in_body : (o : ℕ) (more_objects : Map) (s1 : State) (t1 : CState) → o < length t1.objects → Lasting more_objects o t1 → (s2 : State) (t2 : CState) (came : CameTo d (suc at.next) more_objects s1 t1 s2 t2) → Lasting came.more o t2)
      (in_turn : (o : ℕ) (o1 o2 : Map) (t1 t2 : CState) → t2.frames.own ≡ t1.frames.own
      → ((q : ℕ) → q < length t1.objects → OfNoArea o1 q → q ≢ o → SameObject (metric_of d.target) (memory_of d.target) t1.objects t2.objects q × OfNoArea o2 q) → Lasting o1 o t1 → Lasting o2 o t2)
      (held : (os : Map) (o : ℕ) (u : CState) → Lasting os o u → IsHeld (program_in d) u last_piece (pos last)) where
    abbrev UpWithin : ℕ → ℕ → Type 0
    UpWithin m i = i + m ≡ last

    up_below : (m i : ℕ) → UpWithin m i → i < length_of
    up_below m i e = omega (arith, e, last_lt)

    up_on : (m i : ℕ) → UpWithin (suc m) i → UpWithin m (suc i)
    up_on m i e = omega (arith, e)

    pub up_follows : (n : ℕ) (w : World) → ((w : World) (u : CState) → Declared (within d at.scope) w t1 number counter_scalar (Some (pos 0)) u → Lasting objects (length t1.objects) u)
        → Follows d.skip Post 0 0 n (tick (counted last suc 0 (turn number body_part)) n w s) (λ j. running (within d at.scope) (counting_to x last_piece code) j w t1)
    up_follows n w lasting =
        loop_follows d at number length_of body place typed body_typed value kinds small follows entry waiting objects s t before from le suc (Binary Ne (Read (Var x)) last_piece) (Binary Add (Read (Var x)) (Number 1 Plain)) UpWithin up_below up_on
        Lasting in_body in_turn
        (λ m i e os u o h has. subst (TestIs (program_in d) u (Binary Ne (Read (Var x)) last_piece)) (more_to_last m i last e) (tests_last (program_in d) u x o i (short i (up_below m i e)) has last_piece last (held os o u h)))
        (λ m i e u o has. counts_up (program_in d) u x o i (short i (up_below (suc m) i e)) has (short (suc i) (up_below m (suc i) (up_on m i e))))
        k low t1 kept last 0 (omega arith) (Number 0 Plain) (nought_converts (program_in d) t1) lasting n w

-- ---- the laws

pub map_follows : MapsFollow
map_follows d at number length_of body follows place typed kinds small entry waiting objects s t before from le n w =
    weaker d.skip (Same (CameTo d at.next objects s t) (CameBack d at.next objects s t entry)) (StmtDone d entry at (Indices number length_of body) objects s t) 0 0 n
    (exec d.core (calls_before d.core d.number) (ensured d.core d.proc) (Indices number length_of body) n w s) (λ j. running (within d at.scope) (stmt_body (frame_in d) (home_in d) (Indices number length_of body) from).stmts j w t)
    (loop_done d at place (Indices number length_of body) refl entry waiting objects s t before)
    (up_follows d at number length_of body place typed.0 typed.1 kinds.0 kinds.1 small follows entry waiting objects s t before from le from le t (kept_same (program_in d) from t) (Number (length_of - 1) Plain) (pred length_of)
    (omega (arith, positive, predecessor)) (λ os o u. Unit {0}) (λ o os s1 u lt h s2 v came. tt) (λ o o1 o2 u v same stays h. tt)
    (λ os o u h. subst (λ i. IsHeld (program_in d) u (Number (length_of - 1) Plain) (pos i)) predecessor (plain_held (program_in d) u (table_of_target d.target) (length_of - 1) (omega (arith, bounded)))) n w (λ w u declared. tt))
  where
    positive : 0 < length_of
    positive = some_index length_of typed.0.in_range

    bounded : length_of ≤ 65535
    bounded = most_index length_of typed.0.in_range

    predecessor : length_of - 1 ≡ pred length_of
    predecessor = less_one length_of

-- ---- a bound that is converted to the counter's type where it is declared

module _ (d : Lowered) (at : Point) (number length_of : ℕ) (e : ExprCore) (body : StmtsCore) (follows : StmtsFollow d (within_loop number at) body) (place : PlaceIn d.proc at) (typed : StmtTyped (env_in d) at (Downto number length_of e body))
    (kinds : KindsAre (allocated d.proc.body) (Downto number length_of e body)) (small : Numbered (stmt_checks (Downto number length_of e body))) (entry : Entry) (waiting : List Activation) (objects : Map) (s : State) (t : CState)
    (before : Before d at entry waiting objects s t) (from : ℕ) (le : length d.proc.locals ≤ from) where
  abbrev g : Setting
  g = within d at.scope

  abbrev p : Piece
  p = raw (frame_in d) e from

  abbrev Ends : Flow → State → Control (Option CValue) → CState → Type 0
  Ends = Same (CameTo d at.next objects s t) (CameBack d at.next objects s t entry)

  abbrev part : Part State Flow
  part = exec_all d.core (calls_before d.core d.number) (ensured d.core d.proc) body

  abbrev go : Value → Part State Flow
  go v = on_number d.core v (λ first. tick (counted (unsigned_abs first) pred (unsigned_abs first) (turn number part)))

  abbrev loop : List Stmt
  loop = counting_down (local_name number) p.value (stmts_body (frame_in d) (home_in d) body p.next).stmts

  set : Set g
  set = set_in d at.scope

  stage : Stage g s
  stage = stage_in d at.scope entry waiting s before.scoped

  on_value : (v : Value) (u : CState) → ValueFits d.core stage.entry s.areas (type_of e) v → Gives d.core None s e v → Comes g objects s from p (type_of e) t v u
      → (m : ℕ) (w : World) → Follows d.skip Ends (0 + spare p) 0 m (ticks (owing p.owed) (go v) m w s) (λ j. running g (paid p.owed ++ loop) j w u)
  on_value (Ref area path) u fits gives comes m w = absurd (no_reference d.core stage.entry s.areas (type_of e) area path (subst (λ ty. IsTrue (not (is_reference ty))) (sym typed.1.type) refl) fits)
  on_value (Num i) u fits gives comes m w =
      let scalar_is : scalar_for (frame_in d).table (type_of e) ≡ counter_scalar = ap (scalar_for (frame_in d).table) typed.1.type in
      let is_index : IsTrue (is_index length_of i) = subst (λ ty. IsTrue (is_value d.core.structs ty i)) typed.1.type fits in
      let can : IsTrue (can_hold (table_of d.target) (Scalar (scalar_for (frame_in d).table (type_of e))) i) = given_held g set objects s stage e typed.1.typed (Num i) i refl gives in
      let both : Simple (program_in d) u p.standing p.owed p.value × Stands p.standing (program_in d) u (scalar_for (frame_in d).table (type_of e)) p.value i = comes.stands u (kept_same (program_in d) p.next u) in
      let converts : Converts (program_in d) u (scalar_for (frame_in d).table (type_of e)) p.value i = stands_converts (program_in d) u p.standing (scalar_for (frame_in d).table (type_of e)) p.value i both.1 can in
      let first : Converts (program_in d) u counter_scalar p.value (pos (unsigned_abs i)) = subst (λ k. Converts (program_in d) u k p.value (pos (unsigned_abs i))) scalar_is (subst (Converts (program_in d) u (scalar_for (frame_in d).table (type_of e)) p.value) (index_is length_of i is_index) converts) in
      padded g s Ends (go (Num i)) loop 0 0 (spare p) u w p.owed
      (λ j. down_follows d at number length_of body place typed.0 typed.2 kinds.0 kinds.1 (last_checks (expr_checks e) (stmts_checks body) small) follows entry waiting objects s t before p.next (omega (arith, le, raw_grows (frame_in d) e from)) from le u comes.kept
      p.value (unsigned_abs i) (index_within length_of i is_index) first j w) m

  pub downto_follows_by : (n : ℕ) (w : World) → Follows d.skip (StmtDone d entry at (Downto number length_of e body) objects s t) 0 0 n
      (exec d.core (calls_before d.core d.number) (ensured d.core d.proc) (Downto number length_of e body) n w s) (λ j. running g (stmt_body (frame_in d) (home_in d) (Downto number length_of e body) from).stmts j w t)
  downto_follows_by n w =
      weaker d.skip Ends (StmtDone d entry at (Downto number length_of e body) objects s t) 0 0 n
      (exec d.core (calls_before d.core d.number) (ensured d.core d.proc) (Downto number length_of e body) n w s) (λ j. running g (stmt_body (frame_in d) (home_in d) (Downto number length_of e body) from).stmts j w t)
      (loop_done d at place (Downto number length_of e body) refl entry waiting objects s t before)
      (subst (λ ss. Follows d.skip Ends 0 0 n (bind (eval d.core None e) go n w s) (λ j. running g ss j w t)) (sym (append_assoc p.before (paid p.owed) loop))
      (raw_all g set objects s stage e typed.1.typed (first_checks (expr_checks e) (stmts_checks body) small) Flow Ends go (paid p.owed ++ loop) 0 0 from le t before.related
      (record { by = λ v u gives comes m z. on_value v u (stage.fits e v typed.1.typed gives) gives comes m z }) n w))

pub downto_follows : DowntosFollow
downto_follows d at number length_of e body follows place typed kinds small entry waiting objects s t before from le n w = downto_follows_by d at number length_of e body follows place typed kinds small entry waiting objects s t before from le n w
