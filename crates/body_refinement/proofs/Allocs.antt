-- An `alloc` follows: the expressions of its initializer come first, and the declaration takes the statement's step and makes the object.
use Rattle.std.proofs.Common.{◌≡◌, ℕ, ◌≤◌, List, [], ◌∷◌, ◌++◌, length, true, false, Option, Some, None, Ok, refl, ◌∙◌, ap, arith}
use Rattle.std.proofs.lemmas.Option.{slice_get_within}
use Rattle.step_semantics.specs.Control.{Control, Falls}
use Rattle.step_semantics.specs.Follows.{Follows}
use Rattle.step_semantics.specs.Steps.{World, Part, bind, tick, change}
use Rattle.step_semantics.specs.Takes.{Takes}
use Rattle.step_semantics.proofs.Leading.{leads_refl}
use Rattle.step_semantics.proofs.Paying.{pays_to}
use Rattle.type_trees.specs.Values.{cells}
use Rattle.area_types.specs.Syntax as types
use Rattle.area_types.specs.Tables.{written_out}
use Rattle.area_types.specs.Trees.{Written}
use Rattle.core_tree.specs.Checks.{stmt_checks}
use Rattle.core_tree.specs.Environments.{Point}
use Rattle.core_tree.specs.Syntax.{InitCore, Alloc}
use Rattle.core_tree.specs.TypedStatements.{AllocTyped}
use Rattle.core_meaning.specs.Areas.{Held, filled}
use Rattle.core_meaning.specs.Initializers.{first_value}
use Rattle.core_meaning.specs.State.{State, with_area}
use Rattle.core_meaning.specs.Statements.{Flow}
use Rattle.region_soundness.specs.Fitting.{Entry}
use Rattle.region_soundness.specs.Laws.{PlaceIn}
use Rattle.region_soundness.specs.Scoped.{Activation}
use Rattle.region_soundness.proofs.Structs.{core_area_made}
use Rattle.c_memory.specs.Initializers as values
use Rattle.c_ast.specs.declared.CBase.{CBase}
use Rattle.c_ast.specs.Structs.{tree}
use Rattle.c_ast.specs.Syntax.{Name, Init, Stmt, Object}
use Rattle.c_meaning.specs.Calls.{given}
use Rattle.c_meaning.specs.Initializers.{eval_init, made_with}
use Rattle.c_meaning.specs.Memory.{CObjects, memory_of}
use Rattle.c_meaning.specs.State.{CState, declare_object}
use Rattle.c_meaning.specs.Statements.{exec, object_with}
use Rattle.c_meaning.specs.Values.{CValue}
use Rattle.area_objects.specs.Both.{Map}
use Rattle.area_objects.specs.Shapes.{shape}
use Rattle.area_objects.proofs.Outside.{objects_initialized}
use Rattle.lower_types.specs.Names.{local_name}
use Rattle.lower_types.specs.Types.{base_for}
use Rattle.lower_values.specs.Frames.{is_object}
use Rattle.lower_statements.specs.Locals.{InitPiece, local_init}
use Rattle.value_refinement.specs.Laws.{Numbered, Stage, running}
use Rattle.value_refinement.specs.Related.{Related}
use Rattle.value_refinement.specs.Settings.{Setting, HasCType}
use Rattle.value_refinement.proofs.Keeping.{kept_same}
use Rattle.value_refinement.proofs.Running.{runs_first, takes_value, takes_one}
use Rattle.value_refinement.proofs.Standings.{related_on}
use Rattle.body_refinement.specs.Bodies.{Lowered, env_in, frame_in, within}
use Rattle.body_refinement.specs.Laws.{AllocsFollow}
use Rattle.body_refinement.specs.Statements.{StmtDone, Before}
use Rattle.body_refinement.proofs.Allocated.{has_type, came_behind}
use Rattle.body_refinement.proofs.Braces.{InitGives}
use Rattle.body_refinement.proofs.Coming.{set_in, stage_in}
use Rattle.body_refinement.proofs.Initializers.{InitComes, InitFollows, init_follows}
use Rattle.body_refinement.proofs.InitTypes.{written_typed}
use Rattle.body_refinement.proofs.Zeros.{filled_fits, zero_init_gives}

-- ---- the declaration

module _ (g : Setting) (w : World) (u : CState) where
  takes_object : (x : Name) (b : CBase) (i : Init) (v : values.Init CValue) (new : CObjects) → eval_init g.program i u ≡ Ok v → made_with g.program.target (tree g.program.unit.structs b) false u.objects v ≡ Ok new
      → Takes 1 (exec g.program g.functions (Object x b (Some i))) w u Falls (declare_object x b new u)
  takes_object x b i v new gives made =
      takes_value g.program w u 1 (eval_init g.program i) v (λ z. tick (object_with g.program x b z)) Falls (declare_object x b new u) gives
      (takes_one g.program w u (object_with g.program x b v) Falls (declare_object x b new u) (λ j. ap (λ r. given g.program r (λ objects. change Falls (declare_object x b objects)) j w u) made))

module _ (d : Lowered) (scope : List ℕ) (area : types.Area) (declared : HasCType (within d scope) area) where
  abbrev g : Setting
  g = within d scope

  abbrev ty : Written
  ty = written_out d.core.structs area

  object_made : (u : CState) (held : Held) (i : Init) (h : InitGives g.program u (shape g.naming ty) i (cells held))
      → made_with d.target (tree g.program.unit.structs (base_for g.frame.table area)) false u.objects h.given ≡ Ok ((memory_of d.target).initialize u.objects (shape g.naming ty) false (cells held))
  object_made u held i h =
      ap (λ c. made_with d.target c false u.objects h.given) (ap (tree g.program.unit.structs) declared.base ∙ declared.type)
      ∙ objects_initialized d.target g.naming ty held false u.objects h.given h.numbers h.converted h.gives

-- ---- the first value

first_follows : (d : Lowered) (at : Point) (objects : Map) (s : State) (stage : Stage (within d at.scope) s) (number : ℕ) (area : types.Area) (init : Option InitCore) → AllocTyped (env_in d) at number area init → Numbered (stmt_checks (Alloc number area init))
    → InitFollows d at.scope objects s stage (first_value d.core init (written_out d.core.structs area)) (written_out d.core.structs area) (local_init (frame_in d) init (written_out d.core.structs area))
first_follows d at objects s stage number area None typed small A post go rest x y from le t related next n w =
    let ty : Written = written_out d.core.structs area in
    let g : Setting = within d at.scope in
    next (filled ty []) t (record { grows = omega arith; kept = kept_same g.program from t; fits = filled_fits d.target g.naming ty [] refl; gives = λ z kept. zero_init_gives g.program z g.naming ty }) n w
first_follows d at objects s stage number area (Some i) typed small A post go rest x y from le t related next n w =
    init_follows d at.scope objects s stage i (written_out d.core.structs area)
    (written_typed (env_in d) d.valid.table at.scope i area (core_area_made d.core.structs area typed.area_is) typed.first) small A post go rest x y from le t related next n w

-- ---- the statement

module _ (d : Lowered) (at : Point) (place : PlaceIn d.proc at) (number : ℕ) (area : types.Area) (init : Option InitCore) (typed : AllocTyped (env_in d) at number area init) (object : is_object (frame_in d) number ≡ true)
    (entry : Entry) (waiting : List Activation) (objects : Map) (s : State) (t : CState) (before : Before d at entry waiting objects s t) (from : ℕ) (le : length d.proc.locals ≤ from) where
  abbrev around : Setting
  around = within d at.scope

  abbrev written : Written
  written = written_out d.core.structs area

  abbrev piece : InitPiece
  piece = local_init (frame_in d) init written from

  abbrev stage : Stage around s
  stage = stage_in d at.scope entry waiting s before.scoped

  abbrev declaration : Stmt
  declaration = Object (local_name number) (base_for around.frame.table area) (Some piece.init)

  abbrev going : Held → Part State Flow
  going held = tick (change Falls (with_area number written held))

  abbrev Post : Flow → State → Control (Option CValue) → CState → Type 0
  Post = StmtDone d entry at (Alloc number area init) objects s t

  room : at.next ≤ from
  room = omega (arith, slice_get_within d.proc.locals number _ typed.name.type, typed.name.number_is, le)

  type_here : HasCType around area
  type_here = let h = has_type d at number area typed.name in record { type = h.type; base = h.base }

  declared : (held : Held) (u : CState) → InitComes d at.scope objects s stage from piece.next written piece.init t held u → (m : ℕ) (w : World)
      → Follows d.skip Post 0 0 m (going held m w s) (λ j. running around (declaration ∷ []) j w u)
  declared held u comes m w =
      let gives : InitGives around.program u (shape around.naming written) piece.init (cells held) = comes.gives u (kept_same around.program piece.next u) in
      let new : CObjects = (memory_of d.target).initialize u.objects (shape around.naming written) false (cells held) in
      let behind : CState = declare_object (local_name number) (base_for around.frame.table area) new u in
      let related_u : Related around objects s u = related_on around (set_in d at.scope) objects s from le t u comes.kept before.related in
      pays_to d.skip Post 1 1 0 0 0 (change Falls (with_area number written held)) w s (omega arith) (omega arith) (λ j. running around (declaration ∷ []) j w u) (λ j. running around [] j w behind)
      (runs_first around 1 declaration [] w u behind (takes_object around w u (local_name number) (base_for around.frame.table area) piece.init gives.given new gives.is (object_made d at.scope area type_here u held piece.init gives)))
      (λ k. record {
        value = Falls;
        state = behind;
        holds = came_behind d at place number area typed.name object objects s t u held before.related before.apart from room comes.kept related_u.both comes.fits;
        leads = leads_refl 0 k (λ j. running around [] j w behind);
      })
      m

  alloc_follows : Numbered (stmt_checks (Alloc number area init)) → (n : ℕ) (w : World)
      → Follows d.skip Post 0 0 n (bind (first_value d.core init written) going n w s) (λ j. running around (piece.before ++ declaration ∷ []) j w t)
  alloc_follows small n w =
      first_follows d at objects s stage number area init typed small Flow Post going (declaration ∷ []) 0 0 from le t before.related (λ held u comes m z. declared held u comes m z) n w

pub allocs_follow_all : AllocsFollow
allocs_follow_all d at number area init place typed kinds small entry waiting objects s t before from le n w = alloc_follows d at place number area init typed kinds entry waiting objects s t before from le small n w
