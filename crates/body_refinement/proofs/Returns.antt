-- A return follows: its value is kept by a name while what is ensured is tested, if anything is.
use Rattle.std.proofs.Common.{◌≡◌, ℕ, suc, ◌+◌, ◌<◌, ◌≤◌, List, [], ◌∷◌, ◌++◌, length, Option, Some, None, Ok, refl, sym, ◌∙◌, ap, subst, arith, inl, inr, append_assoc}
use Rattle.std.specs.Prelude.{◌⊎◌, not, IsTrue}
use Rattle.step_semantics.specs.Control.{Control, Returned}
use Rattle.step_semantics.specs.Follows.{Follows}
use Rattle.step_semantics.specs.Steps.{World, Part, bind, give, tick, ticks}
use Rattle.step_semantics.proofs.Following.{as_is, rests, both_tick, eased, second_ticks}
use Rattle.step_semantics.proofs.Paying.{pays_to}
use Rattle.area_types.specs.Syntax as types
use Rattle.area_types.specs.Syntax.{ValueType}
use Rattle.area_types.specs.declared.region.Region.TheVariants.{Global, Param, Own}
use Rattle.region_check.specs.Substitutions.{escapes}
use Rattle.core_tree.specs.Environments.{Point}
use Rattle.core_tree.specs.Syntax.{ExprCore, ContractCore, Return, type_of}
use Rattle.core_tree.specs.TypedItems.{below}
use Rattle.core_tree.specs.TypedStatements as typing
use Rattle.core_tree.specs.TypedStatements.{ReturnTyped}
use Rattle.core_tree.specs.Checks.{expr_checks}
use Rattle.core_meaning.specs.Conditions.{tested_all, ensures_of}
use Rattle.core_meaning.specs.Conditions as source
use Rattle.core_meaning.specs.Expressions.{eval}
use Rattle.core_meaning.specs.Gives.{Gives}
use Rattle.core_meaning.specs.State.{State}
use Rattle.core_meaning.specs.Statements.{Flow, returning}
use Rattle.core_meaning.specs.Values as values
use Rattle.core_meaning.specs.Values.{Value}
use Rattle.c_ast.specs.Syntax as c
use Rattle.c_ast.specs.Syntax.{Name, Expr, Stmt, Read, Var, At}
use Rattle.c_ast.specs.Names.{named}
use Rattle.c_ast.specs.Scalars.{metric_of}
use Rattle.c_ast.specs.Targets.{table_of}
use Rattle.c_ast.specs.declared.CKind.TheVariants.{Scalar}
use Rattle.c_ast.specs.declared.Suffix.TheVariants.{Plain}
use Rattle.c_meaning.specs.State.{CState, Holding, declare}
use Rattle.c_meaning.specs.Statements as target
use Rattle.c_meaning.specs.Calls.{given}
use Rattle.c_meaning.specs.Expressions as target_eval
use Rattle.c_meaning.specs.Memory.{memory_of}
use Rattle.c_meaning.specs.Places as places
use Rattle.c_meaning.specs.Places.{or_outer, file_place}
use Rattle.c_meaning.specs.Values.{CValue, Num, on_ok, as_assigned}
use Rattle.area_objects.specs.Both.{Map}
use Rattle.area_objects.specs.Holds.{CanHold}
use Rattle.area_objects.specs.Located.{begins}
use Rattle.area_objects.specs.Shapes.{base_of}
use Rattle.area_objects.proofs.Alike.{lawful_in}
use Rattle.area_objects.proofs.Lives.{objects_live}
use Rattle.region_soundness.specs.Fitting.{Entry, ValueFits}
use Rattle.region_soundness.specs.Laws.{PlaceIn, inside}
use Rattle.region_soundness.specs.Scoped.{Activation, Scoped}
use Rattle.region_soundness.proofs.Statements.{fits_wanted}
use Rattle.value_fitting.specs.Known.{ResultFits}
use Rattle.value_fitting.proofs.Expressions.{given_values_fit}
use Rattle.value_fitting.proofs.States.{scoped_is_known, no_result_is_known}
use Rattle.lower_types.specs.Names.{local_name}
use Rattle.lower_types.specs.Types.{type_for, table_for, result_for, scalar_for}
use Rattle.lower_values.specs.Expressions.{raw}
use Rattle.lower_values.specs.Pieces.{Piece, pad, paid}
use Rattle.lower_statements.specs.Conditions.{contract_tests, return_value, return_nothing, ensured, is_ensured}
use Rattle.value_refinement.specs.Kept.{Kept}
use Rattle.value_refinement.specs.Laws.{Numbered, Stage, owing, spare, running}
use Rattle.value_refinement.specs.Related.{is_constant, NameStands, Related}
use Rattle.value_refinement.specs.Settings.{Setting}
use Rattle.value_refinement.specs.Values.{Comes}
use Rattle.value_refinement.proofs.Expressions.{raw_all}
use Rattle.value_refinement.proofs.Keeping.{kept_same, kept_twice, kept_declared}
use Rattle.value_refinement.proofs.Growing.{raw_grows}
use Rattle.value_refinement.proofs.Lets.{named_here, pointer_reads}
use Rattle.value_refinement.proofs.Objects.{temporary_is_old}
use Rattle.value_refinement.proofs.Operands.{padded}
use Rattle.value_refinement.proofs.Running.{runs_first, takes_const, takes_pad}
use Rattle.value_refinement.proofs.Standings.{related_on}
use Rattle.lowered_surroundings.proofs.Procedures.{ensures_are_set, plain_ensures_are_set}
use Rattle.body_refinement.specs.Bodies.{Lowered, env_in, frame_in, program_in, within}
use Rattle.body_refinement.specs.Laws.{ReturnsFollow}
use Rattle.body_refinement.specs.Results.{ValueGiven, ResultGiven}
use Rattle.body_refinement.specs.Statements.{CameBack, StmtDone, Before}
use Rattle.body_refinement.proofs.Choosing.{nothing_after}
use Rattle.body_refinement.proofs.Coming.{kept_moved, set_in, stage_in}
use Rattle.body_refinement.proofs.Contracts.{around, selected_are, stands_around, ensures_go_on}
use Rattle.body_refinement.proofs.Giving.{GivenAs, HoldsValue, given_as, holding_stands}

-- ---- what is given back

module _ (d : Lowered) (scope : List ℕ) (entry : Entry) (waiting : List Activation) (objects : Map) (s : State) (scoped : Scoped d.core (inside d.proc scope entry) waiting s) where
  -- a reference that may leave the procedure leads to an area that there was before it
  earlier_area : (ty : ValueType) (k : ℕ) (path : List ℕ) → IsTrue (not (escapes ty)) → ValueFits d.core entry s.areas ty (values.Ref k path) → k < entry.first
  earlier_area types.Truth k path kept fits = absurd fits
  earlier_area (types.Int kind) k path kept fits = absurd fits
  earlier_area (types.Ix n) k path kept fits = absurd fits
  earlier_area (types.Bits n) k path kept fits = absurd fits
  earlier_area (types.Ref constant Global area) k path kept fits = let g = scoped.frame.globals in let lt = fits.allowed in omega (arith, lt, g)
  earlier_area (types.Ref constant (Param j) area) k path kept fits = scoped.frame.referred j k fits.allowed
  earlier_area (types.Ref constant Own area) k path kept fits = let no : ⊥ = cc in absurd no

  value_given : (wanted ty : ValueType) (v : Value) (e : Expr) (u : CState) → IsTrue (not (escapes ty)) → ValueFits d.core entry s.areas ty v → (g : GivenAs (within d scope) objects s.areas wanted e v u) (a : CValue)
      → as_assigned d.target (type_for (table_for d.core) wanted) a ≡ Ok g.held → ValueGiven d entry objects s.areas wanted v a
  value_given wanted ty (values.Num n) e u kept fits g a assigned = assigned ∙ ap Ok g.is
  value_given wanted ty (values.Ref k path) e u kept fits g a assigned =
      record { object = g.is.object; area = g.is.area; lives = g.is.lives; earlier = earlier_area ty k path kept fits; content = g.is.content; leads = g.is.leads; is = assigned ∙ ap Ok g.is.is }

-- a name that holds a value gives it
held_reads : (g : Setting) (objects : Map) (s : State) (u : CState) → Related g objects s u → (x : Name) (ty : ValueType) (v : Value) (held : CValue) → HoldsValue g objects s.areas ty v held → named u.frames.own x ≡ Some (Holding held)
    → target_eval.eval g.program (Read (Var x)) u ≡ Ok held
held_reads g objects s u related x ty (values.Num n) held is has =
    let named_is : named u.frames.own x ≡ Some (Holding (Num (Scalar (scalar_for g.frame.table ty)) n)) = has ∙ ap (λ h. Some (Holding h)) is in
    ap (λ found. on_ok (or_outer g.program.unit.structs found (file_place g.program.unit.structs 0 g.program.unit.objects x)) (places.read g.program.target u)) named_is ∙ ap Ok (sym is)
held_reads g objects s u related x ty (values.Ref k path) held h has =
    let to = begins g.program.target g.naming h.object h.area.ty path in
    let lives_is = objects_live (metric_of g.program.target) (CanHold (table_of g.program.target)) (memory_of g.program.target) (lawful_in (table_of g.program.target)) g.naming objects s.areas u.objects k h.object h.area related.both h.lives in
    pointer_reads g.program u x (is_constant ty) (base_of g.naming h.content) to (has ∙ ap (λ z. Some (Holding z)) h.is) lives_is ∙ ap Ok (sym h.is)

-- ---- the last step

module _ (d : Lowered) (scope : List ℕ) where
  gives_back : (e : Expr) (u : CState) (a : CValue) → target_eval.eval (program_in d) e u ≡ Ok a → (j : ℕ) (w : World) → running (within d scope) (c.Return (Some e) ∷ []) j w u ≡ tick (give (Returned (Some a))) j w u
  gives_back e u a gives j w =
      nothing_after (target.exec (program_in d) d.functions (c.Return (Some e)) j w u) (running (within d scope) []) (λ n z q. refl)
      ∙ ap (λ r. given (program_in d) r (λ v. tick (give (Returned (Some v)))) j w u) gives

  gives_nothing : (u : CState) (j : ℕ) (w : World) → running (within d scope) (c.Return None ∷ []) j w u ≡ tick (give (Returned None)) j w u
  gives_nothing u j w = nothing_after (target.exec (program_in d) d.functions (c.Return None) j w u) (running (within d scope) []) (λ n z q. refl)

-- ---- the statement

module _ (d : Lowered) (at : Point) (place : PlaceIn d.proc at) (entry : Entry) (waiting : List Activation) (objects : Map) (s : State) (t : CState) (before : Before d at entry waiting objects s t) (from : ℕ) (low : length d.proc.locals ≤ from) (returned : Option ExprCore) where
  abbrev g : Setting
  g = within d at.scope

  abbrev Post : Flow → State → Control (Option CValue) → CState → Type 0
  Post = StmtDone d entry at (Return returned) objects s t

  related_in : (u : CState) → Kept (program_in d) from t u → Related g objects s u
  related_in u kept = related_on g (set_in d at.scope) objects s from low t u kept before.related

  came : (value : Option Value) (result : Option CValue) (u : CState) → Kept (program_in d) from t u → ResultGiven d entry objects s.areas d.proc.result value result → CameBack d at.next objects s t entry value s result u
  came value result u kept given_is =
      record { more = objects; moved = kept_moved (program_in d) at.next from (let r = before.room in omega (arith, r, low)) objects s t u kept; both = (related_in u kept).both; given = given_is }

  -- where nothing is ensured, the return's own step
  returns_at_once : (value : Option Value) (result : Option CValue) (u : CState) → ensures_of d.proc ≡ [] → CameBack d at.next objects s t entry value s result u → (stmts : List Stmt) → ((j : ℕ) (w : World) → running g stmts j w u ≡ tick (give (Returned result)) j w u)
      → (n : ℕ) (w : World) → Follows d.skip Post 0 0 n (returning (source.ensured d.core d.proc) value n w s) (λ j. running g stmts j w u)
  returns_at_once value result u none done stmts same n w =
      as_is d.skip Post 0 0 n (returning (source.ensured d.core d.proc) value n w s) (λ j. running g stmts j w u) (λ j. tick (give (Returned result)) j w u) (λ j. same j w)
      (both_tick d.skip Post 0 0 (bind (source.ensured d.core d.proc value) (λ t. give (Returned value))) (give (Returned result)) w s u
      (λ m. subst (λ cs. Follows d.skip Post 15 0 m (bind (tested_all d.core value cs) (λ t. give (Returned value)) m w s) (λ j. give (Returned result) j w u)) (sym none)
      (eased d.skip Post 0 0 15 0 m (give (Returned value) m w s) (λ j. give (Returned result) j w u) (omega arith) (omega arith) (rests d.skip Post 0 (Returned value) (Returned result) m w s u done))) n)

  -- where it was tested, the step is one of credit
  returns_late : (value : Option Value) (result : Option CValue) (u : CState) → CameBack d at.next objects s t entry value s result u → (stmts : List Stmt) → ((j : ℕ) (w : World) → running g stmts j w u ≡ tick (give (Returned result)) j w u)
      → (n : ℕ) (w : World) → Follows d.skip Post 1 0 n (give (Returned value) n w s) (λ j. running g stmts j w u)
  returns_late value result u done stmts same n w =
      as_is d.skip Post 1 0 n (give (Returned value) n w s) (λ j. running g stmts j w u) (λ j. tick (give (Returned result)) j w u) (λ j. same j w)
      (second_ticks d.skip Post 0 0 n (give (Returned value) n w s) (give (Returned result)) w u (rests d.skip Post 0 (Returned value) (Returned result) n w s u done))

  -- ---- nothing is returned

  module _ (no_result : d.proc.result ≡ None) where
    nothing_given : ResultGiven d entry objects s.areas d.proc.result None None
    nothing_given = subst (λ r. ResultGiven d entry objects s.areas r None None) (sym no_result) tt

    nothing_follows : (cs : List ContractCore) → ensures_of d.proc ≡ cs → (n : ℕ) (w : World) → Follows d.skip Post 0 0 n (returning (source.ensured d.core d.proc) None n w s) (λ j. running g (return_nothing (frame_in d) cs from).stmts j w t)
    nothing_follows [] is n w =
        returns_at_once None None t is (came None None t (kept_same (program_in d) from t) nothing_given) (c.Return None ∷ []) (λ j z. gives_nothing d at.scope t j z) n w
    nothing_follows (x ∷ cs) is n w =
        let tests : List ContractCore → List Stmt = λ ds. (contract_tests (frame_in d) ds from).stmts ++ c.Return None ∷ [] in
        pays_to d.skip Post 1 1 0 1 0 (bind (source.ensured d.core d.proc None) (λ t. give (Returned None))) w s (omega arith) (omega arith) (λ j. running g (pad ∷ tests (x ∷ cs)) j w t) (λ j. running g (tests (x ∷ cs)) j w t)
        (runs_first g 1 pad (tests (x ∷ cs)) w t t (takes_pad g w t))
        (λ m. subst (λ ds. Follows d.skip Post 1 0 m (bind (source.ensured d.core d.proc None) (λ t. give (Returned None)) m w s) (λ j. running g (tests ds) j w t)) is
        (ensures_go_on d at.scope at.scope place.parameters place.parameters (c.Number 0 Plain) None from (plain_ensures_are_set d.core d.valid d.number d.proc d.is no_result d.skip d.target d.functions (below (length d.proc.params)) (c.Number 0 Plain) None from low) entry waiting objects s t before.scoped
        (subst (λ r. ResultFits d.core entry s.areas r None) (sym no_result) tt) before.related (λ ty v some has. let no : ⊥ = cc in absurd no) Flow Post (λ t. give (Returned None)) (c.Return None ∷ []) 1 0 from (omega arith)
        (λ u kept k z. returns_late None None u (came None None u kept nothing_given) (c.Return None ∷ []) (λ j q. gives_nothing d at.scope u j q) k z) m w)) n

  -- ---- a value is

  module _ (e : ExprCore) (wanted : ValueType) (result_is : d.proc.result ≡ Some wanted) (typed : typing.Returned (env_in d) at e wanted) (small : Numbered (expr_checks e)) where
    abbrev p : Piece
    p = raw (frame_in d) e from

    abbrev i : ℕ
    i = p.next

    abbrev name : Name
    name = local_name i

    abbrev stage : Stage g s
    stage = stage_in d at.scope entry waiting s before.scoped

    grows : from ≤ i
    grows = raw_grows (frame_in d) e from

    module _ (v : Value) (u : CState) (gives : Gives d.core None s e v) (comes : Comes g objects s from p (type_of e) t v u) where
      abbrev as_given : GivenAs g objects s.areas wanted p.value v u
      as_given = given_as g (set_in d at.scope) objects s stage e typed.typed u p wanted typed.fits v gives (comes.stands u (kept_same (program_in d) i u))

      fits_own : ValueFits d.core entry s.areas (type_of e) v
      fits_own = given_values_fit (env_in d) d.valid at.scope entry s (scoped_is_known (env_in d) at.scope entry waiting s before.scoped) None (no_result_is_known (env_in d) entry s.areas refl) e typed.typed v gives

      fits : ResultFits d.core entry s.areas d.proc.result (Some v)
      fits = subst (λ r. ResultFits d.core entry s.areas r (Some v)) (sym result_is) (fits_wanted d.core entry s.areas wanted (type_of e) v typed.fits fits_own)

      back_with : (a : CValue) → as_assigned d.target (type_for (table_for d.core) wanted) a ≡ Ok as_given.held → ResultGiven d entry objects s.areas d.proc.result (Some v) (Some a)
      back_with a assigned = subst (λ r. ResultGiven d entry objects s.areas r (Some v) (Some a)) (sym result_is) (value_given d at.scope entry waiting objects s before.scoped wanted (type_of e) v p.value u typed.kept fits_own as_given a assigned)

      -- the name that keeps it
      abbrev behind : CState
      behind = declare name as_given.held u

      kept_behind : Kept (program_in d) from t behind
      kept_behind = kept_twice (program_in d) from i t u behind grows comes.kept (kept_declared (program_in d) i i as_given.held u (omega arith))

      result_stands : (ty : ValueType) (z : Value) → d.proc.result ≡ Some ty → Some v ≡ Some z → NameStands (around d (Read (Var name)) (Some v) (suc i)) objects s.areas behind ty (Read (Var name)) (At (Read (Var name))) z
      result_stands ty z some has =
          let both : Some wanted ≡ Some ty = sym result_is ∙ some in
          let same : wanted ≡ ty = cc in
          let is : v ≡ z = cc in
          subst (λ q. NameStands (around d (Read (Var name)) (Some v) (suc i)) objects s.areas behind q (Read (Var name)) (At (Read (Var name))) z) same
          (subst (λ q. NameStands (around d (Read (Var name)) (Some v) (suc i)) objects s.areas behind wanted (Read (Var name)) (At (Read (Var name))) q) is
          (stands_around d at.scope (Read (Var name)) (Some v) (suc i) objects s behind wanted (Read (Var name)) (At (Read (Var name))) v
          (holding_stands g objects s u (related_in u comes.kept) i wanted v as_given.held as_given.is)))

      returned_late : (z : CState) → Kept (program_in d) (suc i) behind z → (k : ℕ) (w : World) → Follows d.skip Post 1 0 k (give (Returned (Some v)) k w s) (λ j. running g (c.Return (Some (Read (Var name))) ∷ []) j w z)
      returned_late z kept k w =
          let kept_z : Kept (program_in d) from t z = kept_twice (program_in d) from (suc i) t behind z (omega (arith, grows)) kept_behind kept in
          let has : named z.frames.own name ≡ Some (Holding as_given.held) = kept.names name (temporary_is_old i (suc i) (omega arith)) ∙ named_here name (Holding as_given.held) u.frames.own in
          let reads = held_reads g objects s z (related_in z kept_z) name wanted v as_given.held as_given.is has in
          returns_late (Some v) (Some as_given.held) z (came (Some v) (Some as_given.held) z kept_z (back_with as_given.held as_given.again)) (c.Return (Some (Read (Var name))) ∷ []) (λ j q. gives_back d at.scope (Read (Var name)) z as_given.held reads j q) k w

      -- the statements behind the value
      value_goes : (cs : List ContractCore) → ensures_of d.proc ≡ cs → (rest : List Stmt) → ((cs ≡ []) × (rest ≡ c.Return (Some p.value) ∷ [])) ⊎ (rest ≡ c.Const name (type_for (table_for d.core) wanted) p.value ∷ ((contract_tests (record (frame_in d) { outcome = Read (Var name) }) cs (suc i)).stmts ++ c.Return (Some (Read (Var name))) ∷ []))
          → (m : ℕ) (w : World) → Follows d.skip Post (0 + spare p) 0 m (ticks (owing p.owed) (returning (source.ensured d.core d.proc) (Some v)) m w s) (λ j. running g (paid p.owed ++ rest) j w u)
      value_goes cs is rest (inl plain) m w =
          padded g s Post (returning (source.ensured d.core d.proc) (Some v)) rest 0 0 (spare p) u w p.owed
          (λ k. subst (λ ss. Follows d.skip Post 0 0 k (returning (source.ensured d.core d.proc) (Some v) k w s) (λ j. running g ss j w u)) (sym plain.1)
          (returns_at_once (Some v) (Some as_given.value) u (is ∙ plain.0) (came (Some v) (Some as_given.value) u comes.kept (back_with as_given.value as_given.assigned)) (c.Return (Some p.value) ∷ []) (λ j q. gives_back d at.scope p.value u as_given.value as_given.gives j q) k w)) m
      value_goes cs is rest (inr kept_by) m w =
          let keeper : Stmt = c.Const name (type_for (table_for d.core) wanted) p.value in
          let later : List ContractCore → List Stmt = λ ds. (contract_tests (record (frame_in d) { outcome = Read (Var name) }) ds (suc i)).stmts ++ c.Return (Some (Read (Var name))) ∷ [] in
          let part : Part State Flow = bind (source.ensured d.core d.proc (Some v)) (λ t. give (Returned (Some v))) in
          padded g s Post (returning (source.ensured d.core d.proc) (Some v)) rest 0 0 (spare p) u w p.owed
          (λ k. subst (λ ss. Follows d.skip Post 0 0 k (returning (source.ensured d.core d.proc) (Some v) k w s) (λ j. running g ss j w u)) (sym kept_by)
          (pays_to d.skip Post 1 1 0 1 0 part w s (omega arith) (omega arith) (λ j. running g (keeper ∷ later cs) j w u) (λ j. running g (later cs) j w behind)
          (runs_first g 1 keeper (later cs) w u behind (takes_const g w u name (type_for (table_for d.core) wanted) p.value as_given.value as_given.held as_given.gives as_given.assigned))
          (λ q. subst (λ ds. Follows d.skip Post 1 0 q (part q w s) (λ j. running g (later ds) j w behind)) is
          (ensures_go_on d at.scope at.scope place.parameters place.parameters (Read (Var name)) (Some v) (suc i) (ensures_are_set d.core d.valid d.number d.proc d.is d.skip d.target d.functions (below (length d.proc.params)) (Some v) i (omega (arith, low, grows))) entry waiting objects s behind before.scoped fits
          (related_in behind kept_behind) result_stands Flow Post (λ t. give (Returned (Some v))) (c.Return (Some (Read (Var name))) ∷ []) 1 0 (suc i) (omega arith) returned_late q w)) k)) m

    -- the forms of the two cases
    abbrev shape : (cs : List ContractCore) → List Stmt
    shape [] = c.Return (Some p.value) ∷ []
    shape (x ∷ cs) = c.Const name (type_for (table_for d.core) wanted) p.value ∷ ((contract_tests (record (frame_in d) { outcome = Read (Var name) }) (x ∷ cs) (suc i)).stmts ++ c.Return (Some (Read (Var name))) ∷ [])

    which : (cs : List ContractCore) → ((cs ≡ []) × (shape cs ≡ c.Return (Some p.value) ∷ [])) ⊎ (shape cs ≡ c.Const name (type_for (table_for d.core) wanted) p.value ∷ ((contract_tests (record (frame_in d) { outcome = Read (Var name) }) cs (suc i)).stmts ++ c.Return (Some (Read (Var name))) ∷ []))
    which [] = inl (refl, refl)
    which (x ∷ cs) = inr refl

    lowered_as : (cs : List ContractCore) → (return_value (frame_in d) cs (type_for (table_for d.core) wanted) p).stmts ≡ p.before ++ (paid p.owed ++ shape cs)
    lowered_as [] = append_assoc p.before (paid p.owed) (c.Return (Some p.value) ∷ [])
    lowered_as (x ∷ cs) =
        append_assoc (p.before ++ paid p.owed) (c.Const name (type_for (table_for d.core) wanted) p.value ∷ []) ((contract_tests (record (frame_in d) { outcome = Read (Var name) }) (x ∷ cs) (suc i)).stmts ++ c.Return (Some (Read (Var name))) ∷ [])
        ∙ append_assoc p.before (paid p.owed) (shape (x ∷ cs))

    value_follows : (cs : List ContractCore) → ensures_of d.proc ≡ cs → (n : ℕ) (w : World)
        → Follows d.skip Post 0 0 n (bind (eval d.core None e) (λ v. returning (source.ensured d.core d.proc) (Some v)) n w s) (λ j. running g (return_value (frame_in d) cs (type_for (table_for d.core) wanted) p).stmts j w t)
    value_follows cs is n w =
        subst (λ ss. Follows d.skip Post 0 0 n (bind (eval d.core None e) (λ v. returning (source.ensured d.core d.proc) (Some v)) n w s) (λ j. running g ss j w t)) (sym (lowered_as cs))
        (raw_all g (set_in d at.scope) objects s stage e typed.typed small Flow Post (λ v. returning (source.ensured d.core d.proc) (Some v)) (paid p.owed ++ shape cs) 0 0 from low t before.related
        (record { by = λ v u gives comes m z. value_goes v u gives comes cs is (shape cs) (which cs) m z }) n w)

-- ---- the law

pub returns_follow : ReturnsFollow
returns_follow d at None place typed kinds small entry waiting objects s t before from low n w = go d.proc.result refl typed.1 where
  go : (r : Option ValueType) → d.proc.result ≡ r → ReturnTyped (env_in d) at r None → Follows d.skip (StmtDone d entry at (Return None) objects s t) 0 0 n (returning (source.ensured d.core d.proc) None n w s) (λ j. running (within d at.scope) (return_nothing (frame_in d) (ensured d.proc.contracts) from).stmts j w t)
  go None is t2 = nothing_follows d at place entry waiting objects s t before from low None is (ensured d.proc.contracts) (sym (selected_are is_ensured d.proc.contracts)) n w
  go (Some ty) is t2 = absurd t2
returns_follow d at (Some e) place typed kinds small entry waiting objects s t before from low n w = go d.proc.result refl typed.1 where
  go : (r : Option ValueType) → d.proc.result ≡ r → ReturnTyped (env_in d) at r (Some e)
      → Follows d.skip (StmtDone d entry at (Return (Some e)) objects s t) 0 0 n (bind (eval d.core None e) (λ v. returning (source.ensured d.core d.proc) (Some v)) n w s)
      (λ j. running (within d at.scope) (return_value (frame_in d) (ensured d.proc.contracts) (result_for (table_for d.core) r) (raw (frame_in d) e from)).stmts j w t)
  go None is t2 = absurd t2
  go (Some ty) is t2 = value_follows d at place entry waiting objects s t before from low (Some e) e ty is t2 small (ensured d.proc.contracts) (sym (selected_are is_ensured d.proc.contracts)) n w
