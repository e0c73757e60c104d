-- A copy follows: both references are evaluated, and then the C of the area's parts takes the steps of its nodes.
use Rattle.std.proofs.Common.{◌≡◌, ℕ, ◌-◌, ◌*◌, ◌≤◌, ℤ, Bool, true, false, List, [], ◌++◌, length, Option, Some, None, Result, Ok, IsTrue, refl, sym, ◌∙◌, ap, subst, arith, append-nil}
use Rattle.std.specs.Prelude.{not, ◌||◌, slice_get}
use Rattle.std.specs.Option.{option_and_then}
use Rattle.step_semantics.specs.Control.{Control, Falls}
use Rattle.step_semantics.specs.Follows.{Follows}
use Rattle.step_semantics.specs.Steps.{World, bind, ticks, change}
use Rattle.step_semantics.proofs.Leading.{leads_refl}
use Rattle.step_semantics.proofs.Paying.{pays_to}
use Rattle.type_trees.specs.Trees.{nodes, part}
use Rattle.type_trees.specs.Values.{at}
use Rattle.type_trees.proofs.Values.{lens}
use Rattle.area_types.specs.Syntax as types
use Rattle.area_types.specs.Syntax.{ValueType}
use Rattle.area_types.specs.Tables.{written_out}
use Rattle.area_types.specs.Trees.{Written}
use Rattle.source_types.specs.Values.{is_reference}
use Rattle.core_tree.specs.Checks.{expr_checks, stmt_checks}
use Rattle.core_tree.specs.Environments.{Point}
use Rattle.core_tree.specs.Syntax.{ExprCore, Copy, type_of}
use Rattle.core_tree.specs.TypedStatements.{CopyTyped}
use Rattle.core_meaning.specs.Areas.{Held, Area, Live, in_map, type_at, held_at, put_at}
use Rattle.core_meaning.specs.Checks.{on_some}
use Rattle.core_meaning.specs.Expressions.{eval}
use Rattle.core_meaning.specs.Gives.{Gives}
use Rattle.core_meaning.specs.State.{State, value_of, holding}
use Rattle.core_meaning.specs.Statements.{Flow, copy}
use Rattle.core_meaning.specs.Values as source
use Rattle.core_meaning.specs.Values.{Value}
use Rattle.c_ast.specs.Scalars.{metric_of}
use Rattle.c_ast.specs.Syntax.{Stmt}
use Rattle.c_ast.specs.Targets.{table_of}
use Rattle.c_meaning.specs.Memory.{memory_of}
use Rattle.c_meaning.specs.Places.{Lvalue}
use Rattle.c_meaning.specs.State.{CState}
use Rattle.c_meaning.specs.Values.{CValue, Trouble}
use Rattle.region_soundness.specs.Fitting.{Entry, RefersAs, ValueFits}
use Rattle.region_soundness.specs.Laws.{PlaceIn}
use Rattle.region_soundness.specs.Scoped.{Activation, NameFits}
use Rattle.area_objects.specs.Both.{Map}
use Rattle.area_objects.specs.Holds.{CanHold}
use Rattle.lower_values.specs.Expressions.{place, reference_to}
use Rattle.lower_values.specs.Pieces.{PlacePiece}
use Rattle.lower_statements.specs.Parts.{copied}
use Rattle.lower_statements.specs.Statements.{behind}
use Rattle.value_refinement.specs.Kept.{Kept}
use Rattle.value_refinement.specs.Laws.{Numbered, Stage, running}
use Rattle.value_refinement.specs.Related.{is_constant, PlaceIs, Related}
use Rattle.value_refinement.specs.Settings.{Setting, Set}
use Rattle.value_refinement.specs.Values.{Arrives}
use Rattle.value_refinement.proofs.Given.{first_checks, last_checks}
use Rattle.value_refinement.proofs.Keeping.{kept_same, kept_twice, older, same_twice}
use Rattle.value_refinement.proofs.References.{content_is}
use Rattle.value_refinement.proofs.Standings.{related_on}
use Rattle.statement_refinement.specs.Moves.{Moved}
use Rattle.statement_refinement.proofs.Written.{still_live, counters_kept}
use Rattle.body_refinement.specs.Bodies.{Lowered, env_in, program_in, within}
use Rattle.body_refinement.specs.Laws.{CopiesFollow}
use Rattle.body_refinement.specs.Statements.{CameWith, StmtDone, Before}
use Rattle.body_refinement.proofs.AreaParts.{reference_leads}
use Rattle.body_refinement.proofs.Aside.{Aside, Fixed, aside_kept, aside_twice}
use Rattle.body_refinement.proofs.Coming.{set_in, stage_in, came_with}
use Rattle.body_refinement.proofs.CopyAreas.{part_copied}
use Rattle.body_refinement.proofs.CopyParts.{PartIn, Copied, At}
use Rattle.body_refinement.proofs.FixedPlaces.{HaveNumbers, Stays, place_stays}

mutable_area : (constant : Bool) → IsTrue (not constant || false) → constant ≡ false
mutable_area true e = let no : ⊥ = cc in absurd no
mutable_area false e = refl

module _ (d : Lowered) (at_point : Point) (place_in : PlaceIn d.proc at_point) (target value : ExprCore) (typed : CopyTyped (env_in d) at_point target value)
    (entry : Entry) (waiting : List Activation) (objects : Map) (s : State) (t : CState) (before : Before d at_point entry waiting objects s t) (from : ℕ) (le : length d.proc.locals ≤ from) where
  abbrev g : Setting
  g = within d at_point.scope

  set : Set g
  set = set_in d at_point.scope

  stage : Stage g s
  stage = stage_in d at_point.scope entry waiting s before.scoped

  numbers : HaveNumbers g s
  numbers x ty here type plain = go fits.value fits.has fits.fits where
    fits : NameFits d.core entry s.areas s.frames.own.names x ty
    fits = before.scoped.frame.names x ty here type

    go : (v : Value) → value_of x s ≡ Some v → ValueFits d.core entry s.areas ty v → (n : ℤ) × (value_of x s ≡ Some (source.Num n))
    go (source.Num n) has h = (n, has)
    go (source.Ref k path) has h = (let no : ⊥ = subst (λ o. RefersAs d.core entry s.areas o k path) plain h in absurd no)

  -- the type of what is copied
  abbrev ty : Written
  ty = written_out d.core.structs typed.area

  abbrev first : PlacePiece
  first = place g.frame target from

  abbrev second : PlacePiece
  second = place g.frame value first.next

  abbrev Post : Flow → State → Control (Option CValue) → CState → Type 0
  Post = StmtDone d entry at_point (Copy target value) objects s t

  -- a mutable reference leads to an area that may be written
  mutable : (k : ℕ) (path : List ℕ) → Gives g.frame.core g.outcome s target (source.Ref k path) → (a : Area) → slice_get s.areas k ≡ Some (Live a) → a.constant ≡ false
  mutable k path gives a live =
      let fits : ValueFits g.frame.core stage.entry s.areas (types.Ref false typed.target_region typed.area) (source.Ref k path) =
      subst (λ b. ValueFits g.frame.core stage.entry s.areas b (source.Ref k path)) typed.target_is.type (stage.fits target (source.Ref k path) typed.target_is.typed gives) in
      let same : Some (Live fits.area) ≡ Some (Live a) = sym fits.live ∙ live in
      let is : fits.area ≡ a = cc in
      ap (λ (b : Area). b.constant) (sym is) ∙ mutable_area fits.area.constant fits.access

  module _ (k : ℕ) (path : List ℕ) (u : CState) (leads : Gives g.frame.core g.outcome s target (source.Ref k path)) (arrives : Arrives g objects s from first.place first.next (type_of target) t k path u) (stays : Stays g objects first.next u first.place)
      (j : ℕ) (r : List ℕ) (z : CState) (source_leads : Gives g.frame.core g.outcome s value (source.Ref j r)) (source_arrives : Arrives g objects s first.next second.place second.next (type_of value) u j r z) (source_stays : Stays g objects second.next z second.place) where
    kept : Kept g.program from t z
    kept = kept_twice g.program from first.next t u z arrives.grows arrives.kept source_arrives.kept

    related_z : Related g objects s z
    related_z = related_on g set objects s from le t z kept before.related

    abbrev to_is : PlaceIs g objects s.areas z (is_constant (type_of target)) first.place k path
    to_is = arrives.stands z source_arrives.kept

    abbrev from_is : PlaceIs g objects s.areas z (is_constant (type_of value)) second.place j r
    from_is = source_arrives.stands z (kept_same g.program second.next z)

    to_content : to_is.pointer.content ≡ ty
    to_content = content_is g set objects s stage target typed.target_is.typed false typed.target_region typed.area typed.target_is.type k path leads z (is_constant (type_of target)) (reference_to first.place) to_is.pointer

    from_content : from_is.pointer.content ≡ ty
    from_content = content_is g set objects s stage value typed.source_is.typed typed.constant typed.source_region typed.area typed.source_is.type j r source_leads z (is_constant (type_of value)) (reference_to second.place) from_is.pointer

    to_fixed : Fixed g.program objects second.next z first.place (At g objects (is_constant (type_of target)) to_is.pointer.object to_is.pointer.area.ty path ty)
    to_fixed w aside =
        let there : Aside g.program objects first.next u z = aside_kept g.program objects first.next u z source_arrives.kept in
        stays w (aside_twice g.program objects first.next second.next u z w source_arrives.grows there aside) ∙ sym (stays z there) ∙ to_is.is
        ∙ ap (λ b. let l : Result Lvalue Trouble = Ok (At g objects (is_constant (type_of target)) to_is.pointer.object to_is.pointer.area.ty path b) in l) to_content

    from_fixed : Fixed g.program objects second.next z second.place (At g objects (is_constant (type_of value)) from_is.pointer.object from_is.pointer.area.ty r ty)
    from_fixed w aside =
        source_stays w aside ∙ from_is.is
        ∙ ap (λ b. let l : Result Lvalue Trouble = Ok (At g objects (is_constant (type_of value)) from_is.pointer.object from_is.pointer.area.ty r b) in l) from_content

    type_is : type_at s.areas k path ≡ Some ty
    type_is = ap (λ found. option_and_then (λ (a : Area). part a.ty path) (option_and_then in_map found)) to_is.pointer.lives.live ∙ to_is.pointer.leads ∙ ap Some to_content

    module _ (held : Held) (held_is : held_at s.areas j r ≡ Some held) where
      abbrev statements : List Stmt
      statements = (copied g.frame ty first.place second.place second.next).stmts

      old : (v : Held) × (at to_is.pointer.area.held path ≡ Some v)
      old =
          let holds = related_z.both.holds k to_is.pointer.object to_is.pointer.area to_is.pointer.lives in
          let l = lens (λ (x : ValueType) (n : ℤ). CanHold (table_of g.program.target) (g.naming.scalar x) n) to_is.pointer.area.ty path to_is.pointer.content to_is.pointer.area.held to_is.pointer.leads holds.fits in
          (l.value, l.is)

      abbrev to_part : PartIn objects s.areas k to_is.pointer.object to_is.pointer.area.ty path ty old.0
      to_part = record {
        is = record { area = to_is.pointer.area; live = to_is.pointer.lives.live; leads = to_is.pointer.leads ∙ ap Some to_content; holds = old.1 };
        type = refl;
        object = to_is.pointer.lives.object;
      }

      from_held : at from_is.pointer.area.held r ≡ Some held
      from_held = sym (ap (λ found. option_and_then (λ (a : Area). at a.held r) (option_and_then in_map found)) from_is.pointer.lives.live) ∙ held_is

      from_part : PartIn objects s.areas j from_is.pointer.object from_is.pointer.area.ty r ty held
      from_part = record {
        is = record { area = from_is.pointer.area; live = from_is.pointer.lives.live; leads = from_is.pointer.leads ∙ ap Some from_content; holds = from_held };
        type = refl;
        object = from_is.pointer.lives.object;
      }

      may_write : to_part.is.area.constant ≡ false
      may_write = mutable k path leads to_is.pointer.area to_is.pointer.lives.live

      all : (w : World) → Copied g objects (put_at k path held s.areas) (nodes ty) (4 * nodes ty - 3) statements second.next [] w z
      all w =
          part_copied g set objects d.lawful ty (reference_leads d at_point.scope target typed.target_is.typed false typed.target_region typed.area typed.target_is.type)
          s.areas z related_z.both k to_is.pointer.object to_is.pointer.area.ty path old.0 to_part may_write j from_is.pointer.object from_is.pointer.area.ty r held from_part
          (is_constant (type_of target)) (is_constant (type_of value)) first.place second.place second.next to_fixed from_fixed [] w

      moved : (v : CState) → Aside g.program objects second.next z v → Moved (program_in d) at_point.next objects s t objects (holding k path held s) v
      moved v aside =
          let far : from ≤ second.next = omega (arith, arrives.grows, source_arrives.grows) in
          record {
            extends = λ i o e. e;
            live = still_live k path held s.areas;
            count = omega (arith, kept.count, aside.kept.count);
            same = λ o lt none.
                same_twice (metric_of g.program.target) (memory_of g.program.target) t.objects z.objects v.objects o (kept.objects o lt) (aside.kept.objects_apart o (omega (arith, lt, kept.count)) none);
            apart = λ o lt none. none;
            names = λ x is_old.
                (let early = older at_point.next from x (omega (arith, before.room, le)) is_old in
                aside.kept.names x (older from second.next x far early) ∙ kept.names x early);
            callers = aside.kept.callers ∙ kept.callers;
            values = λ x lt. refl;
          }

      copies : (m : ℕ) (w : World) → Follows g.frame.skip Post 0 0 m (ticks (nodes ty) (change Falls (holding k path held)) m w s) (λ i. running g statements i w z)
      copies m w =
          let c : Copied g objects (put_at k path held s.areas) (nodes ty) (4 * nodes ty - 3) statements second.next [] w z = all w in
          let done : CameWith d at_point.next objects s t at_point.scope (holding k path held s) c.new =
          came_with d at_point place_in objects s t before.related before.apart (holding k path held s) c.new (record { more = objects; moved = moved c.new c.aside; both = c.both }) in
          subst (λ ss. Follows g.frame.skip Post 0 0 m (ticks (nodes ty) (change Falls (holding k path held)) m w s) (λ i. running g ss i w z)) (append-nil statements)
          (pays_to g.frame.skip Post c.steps (nodes ty) 0 0 0 (change Falls (holding k path held)) w s c.many (omega (arith, c.few)) (λ i. running g (statements ++ []) i w z) (λ i. running g [] i w c.new) c.reaches
          (λ i. record { value = Falls; state = c.new; holds = done; leads = leads_refl 0 i (λ e. running g [] e w c.new) }) m)

    on_held : (found : Option Held) → held_at s.areas j r ≡ found → (m : ℕ) (w : World)
        → Follows g.frame.skip Post 0 0 m (on_some g.frame.core found (λ held. ticks (nodes ty) (change Falls (holding k path held))) m w s) (λ i. running g (copied g.frame ty first.place second.place second.next).stmts i w z)
    on_held None is m w = tt
    on_held (Some held) is m w = copies held is m w

    on_both : (m : ℕ) (w : World) → Follows g.frame.skip Post 0 0 m (copy g.frame.core (source.Ref k path) (source.Ref j r) m w s) (λ i. running g (copied g.frame ty first.place second.place second.next).stmts i w z)
    on_both m w =
        subst (λ found. Follows g.frame.skip Post 0 0 m (on_some g.frame.core found (λ b. on_some g.frame.core (held_at s.areas j r) (λ held. ticks (nodes b) (change Falls (holding k path held)))) m w s) (λ i. running g (copied g.frame ty first.place second.place second.next).stmts i w z))
        (sym type_is) (on_held (held_at s.areas j r) refl m w)

  refers_to : IsTrue (is_reference (type_of target))
  refers_to = ap is_reference typed.target_is.type

  refers_from : IsTrue (is_reference (type_of value))
  refers_from = ap is_reference typed.source_is.type

  area_is : behind (type_of target) ≡ typed.area
  area_is = ap behind typed.target_is.type

  pub copy_follows : Numbered (stmt_checks (Copy target value)) → (n : ℕ) (w : World)
      → Follows g.frame.skip Post 0 0 n (bind (eval g.frame.core g.outcome target) (λ a. bind (eval g.frame.core g.outcome value) (λ b. copy g.frame.core a b)) n w s)
      (λ i. running g (first.before ++ (second.before ++ (copied g.frame (written_out d.core.structs (behind (type_of target))) first.place second.place second.next).stmts)) i w t)
  copy_follows small n w =
      subst (λ a. Follows g.frame.skip Post 0 0 n (bind (eval g.frame.core g.outcome target) (λ a. bind (eval g.frame.core g.outcome value) (λ b. copy g.frame.core a b)) n w s)
      (λ i. running g (first.before ++ (second.before ++ (copied g.frame (written_out d.core.structs a) first.place second.place second.next).stmts)) i w t)) (sym area_is)
      (place_stays g set refl objects s stage numbers target typed.target_is.typed (first_checks (expr_checks target) (expr_checks value) small) refers_to Flow Post (λ a. bind (eval g.frame.core g.outcome value) (λ b. copy g.frame.core a b))
      (second.before ++ (copied g.frame ty first.place second.place second.next).stmts) 0 0 from le t before.related before.apart (record { by = on_target }) n w)
    where
      on_target : (k : ℕ) (path : List ℕ) (u : CState) → Gives g.frame.core g.outcome s target (source.Ref k path) → Arrives g objects s from first.place first.next (type_of target) t k path u → Stays g objects first.next u first.place
          → (m : ℕ) (z : World) → Follows g.frame.skip Post 0 0 m (bind (eval g.frame.core g.outcome value) (λ b. copy g.frame.core (source.Ref k path) b) m z s) (λ i. running g (second.before ++ (copied g.frame ty first.place second.place second.next).stmts) i z u)
      on_target k path u leads arrives stays m z =
          place_stays g set refl objects s stage numbers value typed.source_is.typed (last_checks (expr_checks target) (expr_checks value) small) refers_from Flow Post (λ b. copy g.frame.core (source.Ref k path) b)
          (copied g.frame ty first.place second.place second.next).stmts 0 0 first.next (omega (arith, le, arrives.grows)) u
          (related_on g set objects s from le t u arrives.kept before.related) (counters_kept g set objects s from le t u arrives.kept before.apart)
          (record { by = λ j r v source_leads source_arrives source_stays i y. on_both k path u leads arrives stays j r v source_leads source_arrives source_stays i y }) m z

pub copies_follow : CopiesFollow
copies_follow d at_point target value place_in typed kinds small entry waiting objects s t before from le n w = copy_follows d at_point place_in target value typed entry waiting objects s t before from le small n w
