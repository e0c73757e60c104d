-- A store follows where its value and its target do: the assignment takes the statement's step and writes the number that both sides hold.
use Rattle.std.proofs.Common.{◌≡◌, ℕ, ◌+◌, ◌≤◌, ℤ, Bool, true, false, List, [], ◌∷◌, ◌++◌, Option, Some, None, Result, Ok, refl, sym, ◌∙◌, ap, subst, arith}
use Rattle.std.specs.Prelude.{not, ◌||◌, slice_get, IsTrue}
use Rattle.std.proofs.lemmas.List.{append_assoc}
use Rattle.step_semantics.specs.Control.{Control, Falls}
use Rattle.step_semantics.specs.Follows.{Follows}
use Rattle.step_semantics.specs.Steps.{World, Part, bind, tick, ticks, change}
use Rattle.step_semantics.specs.Takes.{Takes}
use Rattle.step_semantics.proofs.Paying.{pays_to}
use Rattle.step_semantics.proofs.Leading.{leads_refl}
use Rattle.type_trees.specs.Trees.{Leaf}
use Rattle.type_trees.specs.Values.{Cell}
use Rattle.area_types.specs.Syntax as types
use Rattle.area_types.specs.Syntax.{ValueType}
use Rattle.area_types.specs.Trees.{Written}
use Rattle.source_types.specs.Values.{is_reference}
use Rattle.core_tree.specs.Checks.{expr_checks}
use Rattle.core_tree.specs.Syntax.{ExprCore, type_of}
use Rattle.core_meaning.specs.Areas.{Area, Live, type_at, put_at}
use Rattle.core_meaning.specs.Checks.{on_some}
use Rattle.core_meaning.specs.Expressions.{eval}
use Rattle.core_meaning.specs.Gives.{Gives}
use Rattle.core_meaning.specs.State.{State, holding}
use Rattle.core_meaning.specs.Statements.{Flow, store}
use Rattle.core_meaning.specs.Values as source
use Rattle.core_meaning.specs.Values.{Value}
use Rattle.region_soundness.specs.Fitting.{ValueFits}
use Rattle.c_memory.specs.Access.{Fault}
use Rattle.c_ast.specs.declared.CKind.TheVariants.{Scalar}
use Rattle.c_ast.specs.declared.CType.TheVariants as ctype
use Rattle.c_ast.specs.Conversions.{can_hold}
use Rattle.c_ast.specs.Scalars.{metric_of}
use Rattle.c_ast.specs.Syntax.{Expr, Place, Stmt, Assign}
use Rattle.c_ast.specs.Targets.{table_of}
use Rattle.c_meaning.specs.Calls.{given}
use Rattle.c_meaning.specs.Expressions as c
use Rattle.c_meaning.specs.Initializers.{as_number, number_of}
use Rattle.c_meaning.specs.Memory.{CObjects, memory_of}
use Rattle.c_meaning.specs.Places.{Lvalue}
use Rattle.c_meaning.specs.State.{CState}
use Rattle.c_meaning.specs.Statements.{exec, assign, stored}
use Rattle.c_meaning.specs.Values.{CValue, Trouble, Num, on_ok, as_assigned}
use Rattle.area_objects.specs.Both.{Map, Done}
use Rattle.area_objects.specs.Holds.{CanHold}
use Rattle.area_objects.specs.Located.{located}
use Rattle.area_objects.specs.Shapes as shapes
use Rattle.area_objects.proofs.Outside.{places_assigned}
use Rattle.lower_types.specs.Types.{scalar_for}
use Rattle.lower_values.specs.Expressions.{raw, place, reference_to}
use Rattle.lower_values.specs.Pieces.{Piece, PlacePiece, paid}
use Rattle.value_refinement.specs.Kept.{Kept}
use Rattle.value_refinement.specs.Laws.{Numbered, Stage, owing, spare, running}
use Rattle.value_refinement.specs.Related.{is_constant, PlaceIs, Related}
use Rattle.value_refinement.specs.Settings.{Setting, Set}
use Rattle.value_refinement.specs.Values.{Comes, Arrives}
use Rattle.value_refinement.proofs.Expressions.{raw_all, place_all}
use Rattle.value_refinement.proofs.Keeping.{kept_same, kept_twice, same_twice}
use Rattle.value_refinement.proofs.Operands.{stands_assigned, padded}
use Rattle.value_refinement.proofs.References.{content_is}
use Rattle.value_refinement.proofs.Running.{runs_first, takes_one}
use Rattle.value_refinement.proofs.Standings.{related_on}
use Rattle.value_refinement.proofs.Types.{given_holds}
use Rattle.statement_refinement.specs.Apart.{CountersApart}
use Rattle.statement_refinement.specs.Stores.{KeptApart, IsStore, HasStored, StoreDone, store_statements}
use Rattle.statement_refinement.proofs.Written.{counters_kept, related_written}

-- ---- the assignment

module _ (g : Setting) (w : World) (t : CState) where
  pub takes_assign : (to : Place) (e : Expr) (l : Lvalue) (v : CValue) (new : CObjects) → c.eval_place g.program to t ≡ Ok l → c.eval g.program e t ≡ Ok v → stored g.program.target t l v ≡ Ok new
      → Takes 1 (exec g.program g.functions (Assign to e)) w t Falls (record t { objects = new })
  takes_assign to e l v new placed gives is =
      let after : CState = record t { objects = new } in
      let same : (j : ℕ) → exec g.program g.functions (Assign to e) j w t ≡ tick (assign g.program l v) j w t =
      (λ j. ap (λ r. given g.program r (λ a. given g.program (c.eval g.program e t) (λ b. tick (assign g.program a b))) j w t) placed ∙ ap (λ r. given g.program r (λ b. tick (assign g.program l b)) j w t) gives) in
      let one : Takes 1 (tick (assign g.program l v)) w t Falls after =
      takes_one g.program w t (assign g.program l v) Falls after (λ j. ap (λ r. given g.program r (λ objects. change Falls (λ (u : CState). record u { objects = objects })) j w t) is) in
      record { waits = λ j lt. same j ∙ one.waits j lt; finishes = λ j. same (1 + j) ∙ one.finishes j }

-- what may be written through a mutable reference is not const
mutable_area : (constant : Bool) → IsTrue (not constant || false) → constant ≡ false
mutable_area true e = let no : ⊥ = cc in absurd no
mutable_area false e = refl

module _ (g : Setting) (set : Set g) (objects : Map) (s : State) (stage : Stage g s) (target value : ExprCore) (typed : IsStore g target value) where
  -- a mutable reference leads to an area that may be written
  mutable : (k : ℕ) (path : List ℕ) → Gives g.frame.core g.outcome s target (source.Ref k path) → (a : Area) → slice_get s.areas k ≡ Some (Live a) → a.constant ≡ false
  mutable k path gives a live =
      let fits : ValueFits g.frame.core stage.entry s.areas (types.Ref false typed.region (types.Stored (type_of value))) (source.Ref k path) =
      subst (λ ty. ValueFits g.frame.core stage.entry s.areas ty (source.Ref k path)) typed.target_is (stage.fits target (source.Ref k path) typed.target_typed gives) in
      let same : Some (Live fits.area) ≡ Some (Live a) = sym fits.live ∙ live in
      let is : fits.area ≡ a = cc in
      ap (λ (b : Area). b.constant) (sym is) ∙ mutable_area fits.area.constant fits.access

  -- the number in the type of the cell
  in_cell : (v : CValue) (n : ℤ) → as_assigned g.program.target (ctype.Value (scalar_for g.frame.table (type_of value))) v ≡ Ok (Num (Scalar (scalar_for g.frame.table (type_of value))) n) → as_number g.program.target (g.naming.scalar (type_of value)) v ≡ Ok n
  in_cell v n e = ap (λ k. as_number g.program.target k v) (set.scalars (type_of value)) ∙ ap (λ r. on_ok r number_of) e

  module _ (from : ℕ) (le : g.first ≤ from) (t : CState) (related : Related g objects s t) (apart : CountersApart g objects s t) where
    abbrev piece : Piece
    piece = raw g.frame value from

    abbrev arrived : PlacePiece
    arrived = place g.frame target piece.next

    abbrev last : List Stmt
    last = Assign arrived.place piece.value ∷ []

    abbrev Post : Flow → State → Control (Option CValue) → CState → Type 0
    Post = StoreDone g objects s target value from t

    module _ (u : CState) (n : ℤ) (gives : Gives g.frame.core g.outcome s value (source.Num n)) (comes : Comes g objects s from piece (type_of value) t (source.Num n) u)
        (k : ℕ) (path : List ℕ) (z : CState) (leads : Gives g.frame.core g.outcome s target (source.Ref k path)) (arrives : Arrives g objects s piece.next arrived.place arrived.next (type_of target) u k path z) where
      kept : Kept g.program from t z
      kept = kept_twice g.program from piece.next t u z comes.grows comes.kept arrives.kept

      related_z : Related g objects s z
      related_z = related_on g set objects s from le t z kept related

      at : PlaceIs g objects s.areas z (is_constant (type_of target)) arrived.place k path
      at = arrives.stands z (kept_same g.program arrived.next z)

      content : at.pointer.content ≡ Leaf (type_of value)
      content = content_is g set objects s stage target typed.target_typed false typed.region (types.Stored (type_of value)) typed.target_is k path leads z (is_constant (type_of target)) (reference_to arrived.place) at.pointer

      abbrev to : Lvalue
      to = located g.program.target g.naming (is_constant (type_of target)) at.pointer.object at.pointer.area.ty path (Leaf (type_of value))

      placed : c.eval_place g.program arrived.place z ≡ Ok to
      placed = at.is ∙ ap (λ b. let r : Result Lvalue Trouble = Ok (located g.program.target g.naming (is_constant (type_of target)) at.pointer.object at.pointer.area.ty path b) in r) content

      holds : IsTrue (can_hold (table_of g.program.target) (Scalar (scalar_for g.frame.table (type_of value))) n)
      holds = given_holds g set s stage value n typed.value_typed gives

      assigned : (v : CValue) × (c.eval g.program piece.value z ≡ Ok v) × (as_assigned g.program.target (ctype.Value (scalar_for g.frame.table (type_of value))) v ≡ Ok (Num (Scalar (scalar_for g.frame.table (type_of value))) n))
      assigned = stands_assigned g z (scalar_for g.frame.table (type_of value)) piece.standing piece.value n holds (comes.stands z arrives.kept).1

      abbrev written : Result CObjects Fault
      written = (memory_of g.program.target).write z.objects at.pointer.object (shapes.place (metric_of g.program.target) g.naming at.pointer.area.ty path, g.naming.scalar (type_of value)) n

      written_so : (done : Done (metric_of g.program.target) (CanHold (table_of g.program.target)) (memory_of g.program.target) g.naming written z.objects at.pointer.object objects (put_at k path (Cell n) s.areas)) × (stored g.program.target z to assigned.0 ≡ Ok done.new)
      written_so =
          places_assigned g.program.target g.naming objects s.areas z k at.pointer.object at.pointer.area (is_constant (type_of target)) path (type_of value) assigned.0 n
          related_z.both at.pointer.lives (mutable k path leads at.pointer.area at.pointer.lives.live) (at.pointer.leads ∙ ap Some content) (in_cell assigned.0 n assigned.2)
          (subst (λ x. CanHold (table_of g.program.target) x n) (sym (set.scalars (type_of value))) holds)

      abbrev done : Done (metric_of g.program.target) (CanHold (table_of g.program.target)) (memory_of g.program.target) g.naming written z.objects at.pointer.object objects (put_at k path (Cell n) s.areas)
      done = written_so.0

      abbrev behind : CState
      behind = record z { objects = done.new }

      kept_apart : KeptApart g.program objects from t behind
      kept_apart = record {
        names = kept.names;
        callers = kept.callers;
        count = omega (arith, kept.count, done.count);
        objects_apart = λ o lt none.
            same_twice (metric_of g.program.target) (memory_of g.program.target) t.objects z.objects done.new o (kept.objects o lt)
            (done.others o (λ same. none k (at.pointer.lives.object ∙ ap Some (sym same))));
      }

      apart_z : CountersApart g objects s z
      apart_z = counters_kept g set objects s from le t z kept apart

      is_written : HasStored g objects s target value from t (holding k path (Cell n) s) behind
      is_written = record {
        area = k;
        path = path;
        number = n;
        leads = leads;
        given = gives;
        is = refl;
        kept = kept_apart;
        related = related_written g objects s z k path (Cell n) at.pointer.object at.pointer.area related_z at.pointer.lives done.new done.both done.others typed.in_body apart_z;
        apart = apart_z;
      }

      on_cell : (found : Option Written) (m : ℕ) (w : World) → Follows g.frame.skip Post 0 0 m (on_some g.frame.core found (λ ty. tick (change Falls (holding k path (Cell n)))) m w s) (λ j. running g last j w z)
      on_cell None m w = tt
      on_cell (Some ty) m w =
          pays_to g.frame.skip Post 1 1 0 0 0 (change Falls (holding k path (Cell n))) w s (omega arith) (omega arith) (λ j. running g last j w z) (λ j. running g [] j w behind)
          (runs_first g 1 (Assign arrived.place piece.value) [] w z behind (takes_assign g w z arrived.place piece.value to assigned.0 done.new placed assigned.1 written_so.1))
          (λ i. record { value = Falls; state = behind; holds = is_written; leads = leads_refl 0 i (λ j. running g [] j w behind) }) m

    -- no reference is stored
    on_target : (v : Value) (u : CState) → Gives g.frame.core g.outcome s value v → Comes g objects s from piece (type_of value) t v u → (k : ℕ) (path : List ℕ) (z : CState) → Gives g.frame.core g.outcome s target (source.Ref k path)
        → Arrives g objects s piece.next arrived.place arrived.next (type_of target) u k path z → (m : ℕ) (w : World) → Follows g.frame.skip Post 0 0 m (store g.frame.core (source.Ref k path) v m w s) (λ j. running g last j w z)
    on_target (source.Num n) u gives comes k path z leads arrives m w = on_cell u n gives comes k path z leads arrives (type_at s.areas k path) m w
    on_target (source.Ref j other) u gives comes k path z leads arrives m w = tt

    refers : IsTrue (is_reference (type_of target))
    refers = ap is_reference typed.target_is

    pub store_follows_by : Numbered (expr_checks target) → Numbered (expr_checks value) → (n : ℕ) (w : World)
        → Follows g.frame.skip Post 0 0 n (bind (eval g.frame.core g.outcome value) (λ v. bind (eval g.frame.core g.outcome target) (λ r. store g.frame.core r v)) n w s) (λ j. running g (store_statements g target value from) j w t)
    store_follows_by small_target small_value n w =
        let go : Value → Part State Flow = (λ v. bind (eval g.frame.core g.outcome target) (λ r. store g.frame.core r v)) in
        subst (λ ss. Follows g.frame.skip Post 0 0 n (bind (eval g.frame.core g.outcome value) go n w s) (λ j. running g ss j w t)) (sym (append_assoc piece.before (paid piece.owed) (arrived.before ++ last)))
        (raw_all g set objects s stage value typed.value_typed small_value Flow Post go (paid piece.owed ++ (arrived.before ++ last)) 0 0 from le t related (record { by = λ v u gives comes m z. on_value v u gives comes m z }) n w)
      where
        on_value : (v : Value) (u : CState) → Gives g.frame.core g.outcome s value v → Comes g objects s from piece (type_of value) t v u → (m : ℕ) (z : World)
            → Follows g.frame.skip Post (0 + spare piece) 0 m (ticks (owing piece.owed) (bind (eval g.frame.core g.outcome target) (λ r. store g.frame.core r v)) m z s) (λ j. running g (paid piece.owed ++ (arrived.before ++ last)) j z u)
        on_value v u gives comes m z =
            padded g s Post (bind (eval g.frame.core g.outcome target) (λ r. store g.frame.core r v)) (arrived.before ++ last) 0 0 (spare piece) u z piece.owed
            (λ i. place_all g set objects s stage target typed.target_typed small_target refers Flow Post (λ r. store g.frame.core r v) last 0 0 piece.next (omega (arith, le, comes.grows)) u (related_on g set objects s from le t u comes.kept related)
            (record { by = λ k path z2 leads arrives j w2. on_target v u gives comes k path z2 leads arrives j w2 }) i z)
            m

pub store_follows : (g : Setting) → (set : Set g) → (objects : Map) (s : State) → (stage : Stage g s) → (target value : ExprCore) → (typed : IsStore g target value) → Numbered (expr_checks target) → Numbered (expr_checks value)
    → (from : ℕ) → g.first ≤ from → (t : CState) → Related g objects s t → CountersApart g objects s t → (n : ℕ) (w : World)
    → Follows g.frame.skip (StoreDone g objects s target value from t) 0 0 n (bind (eval g.frame.core g.outcome value) (λ v. bind (eval g.frame.core g.outcome target) (λ r. store g.frame.core r v)) n w s)
    (λ j. running g (store_statements g target value from) j w t)
store_follows g set objects s stage target value typed small_target small_value from le t related apart n w = store_follows_by g set objects s stage target value typed from le t related apart small_target small_value n w
