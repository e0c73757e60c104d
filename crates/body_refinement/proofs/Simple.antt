-- The statements without blocks whose own laws stand: a `let`, a store, an `assert`.
use Rattle.std.proofs.Common.{Contains, ◌≡◌, ℕ, zero, suc, ◌<◌, ◌≤◌, ℤ, List, [], ◌∷◌, ◌++◌, length, Option, Some, refl, sym, ◌∙◌, ap, subst, arith}
use Rattle.std.specs.Prelude.{slice_get}
use Rattle.std.proofs.lemmas.Option.{slice_get_within}
use Rattle.step_semantics.specs.Control.{Control, Falls, Broke, Returned}
use Rattle.step_semantics.specs.Follows.{Follows}
use Rattle.step_semantics.proofs.Following.{weaker}
use Rattle.area_types.specs.Syntax.{ValueType}
use Rattle.core_tree.specs.Checks.{expr_checks}
use Rattle.core_tree.specs.Environments.{Point}
use Rattle.core_tree.specs.declared.Check.{Check}
use Rattle.core_tree.specs.Syntax.{ExprCore, Let, Store, Assert, type_of}
use Rattle.core_meaning.specs.Conditions.{ensured}
use Rattle.core_meaning.specs.State as source_state
use Rattle.core_meaning.specs.State.{State}
use Rattle.core_meaning.specs.Statements.{Flow, exec}
use Rattle.core_meaning.specs.Values as source
use Rattle.c_ast.specs.Names.{named}
use Rattle.c_ast.specs.Syntax.{Const}
use Rattle.c_meaning.specs.State.{CState}
use Rattle.c_meaning.specs.Values.{CValue}
use Rattle.area_objects.specs.Both.{Map}
use Rattle.region_soundness.specs.Fitting.{Entry}
use Rattle.region_soundness.specs.Laws.{PlaceIn, calls_before}
use Rattle.region_soundness.specs.Scoped.{Activation}
use Rattle.lower_types.specs.Names.{local_name}
use Rattle.lower_values.specs.Expressions.{value_of}
use Rattle.lower_values.specs.Frames.{name_of, type_in}
use Rattle.lower_values.specs.Pieces.{Piece}
use Rattle.lower_statements.specs.Statements.{local_type, stmt_body}
use Rattle.value_refinement.specs.Laws.{running}
use Rattle.value_refinement.specs.Lets.{IsNewLocal, LetDone, let_statements}
use Rattle.value_refinement.specs.Related.{Related}
use Rattle.value_refinement.proofs.Expressions.{raw_all}
use Rattle.value_refinement.proofs.Given.{first_checks, last_checks}
use Rattle.value_refinement.proofs.Lets.{let_follows}
use Rattle.statement_refinement.specs.Apart.{IsApart, CountersApart}
use Rattle.statement_refinement.specs.Moves.{Moved}
use Rattle.statement_refinement.specs.Stores.{StoreDone}
use Rattle.statement_refinement.specs.Tests.{AssertDone}
use Rattle.statement_refinement.proofs.Movements.{lets_move, stores_move}
use Rattle.statement_refinement.proofs.Moves.{states_move_on}
use Rattle.statement_refinement.proofs.Stores.{store_follows}
use Rattle.statement_refinement.proofs.Tests.{assert_follows}
use Rattle.body_refinement.specs.Bodies.{Lowered, frame_in, home_in, program_in, within}
use Rattle.body_refinement.specs.Statements.{CameWith, StmtDone, Before, StmtFollows}
use Rattle.body_refinement.proofs.Blocks.{done_of, before_kept, since_kept}
use Rattle.body_refinement.proofs.Coming.{set_in, stage_in, name_before, scope_before, moved_less, stayed}
use Rattle.body_refinement.proofs.Places.{local_named, params_before}

-- ---- a `let`

module _ (d : Lowered) (at : Point) (place : PlaceIn d.proc at) (objects : Map) (s : State) (t : CState) (entry : Entry) (waiting : List Activation) (before : Before d at entry waiting objects s t) (x : ℕ) (is_next : x ≡ at.next) where
  -- numbers in scope are of no area's objects, the new one's too
  counters_named : (later : State) (u : CState) (old : (y : ℕ) (ty : ValueType) (n : ℤ) → Contains at.scope y → slice_get d.proc.locals y ≡ Some ty → source_state.value_of y later ≡ Some (source.Num n) → IsApart objects (named u.frames.own (name_of (frame_in d) y)))
      → IsApart objects (named u.frames.own (name_of (frame_in d) x)) → CountersApart (within d (x ∷ at.scope)) objects later u
  counters_named later u old new y ty n (zero, l, e) type has = let is : x ≡ y = cc in subst (λ z. IsApart objects (named u.frames.own (name_of (frame_in d) z))) is new
  counters_named later u old new y ty n (suc k, l, e) type has = old y ty n (k, omega (arith, l), e) type has

-- the type of a local is that of its value
typed_as : (locals : List ValueType) (x : ℕ) (ty : ValueType) → slice_get locals x ≡ Some ty → local_type locals x ≡ ty
typed_as [] x ty e = let no : ⊥ = cc in absurd no
typed_as (a ∷ locals) zero ty e = cc
typed_as (a ∷ locals) (suc x) ty e = typed_as locals x ty e

pub lets_follow_in : (d : Lowered) (at : Point) (x : ℕ) (e : ExprCore) → StmtFollows d at (Let x e)
lets_follow_in d at x e place typed kind small entry waiting objects s t before from low n w =
    let g = within d at.scope in
    let stage = stage_in d at.scope entry waiting s before.scoped in
    let new_named = local_named d x (let p : length d.proc.params ≤ at.next = params_before d.proc at place in omega (arith, p, typed.name.number_is)) in
    let new : IsNewLocal g x (type_of e) =
    record {
      type = typed.name.type;
      holds_value = kind;
      named = new_named;
      below = slice_get_within d.proc.locals x (type_of e) typed.name.type;
      before = λ y other here type. name_before d y x (let q : y < at.next = place.before y here in omega (arith, q, typed.name.number_is));
      in_body = refl;
    } in
    let p : Piece = value_of (frame_in d) e from in
    subst (λ ty. Follows d.skip (StmtDone d entry at (Let x e) objects s t) 0 0 n (exec d.core (calls_before d.core d.number) (ensured d.core d.proc) (Let x e) n w s) (λ j. running g (p.before ++ Const (local_name x) (type_in (frame_in d) ty) p.value ∷ []) j w t))
    (sym (typed_as d.proc.locals x (type_of e) typed.name.type))
    (weaker d.skip (LetDone g objects s x e t) (StmtDone d entry at (Let x e) objects s t) 0 0 n (exec d.core (calls_before d.core d.number) (ensured d.core d.proc) (Let x e) n w s) (λ j. running g (let_statements g x e from) j w t) done
    (let_follows g (set_in d at.scope) objects s stage e typed.typed x new (raw_all g (set_in d at.scope) objects s stage e typed.typed small) from low t before.related n w))
  where
    fell : (later : State) (u : CState) → LetDone (within d at.scope) objects s x e t Falls later Falls u → CameWith d at.next objects s t (x ∷ at.scope) later u
    fell later u h =
        let g = within d at.scope in
        let moved : Moved (program_in d) at.next objects s t objects later u =
        moved_less (program_in d) at.next x (omega (arith, typed.name.number_is)) objects s t objects later u (lets_move g objects s x e t later u h) in
        let old : Related g objects later u × CountersApart g objects later u = states_move_on g refl at.next (scope_before d at place) objects s t before.related before.apart objects later u moved h.4.both in
        let new_named = local_named d x (let p : length d.proc.params ≤ at.next = params_before d.proc at place in omega (arith, p, typed.name.number_is)) in
        record {
          more = objects;
          moved = moved;
          related = h.4;
          apart = counters_named d at place objects s t entry waiting before x typed.name.number_is later u old.1
              (subst (λ slot. IsApart objects slot) (sym (ap (named u.frames.own) new_named ∙ h.5.is)) tt);
        }

    done : (flow : Flow) (later : State) (control : Control (Option CValue)) (u : CState) → LetDone (within d at.scope) objects s x e t flow later control u → StmtDone d entry at (Let x e) objects s t flow later control u
    done Falls later Falls u h = fell later u h
    done Falls later Broke u h = absurd h
    done Falls later (Returned v) u h = absurd h
    done Broke later control u h = absurd h
    done (Returned v) later control u h = absurd h

-- ---- a store

pub stores_follow_in : (d : Lowered) (at : Point) (target value : ExprCore) → StmtFollows d at (Store target value)
stores_follow_in d at target value place typed kind small entry waiting objects s t before from low n w =
    let g = within d at.scope in
    weaker d.skip (StoreDone g objects s target value from t) (StmtDone d entry at (Store target value) objects s t) 0 0 n (exec d.core (calls_before d.core d.number) (ensured d.core d.proc) (Store target value) n w s)
    (λ j. running g (stmt_body (frame_in d) (home_in d) (Store target value) from).stmts j w t) done
    (store_follows g (set_in d at.scope) objects s (stage_in d at.scope entry waiting s before.scoped) target value
    (record { region = typed.region; value_typed = typed.typed; target_typed = typed.target_is.typed; target_is = typed.target_is.type; in_body = refl }) (first_checks (expr_checks target) (expr_checks value) small) (last_checks (expr_checks target) (expr_checks value) small)
    from low t before.related before.apart n w)
  where
    done : (flow : Flow) (later : State) (control : Control (Option CValue)) (u : CState) → StoreDone (within d at.scope) objects s target value from t flow later control u → StmtDone d entry at (Store target value) objects s t flow later control u
    done Falls later Falls u h =
        record { more = objects; moved = stores_move (within d at.scope) at.next from (omega (arith, before.room, low)) objects s target value t later u h; related = h.related; apart = h.apart }
    done Falls later Broke u h = absurd h
    done Falls later (Returned v) u h = absurd h
    done Broke later control u h = absurd h
    done (Returned v) later control u h = absurd h

-- ---- an `assert`

pub asserts_follow_in : (d : Lowered) (at : Point) (e : ExprCore) (check : Check) → StmtFollows d at (Assert e check)
asserts_follow_in d at e check place typed kind small entry waiting objects s t before from low n w =
    let g = within d at.scope in
    weaker d.skip (AssertDone g s from t) (StmtDone d entry at (Assert e check) objects s t) 0 0 n (exec d.core (calls_before d.core d.number) (ensured d.core d.proc) (Assert e check) n w s)
    (λ j. running g (stmt_body (frame_in d) (home_in d) (Assert e check) from).stmts j w t) done
    (assert_follows g (set_in d at.scope) objects s (stage_in d at.scope entry waiting s before.scoped) refl e typed.0 check small (calls_before d.core d.number) (ensured d.core d.proc) from low t before.related n w)
  where
    fell : (later : State) (u : CState) → AssertDone (within d at.scope) s from t Falls later Falls u → StmtDone d entry at (Assert e check) objects s t Falls later Falls u
    fell later u h =
        subst (λ z. StmtDone d entry at (Assert e check) objects s t Falls z Falls u) (sym h.0)
        (done_of d at place entry waiting objects s t before (Assert e check) refl Falls s Falls u
        (since_kept d at place entry waiting objects s t before from low u h.1 Falls s Falls u (stayed d at.next objects s u (before_kept d at place entry waiting objects s t before from low u h.1).related.both)))

    done : (flow : Flow) (later : State) (control : Control (Option CValue)) (u : CState) → AssertDone (within d at.scope) s from t flow later control u → StmtDone d entry at (Assert e check) objects s t flow later control u
    done Falls later Falls u h = fell later u h
    done Falls later Broke u h = absurd h
    done Falls later (Returned v) u h = absurd h
    done Broke later control u h = absurd h
    done (Returned v) later control u h = absurd h
