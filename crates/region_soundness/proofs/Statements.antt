-- A well typed statement has a meaning in each state that stands, and leaves one that stands.
use Rattle.std.proofs.Common.{◌≡◌, ℕ, zero, suc, ℤ, ◌+◌, ◌<◌, ◌≤◌, Bool, true, false, not, ◌||◌, ◌&&◌, List, [], ◌∷◌, ◌++◌, length, Option, Some, None, IsTrue, refl, sym, ◌∙◌, ap, subst, arith, le-leb, lt-ltb}
use Rattle.std.specs.Prelude.{pos, pred, unsigned_abs, slice_get, int_le, int_lt}
use Rattle.std.specs.Option.{option_map, option_and_then}
use Rattle.step_semantics.specs.Steps.{World, Part, give, bind, tick, ticks, by_state, change, block}
use Rattle.step_semantics.specs.Control.{Falls, Broke, Returned, also, forever, counted}
use Rattle.step_semantics.specs.Safe.{HasMeaning, Safe}
use Rattle.step_semantics.proofs.Keeping.{keeps_weaker, keeps_after, keeps_tick, keeps_ticks, keeps_left, keeps_also, keeps_forever}
use Rattle.step_semantics.proofs.CountedLaws.{keeps_counted}
use Rattle.type_trees.specs.Trees.{Leaf, nodes}
use Rattle.type_trees.specs.Values.{Cell, at as part_at}
use Rattle.index_types.specs.Indices.{is_index}
use Rattle.alloc_effects.specs.declared.allowed.Allowed.{Allowed}
use Rattle.alloc_effects.specs.declared.allowed.Narrowing.{Narrowing}
use Rattle.alloc_effects.specs.declared.allowed.Narrowing.TheVariants as without
use Rattle.alloc_effects.specs.Permissions.{narrowed}
use Rattle.area_types.specs.Syntax as types
use Rattle.area_types.specs.Syntax.{ValueType, Truth}
use Rattle.area_types.specs.Tables.{Table, is_length, written_out}
use Rattle.area_types.specs.declared.region.Region.TheVariants.{Own}
use Rattle.area_types.proofs.Truths.{both, is_at_most}
use Rattle.region_check.specs.Calls.{reference_of, may_stand_for}
use Rattle.region_check.specs.Substitutions.{applied, escapes}
use Rattle.core_tree.specs.declared.Check.{Check}
use Rattle.core_tree.specs.Syntax.{ModuleCore, ExprCore, InitCore, CallCore, StmtCore, StmtsCore, NoStmts, MoreStmts, type_of}
use Rattle.core_tree.specs.Syntax.{Let, LetCall, Alloc, Store, Copy, Call, If, IfElse, Map, Upto, Downto, Forever, Break, Return, Assert, NoAlloc, NoBreak, NoReturn}
use Rattle.core_tree.specs.Types.{is_core_area, is_value, Fits}
use Rattle.core_tree.specs.Falling.{stmt_breaks, stmts_break, stmt_falls, stmts_fall}
use Rattle.core_tree.specs.Environments.{Env, Point, locals_in, all_locals, after as point_after, named_by, skipping, narrowing, looping, within_loop}
use Rattle.core_tree.specs.TypedExpressions.{ExprTyped, HasType}
use Rattle.core_tree.specs.TypedCalls.{CallTyped}
use Rattle.area_types.specs.Trees.{Written}
use Rattle.area_types.proofs.Written.{get_last}
use Rattle.core_tree.specs.TypedStatements.{StmtTyped, StmtsTyped, IsNext, LetTyped, LetCallTyped, AllocTyped, MayInit, StoreTyped, CopyTyped, LoopTyped, ReturnTyped}
use Rattle.core_tree.specs.Valid.{ValidCore}
use Rattle.core_meaning.specs.Values.{Value, Num, Ref}
use Rattle.core_meaning.specs.Areas.{Held, Area, Live, Areas, type_at, held_at}
use Rattle.core_meaning.specs.State.{State, with_name, with_area, holding, leave}
use Rattle.core_meaning.specs.Checks.{on_number, on_reference, on_some}
use Rattle.core_meaning.specs.Expressions.{eval}
use Rattle.core_meaning.specs.Initializers.{first_value}
use Rattle.core_meaning.specs.Conditions.{Ensured, tested}
use Rattle.core_meaning.specs.Calls.{Calls, call}
use Rattle.core_meaning.specs.Statements.{Flow, naming, store, copy, turn, returning, exec, exec_all}
use Rattle.region_soundness.specs.Fitting.{Entry, Allows, Refers, ValueFits}
use Rattle.region_soundness.specs.Scoped.{HeldFits, AreasFit}
use Rattle.region_soundness.proofs.Known.{Knows}
use Rattle.region_soundness.proofs.Forms.{index_within, Gave, gave_after, some_safe, number_safe, choice_safe}
use Rattle.region_soundness.proofs.Conditions.{Same, tested_safe}
use Rattle.region_soundness.proofs.Calls.{Caller, Called, CallsSafe, ImportsSafe, value_safe, call_safe}
use Rattle.region_soundness.proofs.Lasting.{there, leads_to, Lasting, lasting_refl, put_lasts, more_lasts, put_areas_fit, more_areas_fit}
use Rattle.region_soundness.proofs.Trees.{part_held, leaf_number}
use Rattle.region_soundness.proofs.Standing.{NamesKept, left_names, Entered, Stands, Lasts, lasts_refl, lasts_trans, ResultFits, stands_named, stands_on, stands_further, knows_parameters, Ended, Came, Turned, came_since, turned_since, came_weaker, left_came, left_turned}

-- where a row of statements ends
abbrev pub after_all : StmtsCore → Point → Point
after_all NoStmts at = at
after_all (MoreStmts s ss) at = after_all ss (point_after s at)

-- ---- small facts

index_from_zero : (n : ℕ) → IsTrue (is_length n) → 0 < n
index_from_zero n h = omega (arith, is_at_most 1 n (both _ _ h).0)

index_size : (n : ℕ) (v : ℤ) → IsTrue (is_index n v) → unsigned_abs v < n
index_size n v h = index_within n v h

value_plain : (table : Table) (t : ValueType) (v : ℤ) → IsTrue (is_value table t v) → reference_of t ≡ None
value_plain table types.Truth v h = refl
value_plain table (types.Int kind) v h = refl
value_plain table (types.Ix n) v h = refl
value_plain table (types.Bits k) v h = refl
value_plain table (types.Ref c r a) v h = let no : ⊥ = cc in absurd no

stands_through : (a b c : Bool) → IsTrue (may_stand_for a b) → IsTrue (may_stand_for b c) → IsTrue (may_stand_for a c)
stands_through true true true h g = refl
stands_through true true false h g = let no : ⊥ = cc in absurd no
stands_through true false c h g = let no : ⊥ = cc in absurd no
stands_through false b c h g = refl

-- what fits a type fits one that it may stand for
pub fits_wanted : (core : ModuleCore) (entry : Entry) (areas : Areas) (wanted given : ValueType) (v : Value) → Fits wanted given → ValueFits core entry areas given v → ValueFits core entry areas wanted v
fits_wanted core entry areas types.Truth given v f h = subst (λ t. ValueFits core entry areas t v) f h
fits_wanted core entry areas (types.Int kind) given v f h = subst (λ t. ValueFits core entry areas t v) f h
fits_wanted core entry areas (types.Ix n) given v f h = subst (λ t. ValueFits core entry areas t v) f h
fits_wanted core entry areas (types.Bits k) given v f h = subst (λ t. ValueFits core entry areas t v) f h
fits_wanted core entry areas (types.Ref c r a) types.Truth v f h = absurd f
fits_wanted core entry areas (types.Ref c r a) (types.Int kind) v f h = absurd f
fits_wanted core entry areas (types.Ref c r a) (types.Ix n) v f h = absurd f
fits_wanted core entry areas (types.Ref c r a) (types.Bits k) v f h = absurd f
fits_wanted core entry areas (types.Ref c r a) (types.Ref d s b) (Num v) f h = let no : ⊥ = cc in absurd no
fits_wanted core entry areas (types.Ref c r a) (types.Ref d s b) (Ref k path) f h =
    record {
      area = h.area;
      live = h.live;
      leads = h.leads ∙ ap (λ x. Some (written_out core.structs x)) f.1;
      access = stands_through h.area.constant d c h.access f.2;
      allowed = subst (λ x. Allows (length core.areas) entry x k) f.0 h.allowed;
    }

narrowed_break : (by : Narrowing) (a : Allowed) → IsTrue (narrowed a by).may_break → IsTrue a.may_break
narrowed_break without.NoAlloc a h = h
narrowed_break without.NoBreak a h = let no : ⊥ = cc in absurd no
narrowed_break without.NoReturn a h = h

or_left_true : (a b : Bool) → IsTrue a → IsTrue (a || b)
or_left_true true b h = refl
or_left_true false b h = let no : ⊥ = cc in absurd no

or_right_true : (a b : Bool) → IsTrue b → IsTrue (a || b)
or_right_true true b h = refl
or_right_true false b h = h

and_true : (a b : Bool) → IsTrue a → IsTrue b → IsTrue (a && b)
and_true true b h g = g
and_true false b h g = let no : ⊥ = cc in absurd no

pub index_below : (n i : ℕ) → i < n → IsTrue (is_index n (pos i))
index_below n i h = and_true (int_le (pos 0) (pos i)) (int_lt (pos i) (pos n)) (le-leb 0 i (omega arith)) (lt-ltb i n h)

pred_below : (i n : ℕ) → i < n → pred i < n
pred_below zero n h = h
pred_below (suc i) n h = omega (arith, h)

last_below : (n : ℕ) → 0 < n → 0 + pred n < n
last_below zero h = h
last_below (suc n) h = omega arith

-- ---- results

none_fits : (env : Env) (at : Point) (core : ModuleCore) (entry : Entry) (areas : Areas) (r : Option ValueType) → ReturnTyped env at r None → ResultFits core entry areas r None
none_fits env at core entry areas None h = tt
none_fits env at core entry areas (Some t) h = absurd h

value_typed : (env : Env) (at : Point) (e : ExprCore) (r : Option ValueType) → ReturnTyped env at r (Some e) → ExprTyped env at.scope e
value_typed env at e None h = absurd h
value_typed env at e (Some t) h = h.typed

value_fits : (env : Env) (at : Point) (e : ExprCore) (core : ModuleCore) (entry : Entry) (areas : Areas) (v : Value) (r : Option ValueType) → ReturnTyped env at r (Some e) → ValueFits core entry areas (type_of e) v → ResultFits core entry areas r (Some v)
value_fits env at e core entry areas v None h fits = absurd h
value_fits env at e core entry areas v (Some t) h fits = fits_wanted core entry areas t (type_of e) v h.fits fits

-- ---- statements

-- first values of local areas have a meaning
abbrev pub InitsSafe : Env → Entry → Type 0
InitsSafe env entry = (at : Point) (s : State) → Knows env at.scope entry s → (area : types.Area) → IsTrue (is_core_area env.core.structs area) → (init : Option InitCore) → MayInit env at area init → (n : ℕ) (w : World)
    → Safe (λ held u. (u ≡ s) × HeldFits env.core.structs (written_out env.core.structs area) held) (first_value env.core init (written_out env.core.structs area) n w s)

-- what is ensured is tested without harm
abbrev pub EnsuredSafe : Env → (base : List ℕ) → Entry → Ensured → Type 0
EnsuredSafe env base entry ensured = (u : State) (result : Option Value) → Knows env base entry u → ResultFits env.core entry u.areas env.result result → (n : ℕ) (w : World) → Safe (Same u) (ensured result n w u)

module _ (env : Env) (valid : ValidCore env.core) (none : env.outcome ≡ None) (calls : Calls) (calls_safe : CallsSafe env.core env.earlier calls) (imports_safe : ImportsSafe env.core)
    (base : List ℕ) (entry : Entry) (entered : Entered env.core entry) (kept : (t : ValueType) → env.result ≡ Some t → IsTrue (not (escapes t)))
    (ensured : Ensured) (ensured_safe : EnsuredSafe env base entry ensured) (inits_safe : InitsSafe env entry) where
  abbrev Here : Point → State → Type 0
  Here at s = Stands env base at.scope at.next entry s

  -- what is to be shown of a statement, and of a row of them
  abbrev After : Point → StmtCore → State → Flow → State → Type 0
  After at c s flow u = Came env base entry s (point_after c at).scope (point_after c at).next (stmt_falls c) (stmt_breaks c) at.allowed.may_break flow u × NamesKept s flow u

  abbrev AfterAll : Point → StmtsCore → State → Flow → State → Type 0
  AfterAll at cs s = Came env base entry s (after_all cs at).scope (after_all cs at).next (stmts_fall cs) (stmts_break cs) at.allowed.may_break

  abbrev Runs : Point → StmtsCore → Type 0
  Runs at cs = (s : State) → Here at s → (n : ℕ) (w : World) → Safe (AfterAll at cs s) (exec_all env.core calls ensured cs n w s)

  -- ---- names

  next_named : (at : Point) (s : State) (number : ℕ) (ty : ValueType) (v : Value) → Here at s → IsNext env at number ty → ValueFits env.core entry s.areas ty v → Stands env base (number ∷ at.scope) (at.next + 1) entry (with_name number v s)
  next_named at s number ty v st is fits =
      let ty_is : slice_get env.locals at.next ≡ Some ty = ap (slice_get env.locals) (sym is.number_is) ∙ is.type in
      subst (λ m. Stands env base (m ∷ at.scope) (at.next + 1) entry (with_name m v s)) (sym is.number_is)
      (stands_further env base entry (at.next ∷ at.scope) (suc at.next) (at.next + 1) (with_name at.next v s) (omega arith) (stands_named env base entry at.scope at.next s ty v st ty_is fits))

  named_lasts : (number : ℕ) (v : Value) (s : State) → Lasts s (with_name number v s)
  named_lasts number v s = record { areas = lasting_refl s.areas; first = refl; callers = refl }

  let_safe : (at : Point) (number : ℕ) (e : ExprCore) → LetTyped env at number e → (s : State) → Here at s → (n : ℕ) (w : World) → Safe (After at (Let number e) s) (exec env.core calls ensured (Let number e) n w s)
  let_safe at number e t s st n w =
      gave_after env.core entry s (After at (Let number e) s) (type_of e) (eval env.core None e n w s) (λ v. tick (naming number v)) (value_safe env valid entry s at.scope st.knows none e t.typed n w)
      (λ v fits m z. keeps_tick HasMeaning (After at (Let number e) s) (naming number v) m z s
      (λ j. (record { reached = refl; lasts = named_lasts number v s; stands = next_named at s number (type_of e) v st t.name fits }, tt)))

  called_named : (at : Point) (number : ℕ) (c : CallCore) (ty : ValueType) (s : State) → Here at s → IsNext env at number ty → (result : Option Value) (u : State) → Called env.core entry s (Some ty) result u
      → (n : ℕ) (w : World) → Safe (After at (LetCall number c) s) (on_some env.core result (naming number) n w u)
  called_named at number c ty s st is None u h n w = absurd h.fits
  called_named at number c ty s st is (Some v) u h n w =
      (record { reached = refl; lasts = lasts_trans s u (with_name number v u) h.lasts (named_lasts number v u); stands = next_named at u number ty v (stands_on env base entry at.scope at.next s u st h.lasts.areas h.areas h.names) is h.fits }, tt)

  let_call_safe : (at : Point) (number : ℕ) (c : CallCore) → LetCallTyped env at number c → (s : State) → Here at s → Caller env.core s → (n : ℕ) (w : World) → Safe (After at (LetCall number c) s) (exec env.core calls ensured (LetCall number c) n w s)
  let_call_safe at number c t s st caller n w =
      let wanted : option_map (applied t.value.typed.regions) t.value.typed.header.result ≡ Some t.ty = ap (option_map (applied t.value.typed.regions)) t.value.result ∙ ap Some (sym t.value.type) in
      keeps_after HasMeaning (Called env.core entry s (option_map (applied t.value.typed.regions) t.value.typed.header.result)) (After at (LetCall number c) s) (call env.core calls c n w s) (λ result. on_some env.core result (naming number))
      (call_safe env valid calls calls_safe imports_safe entry s caller at.scope st.knows none c t.value.typed n w)
      (λ result u h m z. called_named at number c t.ty s st t.name result u (subst (λ x. Called env.core entry s x result u) wanted h) m z)

  -- nothing has a new name
  passed_on : (at : Point) (c : StmtCore) → named_by c ≡ [] → IsTrue (stmt_falls c) → (s u : State) → Here at s → Lasts s u → AreasFit env.core.structs u.areas → u.frames.own.names ≡ s.frames.own.names → After at c s Falls u
  passed_on at c no_name falls s u st l fit names = (
    record {
      reached = falls;
      lasts = l;
      stands = subst (λ xs. Stands env base (xs ++ at.scope) (at.next + locals_in c) entry u) (sym no_name)
          (stands_further env base entry at.scope at.next (at.next + locals_in c) u (omega arith) (stands_on env base entry at.scope at.next s u st l.areas fit names));
    },
    tt,
  )

  call_stmt_safe : (at : Point) (c : CallCore) → CallTyped env at.scope c → (s : State) → Here at s → Caller env.core s → (n : ℕ) (w : World) → Safe (After at (Call c) s) (exec env.core calls ensured (Call c) n w s)
  call_stmt_safe at c t s st caller n w =
      keeps_after HasMeaning (Called env.core entry s (option_map (applied t.regions) t.header.result)) (After at (Call c) s) (call env.core calls c n w s) (λ result. give Falls)
      (call_safe env valid calls calls_safe imports_safe entry s caller at.scope st.knows none c t n w)
      (λ result u h m z. passed_on at (Call c) refl refl s u st h.lasts h.areas h.names)

  -- ---- areas

  alloc_safe : (at : Point) (number : ℕ) (area : types.Area) (init : Option InitCore) → AllocTyped env at number area init → (s : State) → Here at s → (n : ℕ) (w : World)
      → Safe (After at (Alloc number area init) s) (exec env.core calls ensured (Alloc number area init) n w s)
  alloc_safe at number area init t s st n w =
      let ty = written_out env.core.structs area in
      keeps_after HasMeaning (λ held u. (u ≡ s) × HeldFits env.core.structs ty held) (After at (Alloc number area init) s) (first_value env.core init ty n w s) (λ held. tick (change Falls (with_area number ty held)))
      (inits_safe at s st.knows area t.area_is init t.first n w)
      (λ held u h m z. subst (λ v. Safe (After at (Alloc number area init) s) (tick (change Falls (with_area number ty held)) m z v)) (sym h.0)
      (keeps_tick HasMeaning (After at (Alloc number area init) s) (change Falls (with_area number ty held)) m z s (λ j. made held h.1)))
    where
      made : (held : Held) → HeldFits env.core.structs (written_out env.core.structs area) held → After at (Alloc number area init) s Falls (with_area number (written_out env.core.structs area) held s)
      made held fits =
          let a : Area = record { ty = written_out env.core.structs area; constant = false; held = held } in
          let u : State = record s { areas = s.areas ++ Live a ∷ [] } in
          let lasting : Lasting s.areas u.areas = more_lasts s.areas (Live a ∷ []) in
          let stands = stands_on env base entry at.scope at.next s u st lasting (more_areas_fit env.core.structs s.areas a st.knows.areas fits) refl in
          let r : Refers env.core entry u.areas (record { constant = false; region = Own; area = area }) (length s.areas) [] =
          record { area = a; live = get_last s.areas (Live a) (length s.areas) refl; leads = refl; access = refl; allowed = st.room } in
          (record { reached = refl; lasts = record { areas = lasting; first = refl; callers = refl }; stands = next_named at u number (types.Ref false Own area) (Ref (length s.areas) []) stands t.name r }, tt)

  written_areas : (at : Point) (c : StmtCore) → named_by c ≡ [] → IsTrue (stmt_falls c) → (s : State) → Here at s → (k : ℕ) (path : List ℕ) (b : Written) (held : Held) → type_at s.areas k path ≡ Some b → HeldFits env.core.structs b held
      → After at c s Falls (holding k path held s)
  written_areas at c no_name falls s st k path b held leads fits =
      passed_on at c no_name falls s (holding k path held s) st (record { areas = put_lasts k path held s.areas; first = refl; callers = refl }) (put_areas_fit env.core.structs s.areas k path held b leads fits st.knows.areas) refl

  store_safe : (at : Point) (target value : ExprCore) → StoreTyped env at target value → (s : State) → Here at s → (n : ℕ) (w : World) → Safe (After at (Store target value) s) (exec env.core calls ensured (Store target value) n w s)
  store_safe at target value t s st n w =
      let post = After at (Store target value) s in
      gave_after env.core entry s post (type_of value) (eval env.core None value n w s) (λ v. bind (eval env.core None target) (λ r. store env.core r v)) (value_safe env valid entry s at.scope st.knows none value t.typed n w)
      (λ v fits m z. gave_after env.core entry s post (type_of target) (eval env.core None target m z s) (λ r. store env.core r v) (value_safe env valid entry s at.scope st.knows none target t.target_is.typed m z)
      (λ r fits' j q. stored v fits r (subst (λ ty. ValueFits env.core entry s.areas ty r) t.target_is.type fits') j q))
    where
      stored : (v : Value) → ValueFits env.core entry s.areas (type_of value) v → (r : Value) → ValueFits env.core entry s.areas (types.Ref false t.region (types.Stored (type_of value))) r
          → (n : ℕ) (w : World) → Safe (After at (Store target value) s) (store env.core r v n w s)
      stored v fits (Num x) h n w = let no : ⊥ = cc in absurd no
      stored v fits (Ref k path) h n w =
          let post = After at (Store target value) s in
          let whole = st.knows.areas k h.area (there s.areas k h.area h.live) in
          let p = part_held env.core.structs h.area.ty path (Leaf (type_of value)) h.area.held h.leads whole in
          let q = leaf_number env.core.structs (type_of value) p.0 p.2 in
          let leads = leads_to env.core entry s.areas (record { constant = false; region = t.region; area = types.Stored (type_of value) }) k path h in
          let write : ℤ → Part State Flow = λ x. on_reference env.core (Ref k path) (λ k path. by_state (λ s. on_some env.core (type_at s.areas k path) (λ ty. tick (change Falls (holding k path (Cell x)))))) in
          number_safe env.core entry s post (type_of value) v write n w (value_plain env.core.structs (type_of value) q.0 q.2) fits
          (λ x is. some_safe env.core entry s post (type_at s.areas k path) (Leaf (type_of value)) (λ ty. tick (change Falls (holding k path (Cell x)))) n w leads
          (keeps_tick HasMeaning post (change Falls (holding k path (Cell x))) n w s (λ j. written_areas at (Store target value) refl refl s st k path (Leaf (type_of value)) (Cell x) leads is)))

  copy_safe : (at : Point) (target source : ExprCore) → CopyTyped env at target source → (s : State) → Here at s → (n : ℕ) (w : World) → Safe (After at (Copy target source) s) (exec env.core calls ensured (Copy target source) n w s)
  copy_safe at target source t s st n w =
      let post = After at (Copy target source) s in
      gave_after env.core entry s post (type_of target) (eval env.core None target n w s) (λ r. bind (eval env.core None source) (λ from. copy env.core r from)) (value_safe env valid entry s at.scope st.knows none target t.target_is.typed n w)
      (λ r fits m z. gave_after env.core entry s post (type_of source) (eval env.core None source m z s) (λ from. copy env.core r from) (value_safe env valid entry s at.scope st.knows none source t.source_is.typed m z)
      (λ from fits' j q. moved r (subst (λ ty. ValueFits env.core entry s.areas ty r) t.target_is.type fits) from (subst (λ ty. ValueFits env.core entry s.areas ty from) t.source_is.type fits') j q))
    where
      moved : (r : Value) → ValueFits env.core entry s.areas (types.Ref false t.target_region t.area) r → (from : Value) → ValueFits env.core entry s.areas (types.Ref t.constant t.source_region t.area) from
          → (n : ℕ) (w : World) → Safe (After at (Copy target source) s) (copy env.core r from n w s)
      moved (Num x) h from g n w = let no : ⊥ = cc in absurd no
      moved (Ref k path) h (Num x) g n w = let no : ⊥ = cc in absurd no
      moved (Ref k path) h (Ref j from) g n w =
          let post = After at (Copy target source) s in
          let ty = written_out env.core.structs t.area in
          let whole = st.knows.areas j g.area (there s.areas j g.area g.live) in
          let p = part_held env.core.structs g.area.ty from ty g.area.held g.leads whole in
          let leads = leads_to env.core entry s.areas (record { constant = false; region = t.target_region; area = t.area }) k path h in
          let held_there : held_at s.areas j from ≡ Some p.0 = ap (option_and_then (λ a. part_at a.held from)) (there s.areas j g.area g.live) ∙ p.1 in
          some_safe env.core entry s post (type_at s.areas k path) ty (λ ty. on_some env.core (held_at s.areas j from) (λ held. ticks (nodes ty) (change Falls (holding k path held)))) n w leads
          (some_safe env.core entry s post (held_at s.areas j from) p.0 (λ held. ticks (nodes ty) (change Falls (holding k path held))) n w held_there
          (keeps_ticks HasMeaning post (nodes ty) (change Falls (holding k path p.0)) n w s (λ m. written_areas at (Copy target source) refl refl s st k path ty p.0 leads p.2)))

  -- ---- blocks

  abbrev Left : Point → (next : ℕ) → StmtsCore → State → Flow → State → Type 0
  Left inner next cs s flow u = Came env base entry s inner.scope next (stmts_fall cs) (stmts_break cs) inner.allowed.may_break flow u × NamesKept s flow u

  block_of : (inner : Point) (next : ℕ) (cs : StmtsCore) (s : State) → Here inner s → inner.next ≤ next → Runs inner cs → (n : ℕ) (w : World) → Safe (Left inner next cs s) (block leave (exec_all env.core calls ensured cs) n w s)
  block_of inner next cs s st le h n w =
      keeps_left HasMeaning (AfterAll inner cs s) (Left inner next cs s) leave s (exec_all env.core calls ensured cs n w s)
      (λ flow u c. (left_came env base entry entered kept inner.scope inner.next next le s st (after_all cs inner).scope (after_all cs inner).next (stmts_fall cs) (stmts_break cs) inner.allowed.may_break flow u c, left_names s u flow)) (h s st n w)

  -- such a block as a part of a statement
  block_in : (at : Point) (c : StmtCore) (inner : Point) (cs : StmtsCore) (s : State) → named_by c ≡ [] → inner.scope ≡ at.scope → Here inner s → inner.next ≤ at.next + locals_in c
      → (IsTrue (stmts_fall cs) → IsTrue (stmt_falls c)) → (IsTrue (stmts_break cs) → IsTrue (stmt_breaks c)) → (IsTrue inner.allowed.may_break → IsTrue at.allowed.may_break) → Runs inner cs
      → (n : ℕ) (w : World) → Safe (After at c s) (block leave (exec_all env.core calls ensured cs) n w s)
  block_in at c inner cs s no_name same st le f b m h n w =
      keeps_weaker HasMeaning (Left inner (at.next + locals_in c) cs s) (After at c s) (block leave (exec_all env.core calls ensured cs) n w s)
      (λ flow u x. (
        subst (λ xs. Came env base entry s (xs ++ at.scope) (at.next + locals_in c) (stmt_falls c) (stmt_breaks c) at.allowed.may_break flow u) (sym no_name)
            (subst (λ xs. Came env base entry s xs (at.next + locals_in c) (stmt_falls c) (stmt_breaks c) at.allowed.may_break flow u) same
            (came_weaker env base entry s inner.scope (at.next + locals_in c) (stmts_fall cs) (stmts_break cs) inner.allowed.may_break (stmt_falls c) (stmt_breaks c) at.allowed.may_break flow u f b m x.0)),
        x.1,
      ))
      (block_of inner (at.next + locals_in c) cs s st le h n w)

  -- ---- loops

  -- what is kept from turn to turn: at its start each turn finds what the loop's start found
  abbrev Turns : Point → StmtsCore → State → Flow → State → Type 0
  Turns at cs s flow u = Turned env base entry s at.scope at.next (stmts_break cs) flow u × (u.frames.own.names ≡ s.frames.own.names)

  turn_safe : (at : Point) (number length i : ℕ) (cs : StmtsCore) → LoopTyped env at number length → i < length → (s : State) → Here at s → Runs (within_loop number at) cs
      → (n : ℕ) (w : World) → Safe (Turns at cs s) (turn number (exec_all env.core calls ensured cs) i n w s)
  turn_safe at number length i cs t lt s st h n w =
      let inner = within_loop number at in
      let mid : Flow → State → Type 0 = Came env base entry s (number ∷ at.scope) (at.next + 1) true false false in
      let post : Flow → State → Type 0 = AfterAll inner cs s in
      let body = exec_all env.core calls ensured cs in
      let named : mid Falls (with_name number (Num (pos i)) s) = record { reached = refl; lasts = named_lasts number (Num (pos i)) s; stands = next_named at s number (types.Ix length) (Num (pos i)) st t.name (index_below length i lt) } in
      keeps_left HasMeaning post (Turns at cs s) leave s (also (naming number (Num (pos i))) body n w s)
      (λ flow u c. (left_turned env base entry entered kept at.scope at.next at.next (omega arith) s st (after_all cs inner).scope (after_all cs inner).next (stmts_fall cs) (stmts_break cs) inner.allowed.may_break flow u c, refl))
      (keeps_also HasMeaning mid post (naming number (Num (pos i))) body n w s named
      (λ u p m z. keeps_weaker HasMeaning (AfterAll inner cs u) post (body m z u)
      (λ flow v c. came_since env base entry s u (after_all cs inner).scope (after_all cs inner).next (stmts_fall cs) (stmts_break cs) inner.allowed.may_break flow v p.lasts c)
      (h u (stands_further env base entry (number ∷ at.scope) (at.next + 1) (suc at.next) u (omega arith) p.stands) m z))
      (λ u c. let no : ⊥ = (let r = c.reached in cc) in absurd no)
      (λ v u c. c))

  -- the loops that count
  counted_came : (at : Point) (c : StmtCore) (number length : ℕ) (cs : StmtsCore) → named_by c ≡ [] → IsTrue (stmt_falls c) → LoopTyped env at number length → Runs (within_loop number at) cs
      → (next : ℕ → ℕ) (within : ℕ → ℕ → Type 0) → ((more i : ℕ) → within (suc more) i → within more (next i)) → ((more i : ℕ) → within more i → i < length) → (more i : ℕ) → within more i
      → (s : State) → Here at s → (n : ℕ) (w : World) → Safe (After at c s) (tick (counted more next i (turn number (exec_all env.core calls ensured cs))) n w s)
  counted_came at c number length cs no_name falls t h next within go_on small more i f s st n w =
      let end : (u : State) → Lasts s u → Here at u → After at c s Falls u = λ u l stands. (
        record {
          reached = falls;
          lasts = l;
          stands = subst (λ xs. Stands env base (xs ++ at.scope) (at.next + locals_in c) entry u) (sym no_name) (stands_further env base entry at.scope at.next (at.next + locals_in c) u (omega arith) stands);
        },
        tt,
      ) in
      keeps_tick HasMeaning (After at c s) (counted more next i (turn number (exec_all env.core calls ensured cs))) n w s
      (λ m. keeps_counted HasMeaning (Turns at cs s) (After at c s) (λ u p. end u p.0.lasts p.0.stands) (λ u p. end u p.0.lasts p.0.stands) (λ v u p. p) next (turn number (exec_all env.core calls ensured cs)) within go_on
      (λ more j g u p q z. keeps_weaker HasMeaning (Turns at cs u) (Turns at cs s) (turn number (exec_all env.core calls ensured cs) j q z u) (λ flow v x. (turned_since env base entry s u at.scope at.next (stmts_break cs) flow v p.0.lasts x.0, x.1 ∙ p.1))
      (turn_safe at number length j cs t (small more j g) u p.0.stands h q z))
      more i f m w s (record { reached = refl; lasts = lasts_refl s; stands = st }, refl))

  -- up from 0, where so many turns follow
  up_came : (at : Point) (c : StmtCore) (number length : ℕ) (cs : StmtsCore) → named_by c ≡ [] → IsTrue (stmt_falls c) → LoopTyped env at number length → Runs (within_loop number at) cs → (more : ℕ) → 0 + more < length
      → (s : State) → Here at s → (n : ℕ) (w : World) → Safe (After at c s) (tick (counted more suc 0 (turn number (exec_all env.core calls ensured cs))) n w s)
  up_came at c number length cs no_name falls t h more lt s st n w =
      counted_came at c number length cs no_name falls t h suc (λ more i. i + more < length) (λ more i g. omega (arith, g)) (λ more i g. omega (arith, g)) more 0 lt s st n w

  down_came : (at : Point) (c : StmtCore) (number length : ℕ) (cs : StmtsCore) → named_by c ≡ [] → IsTrue (stmt_falls c) → LoopTyped env at number length → Runs (within_loop number at) cs → (first : ℕ) → first < length
      → (s : State) → Here at s → (n : ℕ) (w : World) → Safe (After at c s) (tick (counted first pred first (turn number (exec_all env.core calls ensured cs))) n w s)
  down_came at c number length cs no_name falls t h first lt s st n w =
      counted_came at c number length cs no_name falls t h pred (λ more i. i < length) (λ more i g. pred_below i length g) (λ more i g. g) first first lt s st n w

  -- a bound, and then the loop
  bound_came : (at : Point) (post : Flow → State → Type 0) (length : ℕ) (e : ExprCore) (loop : ℕ → Part State Flow) (s : State) → Here at s → HasType env at.scope e (types.Ix length)
      → ((v : ℕ) → v < length → (n : ℕ) (w : World) → Safe post (loop v n w s)) → (n : ℕ) (w : World) → Safe post (bind (eval env.core None e) (λ x. on_number env.core x (λ v. loop (unsigned_abs v))) n w s)
  bound_came at post length e loop s st t h n w =
      gave_after env.core entry s post (type_of e) (eval env.core None e n w s) (λ x. on_number env.core x (λ v. loop (unsigned_abs v))) (value_safe env valid entry s at.scope st.knows none e t.typed n w)
      (λ x fits m z. number_safe env.core entry s post (types.Ix length) x (λ v. loop (unsigned_abs v)) m z refl (subst (λ ty. ValueFits env.core entry s.areas ty x) t.type fits) (λ v is. h (unsigned_abs v) (index_size length v is) m z))

  forever_came : (at : Point) (cs : StmtsCore) → Runs (looping at) cs → (s : State) → Here at s → (n : ℕ) (w : World) → Safe (After at (Forever cs) s) (forever (block leave (exec_all env.core calls ensured cs)) n w s)
  forever_came at cs h s st n w =
      let inner = looping at in
      keeps_forever HasMeaning (Turns at cs s) (After at (Forever cs) s)
      (λ u p. (record { reached = p.0.reached; lasts = p.0.lasts; stands = stands_further env base entry at.scope at.next (at.next + all_locals cs) u (omega arith) p.0.stands }, tt))
      (λ v u p. p) (block leave (exec_all env.core calls ensured cs))
      (λ u p m z. keeps_left HasMeaning (AfterAll inner cs u) (Turns at cs s) leave u (exec_all env.core calls ensured cs m z u)
      (λ flow v c. (
        turned_since env base entry s u at.scope at.next (stmts_break cs) flow (leave u v) p.0.lasts
            (left_turned env base entry entered kept at.scope at.next at.next (omega arith) u p.0.stands (after_all cs inner).scope (after_all cs inner).next (stmts_fall cs) (stmts_break cs) inner.allowed.may_break flow v c),
        p.1,
      ))
      (h u p.0.stands m z))
      n w s (record { reached = refl; lasts = lasts_refl s; stands = st }, refl)

  -- ---- returns

  returning_came : (at : Point) (c : StmtCore) (s : State) → Here at s → (result : Option Value) → ResultFits env.core entry s.areas env.result result → (n : ℕ) (w : World) → Safe (After at c s) (returning ensured result n w s)
  returning_came at c s st result fits n w =
      keeps_tick HasMeaning (After at c s) (bind (ensured result) (λ t. give (Returned result))) n w s
      (λ m. keeps_after HasMeaning (Same s) (After at c s) (ensured result m w s) (λ t. give (Returned result)) (ensured_safe s result (knows_parameters env base entry at.scope at.next s st) fits m w)
      (λ t u e j z. (subst (λ v. Ended env base entry s result v) (sym e) (record { lasts = lasts_refl s; areas = st.knows.areas; fits = fits }), ap (λ v. v.frames.own.names) e)))

  return_safe : (at : Point) (value : Option ExprCore) → ReturnTyped env at env.result value → (s : State) → Here at s → (n : ℕ) (w : World) → Safe (After at (Return value) s) (exec env.core calls ensured (Return value) n w s)
  return_safe at None t s st n w = returning_came at (Return None) s st None (none_fits env at env.core entry s.areas env.result t) n w
  return_safe at (Some e) t s st n w =
      gave_after env.core entry s (After at (Return (Some e)) s) (type_of e) (eval env.core None e n w s) (λ v. returning ensured (Some v)) (value_safe env valid entry s at.scope st.knows none e (value_typed env at e env.result t) n w)
      (λ v fits m z. returning_came at (Return (Some e)) s st (Some v) (value_fits env at e env.core entry s.areas v env.result t fits) m z)

  assert_safe : (at : Point) (e : ExprCore) (check : Check) → HasType env at.scope e Truth → (s : State) → Here at s → (n : ℕ) (w : World) → Safe (After at (Assert e check) s) (exec env.core calls ensured (Assert e check) n w s)
  assert_safe at e check t s st n w =
      keeps_after HasMeaning (Same s) (After at (Assert e check) s) (tested env.core None e check n w s) (λ t. give Falls)
      (tested_safe env valid entry s at.scope st.knows None (λ ty x. let no : ⊥ = cc in absurd no) e check t n w)
      (λ t u x m z. passed_on at (Assert e check) refl refl s u st (subst (Lasts s) (sym x) (lasts_refl s)) (subst (λ v. AreasFit env.core.structs v.areas) (sym x) st.knows.areas) (ap (λ v. v.frames.own.names) x))

  condition_safe : (at : Point) (e : ExprCore) → HasType env at.scope e Truth → (s : State) → Here at s → (n : ℕ) (w : World) → Safe (Gave env.core entry s Truth) (eval env.core None e n w s)
  condition_safe at e t s st n w = subst (λ ty. Safe (Gave env.core entry s ty) (eval env.core None e n w s)) t.type (value_safe env valid entry s at.scope st.knows none e t.typed n w)

  caller_of : (at : Point) (s : State) → Here at s → Caller env.core s
  caller_of at s st = record { areas = st.knows.areas; globals = st.knows.globals; room = omega (arith, entered.globals, st.room) }

  -- ---- all of them

  mutual
    pub exec_safe : (c : StmtCore) (at : Point) → StmtTyped env at c → (s : State) → Here at s → (n : ℕ) (w : World) → Safe (After at c s) (exec env.core calls ensured c n w s)
    exec_safe (Let number e) at t s st n w = let_safe at number e t s st n w
    exec_safe (LetCall number c) at t s st n w = let_call_safe at number c t s st (caller_of at s st) n w
    exec_safe (Alloc number area init) at t s st n w = alloc_safe at number area init t s st n w
    exec_safe (Store target value) at t s st n w = store_safe at target value t s st n w
    exec_safe (Copy target source) at t s st n w = copy_safe at target source t s st n w
    exec_safe (Call c) at t s st n w = call_stmt_safe at c t s st (caller_of at s st) n w
    exec_safe (If e a) at t s st n w =
        choice_safe env.core entry s (After at (If e a) s) (eval env.core None e) (block leave (exec_all env.core calls ensured a)) (give Falls) (condition_safe at e t.0 s st)
        (block_in at (If e a) at a s refl refl st (omega arith) (λ h. refl) (λ h. h) (λ h. h) (exec_all_safe a at t.1))
        (λ m z. passed_on at (If e a) refl refl s s st (lasts_refl s) st.knows.areas refl) n w
    exec_safe (IfElse e a b) at t s st n w =
        choice_safe env.core entry s (After at (IfElse e a b) s) (eval env.core None e) (block leave (exec_all env.core calls ensured a)) (block leave (exec_all env.core calls ensured b)) (condition_safe at e t.0 s st)
        (block_in at (IfElse e a b) at a s refl refl st (omega arith) (or_left_true (stmts_fall a) (stmts_fall b)) (or_left_true (stmts_break a) (stmts_break b)) (λ h. h) (exec_all_safe a at t.1))
        (block_in at (IfElse e a b) (skipping (all_locals a) at) b s refl refl (stands_further env base entry at.scope at.next (at.next + all_locals a) s (omega arith) st) (omega arith)
        (or_right_true (stmts_fall a) (stmts_fall b)) (or_right_true (stmts_break a) (stmts_break b)) (λ h. h) (exec_all_safe b (skipping (all_locals a) at) t.2)) n w
    exec_safe (Map number length a) at t s st n w =
        up_came at (Map number length a) number length a refl refl t.0 (exec_all_safe a (within_loop number at) t.1) (pred length) (last_below length (index_from_zero length t.0.in_range)) s st n w
    exec_safe (Upto number length e a) at t s st n w =
        bound_came at (After at (Upto number length e a) s) length e (λ last. tick (counted last suc 0 (turn number (exec_all env.core calls ensured a)))) s st t.1
        (λ last lt m z. up_came at (Upto number length e a) number length a refl refl t.0 (exec_all_safe a (within_loop number at) t.2) last (omega (arith, lt)) s st m z) n w
    exec_safe (Downto number length e a) at t s st n w =
        bound_came at (After at (Downto number length e a) s) length e (λ first. tick (counted first pred first (turn number (exec_all env.core calls ensured a)))) s st t.1
        (λ first lt m z. down_came at (Downto number length e a) number length a refl refl t.0 (exec_all_safe a (within_loop number at) t.2) first lt s st m z) n w
    exec_safe (Forever a) at t s st n w = forever_came at a (exec_all_safe a (looping at) t) s st n w
    exec_safe Break at t s st n w = keeps_tick HasMeaning (After at Break s) (give Broke) n w s (λ m. (record { reached = refl; allowed = t; lasts = lasts_refl s; areas = st.knows.areas }, refl))
    exec_safe (Return value) at t s st n w = return_safe at value t.1 s st n w
    exec_safe (Assert e check) at t s st n w = assert_safe at e check t.0 s st n w
    exec_safe (NoAlloc a) at t s st n w = block_in at (NoAlloc a) (narrowing without.NoAlloc at) a s refl refl st (omega arith) (λ h. h) (λ h. h) (narrowed_break without.NoAlloc at.allowed) (exec_all_safe a (narrowing without.NoAlloc at) t) n w
    exec_safe (NoBreak a) at t s st n w = block_in at (NoBreak a) (narrowing without.NoBreak at) a s refl refl st (omega arith) (λ h. h) (λ h. h) (narrowed_break without.NoBreak at.allowed) (exec_all_safe a (narrowing without.NoBreak at) t) n w
    exec_safe (NoReturn a) at t s st n w = block_in at (NoReturn a) (narrowing without.NoReturn at) a s refl refl st (omega arith) (λ h. h) (λ h. h) (narrowed_break without.NoReturn at.allowed) (exec_all_safe a (narrowing without.NoReturn at) t) n w

    pub exec_all_safe : (cs : StmtsCore) (at : Point) → StmtsTyped env at cs → (s : State) → Here at s → (n : ℕ) (w : World) → Safe (AfterAll at cs s) (exec_all env.core calls ensured cs n w s)
    exec_all_safe NoStmts at t s st n w = record { reached = refl; lasts = lasts_refl s; stands = st }
    exec_all_safe (MoreStmts c cs) at t s st n w =
        let later = point_after c at in
        keeps_also HasMeaning (After at c s) (AfterAll at (MoreStmts c cs) s) (exec env.core calls ensured c) (exec_all env.core calls ensured cs) n w s (exec_safe c at t.0 s st n w)
        (λ u p m z. keeps_weaker HasMeaning (AfterAll later cs u) (AfterAll at (MoreStmts c cs) s) (exec_all env.core calls ensured cs m z u)
        (λ flow v x. came_since env base entry s u (after_all cs later).scope (after_all cs later).next (stmt_falls c && stmts_fall cs) (stmt_breaks c || stmts_break cs) at.allowed.may_break flow v p.0.lasts
        (came_weaker env base entry u (after_all cs later).scope (after_all cs later).next (stmts_fall cs) (stmts_break cs) at.allowed.may_break (stmt_falls c && stmts_fall cs) (stmt_breaks c || stmts_break cs) at.allowed.may_break flow v
        (and_true (stmt_falls c) (stmts_fall cs) p.0.reached) (or_right_true (stmt_breaks c) (stmts_break cs)) (λ h. h) x))
        (exec_all_safe cs later t.2 u p.0.stands m z))
        (λ u p. record { reached = or_left_true (stmt_breaks c) (stmts_break cs) p.0.reached; allowed = p.0.allowed; lasts = p.0.lasts; areas = p.0.areas })
        (λ v u p. p.0)
