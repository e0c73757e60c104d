-- Loops that count, where their bodies follow: the counter's declaration takes the loop's own step, and each turn of the source is a block of C
-- that is left after the test and the count. What differs from loop to loop is given: the numbers, the test, the count, and what they need.
use Rattle.std.proofs.Common.{Contains, ◌≡◌, ◌≢◌, ℕ, zero, suc, ◌+◌, ◌<◌, ◌≤◌, ◌^◌, pos, Bool, true, false, List, [], ◌∷◌, ◌++◌, length, Option, Some, refl, sym, ◌∙◌, ap, subst, arith}
use Rattle.std.specs.Prelude.{slice_get, IsTrue}
use Rattle.std.proofs.iter.runs.Lists.{slice_get_within}
use Rattle.step_semantics.specs.Alike.{Same, Turned, LastTurned}
use Rattle.step_semantics.specs.Control.{Control, Falls, Broke, Returned, onward, forever, counted}
use Rattle.step_semantics.specs.Follows.{Follows}
use Rattle.step_semantics.specs.Lawful.{Lawful}
use Rattle.step_semantics.specs.Safe.{HasMeaning}
use Rattle.step_semantics.specs.Steps.{World, Finished, Part, after, tick, block}
use Rattle.step_semantics.proofs.CountedFollows.{counted_follows}
use Rattle.step_semantics.proofs.Following.{as_is, blocked, eased, finished, kept}
use Rattle.step_semantics.proofs.Paying.{pays_to}
use Rattle.area_types.specs.Syntax.{Ix}
use Rattle.area_types.specs.Tables.{is_length}
use Rattle.core_tree.specs.Checks.{stmts_checks}
use Rattle.core_tree.specs.Environments.{Point, within_loop}
use Rattle.core_tree.specs.Syntax.{StmtsCore}
use Rattle.core_tree.specs.TypedStatements.{StmtsTyped, LoopTyped}
use Rattle.core_meaning.specs.Conditions.{ensured}
use Rattle.core_meaning.specs.State as source
use Rattle.core_meaning.specs.State.{State, with_name}
use Rattle.core_meaning.specs.Statements.{Flow, turn, exec_all}
use Rattle.core_meaning.specs.Values.{Value, Num}
use Rattle.c_memory.specs.Abstract.{Same as SameObject}
use Rattle.c_ast.specs.Names.{named}
use Rattle.c_ast.specs.Scalars.{metric_of}
use Rattle.c_ast.specs.Syntax.{Expr, Stmt, Block}
use Rattle.c_ast.specs.View.{stmts_from}
use Rattle.c_ast.specs.Targets.{table_of}
use Rattle.c_meaning.proofs.Lawful.{exec_lawful}
use Rattle.c_meaning.specs.Memory.{memory_of}
use Rattle.c_meaning.specs.State as target
use Rattle.c_meaning.specs.State.{CState}
use Rattle.c_meaning.specs.Values.{CValue}
use Rattle.area_objects.specs.Both.{Map}
use Rattle.area_objects.specs.PlaceLaws.{BothIn}
use Rattle.area_objects.proofs.Alike.{lawful_in}
use Rattle.region_soundness.specs.Fitting.{Entry}
use Rattle.region_soundness.specs.Laws.{PlaceIn, calls_before, inside}
use Rattle.region_soundness.specs.Scoped.{Activation, AreasFit, Scoped}
use Rattle.region_soundness.proofs.Scopes.{named_scoped, left_scoped, stmts_last}
use Rattle.region_soundness.proofs.Standing.{Lasts}
use Rattle.region_soundness.proofs.Statements.{index_below}
use Rattle.lower_types.specs.Names.{local_name}
use Rattle.lower_values.specs.Frames.{allocated, is_object, name_of}
use Rattle.lower_statements.specs.Loops.{counter, turns}
use Rattle.lower_statements.specs.Statements.{stmts_body}
use Rattle.form_answers.specs.Standing.{Converts, TestIs}
use Rattle.value_refinement.specs.Kept.{Kept}
use Rattle.value_refinement.specs.Laws.{Numbered, running}
use Rattle.value_refinement.specs.Related.{Related}
use Rattle.value_refinement.proofs.Keeping.{kept_less, kept_twice, same_twice}
use Rattle.value_refinement.proofs.Objects.{ObjectIs, Assigned, Declared, object_left, object_made, takes_object_with}
use Rattle.value_refinement.proofs.Operands.{local_is_old}
use Rattle.value_refinement.proofs.Running.{runs_first}
use Rattle.lowered_surroundings.specs.Surroundings.{naming_for}
use Rattle.statement_refinement.specs.Apart.{OfNoArea, IsApart, CountersApart}
use Rattle.statement_refinement.specs.Moves.{Moved}
use Rattle.statement_refinement.proofs.Moves.{states_move_on}
use Rattle.statement_refinement.proofs.Movements.{moves_join}
use Rattle.body_refinement.specs.Bodies.{Lowered, env_in, frame_in, home_in, program_in, within}
use Rattle.body_refinement.specs.Kinds.{AllKindsAre}
use Rattle.body_refinement.specs.Statements.{CameTo, CameBack, StmtsDone, Before, StmtsFollow}
use Rattle.body_refinement.proofs.Choosing.{nothing_after}
use Rattle.body_refinement.proofs.Coming.{scope_before, came_join, back_join, left_moved, left_came, left_back, kept_moved}
use Rattle.body_refinement.proofs.Counters.{counter_scalar, counter_holds, counter_read}
use Rattle.body_refinement.proofs.Places.{place_named, params_before, local_named}
use Rattle.body_refinement.proofs.Rounds.{related_named, apart_named, moved_unnamed, both_counted, both_made, next_is_free, round_moved, round_both}
use Rattle.body_refinement.proofs.Turns.{ends_within, ends_here, running_more, closing, last_breaks, goes_round}

-- whether more turns come behind one
abbrev pub is_more : ℕ → Bool
is_more zero = false
is_more (suc m) = true

module _ (d : Lowered) (at : Point) (number length_of : ℕ) (body : StmtsCore) (place : PlaceIn d.proc at) (typed : LoopTyped (env_in d) at number length_of) (body_typed : StmtsTyped (env_in d) (within_loop number at) body)
    (value : is_object (frame_in d) number ≡ false) (kinds : AllKindsAre (allocated d.proc.body) body) (small : Numbered (stmts_checks body)) (follows : StmtsFollow d (within_loop number at) body)
    (entry : Entry) (waiting : List Activation) (objects : Map) (s : State) (t : CState) (before : Before d at entry waiting objects s t) (from : ℕ) (le : length d.proc.locals ≤ from) where
  abbrev inner : Point
  inner = within_loop number at

  inner_place : PlaceIn d.proc inner
  inner_place = place_named d.proc at place inner (ap (λ n. n ∷ at.scope) typed.name.number_is) (omega arith)

  name_is : name_of (frame_in d) number ≡ local_name number
  name_is = local_named d number (omega (arith, params_before d.proc at place, typed.name.number_is))

  earlier : (y : ℕ) → Contains at.scope y → y < number
  earlier y among = let lt = place.before y among in omega (arith, lt, typed.name.number_is)

  pub length_small : (i : ℕ) → i < length_of → i < 2 ^ 16
  length_small i lt = let h : length_of ≤ 65535 = short length_of typed.in_range in omega (arith, lt, h) where
    short : (n : ℕ) → IsTrue (is_length n) → n ≤ 65535
    short n h = grind (arith)

  -- what is known where control leaves the body
  abbrev Known : State → Flow → State → Type 0
  Known u flow v = Lasts u v × AreasFit d.core.structs v.areas

  -- ---- one turn

  module _ (s1 : State) (t1 : CState) (came : CameTo d at.next objects s t s1 t1) (scoped : Scoped d.core (inside d.proc at.scope entry) waiting s1) (i o : ℕ) (lt : i < length_of)
      (has : ObjectIs (program_in d) t1 (local_name number) counter_scalar o (Some (pos i))) (free : OfNoArea came.more o) where
    abbrev begun : State
    begun = with_name number (Num (pos i)) s1

    abbrev related_1 : Related (within d at.scope) came.more s1 t1 × CountersApart (within d at.scope) came.more s1 t1
    related_1 = states_move_on (within d at.scope) refl at.next (scope_before d at place) objects s t before.related before.apart came.more s1 t1 came.moved came.both

    slot_apart : IsApart came.more (named t1.frames.own (local_name number))
    slot_apart = subst (IsApart came.more) (sym has.slot) free

    begun_scoped : Scoped d.core (inside d.proc inner.scope entry) waiting begun
    begun_scoped =
        subst (λ x. Scoped d.core (inside d.proc (x ∷ at.scope) entry) waiting (with_name x (Num (pos i)) s1)) (sym typed.name.number_is)
        (named_scoped d.core d.valid d.number d.proc d.is entry waiting at place s1 scoped (Ix length_of) (Num (pos i)) (ap (slice_get d.proc.locals) (sym typed.name.number_is) ∙ typed.name.type) (index_below length_of i lt))

    before_body : Before d inner entry waiting came.more begun t1
    before_body = record {
      room = (let r : number < length d.proc.locals = slice_get_within d.proc.locals number (Ix length_of) typed.name.type in omega (arith, r, typed.name.number_is));
      scoped = begun_scoped;
      related = related_named d at.scope number length_of typed.name.type earlier value name_is came.more s1 t1 related_1.0 related_1.1 i o slot_apart (counter_read (program_in d) t1 (local_name number) o i (length_small i lt) has);
      apart = apart_named d at.scope number length_of typed.name.type earlier value name_is came.more s1 t1 related_1.0 related_1.1 i o slot_apart (counter_read (program_in d) t1 (local_name number) o i (length_small i lt) has);
    }

    -- the body, and what is known behind it
    body_follows : (n : ℕ) (w : World)
        → Follows d.skip (λ a v b u. StmtsDone d entry inner.next came.more begun t1 a v b u × Known begun a v) 0 0 n (exec_all d.core (calls_before d.core d.number) (ensured d.core d.proc) body n w begun)
        (λ j. running (within d at.scope) (stmts_body (frame_in d) (home_in d) body from).stmts j w t1)
    body_follows n w =
        kept d.skip HasMeaning (StmtsDone d entry inner.next came.more begun t1) (Known begun) 0 0 n (exec_all d.core (calls_before d.core d.number) (ensured d.core d.proc) body n w begun)
        (λ j. running (within d at.scope) (stmts_body (frame_in d) (home_in d) body from).stmts j w t1)
        (stmts_last d.core d.valid d.number d.proc d.is entry waiting inner inner_place begun begun_scoped body body_typed n w)
        (follows inner_place body_typed kinds small entry waiting came.more begun t1 before_body from le n w)

  -- ---- what differs from loop to loop

  -- `Within m i` says that i may be the count of a turn behind which m turns come, and `Lasting` what the test needs of the state of C, where
  -- the counter is the object of that number
  module _ (next : ℕ → ℕ) (more step : Expr) (Within : ℕ → ℕ → Type 0) (below : (m i : ℕ) → Within m i → i < length_of) (goes_on : (m i : ℕ) → Within (suc m) i → Within m (next i))
      (Lasting : Map → ℕ → CState → Type 0)
      (in_body : (o : ℕ) (more_objects : Map) (s1 : State) (t1 : CState) → o < length t1.objects → Lasting more_objects o t1 → (s2 : State) (t2 : CState) (came : CameTo d (suc at.next) more_objects s1 t1 s2 t2) → Lasting came.more o t2)
      (in_turn : (o : ℕ) (o1 o2 : Map) (t1 t2 : CState) → t2.frames.own ≡ t1.frames.own
      → ((q : ℕ) → q < length t1.objects → OfNoArea o1 q → q ≢ o → SameObject (metric_of d.target) (memory_of d.target) t1.objects t2.objects q × OfNoArea o2 q) → Lasting o1 o t1 → Lasting o2 o t2)
      (tests : (m i : ℕ) → Within m i → (objects : Map) (u : CState) (o : ℕ) → Lasting objects o u → ObjectIs (program_in d) u (local_name number) counter_scalar o (Some (pos i)) → TestIs (program_in d) u more (is_more m))
      (counts : (m i : ℕ) → Within (suc m) i → (u : CState) (o : ℕ) → ObjectIs (program_in d) u (local_name number) counter_scalar o (Some (pos i)) → Converts (program_in d) u counter_scalar step (pos (next i))) where
    -- before a turn of count i, behind which m turns come
    pub record Head (m i : ℕ) (s1 : State) (t1 : CState) : Type 0 where
      pub came : CameTo d at.next objects s t s1 t1
      pub scoped : Scoped d.core (inside d.proc at.scope entry) waiting s1
      pub object : ℕ
      pub has : ObjectIs (program_in d) t1 (local_name number) counter_scalar object (Some (pos i))
      pub made : object < length t1.objects
      pub since : length t.objects ≤ object
      pub free : OfNoArea came.more object
      pub lasting : Lasting came.more object t1
      pub within_it : Within m i

    abbrev Rel : State → CState → Type 0
    Rel = CameTo d at.next objects s t

    abbrev Back : Option Value → State → Option CValue → CState → Type 0
    Back = CameBack d at.next objects s t entry

    abbrev source_body : Part State Flow
    source_body = exec_all d.core (calls_before d.core d.number) (ensured d.core d.proc) body

    abbrev body_code : List Stmt
    body_code = (stmts_body (frame_in d) (home_in d) body from).stmts

    abbrev turn_code : List Stmt
    turn_code = body_code ++ closing (local_name number) more step

    abbrev turn_part : Part CState (Control (Option CValue))
    turn_part = block target.leave (running (within d at.scope) turn_code)

    -- what a turn may leave, where more come and behind the last
    abbrev Ended : (is_last : Bool) → (ℕ → ℕ → State → CState → Type 0) → ℕ → ℕ → Flow → State → Control (Option CValue) → CState → Type 0
    Ended true head m i = LastTurned Rel Back
    Ended false head m i = Turned Rel Back (head m i)

    module _ (m i : ℕ) (s1 : State) (t1 : CState) (h : Head m i s1 t1) where
      i_small : i < 2 ^ 16
      i_small = length_small i (below m i h.within_it)

      abbrev starts : State
      starts = with_name number (Num (pos i)) s1

      both_1 : BothIn d.target (naming_for d.core) h.came.more s1.areas t1.objects
      both_1 = h.came.both

      -- where the body ended
      module _ (v : State) (u : CState) (body_came : CameTo d inner.next h.came.more starts t1 v u) where
        unnamed : Moved (program_in d) at.next h.came.more s1 t1 body_came.more v u
        unnamed = moved_unnamed d at.next number (Num (pos i)) typed.name.number_is h.came.more body_came.more s1 v t1 u body_came.moved

        left_here : CameTo d at.next h.came.more s1 t1 (source.leave s1 v) (target.leave t1 u)
        left_here = left_came d at.next at.next (omega arith) h.came.more s1 t1 both_1 body_came.more v u unnamed body_came.both

        -- control leaves the loop
        leaves_loop : Rel (source.leave s1 v) (target.leave t1 u)
        leaves_loop = came_join d at.next at.next (omega arith) objects h.came.more s s1 (source.leave s1 v) t t1 (target.leave t1 u) h.came.moved left_here

        still_counter : ObjectIs (program_in d) u (local_name number) counter_scalar h.object (Some (pos i))
        still_counter = record {
          slot = body_came.moved.names (local_name number) counter_old ∙ h.has.slot;
          shows = (body_came.moved.same h.object h.made h.free).shows _ _ _ h.has.shows;
        } where
          counter_old : (j : ℕ) → inner.next ≤ j → local_name number ≢ local_name j
          counter_old = local_is_old number inner.next (omega (arith, typed.name.number_is))

        free_later : OfNoArea body_came.more h.object
        free_later = body_came.moved.apart h.object h.made h.free

        lasting_later : Lasting body_came.more h.object u
        lasting_later = in_body h.object h.came.more starts t1 h.made h.lasting v u body_came

        -- what is behind the turn, where it has counted
        module _ (w : World) (small_next : next i < 2 ^ 16) (within_next : (k : ℕ) × (m ≡ suc k) × Within k (next i)) (is : Converts (program_in d) u counter_scalar step (pos (next i))) (z : CState)
            (done : Assigned (within d at.scope) w u (local_name number) counter_scalar h.object (Some (pos i)) still_counter step (pos (next i)) is (counter_holds (table_of d.target) (next i) small_next) z)
            (again : Scoped d.core (inside d.proc at.scope entry) waiting (source.leave s1 v)) where
          written : BothIn d.target (naming_for d.core) body_came.more v.areas z.objects
          written = both_counted d body_came.more v.areas u.objects z.objects body_came.both h.object free_later done.count done.others

          whole : Moved (program_in d) at.next objects s t body_came.more (source.leave s1 v) (target.leave t1 z)
          whole =
              round_moved d at.next objects s t h.came.more s1 t1 h.came.moved body_came.more v u leaves_moved still h.object h.since z done.frames (omega (arith, done.count, body_came.moved.count)) done.others
            where
              leaves_moved : Moved (program_in d) at.next objects s t body_came.more (source.leave s1 v) (target.leave t1 u)
              leaves_moved = moves_join (program_in d) at.next at.next (omega arith) objects h.came.more body_came.more s s1 (source.leave s1 v) t t1 (target.leave t1 u) h.came.moved
                  (left_moved d at.next at.next (omega arith) h.came.more s1 t1 both_1 body_came.more v u unnamed body_came.both)

              still : (q : ℕ) → q < length t.objects → OfNoArea objects q → SameObject (metric_of d.target) (memory_of d.target) t.objects u.objects q
              still q lt none =
                  same_twice (metric_of d.target) (memory_of d.target) t.objects t1.objects u.objects q (h.came.moved.same q lt none)
                  (body_came.moved.same q (omega (arith, lt, h.came.moved.count)) (h.came.moved.apart q lt none))

          counter_on : ObjectIs (program_in d) (target.leave t1 z) (local_name number) counter_scalar h.object (Some (pos (next i)))
          counter_on =
              object_left (program_in d) t1 z (local_name number) counter_scalar h.object (Some (pos (next i))) (omega (arith, done.count, body_came.moved.count)) h.made h.has.slot done.shows

          lasting_on : Lasting body_came.more h.object (target.leave t1 z)
          lasting_on = in_turn h.object h.came.more body_came.more t1 (target.leave t1 z) refl stays h.lasting where
            stays : (q : ℕ) → q < length t1.objects → OfNoArea h.came.more q → q ≢ h.object → SameObject (metric_of d.target) (memory_of d.target) t1.objects (target.leave t1 z).objects q × OfNoArea body_came.more q
            stays q lt none differ = (
              same_twice (metric_of d.target) (memory_of d.target) t1.objects z.objects (target.leave t1 z).objects q
                  (same_twice (metric_of d.target) (memory_of d.target) t1.objects u.objects z.objects q (body_came.moved.same q lt none) (done.others q differ))
                  (((lawful_in (table_of d.target)).leaves z.objects (length t1.objects)).others q lt),
              body_came.moved.apart q lt none,
            )

          next_head : Head within_next.0 (next i) (source.leave s1 v) (target.leave t1 z)
          next_head = record {
            came = record {
              more = body_came.more;
              moved = whole;
              both = round_both d h.came.more s1 t1 both_1 body_came.more v z body_came.moved.extends written;
            };
            scoped = again;
            object = h.object;
            has = counter_on;
            made = object_made (program_in d) (target.leave t1 z) (local_name number) counter_scalar h.object (Some (pos (next i))) counter_on;
            since = h.since;
            free = free_later;
            lasting = lasting_on;
            within_it = within_next.2;
          }

      -- the whole turn, whatever is asked where the body fell through
      module _ (is_last : Bool) (head : ℕ → ℕ → State → CState → Type 0) (m2 i2 : ℕ)
          (falls : (v : State) (u : CState) → CameTo d inner.next h.came.more starts t1 v u → Known starts Falls v → (n : ℕ) (w : World)
          → Follows d.skip (λ a x b y. Ended is_last head m2 i2 a (source.leave s1 x) b (target.leave t1 y)) 15 0 n (Finished Falls w v n) (λ j. running (within d at.scope) (closing (local_name number) more step) j w u)) where
        abbrev Post : Flow → State → Control (Option CValue) → CState → Type 0
        Post a x b y = Ended is_last head m2 i2 a (source.leave s1 x) b (target.leave t1 y)

        broke_as : (last : Bool) (v : State) (u : CState) → Rel (source.leave s1 v) (target.leave t1 u) → Ended last head m2 i2 Broke (source.leave s1 v) Broke (target.leave t1 u)
        broke_as true v u r = r
        broke_as false v u r = r

        back_as : (last : Bool) (value : Option Value) (result : Option CValue) (v : State) (u : CState) → Back value (source.leave s1 v) result (target.leave t1 u) → Ended last head m2 i2 (Returned value) (source.leave s1 v) (Returned result) (target.leave t1 u)
        back_as true value result v u r = r
        back_as false value result v u r = r

        returns : (value : Option Value) (result : Option CValue) (v : State) (u : CState) → CameBack d inner.next h.came.more starts t1 entry value v result u → Back value (source.leave s1 v) result (target.leave t1 u)
        returns value result v u c =
            back_join d at.next at.next (omega arith) objects h.came.more s s1 (source.leave s1 v) t t1 (target.leave t1 u) h.came.moved entry value result
            (left_back d at.next at.next (omega arith) h.came.more s1 t1 both_1 c.more v u (moved_unnamed d at.next number (Num (pos i)) typed.name.number_is h.came.more c.more s1 v t1 u c.moved) c.both entry h.scoped.frame.room value result c.given)

        behind : (a : Flow) (v : State) (b : Control (Option CValue)) (u : CState) → StmtsDone d entry inner.next h.came.more starts t1 a v b u × Known starts a v
            → (n : ℕ) (w : World) → Follows d.skip Post 15 0 n (Finished a w v n) (λ j. onward (running (within d at.scope) (closing (local_name number) more step)) b j w u)
        behind Falls v Falls u k n w = falls v u k.0 k.1 n w
        behind Broke v Broke u k n w = ends_here d.skip Post 15 n w Broke v Broke u (broke_as is_last v u (leaves_loop v u k.0))
        behind (Returned value) v (Returned result) u k n w = ends_here d.skip Post 15 n w (Returned value) v (Returned result) u (back_as is_last value result v u (returns value result v u k.0))
        behind Falls v Broke u k n w = absurd k.0
        behind Falls v (Returned result) u k n w = absurd k.0
        behind Broke v Falls u k n w = absurd k.0
        behind Broke v (Returned result) u k n w = absurd k.0
        behind (Returned value) v Falls u k n w = absurd k.0
        behind (Returned value) v Broke u k n w = absurd k.0

        turn_follows : (n : ℕ) (w : World) → Follows d.skip (Ended is_last head m2 i2) (0 + 15) 0 n (turn number source_body i n w s1) (λ j. turn_part j w t1)
        turn_follows n w =
            blocked d.skip Post (Ended is_last head m2 i2) source.leave target.leave s1 t1 15 0 n (source_body n w starts) (λ j. running (within d at.scope) turn_code j w t1) (λ a x b y r. r)
            (as_is d.skip Post 15 0 n (source_body n w starts) (λ j. running (within d at.scope) turn_code j w t1) (λ j. after (running (within d at.scope) body_code j w t1) (onward (running (within d at.scope) (closing (local_name number) more step))))
            (λ j. running_more (within d at.scope) body_code (closing (local_name number) more step) j w t1)
            (finished d.skip (λ a v b u. StmtsDone d entry inner.next h.came.more starts t1 a v b u × Known starts a v) Post 15 15 0 n (source_body n w starts) (λ j. running (within d at.scope) body_code j w t1)
            (onward (running (within d at.scope) (closing (local_name number) more step)))
            (eased d.skip (λ a v b u. StmtsDone d entry inner.next h.came.more starts t1 a v b u × Known starts a v) 0 0 15 15 n (source_body n w starts) (λ j. running (within d at.scope) body_code j w t1) (omega arith) (omega arith)
            (body_follows s1 t1 h.came h.scoped i h.object (below m i h.within_it) h.has h.free n w))
            behind))

    -- ---- the loop

    scoped_on : (m i : ℕ) (s1 : State) (t1 : CState) → Head m i s1 t1 → (v : State) → Known (with_name number (Num (pos i)) s1) Falls v → Scoped d.core (inside d.proc at.scope entry) waiting (source.leave s1 v)
    scoped_on m i s1 t1 h v known = left_scoped d.core d.proc entry waiting at.scope s1 h.scoped v (record { areas = known.0.areas; first = known.0.first; callers = known.0.callers }) known.1

    each : (m i : ℕ) (s1 : State) (t1 : CState) → Head (suc m) i s1 t1 → (n : ℕ) (w : World) → Follows d.skip (Turned Rel Back (Head m (next i))) (0 + 15) 0 n (turn number source_body i n w s1) (λ j. turn_part j w t1)
    each m i s1 t1 h n w = turn_follows (suc m) i s1 t1 h false Head m (next i) falls n w where
      falls : (v : State) (u : CState) → CameTo d inner.next h.came.more (with_name number (Num (pos i)) s1) t1 v u → Known (with_name number (Num (pos i)) s1) Falls v → (n : ℕ) (w : World)
          → Follows d.skip (λ a x b y. Ended false Head m (next i) a (source.leave s1 x) b (target.leave t1 y)) 15 0 n (Finished Falls w v n) (λ j. running (within d at.scope) (closing (local_name number) more step) j w u)
      falls v u c known n w =
          let within_next : Within m (next i) = goes_on m i h.within_it in
          let small_next : next i < 2 ^ 16 = length_small (next i) (below m (next i) within_next) in
          let here : ObjectIs (program_in d) u (local_name number) counter_scalar h.object (Some (pos i)) = still_counter (suc m) i s1 t1 h v u c in
          let is : Converts (program_in d) u counter_scalar step (pos (next i)) = counts m i h.within_it u h.object here in
          let r = goes_round (within d at.scope) (local_name number) more step w u h.object (Some (pos i)) here (next i) small_next is (tests (suc m) i h.within_it c.more u h.object (lasting_later (suc m) i s1 t1 h v u c) here) in
          ends_within d.skip (λ a x b y. Ended false Head m (next i) a (source.leave s1 x) b (target.leave t1 y)) 2 15 n (omega arith) w Falls v Falls r.0 (λ j. running (within d at.scope) (closing (local_name number) more step) j w u)
          (next_head (suc m) i s1 t1 h v u c w small_next (m, refl, within_next) is r.0 r.1.assigned (scoped_on (suc m) i s1 t1 h v known)) r.1.reaches

    last : (i : ℕ) (s1 : State) (t1 : CState) → Head zero i s1 t1 → (n : ℕ) (w : World) → Follows d.skip (LastTurned Rel Back) (0 + 15) 0 n (turn number source_body i n w s1) (λ j. turn_part j w t1)
    last i s1 t1 h n w = turn_follows zero i s1 t1 h true Head zero i falls n w where
      falls : (v : State) (u : CState) → CameTo d inner.next h.came.more (with_name number (Num (pos i)) s1) t1 v u → Known (with_name number (Num (pos i)) s1) Falls v → (n : ℕ) (w : World)
          → Follows d.skip (λ a x b y. Ended true Head zero i a (source.leave s1 x) b (target.leave t1 y)) 15 0 n (Finished Falls w v n) (λ j. running (within d at.scope) (closing (local_name number) more step) j w u)
      falls v u c known n w =
          let here : ObjectIs (program_in d) u (local_name number) counter_scalar h.object (Some (pos i)) = still_counter zero i s1 t1 h v u c in
          ends_within d.skip (λ a x b y. Ended true Head zero i a (source.leave s1 x) b (target.leave t1 y)) 2 15 n (omega arith) w Falls v Broke u (λ j. running (within d at.scope) (closing (local_name number) more step) j w u)
          (leaves_loop zero i s1 t1 h v u c)
          (last_breaks (within d at.scope) (local_name number) more step w u (tests zero i h.within_it c.more u h.object (lasting_later zero i s1 t1 h v u c) here))

    turn_lawful : Lawful turn_part
    turn_lawful = exec_lawful (program_in d) d.functions d.lawful (Block (stmts_from turn_code))

    rounds_follow : (m i n : ℕ) (w : World) (s1 : State) (t1 : CState) → Head m i s1 t1
        → Follows d.skip (Same Rel Back) 0 0 n (counted m next i (turn number source_body) n w s1) (λ j. running (within d at.scope) (turns body_code more step (local_name number) ∷ []) j w t1)
    rounds_follow m i n w s1 t1 h =
        as_is d.skip (Same Rel Back) 0 0 n (counted m next i (turn number source_body) n w s1) (λ j. running (within d at.scope) (turns body_code more step (local_name number) ∷ []) j w t1) (λ j. forever turn_part j w t1)
        (λ j. nothing_after (forever turn_part j w t1) (running (within d at.scope) []) (λ k z u. refl))
        (counted_follows d.skip Rel Back 0 next (turn number source_body) turn_part turn_lawful Head each last m i n w s1 t1 h)

    -- from where the counter is declared, behind temporaries
    module _ (k : ℕ) (low : length d.proc.locals ≤ k) (t1 : CState) (paid : Kept (program_in d) k t t1) (m i : ℕ) (within_first : Within m i) (first : Expr) (gives : Converts (program_in d) t1 counter_scalar first (pos i))
        (lasting : (w : World) (u : CState) → Declared (within d at.scope) w t1 number counter_scalar (Some (pos i)) u → Lasting objects (length t1.objects) u) where
      number_low : number < k
      number_low = let r : number < length d.proc.locals = slice_get_within d.proc.locals number (Ix length_of) typed.name.type in omega (arith, r, low)

      both_t1 : BothIn d.target (naming_for d.core) objects s.areas t1.objects
      both_t1 = both_made d objects s.areas t.objects t1.objects before.related.both paid.count paid.objects

      module _ (w : World) (u : CState) (declared : Declared (within d at.scope) w t1 number counter_scalar (Some (pos i)) u) where
        kept_number : Kept (program_in d) number t u
        kept_number = kept_twice (program_in d) number number t t1 u (omega arith) (kept_less (program_in d) number k t t1 (omega (arith, number_low)) paid) declared.kept

        first_head : Head m i s u
        first_head = record {
          came = record {
            more = objects;
            moved = kept_moved (program_in d) at.next number (omega (arith, typed.name.number_is)) objects s t u kept_number;
            both = both_made d objects s.areas t1.objects u.objects both_t1 declared.kept.count declared.kept.objects;
          };
          scoped = before.scoped;
          object = length t1.objects;
          has = declared.object;
          made = object_made (program_in d) u (local_name number) counter_scalar (length t1.objects) (Some (pos i)) declared.object;
          since = paid.count;
          free = next_is_free d objects s.areas t1.objects t1.objects both_t1;
          lasting = lasting w u declared;
          within_it = within_first;
        }

      pub loop_follows : (n : ℕ) (w : World)
          → Follows d.skip (Same Rel Back) 0 0 n (tick (counted m next i (turn number source_body)) n w s) (λ j. running (within d at.scope) (counter (local_name number) first ∷ turns body_code more step (local_name number) ∷ []) j w t1)
      loop_follows n w =
          let rest : List Stmt = turns body_code more step (local_name number) ∷ [] in
          let o = takes_object_with (within d at.scope) w t1 number counter_scalar first (pos i) gives (counter_holds (table_of d.target) i (length_small i (below m i within_first))) in
          pays_to d.skip (Same Rel Back) 1 1 0 0 0 (counted m next i (turn number source_body)) w s (omega arith) (omega arith) (λ j. running (within d at.scope) (counter (local_name number) first ∷ rest) j w t1) (λ j. running (within d at.scope) rest j w o.0)
          (runs_first (within d at.scope) 1 (counter (local_name number) first) rest w t1 o.0 o.1) (λ k. rounds_follow m i k w s o.0 (first_head w o.0 o.2)) n
