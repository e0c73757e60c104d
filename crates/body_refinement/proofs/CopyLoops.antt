-- The loop that copies an array: a turn for each element, whose block ends behind the test of the counter or its next number.
use Rattle.std.proofs.Common.{◌≡◌, ◌≢◌, ℕ, zero, suc, ◌+◌, ◌-◌, ◌*◌, ◌==◌, ◌<◌, ◌≤◌, ℤ, pos, Bool, true, false, List, [], ◌∷◌, ◌++◌, length, Option, Some, None, refl, sym, ◌∙◌, ap, subst, arith, lit<}
use Rattle.std.specs.Prelude.{if◌then◌else◌}
use Rattle.std.proofs.lemmas.Bool.{eqb-true, eqb-false, lt-ltb}
use Rattle.step_semantics.specs.Control.{Control, Falls, Broke, onward, again, forever}
use Rattle.step_semantics.specs.Steps.{World, Finished, Part, give, bind, tick, left, block}
use Rattle.step_semantics.specs.Lawful.{Lawful}
use Rattle.step_semantics.specs.Takes.{Takes, Reaches}
use Rattle.step_semantics.proofs.ControlLaws.{forever_turn}
use Rattle.step_semantics.proofs.Laws.{block_lawful}
use Rattle.step_semantics.proofs.Paying.{takes_give, takes_tick, takes_bind, reaches_more}
use Rattle.type_trees.specs.Trees.{Leaf, Many, Struct, nodes, part}
use Rattle.type_trees.specs.Values.{Cell, Parts, Values}
use Rattle.area_types.specs.Trees.{Written}
use Rattle.core_meaning.specs.Areas.{Areas, put_at}
use Rattle.c_memory.specs.Abstract.{Same, Left}
use Rattle.c_ast.specs.declared.CKind.TheVariants.{Scalar}
use Rattle.c_ast.specs.declared.CBinary.TheVariants.{Add, Ne}
use Rattle.c_ast.specs.declared.CUnary.TheVariants.{Not}
use Rattle.c_ast.specs.declared.Suffix.TheVariants.{Plain}
use Rattle.c_ast.specs.Scalars.{metric_of}
use Rattle.c_ast.specs.Syntax.{Name, Expr, Number, Read, Unary, Binary, Place, Var, Stmt, Assign, Forever, Break, Nil, Cons}
use Rattle.c_ast.specs.Targets.{table_of}
use Rattle.c_ast.specs.View.{stmts_from}
use Rattle.c_meaning.specs.Expressions as c
use Rattle.c_meaning.specs.Memory.{memory_of}
use Rattle.c_meaning.specs.Places.{Lvalue, member_of, element_of}
use Rattle.c_meaning.specs.State.{CState, leave, lives}
use Rattle.c_meaning.specs.Statements.{exec, exec_all}
use Rattle.c_meaning.specs.Values.{CValue, Num, is_true, on_ok}
use Rattle.c_meaning.proofs.HeldNumbers.{held_converts}
use Rattle.c_meaning.proofs.Lawful.{LawfulCalls, exec_all_lawful}
use Rattle.area_objects.specs.Both.{Map}
use Rattle.area_objects.specs.Copies.{filled_to, many}
use Rattle.area_objects.specs.Holds.{CanHold, CellsFit}
use Rattle.area_objects.specs.PlaceLaws.{BothIn}
use Rattle.area_objects.proofs.Alike.{lawful_in}
use Rattle.area_objects.proofs.Kept.{both_kept}
use Rattle.area_objects.proofs.Located.{elements_located}
use Rattle.lower_types.specs.Names.{local_name, elements_name}
use Rattle.lower_statements.specs.Loops.{counter as counter_of, unless_left}
use Rattle.lower_statements.specs.Parts.{copied, at_counter}
use Rattle.form_answers.specs.Standing.{Converts, TestIs}
use Rattle.value_refinement.specs.Laws.{running}
use Rattle.value_refinement.specs.Settings.{Setting, Set}
use Rattle.value_refinement.proofs.Keeping.{same_twice}
use Rattle.value_refinement.proofs.Objects.{ObjectIs, Declared, temporary_is_old, object_made, object_left, takes_object_with, takes_assign}
use Rattle.value_refinement.proofs.Running.{runs_first, takes_value, takes_one, nothing_left, constant_gives}
use Rattle.statement_refinement.specs.Apart.{OfNoArea}
use Rattle.body_refinement.proofs.Aside.{Aside, Fixed, aside_twice, aside_kept}
use Rattle.body_refinement.proofs.CopyCounters.{counting, counter_holds, counter_read, counter_is_last, counter_goes_on, counter_next}
use Rattle.body_refinement.proofs.CopyParts.{PartIn, Copied, CopyOf, At, Here, holds_form, each_many, part_here, first_none, last_all, leads_to, leads_from}

-- ---- steps

takes_block : {A : Type 0} (c : ℕ) (body : Part CState A) (w : World) (t u : CState) (a : A) → Takes c body w t a u → Takes c (block leave body) w t a (leave t u)
takes_block c body w t u a h = record { waits = λ j lt. ap (left leave t) (h.waits j lt); finishes = λ j. ap (left leave t) (h.finishes j) }

-- a stretch, and what then finishes
led_takes : {A : Type 0} (c d : ℕ) (w : World) (first second : Part CState A) (t u v : CState) (a : A) → Reaches c w (λ j. first j w t) (λ j. second j w u) → Takes d second w u a v → Takes (c + d) first w t a v
led_takes c d w first second t u v a h g =
    let r = reaches_more c d w (λ j. first j w t) (λ j. second j w u) (λ j. Finished a w v j) h (record { waits = g.waits; comes = g.finishes }) in
    record { waits = r.waits; finishes = r.comes }

module _ {V : Type 0} (turn : Part CState (Control V)) (lawful : Lawful turn) (w : World) where
  one_turn : (j : ℕ) (t : CState) → forever turn j w t ≡ tick (bind turn (again (forever turn))) j w t
  one_turn zero t = refl
  one_turn (suc j) t = forever_turn turn lawful j w t

  as_turn : (c : ℕ) (t u : CState) → Takes c (tick (bind turn (again (forever turn)))) w t Falls u → Takes c (forever turn) w t Falls u
  as_turn c t u h = record { waits = λ j lt. one_turn j t ∙ h.waits j lt; finishes = λ j. one_turn (c + j) t ∙ h.finishes j }

  -- one turn, and the others
  pub turns_go_on : (c d : ℕ) (t u v : CState) → Takes c turn w t Falls u → Takes d (forever turn) w u Falls v → Takes (suc (c + d)) (forever turn) w t Falls v
  turns_go_on c d t u v h g = as_turn (suc (c + d)) t v (takes_tick (c + d) (bind turn (again (forever turn))) w t Falls v (takes_bind c d turn (again (forever turn)) w t u v Falls Falls h g))

  -- the last
  pub turns_end : (c : ℕ) (t u : CState) → Takes c turn w t Broke u → Takes (suc (c + 0)) (forever turn) w t Falls u
  turns_end c t u h = as_turn (suc (c + 0)) t u (takes_tick (c + 0) (bind turn (again (forever turn))) w t Falls u (takes_bind c 0 turn (again (forever turn)) w t u u Broke Falls h (takes_give Falls w u)))

module _ (g : Setting) (w : World) (t : CState) (more : Expr) where
  abbrev breaking : Part CState (Control (Option CValue))
  breaking = block leave (exec_all g.program g.functions (Cons Break Nil))

  abbrev choosing : Bool → Part CState (Control (Option CValue))
  choosing holds = tick (if holds then breaking else give Falls)

  unless_goes_on : TestIs g.program t (Unary Not more) false → Takes 1 (exec g.program g.functions (unless_left more)) w t Falls t
  unless_goes_on tests = takes_value g.program w t 1 (λ s. on_ok (c.eval g.program (Unary Not more) s) is_true) false choosing Falls t tests (takes_one g.program w t (give Falls) Falls t (λ j. refl))

  breaks : Takes 1 breaking w t Broke t
  breaks =
      subst (λ u. Takes 1 breaking w t Broke u) (nothing_left t)
      (takes_block 1 (exec_all g.program g.functions (Cons Break Nil)) w t t Broke
      (takes_bind 1 0 (tick (give Broke)) (onward (give Falls)) w t t t Broke Broke (takes_tick 0 (give Broke) w t Broke t (takes_give Broke w t)) (takes_give Broke w t)))

  unless_breaks : TestIs g.program t (Unary Not more) true → Takes 2 (exec g.program g.functions (unless_left more)) w t Broke t
  unless_breaks tests = takes_value g.program w t 2 (λ s. on_ok (c.eval g.program (Unary Not more) s) is_true) true choosing Broke t tests (takes_tick 1 breaking w t Broke t breaks)

  pub last_part : (next : Stmt) → TestIs g.program t (Unary Not more) true → Takes 2 (running g (unless_left more ∷ next ∷ [])) w t Broke t
  last_part next tests =
      takes_bind 2 0 (exec g.program g.functions (unless_left more)) (onward (running g (next ∷ []))) w t t t Broke Broke (unless_breaks tests) (takes_give Broke w t)

  pub next_part : (next : Stmt) (u : CState) → TestIs g.program t (Unary Not more) false → Takes 1 (exec g.program g.functions next) w t Falls u → Takes 2 (running g (unless_left more ∷ next ∷ [])) w t Falls u
  next_part next u tests h =
      takes_bind 1 1 (exec g.program g.functions (unless_left more)) (onward (running g (next ∷ []))) w t t u Falls Falls (unless_goes_on tests)
      (takes_bind 1 0 (exec g.program g.functions next) (onward (running g [])) w t u u Falls Falls h (takes_give Falls w u))

-- a type has a node
nodes_some : (b : Written) → 1 ≤ nodes b
nodes_some (Leaf x) = omega arith
nodes_some (Many n a) = omega arith
nodes_some (Struct s row) = omega arith

-- ---- the loop

module _ (g : Setting) (set : Set g) (objects : Map) (lawful : LawfulCalls g.functions) (n : ℕ) (a : Written) (short : n ≤ 65_535) (copies : CopyOf g objects a)
    (areas : Areas) (first : CState) (both_first : BothIn g.program.target g.naming objects areas first.objects) (k o : ℕ) (ty : Written) (p : List ℕ) (ws : Values ℤ) (part_to : PartIn objects areas k o ty p (Many n a) (Parts ws)) (mutable : part_to.is.area.constant ≡ false)
    (j q : ℕ) (source_ty : Written) (r : List ℕ) (us : Values ℤ) (source : PartIn objects areas j q source_ty r (Many n a) (Parts us))
    (us_fit : CellsFit (CanHold (table_of g.program.target)) g.naming (Many n a) (Parts us)) (ws_fit : CellsFit (CanHold (table_of g.program.target)) g.naming (Many n a) (Parts ws))
    (constant source_constant : Bool) (to from : Place) (next : ℕ) (fixed : Fixed g.program objects next first to (At g objects constant o ty p (Many n a))) (fixed_source : Fixed g.program objects next first from (At g objects source_constant q source_ty r (Many n a))) (w : World) where
  abbrev name : Name
  name = local_name next

  -- the counter's object is the first that is made
  abbrev counter : ℕ
  counter = length first.objects

  no_area : OfNoArea objects counter
  no_area i e = let below : counter < length first.objects = both_first.made i counter e in absurd (omega (arith, below))

  abbrev inner : List Stmt
  inner = (copied g.frame a (at_counter next to) (at_counter next from) (suc next)).stmts

  abbrev test : Expr
  test = Binary Ne (Read (Var name)) (Number (n - 1) Plain)

  abbrev step : Stmt
  step = Assign (Var name) (Binary Add (Read (Var name)) (Number 1 Plain))

  abbrev turn : Part CState (Control (Option CValue))
  turn = block leave (running g (inner ++ (unless_left test ∷ step ∷ [])))

  turn_lawful : Lawful turn
  turn_lawful = block_lawful leave _ (exec_all_lawful g.program g.functions lawful (stmts_from (inner ++ (unless_left test ∷ step ∷ []))))

  -- before a turn
  pub record Counted (i : ℕ) (u : CState) : Type 0 where
    pub both : BothIn g.program.target g.naming objects (filled_to areas k p i us ws) u.objects
    pub object : ObjectIs g.program u name counting counter (Some (pos i))
    pub aside : Aside g.program objects next first u

  -- from there on
  pub record Turned (least most : ℕ) (u : CState) : Type 0 where
    pub steps : ℕ
    pub many : least ≤ steps
    pub few : steps ≤ most
    pub new : CState
    pub takes : Takes steps (forever turn) w u Falls new
    pub both : BothIn g.program.target g.naming objects (put_at k p (Parts us) areas) new.objects
    pub aside : Aside g.program objects next first new

  module _ (i : ℕ) (low : i < n) (u : CState) (at : Counted i u) where
    -- the counter stays through the copy of an element
    counter_kept : (z : CState) → Aside g.program objects (suc next) u z → ObjectIs g.program z name counting counter (Some (pos i))
    counter_kept z aside = record {
      slot = aside.kept.names name (temporary_is_old next (suc next) (omega arith)) ∙ at.object.slot;
      shows = (aside.kept.objects_apart counter (object_made g.program u name counting counter (Some (pos i)) at.object) no_area).shows false (Leaf counting) (Some (pos i) ∷ []) at.object.shows;
    }

    -- the place of an element
    element_fixed : (b : Bool) (e : ℕ) (t : Written) (path : List ℕ) (l : Place) → part t path ≡ Some (Many n a) → Fixed g.program objects next first l (At g objects b e t path (Many n a))
        → Fixed g.program objects (suc next) u (at_counter next l) (At g objects b e t (path ++ i ∷ []) a)
    element_fixed b e t path l leads there z aside =
        let whole : Lvalue = At g objects b e t path (Many n a) in
        let known = counter_read g.program z name counter i (counter_kept z aside) (omega (arith, low, short)) in
        ap (λ x. on_ok (on_ok x (member_of g.program.target elements_name)) (λ y. on_ok (c.eval g.program (Read (Var name)) z) (element_of g.program.target y))) (there z (aside_twice g.program objects next (suc next) first u z (omega arith) at.aside aside))
        ∙ ap (λ x. on_ok (member_of g.program.target elements_name whole) (λ y. on_ok x (element_of g.program.target y))) known.gives
        ∙ ap (λ m. on_ok (member_of g.program.target m whole) (λ y. element_of g.program.target y (Num (Scalar counting) (pos i)))) (sym set.elements)
        ∙ (elements_located g.program.target g.naming b e t path n i a (Scalar counting) leads low).1

    element_leads : part (Many n a) (i ∷ []) ≡ Some a
    element_leads = ap (λ b. if b then Some a else None) (lt-ltb i n low)

    pub here : Here g objects areas k o ty p (Many n a) ws part_to mutable j q source_ty r us source i a
    here = part_here g objects areas k o ty p (Many n a) ws part_to mutable j q source_ty r us source i a element_leads us_fit ws_fit

    pub one : Copied g objects (put_at k (p ++ i ∷ []) here.new (filled_to areas k p i us ws)) (nodes a) (4 * nodes a - 3) inner (suc next) (unless_left test ∷ step ∷ []) w u
    one =
        copies (filled_to areas k p i us ws) u at.both k o ty (p ++ i ∷ []) here.old here.part_to_here here.mutable_here j q source_ty (r ++ i ∷ []) here.new here.source_here constant source_constant (at_counter next to) (at_counter next from) (suc next)
        (element_fixed constant o ty p to (leads_to g objects areas k o ty p (Many n a) ws part_to mutable j q source_ty r us source) fixed)
        (element_fixed source_constant q source_ty r from (leads_from g objects areas k o ty p (Many n a) ws part_to mutable j q source_ty r us source) fixed_source)
        (unless_left test ∷ step ∷ []) w

    abbrev behind : CState
    behind = one.new

    both_behind : BothIn g.program.target g.naming objects (filled_to areas k p (suc i) us ws) behind.objects
    both_behind = subst (λ l. BothIn g.program.target g.naming objects l behind.objects) here.one_more one.both

    counter_behind : ObjectIs g.program behind name counting counter (Some (pos i))
    counter_behind = counter_kept behind one.aside

    -- what is done to the counter behind the element
    pub record Changed (v : CState) : Type 0 where
      pub callers : v.frames.callers ≡ behind.frames.callers
      pub count : length v.objects ≡ length behind.objects
      pub others : (e : ℕ) → e ≢ counter → Same (metric_of g.program.target) (memory_of g.program.target) behind.objects v.objects e
      pub living : lives v counter ≡ true

    -- the end of the turn's block
    module _ (v : CState) (changed : Changed v) where
      ends : Left (metric_of g.program.target) (memory_of g.program.target) v.objects (length u.objects) (leave u v).objects
      ends = (lawful_in (table_of g.program.target)).leaves v.objects (length u.objects)

      still_lives : (e : ℕ) → lives behind e ≡ true → (b : Bool) → (e == counter) ≡ b → lives v e ≡ true
      still_lives e h true is = subst (λ x. lives v x ≡ true) (sym (eqb-true e counter is)) changed.living
      still_lives e h false is = (changed.others e (eqb-false e counter is)).live ∙ h

      left_aside : Aside g.program objects next first (leave u v)
      left_aside = record {
        kept = record {
          names = at.aside.kept.names;
          callers = changed.callers ∙ one.aside.kept.callers ∙ at.aside.kept.callers;
          count = (let ended = ends.count in omega (arith, at.aside.kept.count, one.aside.kept.count, changed.count, ended));
          objects_apart = λ e lt none.
              (let within : e < length u.objects = omega (arith, lt, at.aside.kept.count) in
              same_twice (metric_of g.program.target) (memory_of g.program.target) first.objects v.objects (leave u v).objects e
              (same_twice (metric_of g.program.target) (memory_of g.program.target) first.objects behind.objects v.objects e
              (same_twice (metric_of g.program.target) (memory_of g.program.target) first.objects u.objects behind.objects e (at.aside.kept.objects_apart e lt none) (one.aside.kept.objects_apart e within none))
              (changed.others e (λ is. omega (arith, lt, is))))
              (ends.others e within));
        };
        living = λ e lt h.
            (let within : e < length u.objects = omega (arith, lt, at.aside.kept.count) in
            (ends.others e within).live ∙ still_lives e (one.aside.living e within (at.aside.living e lt h)) (e == counter) refl);
      }

      left_both : BothIn g.program.target g.naming objects (filled_to areas k p (suc i) us ws) (leave u v).objects
      left_both =
          both_kept (metric_of g.program.target) (CanHold (table_of g.program.target)) (memory_of g.program.target) g.naming objects (filled_to areas k p (suc i) us ws) (filled_to areas k p (suc i) us ws) behind.objects (leave u v).objects both_behind refl
          (let ended = ends.count in omega (arith, changed.count, ended))
          (λ x e b l. (
            l,
            same_twice (metric_of g.program.target) (memory_of g.program.target) behind.objects v.objects (leave u v).objects e
                (changed.others e (λ is. no_area x (l.object ∙ ap Some is))) (ends.others e (at.both.made x e l.object)),
          ))

    -- ---- a turn

    last_turn : i ≡ n - 1 → Takes (one.steps + 2) turn w u Broke (leave u behind)
    last_turn is =
        takes_block (one.steps + 2) (running g (inner ++ (unless_left test ∷ step ∷ []))) w u behind Broke
        (led_takes one.steps 2 w (running g (inner ++ (unless_left test ∷ step ∷ []))) (running g (unless_left test ∷ step ∷ [])) u behind behind Broke one.reaches
        (last_part g w behind test step (counter_is_last g.program behind name counter i counter_behind (omega (arith, low, short)) (n - 1) (omega (arith, short)) is)))

    unchanged : Changed behind
    unchanged = record {
      callers = refl;
      count = refl;
      others = λ e ne. record { live = refl; reads = λ x. refl; refuses = λ x. refl; shows = λ b t vs h. h };
      living = (lawful_in (table_of g.program.target)).lives behind.objects counter false (Leaf counting) (Some (pos i) ∷ []) counter_behind.shows;
    }

    pub record Stepped : Type 0 where
      pub later : CState
      pub takes : Takes (one.steps + 2) turn w u Falls later
      pub counted : Counted (suc i) later

    next_turn : suc i < n → Stepped
    next_turn on =
        let is = counter_next g.program behind name counter i counter_behind (omega (arith, low, short)) (omega (arith, on, short)) in
        let can = counter_holds (table_of g.program.target) (suc i) (omega (arith, on, short)) in
        let b = takes_assign g w behind name counting counter (Some (pos i)) counter_behind (Binary Add (Read (Var name)) (Number 1 Plain)) (pos (suc i)) is can in
        let v : CState = b.0 in
        let changed : Changed v = record {
          callers = ap (λ f. f.callers) b.2.frames;
          count = b.2.count;
          others = b.2.others;
          living = (lawful_in (table_of g.program.target)).lives v.objects counter false (Leaf counting) (Some (pos (suc i)) ∷ []) b.2.shows;
        } in
        let made : counter < length u.objects = object_made g.program u name counting counter (Some (pos i)) at.object in
        record {
          later = leave u v;
          takes = takes_block (one.steps + 2) (running g (inner ++ (unless_left test ∷ step ∷ []))) w u v Falls
              (led_takes one.steps 2 w (running g (inner ++ (unless_left test ∷ step ∷ []))) (running g (unless_left test ∷ step ∷ [])) u behind v Falls one.reaches
              (next_part g w behind test step v (counter_goes_on g.program behind name counter i counter_behind (omega (arith, low, short)) (n - 1) (omega (arith, short)) (omega (arith, on))) b.1));
          counted = record {
            both = left_both v changed;
            object = object_left g.program u v name counting counter (Some (pos (suc i))) (omega (arith, one.aside.kept.count, changed.count)) made at.object.slot b.2.shows;
            aside = left_aside v changed;
          };
        }

  -- ---- all turns

  pub turns_copied : (more i : ℕ) → i + suc more ≡ n → (u : CState) → Counted i u → Turned (suc more * nodes a) (4 * (suc more * nodes a)) u
  turns_copied zero i all u at =
      let low : i < n = omega (arith, all) in
      let e : Copied g objects (put_at k (p ++ i ∷ []) (here i low u at).new (filled_to areas k p i us ws)) (nodes a) (4 * nodes a - 3) inner (suc next) (unless_left test ∷ step ∷ []) w u = one i low u at in
      let has : many us ≡ suc i = each_many n _ us us_fit ∙ omega (arith, all) in
      let had : many ws ≡ suc i = each_many n _ ws ws_fit ∙ omega (arith, all) in
      let still = unchanged i low u at in
      record {
        steps = suc (e.steps + 2 + 0);
        many = omega (arith, e.many);
        few = omega (arith, e.few, nodes_some a);
        new = leave u e.new;
        takes = turns_end turn turn_lawful w (e.steps + 2) u (leave u e.new) (last_turn i low u at (omega (arith, all)));
        both = last_all g objects areas k o ty p (Many n a) ws part_to mutable j q source_ty r us source (suc i) has had (leave u e.new) (left_both i low u at e.new still);
        aside = left_aside i low u at e.new still;
      }
  turns_copied (suc more) i all u at =
      let low : i < n = omega (arith, all) in
      let e : Copied g objects (put_at k (p ++ i ∷ []) (here i low u at).new (filled_to areas k p i us ws)) (nodes a) (4 * nodes a - 3) inner (suc next) (unless_left test ∷ step ∷ []) w u = one i low u at in
      let stepped : Stepped i low u at = next_turn i low u at (omega (arith, all)) in
      let later : Turned (suc more * nodes a) (4 * (suc more * nodes a)) stepped.later = turns_copied more (suc i) (omega (arith, all)) stepped.later stepped.counted in
      let sum : suc (suc more) * nodes a ≡ nodes a + suc more * nodes a = omega arith in
      record {
        steps = suc (e.steps + 2 + later.steps);
        many = omega (arith, e.many, later.many, sum);
        few = omega (arith, e.few, later.few, sum, nodes_some a);
        new = later.new;
        takes = turns_go_on turn turn_lawful w (e.steps + 2) later.steps u stepped.later later.new stepped.takes later.takes;
        both = later.both;
        aside = later.aside;
      }

-- ---- the counter, and then the loop

module _ (g : Setting) (set : Set g) (objects : Map) (lawful : LawfulCalls g.functions) (n : ℕ) (a : Written) (some : 1 ≤ n) (short : n ≤ 65_535) (copies : CopyOf g objects a)
    (areas : Areas) (u : CState) (both : BothIn g.program.target g.naming objects areas u.objects) (k o : ℕ) (ty : Written) (p : List ℕ) (ws : Values ℤ) (part_to : PartIn objects areas k o ty p (Many n a) (Parts ws)) (mutable : part_to.is.area.constant ≡ false)
    (j q : ℕ) (source_ty : Written) (r : List ℕ) (us : Values ℤ) (source : PartIn objects areas j q source_ty r (Many n a) (Parts us))
    (constant source_constant : Bool) (to from : Place) (next : ℕ) (fixed : Fixed g.program objects next u to (At g objects constant o ty p (Many n a))) (fixed_source : Fixed g.program objects next u from (At g objects source_constant q source_ty r (Many n a))) (rest : List Stmt) (w : World) where
  us_fit : CellsFit (CanHold (table_of g.program.target)) g.naming (Many n a) (Parts us)
  us_fit = holds_form g objects areas u both j q source_ty r (Many n a) (Parts us) source

  ws_fit : CellsFit (CanHold (table_of g.program.target)) g.naming (Many n a) (Parts ws)
  ws_fit = holds_form g objects areas u both k o ty p (Many n a) (Parts ws) part_to

  zero_is : Converts g.program u counting (Number 0 Plain) (pos 0)
  zero_is =
      let known = constant_gives g.program 0 u (lit< tt) in
      record { kind = known.0; number = pos 0; gives = known.1; converted = held_converts (table_of g.program.target) (Scalar counting) (pos 0) (counter_holds (table_of g.program.target) 0 (omega arith)) }

  declared : (v : CState) × Takes 1 (exec g.program g.functions (counter_of (local_name next) (Number 0 Plain))) w u Falls v × Declared g w u next counting (Some (pos 0)) v
  declared = takes_object_with g w u next counting (Number 0 Plain) (pos 0) zero_is (counter_holds (table_of g.program.target) 0 (omega arith))

  abbrev begun : CState
  begun = declared.0

  begins : Counted g set objects lawful n a short copies areas u both k o ty p ws part_to mutable j q source_ty r us source us_fit ws_fit constant source_constant to from next fixed fixed_source w 0 begun
  begins = record {
    both = first_none g objects areas k o ty p (Many n a) ws part_to mutable j q source_ty r us source begun
        (both_kept (metric_of g.program.target) (CanHold (table_of g.program.target)) (memory_of g.program.target) g.naming objects areas areas u.objects begun.objects both refl declared.2.kept.count (λ x e b l. (l, declared.2.kept.objects e (both.made x e l.object))));
    object = declared.2.object;
    aside = aside_kept g.program objects next u begun declared.2.kept;
  }

  pub elements_copied : Copied g objects (put_at k p (Parts us) areas) (nodes (Many n a)) (4 * nodes (Many n a) - 3) (copied g.frame (Many n a) to from next).stmts next rest w u
  elements_copied =
      let length_is : 0 + suc (n - 1) ≡ n = omega (arith, some) in
      let loop = turns_copied g set objects lawful n a short copies areas u both k o ty p ws part_to mutable j q source_ty r us source us_fit ws_fit constant source_constant to from next fixed fixed_source w (n - 1) 0 length_is begun begins in
      let same : suc (n - 1) ≡ n = omega (arith, some) in
      let count : suc (n - 1) * nodes a ≡ n * nodes a = ap (λ m. m * nodes a) same in
      let statements : List Stmt = (copied g.frame (Many n a) to from next).stmts in
      let looping : Stmt = Forever (stmts_from ((copied g.frame a (at_counter next to) (at_counter next from) (suc next)).stmts ++ (unless_left (Binary Ne (Read (Var (local_name next))) (Number (n - 1) Plain)) ∷ Assign (Var (local_name next)) (Binary Add (Read (Var (local_name next))) (Number 1 Plain)) ∷ []))) in
      record {
        steps = 1 + loop.steps;
        many = omega (arith, loop.many, count);
        few = omega (arith, loop.few, count);
        new = loop.new;
        reaches = reaches_more 1 loop.steps w (λ m. running g (statements ++ rest) m w u) (λ m. running g (looping ∷ rest) m w begun) (λ m. running g rest m w loop.new)
            (runs_first g 1 (counter_of (local_name next) (Number 0 Plain)) (looping ∷ rest) w u begun declared.1)
            (runs_first g loop.steps looping rest w begun loop.new loop.takes);
        both = loop.both;
        aside = loop.aside;
      }

pub array_copied : (g : Setting) → Set g → (objects : Map) → LawfulCalls g.functions → (n : ℕ) (a : Written) → 1 ≤ n → n ≤ 65_535 → CopyOf g objects a → CopyOf g objects (Many n a)
array_copied g set objects lawful n a some few copies areas u both k o ty p (Parts ws) part_to mutable j q source_ty r (Parts us) source constant source_constant to from next fixed fixed_source rest w =
    elements_copied g set objects lawful n a some few copies areas u both k o ty p ws part_to mutable j q source_ty r us source constant source_constant to from next fixed fixed_source rest w
array_copied g set objects lawful n a some few copies areas u both k o ty p (Cell i) part_to mutable j q source_ty r new source constant source_constant to from next fixed fixed_source rest w =
    absurd (holds_form g objects areas u both k o ty p (Many n a) (Cell i) part_to)
array_copied g set objects lawful n a some few copies areas u both k o ty p (Parts ws) part_to mutable j q source_ty r (Cell i) source constant source_constant to from next fixed fixed_source rest w =
    absurd (holds_form g objects areas u both j q source_ty r (Many n a) (Cell i) source)
