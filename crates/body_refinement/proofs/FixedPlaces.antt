-- The place of a reference reads no memory but that of counters and temporaries: so it stays where it is while areas are written.
use Rattle.std.proofs.Common.{◌≡◌, ℕ, ◌<◌, ◌≤◌, ℤ, Bool, true, false, List, [], ◌∷◌, ◌++◌, length, Contains, slice_get, Option, Some, None, Result, Ok, Err, IsTrue, refl, sym, ◌∙◌, ap, subst, arith, append-nil}
use Rattle.std.specs.Prelude.{if◌then◌else◌, ◌&&◌}
use Rattle.run_records.specs.declared.Reason.TheVariants as reason
use Rattle.step_semantics.specs.Control.{Control, Falls, Broke, Returned, onward}
use Rattle.step_semantics.specs.Follows.{Follows}
use Rattle.step_semantics.specs.Steps.{World, Progress, Finished, Halted, Exhausted, Part, give, after, bind}
use Rattle.step_semantics.proofs.Equations.{after_give, after_after, after_same}
use Rattle.step_semantics.proofs.Following.{as_is, bound, rests}
use Rattle.type_trees.specs.Trees.{Leaf, Many, Struct}
use Rattle.area_types.specs.Syntax.{ValueType}
use Rattle.region_check.specs.Calls.{reference_of}
use Rattle.source_types.specs.Values.{is_reference}
use Rattle.core_tree.specs.Checks.{expr_checks}
use Rattle.core_tree.specs.Syntax as core
use Rattle.core_tree.specs.Syntax.{AreaCore, ExprCore, type_of}
use Rattle.core_tree.specs.TypedExpressions.{ExprTyped}
use Rattle.core_meaning.specs.Expressions.{eval as source_eval}
use Rattle.core_meaning.specs.Gives.{Gives}
use Rattle.core_meaning.specs.State.{State, value_of}
use Rattle.core_meaning.specs.Values as source
use Rattle.core_meaning.specs.Values.{Value, Ref}
use Rattle.c_memory.specs.Access.{Fault, Dead}
use Rattle.c_ast.specs.declared.CBase.{CBase}
use Rattle.c_ast.specs.declared.CKind.TheVariants.{Scalar}
use Rattle.c_ast.specs.declared.CScalar.{CScalar}
use Rattle.c_ast.specs.Conversions.{can_hold}
use Rattle.c_ast.specs.Names.{named}
use Rattle.c_ast.specs.Structs.{CTree, tree}
use Rattle.c_ast.specs.Syntax.{Name, Expr, Read, Place, Var, At, Member, Element, Stmt}
use Rattle.c_ast.specs.Targets.{table_of}
use Rattle.c_ast.specs.View.{stmts_from}
use Rattle.c_meaning.specs.Expressions.{eval, eval_place}
use Rattle.c_meaning.specs.Memory.{memory_of, answered}
use Rattle.c_meaning.specs.Places.{Lvalue, Known, Located, or_outer, file_place, alive, of_scalar, read, pointee, member_of, element_of}
use Rattle.c_meaning.specs.State.{Program, CState, Slot, Holding, Naming, lives}
use Rattle.c_meaning.specs.Statements.{exec, exec_all}
use Rattle.c_meaning.specs.Values as target
use Rattle.c_meaning.specs.Values.{CValue, Trouble, Undefined, Stuck, Ptr, on_ok}
use Rattle.area_objects.specs.Both.{Map}
use Rattle.area_objects.specs.Located.{located}
use Rattle.area_objects.proofs.Alike.{lawful_in}
use Rattle.lower_types.specs.Names.{local_name, item_name, elements_name}
use Rattle.lower_values.specs.Expressions.{raw, place, name_or_empty, area_place, field_in, index_piece}
use Rattle.lower_values.specs.Frames.{Frame, is_object, name_of, type_in}
use Rattle.lower_values.specs.Pieces.{Piece, PlacePiece, named as named_piece, pad, has_number, stays}
use Rattle.value_refinement.specs.Laws.{Numbered, Stage, running}
use Rattle.value_refinement.specs.Related.{is_constant, Related}
use Rattle.value_refinement.specs.Settings.{Setting, Set, IsOld}
use Rattle.value_refinement.specs.Values.{Arrives}
use Rattle.value_refinement.proofs.Expressions.{place_all}
use Rattle.value_refinement.proofs.Growing.{raw_grows, place_grows}
use Rattle.value_refinement.proofs.Keeping.{kept_same, older}
use Rattle.value_refinement.proofs.Objects.{temporary_is_old}
use Rattle.value_refinement.proofs.Standings.{item_is_old}
use Rattle.statement_refinement.specs.Apart.{OfNoArea, IsApart, CountersApart}
use Rattle.statement_refinement.proofs.Written.{counters_kept}
use Rattle.body_refinement.proofs.Aside.{Aside}
use Rattle.body_refinement.proofs.Atoms.{Atom, Free, Kept, Scoped, Declared, declared_more, declared_behind, index_atom}
use Rattle.body_refinement.proofs.Declaring.{Fresh, Leaves, QuietRow, declared_fresh}
use Rattle.body_refinement.proofs.QuietPieces.{place_quiet}

-- the place stays where it is
abbrev pub Stays : Setting → Map → ℕ → CState → Place → Type 0
Stays g objects k u to = (w : CState) → Aside g.program objects k u w → eval_place g.program to w ≡ eval_place g.program to u

module _ (g : Setting) (objects : Map) (s : State) where
  -- as GoesTo, of a place that stays
  pub record GoesStaying {A : Type 0} (post : A → State → Control (Option CValue) → CState → Type 0) (go : Value → Part State A) (rest : List Stmt) (x y from : ℕ) (p : PlacePiece) (e : ExprCore) (t : CState) : Type 0 where
    pub by : (k : ℕ) (path : List ℕ) (u : CState) → Gives g.frame.core g.outcome s e (Ref k path) → Arrives g objects s from p.place p.next (type_of e) t k path u → Stays g objects p.next u p.place
        → (m : ℕ) (w : World) → Follows g.frame.skip post x y m (go (Ref k path) m w s) (λ j. running g rest j w u)

  abbrev pub PlaceStays : ExprCore → Type 1
  PlaceStays e =
      (A : Type 0) (post : A → State → Control (Option CValue) → CState → Type 0) (go : Value → Part State A) (rest : List Stmt) (x y from : ℕ) → g.first ≤ from
      → (t : CState) → Related g objects s t → CountersApart g objects s t → GoesStaying {A = A} post go rest x y from (place g.frame e from) e t
      → (n : ℕ) (w : World) → Follows g.frame.skip post x y n (bind (source_eval g.frame.core g.outcome e) go n w s) (λ j. running g ((place g.frame e from).before ++ rest) j w t)

-- ---- what is read of names

module _ (g : Setting) (objects : Map) (k : ℕ) (u w : CState) (aside : Aside g.program objects k u w) where
  abbrev p : Program
  p = g.program

  made_before : (o : ℕ) → lives u o ≡ true → o < length u.objects
  made_before o e = (lawful_in (table_of p.target)).numbered u.objects o e

  object_stays : (o : ℕ) → OfNoArea objects o → (b : CTree) (v : CValue) → read p.target u (Located false (record { object = o; offset = 0 }) b) ≡ Ok v → read p.target w (Located false (record { object = o; offset = 0 }) b) ≡ Ok v
  object_stays o none (Leaf kind) v e = go (lives u o) refl where
    go : (l : Bool) → lives u o ≡ l → read p.target w (Located false (record { object = o; offset = 0 }) (Leaf kind)) ≡ Ok v
    go true is = ap (λ r. on_ok (answered r) (of_scalar p.target kind)) ((aside.kept.objects_apart o (made_before o is) none).reads (0, kind)) ∙ e
    go false is = let dead : (memory_of p.target).read u.objects o (0, kind) ≡ Err Dead = (lawful_in (table_of p.target)).dead_reads u.objects o (0, kind) is in let no : ⊥ = cc in absurd no
  object_stays o none (Many n a) v e = let no : ⊥ = cc in absurd no
  object_stays o none (Struct n a) v e = let no : ⊥ = cc in absurd no

  alive_stays : (v r : CValue) → alive u v ≡ Ok r → alive w v ≡ Ok r
  alive_stays (target.Num kind n) r e = e
  alive_stays (Ptr c b to) r e = go (lives u to.object) refl e where
    go : (l : Bool) → lives u to.object ≡ l → (if l then Ok (Ptr c b to) else Err (Undefined reason.Dead)) ≡ Ok r → alive w (Ptr c b to) ≡ Ok r
    go true is h = ap (λ l. let t : Result CValue Trouble = if l then Ok (Ptr c b to) else Err (Undefined reason.Dead) in t) (aside.living to.object (made_before to.object is) is) ∙ h
    go false is h = let no : ⊥ = cc in absurd no

  slot_stays : (slot : Option Slot) (outer : Result Lvalue Trouble) → IsApart objects slot → (v : CValue) → on_ok (or_outer p.unit.structs slot outer) (read p.target u) ≡ Ok v → on_ok (or_outer p.unit.structs slot outer) (read p.target w) ≡ Ok v
  slot_stays None outer apart v e = absurd apart
  slot_stays (Some (Holding h)) outer apart v e = alive_stays h v e
  slot_stays (Some (Naming o b)) outer apart v e = object_stays o apart (tree p.unit.structs b) v e

  -- no scalar of an object is a pointer
  no_pointer : (kind : CScalar) (r : Result ℤ Fault) (c : Bool) (b : CBase) (to : target.Address) → on_ok (answered r) (of_scalar p.target kind) ≡ Ok (Ptr c b to) → ⊥
  no_pointer kind (Ok i) c b to e = go (can_hold (table_of p.target) (Scalar kind) i) e where
    go : (l : Bool) → (let t : Result CValue Trouble = if l then Ok (target.Num (Scalar kind) i) else Err Stuck in t) ≡ Ok (Ptr c b to) → ⊥
    go true h = cc
    go false h = cc
  no_pointer kind (Err fault) c b to e = cc

  pointer_stays : (l : Result Lvalue Trouble) (c : Bool) (b : CBase) (to : target.Address) → on_ok l (read p.target u) ≡ Ok (Ptr c b to) → on_ok l (read p.target w) ≡ Ok (Ptr c b to)
  pointer_stays (Ok (Known v)) c b to e = alive_stays v (Ptr c b to) e
  pointer_stays (Ok (Located d from (Leaf kind))) c b to e = absurd (no_pointer kind ((memory_of p.target).read u.objects from.object (from.offset, kind)) c b to e)
  pointer_stays (Ok (Located d from (Many n a))) c b to e = let no : ⊥ = cc in absurd no
  pointer_stays (Ok (Located d from (Struct n a))) c b to e = let no : ⊥ = cc in absurd no
  pointer_stays (Err trouble) c b to e = let no : ⊥ = cc in absurd no

  module _ (x : Name) (old : IsOld k x) where
    abbrev outer_place : Result Lvalue Trouble
    outer_place = file_place p.unit.structs 0 p.unit.objects x

    var_stays : eval_place p (Var x) w ≡ eval_place p (Var x) u
    var_stays = ap (λ found. or_outer p.unit.structs found outer_place) (aside.kept.names x old)

    name_stays : IsApart objects (named u.frames.own x) → (v : CValue) → eval p (Read (Var x)) u ≡ Ok v → eval p (Read (Var x)) w ≡ Ok v
    name_stays apart v e = ap (λ found. on_ok (or_outer p.unit.structs found outer_place) (read p.target w)) (aside.kept.names x old) ∙ slot_stays (named u.frames.own x) outer_place apart v e

    pointee_stays : (l : Lvalue) → eval_place p (At (Read (Var x))) u ≡ Ok l → eval_place p (At (Read (Var x))) w ≡ Ok l
    pointee_stays l e = go (eval p (Read (Var x)) u) refl e where
      go : (r : Result CValue Trouble) → eval p (Read (Var x)) u ≡ r → on_ok r (pointee p.unit.structs) ≡ Ok l → eval_place p (At (Read (Var x))) w ≡ Ok l
      go (Ok (target.Num kind n)) is h = let no : ⊥ = cc in absurd no
      go (Ok (Ptr c b to)) is h =
          ap (λ r. on_ok r (pointee p.unit.structs)) (ap (λ r. on_ok r (read p.target w)) var_stays ∙ pointer_stays (eval_place p (Var x) u) c b to is) ∙ h
      go (Err trouble) is h = let no : ⊥ = cc in absurd no

-- ---- places

-- the names in scope of numbers have them
abbrev pub HaveNumbers : Setting → State → Type 0
HaveNumbers g s = (x : ℕ) (ty : ValueType) → Contains g.scope x → slice_get g.env.locals x ≡ Some ty → reference_of ty ≡ None → (n : ℤ) × (value_of x s ≡ Some (source.Num n))

stays_less : (g : Setting) (objects : Map) (j k : ℕ) (u : CState) (to : Place) → j ≤ k → Stays g objects j u to → Stays g objects k u to
stays_less g objects j k u to le h w aside =
    h w (record {
      kept = record { names = λ x old. aside.kept.names x (older j k x le old); callers = aside.kept.callers; count = aside.kept.count; objects_apart = aside.kept.objects_apart };
      living = aside.living;
    })

module _ (g : Setting) (set : Set g) (none : g.env.outcome ≡ None) (objects : Map) (s : State) (numbers : HaveNumbers g s) (u : CState) (apart : CountersApart g objects s u) where
  abbrev f : Frame
  f = g.frame

  atom_stays : (before : List Stmt) (e : Expr) (next : ℕ) → Atom g before e next → g.first ≤ next → ((x : Name) → Declared x before → IsApart objects (named u.frames.own x))
      → (w : CState) → Aside g.program objects next u w → (v : CValue) → eval g.program e u ≡ Ok v → eval g.program e w ≡ Ok v
  atom_stays before e next (Free h) low facts w aside v is = h u w ∙ is
  atom_stays before e next (Kept t) low facts w aside v is =
      subst (λ d. eval g.program d u ≡ Ok v → eval g.program d w ≡ Ok v) (sym t.is)
      (name_stays g objects next u w aside (local_name t.number) (temporary_is_old t.number next t.below) (facts (local_name t.number) t.declared) v) is
  atom_stays before e next (Scoped x ty here type plain same) low facts w aside v is =
      let n = numbers x ty here type plain in
      subst (λ d. eval g.program d u ≡ Ok v → eval g.program d w ≡ Ok v) (sym same)
      (name_stays g objects next u w aside (name_of f x) (older g.first next (name_of f x) low (set.locals x ty type)) (apart x ty n.0 here type n.1) v) is

  empty_old : (k : ℕ) → IsOld k []
  empty_old k j le e = cc

  local_stays : (x : ℕ) (ty : ValueType) → slice_get g.env.locals x ≡ Some ty → (k : ℕ) → g.first ≤ k → (b : Bool) (l : Lvalue) → eval_place g.program (if b then Var (name_of f x) else At (Read (Var (name_of f x)))) u ≡ Ok l
      → Stays g objects k u (if b then Var (name_of f x) else At (Read (Var (name_of f x))))
  local_stays x ty type k low true l e w aside = var_stays g objects k u w aside (name_of f x) (older g.first k (name_of f x) low (set.locals x ty type))
  local_stays x ty type k low false l e w aside = pointee_stays g objects k u w aside (name_of f x) (older g.first k (name_of f x) low (set.locals x ty type)) l e ∙ sym e

  area_stays : (x : ℕ) (a : AreaCore) → slice_get f.core.areas x ≡ Some a → (k : ℕ) → Stays g objects k u (area_place f x)
  area_stays x a there k =
      let is : area_place f x ≡ Var (item_name a.name) = ap (λ found. Var (name_or_empty found)) there in
      subst (Stays g objects k u) (sym is) (λ w aside. var_stays g objects k u w aside (item_name a.name) (item_is_old k a.name))

  member_stays : (k : ℕ) (to : Place) (m : Name) (l : Lvalue) → eval_place g.program (Member to m) u ≡ Ok l → ((inner : Lvalue) → eval_place g.program to u ≡ Ok inner → Stays g objects k u to) → Stays g objects k u (Member to m)
  member_stays k to m l e inner = go (eval_place g.program to u) refl e where
    go : (r : Result Lvalue Trouble) → eval_place g.program to u ≡ r → on_ok r (member_of g.program.target m) ≡ Ok l → Stays g objects k u (Member to m)
    go (Ok at) is h = λ w aside. ap (λ r. on_ok r (member_of g.program.target m)) (inner at is w aside)
    go (Err trouble) is h = let no : ⊥ = cc in absurd no

  element_stays : (k : ℕ) (to : Place) (i : Expr) (l : Lvalue) → eval_place g.program (Element to i) u ≡ Ok l → ((inner : Lvalue) → eval_place g.program to u ≡ Ok inner → Stays g objects k u to)
      → ((w : CState) → Aside g.program objects k u w → (v : CValue) → eval g.program i u ≡ Ok v → eval g.program i w ≡ Ok v) → Stays g objects k u (Element to i)
  element_stays k to i l e inner index = go (eval_place g.program to u) refl (eval g.program i u) refl e where
    go : (r : Result Lvalue Trouble) → eval_place g.program to u ≡ r → (q : Result CValue Trouble) → eval g.program i u ≡ q → on_ok r (λ a. on_ok q (element_of g.program.target a)) ≡ Ok l → Stays g objects k u (Element to i)
    go (Ok at) is (Ok v) same h = λ w aside.
        ap (λ r. on_ok r (λ a. on_ok (eval g.program i w) (element_of g.program.target a))) (inner at is w aside)
        ∙ ap (λ q. on_ok (eval_place g.program to u) (λ a. on_ok q (element_of g.program.target a))) (index w aside v same ∙ sym same)
    go (Ok at) is (Err trouble) same h = let no : ⊥ = cc in absurd no
    go (Err trouble) is q same h = let no : ⊥ = cc in absurd no

  stays_at : (e : ExprCore) → ExprTyped g.env g.scope e → (k : ℕ) → g.first ≤ k → ((x : Name) → Declared x (place f e k).before → IsApart objects (named u.frames.own x)) → (l : Lvalue) → eval_place g.program (place f e k).place u ≡ Ok l
      → Stays g objects (place f e k).next u (place f e k).place
  stays_at (core.Local l x) typed k low facts at e = local_stays x l.ty typed.type k low (is_object f x) at e
  stays_at (core.AreaName l x) typed k low facts at e = area_stays x typed.area (ap (λ m. slice_get m.areas x) (sym set.core) ∙ typed.found) k
  stays_at (core.Outcome l) typed k low facts at e = (let same : None ≡ Some l.ty = sym none ∙ typed.outcome in let no : ⊥ = cc in absurd no)
  stays_at (core.Field l i field) typed k low facts at e =
      member_stays (place f i k).next (place f i k).place (field_in f (type_of i) field) at e (λ inner is. stays_at i typed.0 k low (λ x d. facts x (declared_more x (place f i k).before (pad ∷ []) d)) inner is)
  stays_at (core.Element l i index) typed k low facts at e =
      let q : PlacePiece = place f i k in
      let r : Piece = index_piece f (type_of index) (raw f index q.next) in
      let grown : k ≤ q.next = place_grows f i k in
      let more : q.next ≤ r.next = index_grows index q.next in
      element_stays r.next (Member q.place elements_name) r.value at e
      (λ inner is. member_stays r.next q.place elements_name inner is (λ deeper same. stays_less g objects q.next r.next u q.place more (stays_at i typed.0 k low (λ x d. facts x (declared_more x q.before (r.before ++ pad ∷ []) d)) deeper same)))
      (λ w aside v same.
      atom_stays r.before r.value r.next (index_atom g none index typed.1 (ap reference_of typed.2.index_is) q.next) (omega (arith, low, grown, more))
      (λ x d. facts x (declared_behind x q.before (r.before ++ pad ∷ []) (declared_more x r.before (pad ∷ []) d))) w aside v same)
    where
      index_grows : (i : ExprCore) (n : ℕ) → n ≤ (index_piece f (type_of i) (raw f i n)).next
      index_grows i n = go (has_number (raw f i n).standing && stays (raw f i n)) (raw_grows f i n) where
        go : (b : Bool) → n ≤ (raw f i n).next → n ≤ (if b then raw f i n else named_piece (type_in f (type_of i)) (raw f i n)).next
        go true le = le
        go false le = omega (arith, le)
  stays_at (core.Whole l i) typed k low facts at e = stays_at i typed.0 k low facts at e
  stays_at (core.Number l v) typed k low facts at e = λ w aside. var_stays g objects k u w aside [] (empty_old k)
  stays_at (core.Cast l i) typed k low facts at e = λ w aside. var_stays g objects k u w aside [] (empty_old k)
  stays_at (core.ToIndex l i) typed k low facts at e = λ w aside. var_stays g objects k u w aside [] (empty_old k)
  stays_at (core.WrapIndex l i) typed k low facts at e = λ w aside. var_stays g objects k u w aside [] (empty_old k)
  stays_at (core.MakeBits l i) typed k low facts at e = λ w aside. var_stays g objects k u w aside [] (empty_old k)
  stays_at (core.Raw l i) typed k low facts at e = λ w aside. var_stays g objects k u w aside [] (empty_old k)
  stays_at (core.SetField l i field x) typed k low facts at e = λ w aside. var_stays g objects k u w aside [] (empty_old k)
  stays_at (core.Prefix l o i) typed k low facts at e = λ w aside. var_stays g objects k u w aside [] (empty_old k)
  stays_at (core.Binary l o a b) typed k low facts at e = λ w aside. var_stays g objects k u w aside [] (empty_old k)
  stays_at (core.Cond l c a b) typed k low facts at e = λ w aside. var_stays g objects k u w aside [] (empty_old k)

-- ---- what is known of how C came on

pub record ComesFrom {B : Type 0} (h : ℕ → Progress CState B) (b : B) (u : CState) : Type 0 where
  pub steps : ℕ
  pub world : World
  pub later : ℕ
  pub is : h steps ≡ Finished b world u later

came_from : {A B : Type 0} (skip : ℕ → Bool) (post : A → State → B → CState → Type 0) (x y n : ℕ) (r : Progress State A) (h : ℕ → Progress CState B) → Follows skip post x y n r h → Follows skip (λ a s b u. post a s b u × ComesFrom h b u) x y n r h
came_from skip post x y n (Finished a w s m) h q =
    let b = q.leads.by 0 in
    record { value = q.value; state = q.state; holds = (q.holds, record { steps = b.0; world = w; later = 0; is = b.3 }); leads = q.leads }
came_from skip post x y n (Halted how w seen) h q = q
came_from skip post x y n (Exhausted w) h q = q

-- two rows of statements
rows_run : (g : Setting) (xs ys : List Stmt) (n : ℕ) (w : World) (t : CState) → running g (xs ++ ys) n w t ≡ after (running g xs n w t) (onward (running g ys))
rows_run g [] ys n w t = refl
rows_run g (x ∷ xs) ys n w t =
    let first = exec g.program g.functions x n w t in
    after_same first (onward (running g (xs ++ ys))) (λ c. bind (onward (running g xs) c) (onward (running g ys))) (each (λ m z u. rows_run g xs ys m z u))
    ∙ sym (after_after first (onward (running g xs)) (onward (running g ys)))
  where
    each : ((m : ℕ) (z : World) (u : CState) → running g (xs ++ ys) m z u ≡ after (running g xs m z u) (onward (running g ys)))
        → (c : Control (Option CValue)) (m : ℕ) (z : World) (u : CState) → onward (running g (xs ++ ys)) c m z u ≡ bind (onward (running g xs) c) (onward (running g ys)) m z u
    each h Falls m z u = h m z u
    each h Broke m z u = refl
    each h (Returned v) m z u = refl

module _ (g : Setting) (set : Set g) (none : g.env.outcome ≡ None) (objects : Map) (s : State) (stage : Stage g s) (numbers : HaveNumbers g s) (e : ExprCore) (typed : ExprTyped g.env g.scope e) (small : Numbered (expr_checks e)) (refers : IsTrue (is_reference (type_of e))) where
  module _ (from : ℕ) (le : g.first ≤ from) (t : CState) (related : Related g objects s t) (apart : CountersApart g objects s t) where
    abbrev q : PlacePiece
    q = place g.frame e from

    pub record Landed (v : Value) (s2 : State) (u : CState) : Type 0 where
      pub same : s2 ≡ s
      pub area : ℕ
      pub path : List ℕ
      pub is : v ≡ source.Ref area path
      pub gives : Gives g.frame.core g.outcome s e (source.Ref area path)
      pub arrives : Arrives g objects s from q.place q.next (type_of e) t area path u

    abbrev Came : Value → State → Control (Option CValue) → CState → Type 0
    Came v s2 Falls u = Landed v s2 u
    Came v s2 Broke u = ⊥
    Came v s2 (Returned c) u = ⊥

    landed : (x n : ℕ) (w : World) → Follows g.frame.skip Came x x n (source_eval g.frame.core g.outcome e n w s) (λ j. running g q.before j w t)
    landed x n w =
        subst (λ ss. Follows g.frame.skip Came x x n (source_eval g.frame.core g.outcome e n w s) (λ j. running g ss j w t)) (append-nil q.before)
        (subst (λ r. Follows g.frame.skip Came x x n r (λ j. running g (q.before ++ []) j w t)) (after_give (source_eval g.frame.core g.outcome e n w s))
        (place_all g set objects s stage e typed small refers Value Came give [] x x from le t related
        (record { by = λ k path u gives arrives m z. rests g.frame.skip Came x (source.Ref k path) Falls m z s u (record { same = refl; area = k; path = path; is = refl; gives = gives; arrives = arrives }) }) n w))

    fresh_apart : (slot : Option Slot) → Fresh t slot → IsApart objects slot
    fresh_apart None h = h
    fresh_apart (Some (Holding v)) h = tt
    fresh_apart (Some (Naming o b)) h = λ i is. (let low : o < length t.objects = related.both.made i o is in omega (arith, low, h))

    declared_apart : (u : CState) (w : World) → ComesFrom (λ j. running g q.before j w t) Falls u → (x : Name) → Declared x q.before → IsApart objects (named u.frames.own x)
    declared_apart u w came x d =
        let quiet : QuietRow (d.front ++ d.here ∷ d.back) = subst QuietRow d.is (place_quiet g.frame e from) in
        let fresh = declared_fresh g.program g.functions x d.front d.here d.back d.names quiet w t came.steps in
        let run : exec_all g.program g.functions (stmts_from (d.front ++ d.here ∷ d.back)) came.steps w t ≡ Finished Falls came.world u came.later = ap (λ ss. running g ss came.steps w t) (sym d.is) ∙ came.is in
        fresh_apart (named u.frames.own x) (subst (λ r. Leaves (λ z. Fresh t (named z.frames.own x)) r) run fresh)

    stays_there : (k : ℕ) (path : List ℕ) (u : CState) → Arrives g objects s from q.place q.next (type_of e) t k path u → (w : World) → ComesFrom (λ j. running g q.before j w t) Falls u → Stays g objects q.next u q.place
    stays_there k path u arrives w came =
        let here = arrives.stands u (kept_same g.program q.next u) in
        stays_at g set none objects s numbers u (counters_kept g set objects s from le t u arrives.kept apart) e typed from le (declared_apart u w came) (located g.program.target g.naming (is_constant (type_of e)) here.pointer.object here.pointer.area.ty path here.pointer.content) here.is

    pub place_follows : (A : Type 0) (post : A → State → Control (Option CValue) → CState → Type 0) (go : Value → Part State A) (rest : List Stmt) (x y : ℕ) → GoesStaying g objects s post go rest x y from q e t
        → (n : ℕ) (w : World) → Follows g.frame.skip post x y n (bind (source_eval g.frame.core g.outcome e) go n w s) (λ j. running g (q.before ++ rest) j w t)
    place_follows A post go rest x y goes n w =
        let h : ℕ → Progress CState (Control (Option CValue)) = (λ j. running g q.before j w t) in
        let r : Progress State Value = source_eval g.frame.core g.outcome e n w s in
        as_is g.frame.skip post x y n (after r go) (λ j. running g (q.before ++ rest) j w t) (λ j. after (h j) (onward (running g rest))) (λ j. rows_run g q.before rest j w t)
        (bound g.frame.skip (λ a s2 b u. Came a s2 b u × ComesFrom h b u) post x x y n r h go (onward (running g rest)) (came_from g.frame.skip Came x x n r h (landed x n w)) (λ a s2 b u both m fewer z. on a s2 b u both m z))
      where
        on : (a : Value) (s2 : State) (b : Control (Option CValue)) (u : CState) → Came a s2 b u × ComesFrom (λ j. running g q.before j w t) b u → (m : ℕ) (z : World) → Follows g.frame.skip post x y m (go a m z s2) (λ j. onward (running g rest) b j z u)
        on a s2 Falls u both m z =
            let l : Landed a s2 u = both.0 in
            subst (λ v. Follows g.frame.skip post x y m (go v m z s2) (λ j. running g rest j z u)) (sym l.is)
            (subst (λ c. Follows g.frame.skip post x y m (go (source.Ref l.area l.path) m z c) (λ j. running g rest j z u)) (sym l.same)
            (goes.by l.area l.path u l.gives l.arrives (stays_there l.area l.path u l.arrives w both.1) m z))
        on a s2 Broke u both m z = absurd both.0
        on a s2 (Returned c) u both m z = absurd both.0

pub place_stays : (g : Setting) → Set g → g.env.outcome ≡ None → (objects : Map) (s : State) → Stage g s → HaveNumbers g s → (e : ExprCore) → ExprTyped g.env g.scope e → Numbered (expr_checks e) → IsTrue (is_reference (type_of e)) → PlaceStays g objects s e
place_stays g set none objects s stage numbers e typed small refers A post go rest x y from le t related apart goes n w = place_follows g set none objects s stage numbers e typed small refers from le t related apart A post go rest x y goes n w
