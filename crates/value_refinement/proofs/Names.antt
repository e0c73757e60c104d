-- Names and literals: nothing runs before them, and they stand for their values in every state that stays related.
use Rattle.std.proofs.Common.{◌≡◌, ℕ, ◌+◌, ℤ, Bool, true, false, List, [], ◌++◌, Option, Some, None, Ok, Err, Result, refl, sym, ◌∙◌, ap, subst, arith}
use Rattle.std.specs.Prelude.{if◌then◌else◌, is_some, slice_get}
use Rattle.step_semantics.specs.Control.{Control}
use Rattle.step_semantics.specs.Follows.{Follows}
use Rattle.step_semantics.specs.Steps.{World, Progress, Part, bind, after, give}
use Rattle.step_semantics.proofs.Following.{eased}
use Rattle.type_trees.specs.Trees.{Leaf, Many, Struct}
use Rattle.area_types.specs.Syntax.{ValueType}
use Rattle.core_tree.specs.Syntax as core
use Rattle.core_tree.specs.Syntax.{ExprCore, Label, type_of}
use Rattle.core_tree.specs.TypedExpressions.{ExprTyped}
use Rattle.core_meaning.specs.Areas.{type_at}
use Rattle.core_meaning.specs.Checks.{lost, on_some}
use Rattle.core_meaning.specs.Expressions.{found, eval}
use Rattle.core_meaning.specs.Gives.{NameGives, Gives}
use Rattle.core_meaning.specs.State.{State, value_of}
use Rattle.core_meaning.specs.Values.{Value, Num, Ref}
use Rattle.c_ast.specs.declared.CKind.TheVariants.{Scalar}
use Rattle.c_ast.specs.declared.CScalar.{CScalar}
use Rattle.c_ast.specs.Syntax.{Name, Expr, Read, Address, Place, Var, At}
use Rattle.c_meaning.specs.Expressions as c
use Rattle.c_meaning.specs.Places.{Lvalue, Known, Located, address_of}
use Rattle.c_meaning.specs.State.{CState}
use Rattle.c_meaning.specs.Values as target
use Rattle.c_meaning.specs.Values.{CValue, Trouble, on_ok}
use Rattle.area_objects.specs.Both.{Map}
use Rattle.lower_types.specs.Types.{scalar_for}
use Rattle.lower_values.specs.Expressions.{raw, place, value_piece, place_piece, reference, local_value, local_place, area_place}
use Rattle.lower_values.specs.Frames.{is_object, name_of}
use Rattle.lower_values.specs.Pieces.{Piece, PlacePiece}
use Rattle.value_refinement.specs.Laws.{RawFollows, PlaceFollows, running}
use Rattle.value_refinement.specs.Related.{is_constant, PlaceIs, NameStands, Related}
use Rattle.value_refinement.specs.Settings.{Setting, Set}
use Rattle.value_refinement.specs.Values.{Comes, Arrives, StandsFor}
use Rattle.value_refinement.proofs.Keeping.{kept_same}
use Rattle.value_refinement.proofs.Operands.{Onward, PieceFollows, as_piece, as_raw}
use Rattle.value_refinement.proofs.Standings.{related_on}

module _ (g : Setting) (set : Set g) (objects : Map) (s : State) where
  -- ---- what stands by itself

  -- what follows from each value that the part may give follows from the part
  abbrev pub Runs : Part State Value → (given : Value → Type 0) → Type 1
  Runs part given =
      (A : Type 0) (post : A → State → Control (Option CValue) → CState → Type 0) (go : Value → Part State A) (x y : ℕ) (f : ℕ → Progress CState (Control (Option CValue))) (n : ℕ) (w : World)
      → ((v : Value) → given v → Follows g.frame.skip post x y n (go v n w s) f) → Follows g.frame.skip post x y n (bind part go n w s) f

  -- nothing runs before a piece that stands in every related state
  pub ready : (part : Part State Value) (given : Value → Type 0) (ty : ValueType) (d : Expr) → Runs part given
      → ((v : Value) → given v → (w : CState) (k : ℕ) → Related g objects s w → StandsFor g objects s (value_piece d k) ty w v)
      → PieceFollows g set objects s part given ty (λ from. value_piece d from)
  ready part given ty d runs stands A post go rest x y from le t related onward n w =
      runs A post go x y (λ j. running g rest j w t) n w
      (λ v gives.
      eased g.frame.skip post (x + 0) y x y n (go v n w s) (λ j. running g rest j w t) (omega arith) (omega arith)
      (onward v t gives (record {
        grows = omega arith;
        kept = kept_same g.program from t;
        stands = λ z kept. stands v gives z from (related_on g set objects s from le t z kept related);
      }) n w))

  -- nor before a place
  pub ready_place : (e : ExprCore) (to : Place) → Runs (eval g.frame.core g.outcome e) (Gives g.frame.core g.outcome s e) → ((from : ℕ) → place g.frame e from ≡ place_piece to from)
      → ((n : ℤ) → Gives g.frame.core g.outcome s e (Num n) → ⊥)
      → ((k : ℕ) (path : List ℕ) → Gives g.frame.core g.outcome s e (Ref k path) → (w : CState) → Related g objects s w → PlaceIs g objects s.areas w (is_constant (type_of e)) to k path)
      → PlaceFollows g objects s e
  ready_place e to runs is number stands A post go rest x y from le t related goes n w =
      subst (λ q. Follows g.frame.skip post x y n (bind (eval g.frame.core g.outcome e) go n w s) (λ j. running g (q.before ++ rest) j w t)) (sym (is from))
      (runs A post go x y (λ j. running g rest j w t) n w by_value)
    where
      by_value : (v : Value) → Gives g.frame.core g.outcome s e v → Follows g.frame.skip post x y n (go v n w s) (λ j. running g rest j w t)
      by_value (Num i) gives = absurd (number i gives)
      by_value (Ref k path) gives =
          goes.by k path t gives
          (subst (λ (q : PlacePiece). Arrives g objects s from q.place q.next (type_of e) t k path t) (sym (is from))
          (record { grows = omega arith; kept = kept_same g.program from t; stands = λ z kept. stands k path gives z (related_on g set objects s from le t z kept related) }))
          n w

  -- ---- names

  -- a name that is read: none, a number, or a reference that leads somewhere
  name_runs : (named : Option Value) → Runs (λ n w u. on_some g.frame.core named (found g.frame.core u.areas) n w u) (NameGives s named)
  name_runs None A post go x y f n w next = tt
  name_runs (Some (Num v)) A post go x y f n w next = next (Num v) (record { has = refl; leads = tt })
  name_runs (Some (Ref k path)) A post go x y f n w next = by_test (is_some (type_at s.areas k path)) refl where
    by_test : (b : Bool) → is_some (type_at s.areas k path) ≡ b → Follows g.frame.skip post x y n (after ((if b then give (Ref k path) else lost g.frame.core) n w s) go) f
    by_test true e = next (Ref k path) (record { has = refl; leads = e })
    by_test false e = tt

  -- `result`
  outcome_runs : (named : Option Value) → Runs (on_some g.frame.core named give) (λ v. named ≡ Some v)
  outcome_runs None A post go x y f n w next = tt
  outcome_runs (Some v) A post go x y f n w next = next v refl

  -- an object's address is no number
  no_number : (l : Result Lvalue Trouble) (k : CScalar) (n : ℤ) → on_ok l address_of ≡ Ok (target.Num (Scalar k) n) → ⊥
  no_number (Ok (Known v)) k n e = let no : ⊥ = cc in absurd no
  no_number (Ok (Located c to (Leaf i))) k n e = let no : ⊥ = cc in absurd no
  no_number (Ok (Located c to (Many i a))) k n e = let no : ⊥ = cc in absurd no
  no_number (Ok (Located c to (Struct i a))) k n e = let no : ⊥ = cc in absurd no
  no_number (Err trouble) k n e = let no : ⊥ = cc in absurd no

  -- of an object's name the address, and of another the value
  name_stands_for : (b : Bool) (x : Name) (ty : ValueType) (v : Value) (w : CState) (k : ℕ) → NameStands g objects s.areas w ty (if b then Address (Var x) else Read (Var x)) (if b then Var x else At (Read (Var x))) v
      → StandsFor g objects s (value_piece (if b then Address (Var x) else Read (Var x)) k) ty w v
  name_stands_for true x ty (Num n) w k h = absurd (no_number (c.eval_place g.program (Var x) w) (scalar_for g.frame.table ty) n h.gives)
  name_stands_for true x ty (Ref i path) w k h = h.pointer
  name_stands_for false x ty (Num n) w k h = (refl, h)
  name_stands_for false x ty (Ref i path) w k h = h.pointer

  -- a local
  module _ (l : Label) (x : ℕ) (typed : ExprTyped g.env g.scope (core.Local l x)) where
    pub local_follows : RawFollows g objects s (core.Local l x)
    local_follows =
        as_raw g set objects s (core.Local l x)
        (ready (eval g.frame.core g.outcome (core.Local l x)) (Gives g.frame.core g.outcome s (core.Local l x)) l.ty (local_value g.frame x) (name_runs (value_of x s))
        (λ v gives w k related. name_stands_for (is_object g.frame x) (name_of g.frame x) l.ty v w k (related.locals x l.ty v typed.in_scope typed.type gives.has)))

    pub local_place_follows : ((n : ℤ) → Gives g.frame.core g.outcome s (core.Local l x) (Num n) → ⊥) → PlaceFollows g objects s (core.Local l x)
    local_place_follows refers =
        ready_place (core.Local l x) (local_place g.frame x) (name_runs (value_of x s)) (λ from. refl) refers (λ k path gives w related. related.locals x l.ty (Ref k path) typed.in_scope typed.type gives.has)

  -- `result`
  module _ (l : Label) (typed : ExprTyped g.env g.scope (core.Outcome l)) where
    outcome_stands : (v : Value) (w : CState) → Related g objects s w → g.outcome ≡ Some v → NameStands g objects s.areas w l.ty g.frame.outcome (At g.frame.outcome) v
    outcome_stands v w related has = related.result l.ty v typed.outcome has

    outcome_stands_for : (v : Value) (w : CState) (k : ℕ) (d : Expr) (x : Name) → d ≡ Read (Var x) → NameStands g objects s.areas w l.ty d (At d) v → StandsFor g objects s (value_piece d k) l.ty w v
    outcome_stands_for v w k d x is h = subst (λ e. NameStands g objects s.areas w l.ty e (At e) v → StandsFor g objects s (value_piece e k) l.ty w v) (sym is) (λ q. name_stands_for false x l.ty v w k q) h

    pub outcome_follows : RawFollows g objects s (core.Outcome l)
    outcome_follows =
        as_raw g set objects s (core.Outcome l)
        (ready (eval g.frame.core g.outcome (core.Outcome l)) (Gives g.frame.core g.outcome s (core.Outcome l)) l.ty g.frame.outcome (outcome_runs g.outcome)
        (λ v gives w k related. (let o = set.result l.ty typed.outcome in outcome_stands_for v w k g.frame.outcome o.name o.is (outcome_stands v w related gives))))

    pub outcome_place_follows : ((n : ℤ) → Gives g.frame.core g.outcome s (core.Outcome l) (Num n) → ⊥) → PlaceFollows g objects s (core.Outcome l)
    outcome_place_follows refers =
        ready_place (core.Outcome l) (At g.frame.outcome) (outcome_runs g.outcome) (λ from. refl) refers (λ k path gives w related. outcome_stands (Ref k path) w related gives)

  -- ---- areas of the module

  module _ (l : Label) (x : ℕ) (typed : ExprTyped g.env g.scope (core.AreaName l x)) where
    no_area_number : (n : ℤ) → Gives g.frame.core g.outcome s (core.AreaName l x) (Num n) → ⊥
    no_area_number n gives = let same : Some (Ref x []) ≡ Some (Num n) = gives.has in let no : ⊥ = cc in no

    area_is : (k : ℕ) (path : List ℕ) → Gives g.frame.core g.outcome s (core.AreaName l x) (Ref k path) → (w : CState) → Related g objects s w → PlaceIs g objects s.areas w (is_constant l.ty) (area_place g.frame x) k path
    area_is k path gives w related =
        let same : Some (Ref x []) ≡ Some (Ref k path) = gives.has in
        let number : x ≡ k = cc in
        let empty : [] ≡ path = cc in
        let there : slice_get g.frame.core.areas x ≡ Some typed.area = ap (λ m. slice_get m.areas x) (sym set.core) ∙ typed.found in
        subst (λ b. PlaceIs g objects s.areas w b (area_place g.frame x) k path) (sym (ap is_constant typed.type))
        (subst (λ i. PlaceIs g objects s.areas w typed.area.constant (area_place g.frame x) i path) number
        (subst (λ q. PlaceIs g objects s.areas w typed.area.constant (area_place g.frame x) x q) empty (related.globals x typed.area there)))

    pub area_place_follows : PlaceFollows g objects s (core.AreaName l x)
    area_place_follows = ready_place (core.AreaName l x) (area_place g.frame x) (name_runs (Some (Ref x []))) (λ from. refl) no_area_number area_is

  -- ---- references as values

  -- where a place leads, its address leads
  pub reference_follows : (e : ExprCore) → PlaceFollows g objects s e → ((from : ℕ) → raw g.frame e from ≡ reference (place g.frame e from)) → ((n : ℤ) → Gives g.frame.core g.outcome s e (Num n) → ⊥) → RawFollows g objects s e
  reference_follows e follows is number A post go rest x y from le t related goes n w =
      subst (λ q. Follows g.frame.skip post x y n (bind (eval g.frame.core g.outcome e) go n w s) (λ j. running g (q.before ++ rest) j w t)) (sym (is from))
      (follows A post go rest x y from le t related (record { by = on }) n w)
    where
      on : (k : ℕ) (path : List ℕ) (u : CState) → Gives g.frame.core g.outcome s e (Ref k path) → Arrives g objects s from (place g.frame e from).place (place g.frame e from).next (type_of e) t k path u
          → (m : ℕ) (z : World) → Follows g.frame.skip post x y m (go (Ref k path) m z s) (λ j. running g rest j z u)
      on k path u gives arrives m z =
          let here : Comes g objects s from (reference (place g.frame e from)) (type_of e) t (Ref k path) u = record { grows = arrives.grows; kept = arrives.kept; stands = λ v kept. (arrives.stands v kept).pointer } in
          let onward : Onward g set objects s post go rest x y from (reference (place g.frame e from)) (Gives g.frame.core g.outcome s e) (type_of e) t =
          subst (λ (q : Piece). Onward g set objects s post go rest x y from q (Gives g.frame.core g.outcome s e) (type_of e) t) (is from) goes.by in
          eased g.frame.skip post (x + 0) y x y m (go (Ref k path) m z s) (λ j. running g rest j z u) (omega arith) (omega arith) (onward (Ref k path) u gives here m z)

  -- ---- the last of a chain

  module _ (l : Label) (e : ExprCore) (typed : ExprTyped g.env g.scope (core.Whole l e)) where
    pub whole_follows : RawFollows g objects s e → RawFollows g objects s (core.Whole l e)
    whole_follows follows =
        as_raw g set objects s (core.Whole l e)
        (subst (λ ty. PieceFollows g set objects s (eval g.frame.core g.outcome e) (Gives g.frame.core g.outcome s e) ty (raw g.frame e)) (sym typed.1.type) (as_piece g set objects s e follows))

    pub whole_place_follows : PlaceFollows g objects s e → PlaceFollows g objects s (core.Whole l e)
    whole_place_follows follows A post go rest x y from le t related goes n w =
        follows A post go rest x y from le t related
        (record { by = λ k path u gives arrives m z. goes.by k path u gives (subst (λ ty. Arrives g objects s from (place g.frame e from).place (place g.frame e from).next ty t k path u) (sym typed.1.type) arrives) m z }) n w
