-- An initializer's expressions follow one after another, and what is then written in C gives the cells of the first value, while what it reads
-- is kept.
use Rattle.std.proofs.Common.{◌≡◌, ℕ, zero, suc, ◌+◌, ◌≤◌, ℤ, List, [], ◌∷◌, ◌++◌, map, Option, None, Ok, refl, sym, ◌∙◌, ap, subst, arith, append_assoc, append-nil}
use Rattle.step_semantics.specs.Control.{Control}
use Rattle.step_semantics.specs.Follows.{Follows}
use Rattle.step_semantics.specs.Steps.{World, Part, give, bind, ticks}
use Rattle.step_semantics.proofs.Equations.{after_after}
use Rattle.type_trees.specs.Trees as trees
use Rattle.type_trees.specs.Trees.{repeated}
use Rattle.type_trees.specs.Values as tree
use Rattle.type_trees.specs.Values.{Cell, Parts, Nil, Cons, cells, cells_row, EachOf, FitsRow}
use Rattle.area_types.specs.Syntax.{ValueType}
use Rattle.area_types.specs.Trees.{Written, WrittenRow}
use Rattle.core_tree.specs.Checks.{expr_checks, init_checks, inits_checks}
use Rattle.core_tree.specs.Syntax as core
use Rattle.core_tree.specs.Syntax.{ExprCore, InitCore, InitsCore, type_of}
use Rattle.core_tree.specs.TypedExpressions.{HasType}
use Rattle.core_meaning.specs.Areas.{Held, filled}
use Rattle.core_meaning.specs.Checks.{on_number}
use Rattle.core_meaning.specs.Expressions.{eval}
use Rattle.core_meaning.specs.Gives.{Gives}
use Rattle.core_meaning.specs.Initializers.{field_types, zeros, init_value, init_values}
use Rattle.core_meaning.specs.State.{State}
use Rattle.core_meaning.specs.Values as source
use Rattle.core_meaning.specs.Values.{Value}
use Rattle.c_memory.specs.Initializers as c_values
use Rattle.c_ast.specs.Structs.{CTree}
use Rattle.c_ast.specs.Syntax.{Stmt, Init, One, Inits, NoInits, MoreInits}
use Rattle.c_ast.specs.Targets.{table_of}
use Rattle.c_meaning.specs.Initializers.{number_of}
use Rattle.c_meaning.specs.Memory.{nought}
use Rattle.c_meaning.specs.State.{CState, Program}
use Rattle.c_meaning.specs.Values.{CValue, on_ok}
use Rattle.area_objects.specs.Both.{Map}
use Rattle.area_objects.specs.Holds.{CellsFit, CanHold}
use Rattle.area_objects.specs.Shapes.{Naming, shape, members}
use Rattle.lower_types.specs.Initializers.{zero_part}
use Rattle.lower_types.specs.Types.{scalar_for}
use Rattle.lower_values.specs.Expressions.{raw}
use Rattle.lower_values.specs.Pieces.{Piece, paid}
use Rattle.lower_statements.specs.Locals.{zero_fields, some_element, bracing, rest_of, InitPiece, InitsPiece, init_piece, inits_piece}
use Rattle.value_refinement.specs.Kept.{Kept}
use Rattle.value_refinement.specs.Laws.{Numbered, Stage, owing, spare, running}
use Rattle.value_refinement.specs.Related.{Related}
use Rattle.value_refinement.specs.Settings.{Setting}
use Rattle.value_refinement.specs.Values.{Comes}
use Rattle.value_refinement.proofs.Expressions.{raw_all}
use Rattle.value_refinement.proofs.Given.{first_checks, last_checks}
use Rattle.value_refinement.proofs.Keeping.{kept_same, kept_twice}
use Rattle.value_refinement.proofs.Operands.{stands_assigned, padded}
use Rattle.value_refinement.proofs.Standings.{related_on}
use Rattle.value_refinement.proofs.Types.{given_holds}
use Rattle.body_refinement.specs.Bodies.{Lowered, env_in, within}
use Rattle.body_refinement.proofs.Braces.{parts_in_numbers, zero_parts, initial_parts, member_types, InitGives, InitsGive, one_gives, none_give, more_give, struct_gives, array_gives}
use Rattle.body_refinement.proofs.Coming.{set_in}
use Rattle.body_refinement.proofs.InitTypes.{WrittenTyped, AllTyped}
use Rattle.body_refinement.proofs.Zeros.{filled_zero, filled_fits, filled_gives, zero_part_gives}

-- ---- rows of types

shapes_repeated : (g : Naming) (n : ℕ) (a : Written) → map (shape g) (repeated n (a ∷ [])) ≡ repeated n (shape g a ∷ [])
shapes_repeated g zero a = refl
shapes_repeated g (suc n) a = ap (λ l. shape g a ∷ l) (shapes_repeated g n a)

shapes_of_fields : (g : Naming) (r : WrittenRow) (k : ℕ) → map (shape g) (field_types r) ≡ member_types (members g r k)
shapes_of_fields g trees.End k = refl
shapes_of_fields g (trees.Field f a r) k = ap (λ l. shape g a ∷ l) (shapes_of_fields g r k)

-- ---- braces

module _ (p : Program) (w : CState) (g : Naming) where
  -- an array without an element that is given has one
  element_given : (n : ℕ) (a : Written) (is : Inits) (vs : List ℤ) → 1 ≤ n → InitsGive p w (repeated n (shape g a ∷ [])) is vs → InitsGive p w (repeated n (shape g a ∷ [])) (some_element a is) vs
  element_given zero a is vs some h = absurd (omega (arith, some))
  element_given (suc n) a (MoreInits i is) vs some h = h
  element_given (suc n) a NoInits vs some h =
      let ts : List CTree = repeated n (shape g a ∷ []) in
      let given : Ok c_values.Done ≡ Ok h.given = h.evaluated in
      let is_done : h.given ≡ c_values.Done = cc in
      let numbers : Ok h.numbers ≡ Ok c_values.Done = sym h.converted ∙ ap (λ i. parts_in_numbers p.target (shape g a ∷ ts) i) is_done in
      let none : h.numbers ≡ c_values.Done = cc in
      let same : cells (c_values.zeros nought (shape g a)) ++ cells_row (zero_parts ts) ≡ vs = ap (λ i. cells_row (initial_parts (shape g a ∷ ts) i)) (sym none) ∙ h.gives in
      subst (λ us. InitsGive p w (shape g a ∷ ts) (MoreInits (zero_part a) NoInits) us) same
      (more_give p w (shape g a) ts (zero_part a) NoInits (cells (c_values.zeros nought (shape g a))) (cells_row (zero_parts ts)) (filled_gives p w g a [] refl) (none_give p w ts))

  array_braced : (n : ℕ) (a : Written) (is : Inits) (vs : List ℤ) → 1 ≤ n → InitsGive p w (map (shape g) (repeated n (a ∷ []))) is vs → InitGives p w (shape g (trees.Many n a)) (bracing (trees.Many n a) is) vs
  array_braced n a is vs some h =
      subst (λ us. InitGives p w (shape g (trees.Many n a)) (bracing (trees.Many n a) is) us) (append-nil vs)
      (array_gives p w (g.array_tag (trees.Many n a)) g.elements n (shape g a) (some_element a is) vs (element_given n a is vs some (subst (λ ts. InitsGive p w ts is vs) (shapes_repeated g n a) h)))

  struct_braced : (k : ℕ) (r : WrittenRow) (is : Inits) (vs : List ℤ) → InitsGive p w (map (shape g) (field_types r)) is vs → InitGives p w (shape g (trees.Struct k r)) (bracing (trees.Struct k r) is) vs
  struct_braced k r is vs h = struct_gives p w (g.struct_tag k) (members g r k) is vs (subst (λ ts. InitsGive p w ts is vs) (shapes_of_fields g r k) h)

  -- ---- parts that are left out

  abbrev pub GivesZeros : (List Written → Inits) → Type 0
  GivesZeros rest = (tys : List Written) → InitsGive p w (map (shape g) tys) (rest tys) (cells_row (zeros tys))

  no_more_zeros : (tys : List Written) → cells_row (zero_parts (map (shape g) tys)) ≡ cells_row (zeros tys)
  no_more_zeros [] = refl
  no_more_zeros (ty ∷ tys) =
      ap (λ l. l ++ cells_row (zero_parts (map (shape g) tys))) (sym (filled_zero p.target g ty [] refl)) ∙ ap (λ l. cells (filled ty []) ++ l) (no_more_zeros tys)

  left_out : (tys : List Written) → InitsGive p w (map (shape g) tys) NoInits (cells_row (zeros tys))
  left_out tys = subst (λ vs. InitsGive p w (map (shape g) tys) NoInits vs) (no_more_zeros tys) (none_give p w (map (shape g) tys))

  fields_left : (tys : List Written) → InitsGive p w (map (shape g) tys) (zero_fields tys) (cells_row (zeros tys))
  fields_left [] = none_give p w []
  fields_left (ty ∷ tys) = more_give p w (shape g ty) (map (shape g) tys) (zero_part ty) (zero_fields tys) (cells (filled ty [])) (cells_row (zeros tys)) (zero_part_gives p w g ty) (fields_left tys)

-- ---- values in a row

module _ (d : Lowered) (g : Naming) where
  abbrev pub AllFit : List Written → tree.Values ℤ → Type 0
  AllFit [] Nil = Unit {0}
  AllFit [] (Cons v vs) = ⊥
  AllFit (ty ∷ tys) Nil = ⊥
  AllFit (ty ∷ tys) (Cons v vs) = CellsFit (CanHold (table_of d.target)) g ty v × AllFit tys vs

  elements_fit : (n : ℕ) (a : Written) (vs : tree.Values ℤ) → AllFit (repeated n (a ∷ [])) vs → EachOf n (CellsFit (CanHold (table_of d.target)) g a) vs
  elements_fit zero a Nil h = tt
  elements_fit zero a (Cons v vs) h = h
  elements_fit (suc n) a Nil h = h
  elements_fit (suc n) a (Cons v vs) h = (h.0, elements_fit n a vs h.1)

  fields_fit : (r : WrittenRow) (vs : tree.Values ℤ) → AllFit (field_types r) vs → FitsRow (λ s n. CanHold (table_of d.target) (g.scalar s) n) r vs
  fields_fit trees.End Nil h = tt
  fields_fit trees.End (Cons v vs) h = h
  fields_fit (trees.Field f a r) Nil h = h
  fields_fit (trees.Field f a r) (Cons v vs) h = (h.0, fields_fit r vs h.1)

  zeros_fit : (tys : List Written) → AllFit tys (zeros tys)
  zeros_fit [] = tt
  zeros_fit (ty ∷ tys) = (filled_fits d.target g ty [] refl, zeros_fit tys)

-- ---- expressions in turn

module _ (d : Lowered) (scope : List ℕ) (objects : Map) (s : State) (stage : Stage (within d scope) s) where
  abbrev g : Setting
  g = within d scope

  -- what the statements before it leave: a state in which the initializer gives the first value
  pub record InitComes (from next : ℕ) (ty : Written) (init : Init) (t : CState) (held : Held) (u : CState) : Type 0 where
    pub grows : from ≤ next
    pub kept : Kept g.program from t u
    pub fits : CellsFit (CanHold (table_of d.target)) g.naming ty held
    pub gives : (w : CState) → Kept g.program next u w → InitGives g.program w (shape g.naming ty) init (cells held)

  pub record InitsCome (from next : ℕ) (tys : List Written) (inits : Inits) (t : CState) (vs : tree.Values ℤ) (u : CState) : Type 0 where
    pub grows : from ≤ next
    pub kept : Kept g.program from t u
    pub fits : AllFit d g.naming tys vs
    pub gives : (w : CState) → Kept g.program next u w → InitsGive g.program w (map (shape g.naming) tys) inits (cells_row vs)

  -- it is followed, whatever is done with the value
  abbrev pub InitFollows : Part State Held → Written → (ℕ → InitPiece) → Type 1
  InitFollows part ty piece =
      (A : Type 0) (post : A → State → Control (Option CValue) → CState → Type 0) (go : Held → Part State A) (rest : List Stmt) (x y from : ℕ) → g.first ≤ from → (t : CState) → Related g objects s t
      → ((held : Held) (u : CState) → InitComes from (piece from).next ty (piece from).init t held u → (m : ℕ) (w : World) → Follows g.frame.skip post x y m (go held m w s) (λ j. running g rest j w u))
      → (n : ℕ) (w : World) → Follows g.frame.skip post x y n (bind part go n w s) (λ j. running g ((piece from).before ++ rest) j w t)

  abbrev pub InitsFollow : Part State (tree.Values ℤ) → List Written → (ℕ → InitsPiece) → Type 1
  InitsFollow part tys piece =
      (A : Type 0) (post : A → State → Control (Option CValue) → CState → Type 0) (go : tree.Values ℤ → Part State A) (rest : List Stmt) (x y from : ℕ) → g.first ≤ from → (t : CState) → Related g objects s t
      → ((vs : tree.Values ℤ) (u : CState) → InitsCome from (piece from).next tys (piece from).inits t vs u → (m : ℕ) (w : World) → Follows g.frame.skip post x y m (go vs m w s) (λ j. running g rest j w u))
      → (n : ℕ) (w : World) → Follows g.frame.skip post x y n (bind part go n w s) (λ j. running g ((piece from).before ++ rest) j w t)

  -- ---- one expression

  module _ (e : ExprCore) (ty : ValueType) (typed : HasType (env_in d) scope e ty) where
    number_comes : (from : ℕ) (t : CState) (i : ℤ) (u : CState) → Gives d.core None s e (source.Num i) → Comes g objects s from (raw g.frame e from) (type_of e) t (source.Num i) u
        → InitComes from (raw g.frame e from).next (trees.Leaf ty) (One (raw g.frame e from).value) t (Cell i) u
    number_comes from t i u gives comes =
        let p : Piece = raw g.frame e from in
        let can : CanHold (table_of d.target) (g.naming.scalar (type_of e)) i = given_holds g (set_in d scope) s stage e i typed.typed gives in
        record {
          grows = comes.grows;
          kept = comes.kept;
          fits = subst (λ held. CanHold (table_of d.target) (g.naming.scalar held) i) typed.type can;
          gives = λ w kept.
              (let a = stands_assigned g w (scalar_for g.frame.table (type_of e)) p.standing p.value i can (comes.stands w kept).1 in
              subst (λ held. InitGives g.program w (trees.Leaf (g.naming.scalar held)) (One p.value) (i ∷ [])) typed.type
              (one_gives g.program w (g.naming.scalar (type_of e)) p.value a.0 i a.1 (ap (λ r. on_ok r number_of) a.2)));
        }

    one_follows : Numbered (expr_checks e) → InitFollows (init_value d.core (core.One e) (trees.Leaf ty)) (trees.Leaf ty) (init_piece g.frame (core.One e) (trees.Leaf ty))
    one_follows small A post go rest x y from le t related next n w =
        let p : Piece = raw g.frame e from in
        let cell : Value → Part State Held = λ v. on_number d.core v (λ i. give (Cell i)) in
        subst (λ r. Follows g.frame.skip post x y n r (λ j. running g ((p.before ++ paid p.owed) ++ rest) j w t)) (sym (after_after (eval d.core None e n w s) cell go))
        (subst (λ ss. Follows g.frame.skip post x y n (bind (eval d.core None e) (λ v. bind (cell v) go) n w s) (λ j. running g ss j w t)) (sym (append_assoc p.before (paid p.owed) rest))
        (raw_all g (set_in d scope) objects s stage e typed.typed small A post (λ v. bind (cell v) go) (paid p.owed ++ rest) x y from le t related (record { by = λ v u gives comes m z. by_value v u gives comes m z }) n w))
      where
        by_value : (v : Value) (u : CState) → Gives d.core None s e v → Comes g objects s from (raw g.frame e from) (type_of e) t v u → (m : ℕ) (z : World)
            → Follows g.frame.skip post (x + spare (raw g.frame e from)) y m (ticks (owing (raw g.frame e from).owed) (bind (on_number d.core v (λ i. give (Cell i))) go) m z s) (λ j. running g (paid (raw g.frame e from).owed ++ rest) j z u)
        by_value (source.Ref k path) u gives comes m z = padded g s post (bind (on_number d.core (source.Ref k path) (λ i. give (Cell i))) go) rest x y (spare (raw g.frame e from)) u z (raw g.frame e from).owed (λ i. tt) m
        by_value (source.Num i) u gives comes m z =
            padded g s post (bind (on_number d.core (source.Num i) (λ i. give (Cell i))) go) rest x y (spare (raw g.frame e from)) u z (raw g.frame e from).owed (λ j. next (Cell i) u (number_comes from t i u gives comes) j z) m

  -- ---- parts

  -- what is left out is zero
  none_follow : (tys : List Written) (rest_inits : List Written → Inits) → ((w : CState) → GivesZeros g.program w g.naming rest_inits) → InitsFollow (give (zeros tys)) tys (λ k. record { before = []; inits = rest_inits tys; next = k })
  none_follow tys rest_inits zeros_left A post go rest x y from le t related next n w =
      next (zeros tys) t (record { grows = omega arith; kept = kept_same g.program from t; fits = zeros_fit d g.naming tys; gives = λ z kept. zeros_left z tys }) n w

  joined : (from middle next : ℕ) (ty : Written) (tys : List Written) (init : Init) (inits : Inits) (t u z : CState) (v : Held) (vs : tree.Values ℤ)
      → InitComes from middle ty init t v u → InitsCome middle next tys inits u vs z → InitsCome from next (ty ∷ tys) (MoreInits init inits) t (Cons v vs) z
  joined from middle next ty tys init inits t u z v vs h k = record {
    grows = omega (arith, h.grows, k.grows);
    kept = kept_twice g.program from middle t u z h.grows h.kept k.kept;
    fits = (h.fits, k.fits);
    gives = λ w kept.
        more_give g.program w (shape g.naming ty) (map (shape g.naming) tys) init inits (cells v) (cells_row vs)
        (h.gives w (kept_twice g.program middle next u z w k.grows k.kept kept)) (k.gives w kept);
  }

  in_array : (n : ℕ) (a : Written) → 1 ≤ n → (from next : ℕ) (inits : Inits) (t : CState) (vs : tree.Values ℤ) (u : CState) → InitsCome from next (repeated n (a ∷ [])) inits t vs u → InitComes from next (trees.Many n a) (bracing (trees.Many n a) inits) t (Parts vs) u
  in_array n a some from next inits t vs u h = record {
    grows = h.grows;
    kept = h.kept;
    fits = elements_fit d g.naming n a vs h.fits;
    gives = λ w kept. array_braced g.program w g.naming n a inits (cells_row vs) some (h.gives w kept);
  }

  in_struct : (k : ℕ) (r : WrittenRow) (from next : ℕ) (inits : Inits) (t : CState) (vs : tree.Values ℤ) (u : CState) → InitsCome from next (field_types r) inits t vs u → InitComes from next (trees.Struct k r) (bracing (trees.Struct k r) inits) t (Parts vs) u
  in_struct k r from next inits t vs u h = record {
    grows = h.grows;
    kept = h.kept;
    fits = fields_fit d g.naming r vs h.fits;
    gives = λ w kept. struct_braced g.program w g.naming k r inits (cells_row vs) (h.gives w kept);
  }

  mutual
    pub init_follows : (i : InitCore) (ty : Written) → WrittenTyped (env_in d) scope i ty → Numbered (init_checks i) → InitFollows (init_value d.core i ty) ty (init_piece g.frame i ty)
    init_follows (core.One e) (trees.Leaf ty) typed small A post go rest x y from le t related next m w = one_follows e ty typed small A post go rest x y from le t related next m w
    init_follows (core.One e) (trees.Many n a) typed small A post go rest x y from le t related next m w = absurd typed
    init_follows (core.One e) (trees.Struct k r) typed small A post go rest x y from le t related next m w = absurd typed
    init_follows (core.Many is) (trees.Leaf ty) typed small A post go rest x y from le t related next m w = absurd typed
    init_follows (core.Many is) (trees.Many n a) typed small A post go rest x y from le t related next m w =
        let tys : List Written = repeated n (a ∷ []) in
        let whole : tree.Values ℤ → Part State Held = λ vs. give (Parts vs) in
        let q : InitsPiece = inits_piece g.frame is (rest_of (trees.Many n a)) tys from in
        subst (λ r. Follows g.frame.skip post x y m r (λ j. running g (q.before ++ rest) j w t)) (sym (after_after (init_values d.core is tys m w s) whole go))
        (inits_follow is (rest_of (trees.Many n a)) (λ z us. left_out g.program z g.naming us) tys typed.1 small A post (λ vs. bind (whole vs) go) rest x y from le t related
        (λ vs u h i z. next (Parts vs) u (in_array n a typed.0 from q.next q.inits t vs u h) i z) m w)
    init_follows (core.Many is) (trees.Struct k r) typed small A post go rest x y from le t related next m w =
        let tys : List Written = field_types r in
        let whole : tree.Values ℤ → Part State Held = λ vs. give (Parts vs) in
        let q : InitsPiece = inits_piece g.frame is (rest_of (trees.Struct k r)) tys from in
        subst (λ p. Follows g.frame.skip post x y m p (λ j. running g (q.before ++ rest) j w t)) (sym (after_after (init_values d.core is tys m w s) whole go))
        (inits_follow is (rest_of (trees.Struct k r)) (λ z us. fields_left g.program z g.naming us) tys typed small A post (λ vs. bind (whole vs) go) rest x y from le t related
        (λ vs u h i z. next (Parts vs) u (in_struct k r from q.next q.inits t vs u h) i z) m w)

    inits_follow : (is : InitsCore) (rest_inits : List Written → Inits) → ((w : CState) → GivesZeros g.program w g.naming rest_inits) → (tys : List Written) → AllTyped (env_in d) scope is tys → Numbered (inits_checks is)
        → InitsFollow (init_values d.core is tys) tys (inits_piece g.frame is rest_inits tys)
    inits_follow core.NoInits rest_inits zeros_left tys typed small A post go rest x y from le t related next n w = none_follow tys rest_inits zeros_left A post go rest x y from le t related next n w
    inits_follow (core.MoreInits i is) rest_inits zeros_left [] typed small A post go rest x y from le t related next n w = absurd typed
    inits_follow (core.MoreInits i is) rest_inits zeros_left (ty ∷ tys) typed small A post go rest x y from le t related next n w =
        let p : InitPiece = init_piece g.frame i ty from in
        let q : InitsPiece = inits_piece g.frame is rest_inits tys p.next in
        let more : Held → Part State (tree.Values ℤ) = λ v. bind (init_values d.core is tys) (λ vs. give (Cons v vs)) in
        let last : Held → tree.Values ℤ → Part State (tree.Values ℤ) = λ v vs. give (Cons v vs) in
        subst (λ r. Follows g.frame.skip post x y n r (λ j. running g ((p.before ++ q.before) ++ rest) j w t)) (sym (after_after (init_value d.core i ty n w s) more go))
        (subst (λ ss. Follows g.frame.skip post x y n (bind (init_value d.core i ty) (λ v. bind (more v) go) n w s) (λ j. running g ss j w t)) (sym (append_assoc p.before q.before rest))
        (init_follows i ty typed.0 (first_checks (init_checks i) (inits_checks is) small) A post (λ v. bind (more v) go) (q.before ++ rest) x y from le t related
        (λ v u h m z.
        subst (λ r. Follows g.frame.skip post x y m r (λ j. running g (q.before ++ rest) j z u)) (sym (after_after (init_values d.core is tys m z s) (last v) go))
        (inits_follow is rest_inits zeros_left tys typed.1 (last_checks (init_checks i) (inits_checks is) small) A post (λ vs. bind (last v vs) go) rest x y p.next (omega (arith, le, h.grows)) u
        (related_on g (set_in d scope) objects s from le t u h.kept related)
        (λ vs u2 k m2 z2. next (Cons v vs) u2 (joined from p.next q.next ty tys p.init q.inits t u u2 v vs h k) m2 z2) m z))
        n w))
