-- A `let` follows where its expression does: the declaration takes the statement's step, and its name stands for the value.
use Rattle.std.proofs.Common.{◌≡◌, ℕ, zero, suc, ◌+◌, ◌≤◌, ℤ, Bool, true, false, List, [], ◌∷◌, ◌++◌, Option, Some, Result, Ok, Err, refl, sym, ◌∙◌, ap, subst, arith, inl, inr, ⊎_elim, eq-eqb, eqb-true}
use Rattle.std.specs.Prelude.{if◌then◌else◌, not, ◌&&◌, ◌||◌, ◌==◌, ◌⊎◌, slice_get, Contains, IsTrue}
use Rattle.std.specs.Option.{option_and_then}
use Rattle.std.proofs.lemmas.List.{append_assoc}
use Rattle.iv_words.proofs.Equality.{same_self}
use Rattle.step_semantics.specs.Control.{Control, Falls}
use Rattle.step_semantics.specs.Follows.{Follows}
use Rattle.step_semantics.specs.Steps.{World, bind, tick, ticks}
use Rattle.step_semantics.proofs.Paying.{pays_to}
use Rattle.step_semantics.proofs.Leading.{leads_refl}
use Rattle.run_records.specs.declared.Reason.TheVariants as reason
use Rattle.iv_words.specs.declared.IntKind.TheVariants.{U8, U16, U32, U64, I8, I16, I32, I64}
use Rattle.type_trees.specs.Trees.{part}
use Rattle.area_types.specs.Syntax as types
use Rattle.area_types.specs.Tables.{Table, written_out}
use Rattle.area_types.specs.Syntax.{ValueType}
use Rattle.core_tree.specs.Syntax.{ExprCore, type_of}
use Rattle.core_tree.specs.TypedExpressions.{ExprTyped}
use Rattle.core_tree.specs.Types.{is_value}
use Rattle.core_meaning.specs.Areas.{Area, Areas, Live}
use Rattle.region_soundness.specs.Fitting.{ValueFits}
use Rattle.region_soundness.proofs.Standing.{name_here, name_past}
use Rattle.core_meaning.specs.Expressions.{eval}
use Rattle.core_meaning.specs.Gives.{Gives}
use Rattle.core_meaning.specs.State.{State, value_of, with_name}
use Rattle.core_meaning.specs.Statements.{naming}
use Rattle.core_meaning.specs.Values as source
use Rattle.core_meaning.specs.Values.{Value}
use Rattle.c_ast.specs.declared.CBase.{CBase}
use Rattle.c_ast.specs.declared.CBase.TheVariants as base
use Rattle.c_ast.specs.declared.CScalar.TheVariants as scalar
use Rattle.c_ast.specs.Scalars.{metric_of}
use Rattle.c_ast.specs.Structs.{tree}
use Rattle.c_ast.specs.Targets.{table_of}
use Rattle.c_ast.specs.declared.CKind.TheVariants.{Scalar}
use Rattle.c_ast.specs.declared.CScalar.{CScalar}
use Rattle.c_ast.specs.declared.CType.TheVariants as ctype
use Rattle.c_ast.specs.Names.{named}
use Rattle.c_ast.specs.StaticTypes.{PlaceType, Stored, same_base, same_scalar, of_pointee}
use Rattle.c_ast.specs.Syntax.{Name, Expr, Read, Address, Place, Var, At, Stmt, Const}
use Rattle.c_meaning.specs.Expressions as c
use Rattle.c_meaning.specs.Memory.{memory_of}
use Rattle.c_meaning.specs.Places.{Lvalue, Located, or_outer, file_place, pointee}
use Rattle.c_meaning.specs.Places as places
use Rattle.c_meaning.specs.Scopes.{value_in}
use Rattle.c_meaning.specs.State.{Program, CState, Slot, Holding, lives, declare}
use Rattle.c_meaning.specs.Values as values
use Rattle.c_meaning.specs.Values.{Trouble, Undefined, Stuck, CValue, Num, Ptr, on_ok, as_assigned}
use Rattle.c_meaning.proofs.Names.{name_type_is}
use Rattle.area_types.specs.Trees.{Written}
use Rattle.area_objects.specs.Both.{Map, LiveIn}
use Rattle.area_objects.specs.Holds.{CanHold}
use Rattle.area_objects.specs.Located.{IsType, begins}
use Rattle.area_objects.specs.Shapes.{shape, base_of}
use Rattle.area_objects.proofs.Alike.{lawful_in}
use Rattle.area_objects.proofs.Lives.{objects_live}
use Rattle.lower_types.specs.Names.{local_name}
use Rattle.lower_types.specs.Types.{TypeTable, scalar_for, type_for, base_for}
use Rattle.lower_values.specs.Expressions as lowered
use Rattle.lower_values.specs.Expressions.{raw, local_value, local_place}
use Rattle.lower_values.specs.Frames.{is_object, name_of, type_in}
use Rattle.lower_values.specs.Pieces.{Piece, paid}
use Rattle.value_refinement.specs.Kept.{Kept}
use Rattle.value_refinement.specs.Laws.{Stage, RawFollows, owing, spare, running}
use Rattle.value_refinement.specs.Lets.{with_local, IsNewLocal, LetDone, let_statements}
use Rattle.value_refinement.specs.Related.{is_constant, PointerIs, PlaceIs, NameStands, Related}
use Rattle.value_refinement.specs.Settings.{Setting, Set, HasCType}
use Rattle.value_refinement.specs.Values.{Comes, StandsFor}
use Rattle.value_refinement.proofs.Keeping.{kept_same, kept_twice, kept_less, kept_declared}
use Rattle.value_refinement.proofs.Operands.{stands_assigned, name_stands, padded}
use Rattle.value_refinement.proofs.Running.{runs_first, takes_const}
use Rattle.value_refinement.proofs.Standings.{name_on, global_on, related_on}
use Rattle.value_refinement.proofs.Types.{given_holds}

-- ---- names of a longer scope

-- what places and names stand for has no part in the scope
module _ (g : Setting) (x : ℕ) (objects : Map) (areas : Areas) (u : CState) where
  abbrev pointer_with : (constant : Bool) (d : Expr) (k : ℕ) (path : List ℕ) → PointerIs g objects areas u constant d k path → PointerIs (with_local g x) objects areas u constant d k path
  pointer_with constant d k path h = record { object = h.object; area = h.area; lives = h.lives; content = h.content; leads = h.leads; is = h.is }

  pub place_with : (constant : Bool) (to : Place) (k : ℕ) (path : List ℕ) → PlaceIs g objects areas u constant to k path → PlaceIs (with_local g x) objects areas u constant to k path
  place_with constant to k path h = record { pointer = pointer_with constant (lowered.reference_to to) k path h.pointer; is = h.is; type = h.type }

  pub stands_with : (ty : ValueType) (d : Expr) (to : Place) (v : Value) → NameStands g objects areas u ty d to v → NameStands (with_local g x) objects areas u ty d to v
  stands_with ty d to (source.Num n) h = h
  stands_with ty d to (source.Ref k path) h = place_with (is_constant ty) to k path h

-- ---- declared names and types

number_type : (structs : Table) (t : TypeTable) (ty : ValueType) (n : ℤ) → IsTrue (is_value structs ty n) → type_for t ty ≡ ctype.Value (scalar_for t ty)
number_type structs t types.Truth n h = refl
number_type structs t (types.Int kind) n h = refl
number_type structs t (types.Ix k) n h = refl
number_type structs t (types.Bits k) n h = refl
number_type structs t (types.Ref constant region target) n h = let no : ⊥ = cc in absurd no

same_scalar_self : (k : CScalar) → same_scalar k k ≡ true
same_scalar_self scalar.Truth = refl
same_scalar_self (scalar.Int U8) = refl
same_scalar_self (scalar.Int U16) = refl
same_scalar_self (scalar.Int U32) = refl
same_scalar_self (scalar.Int U64) = refl
same_scalar_self (scalar.Int I8) = refl
same_scalar_self (scalar.Int I16) = refl
same_scalar_self (scalar.Int I32) = refl
same_scalar_self (scalar.Int I64) = refl

same_base_self : (b : CBase) → same_base b b ≡ true
same_base_self (base.Scalar k) = same_scalar_self k
same_base_self (base.Struct name) = same_self name

-- a pointer may be given where one of its own type is wanted
pub pointer_fits : (b : CBase) (constant : Bool) → (same_base b b && (not constant || constant)) ≡ true
pointer_fits b true = ap (λ a. a && true) (same_base_self b)
pointer_fits b false = ap (λ a. a && true) (same_base_self b)

pub named_here : (y : Name) (slot : Slot) (names : List (Name × Slot)) → named ((y, slot) ∷ names) y ≡ Some slot
named_here y slot names = ap (λ b. if b then Some slot else named names y) (same_self y)

contains_cases : (y z : ℕ) (xs : List ℕ) → Contains (y ∷ xs) z → (y ≡ z) ⊎ Contains xs z
contains_cases y z xs (zero, lt, e) = inl e
contains_cases y z xs (suc k, lt, e) = inr (k, omega arith, e)

-- a pointer that a name holds is read while its object lives
pub pointer_reads : (p : Program) (u : CState) (x : Name) (constant : Bool) (b : CBase) (to : values.Address) → named u.frames.own x ≡ Some (Holding (Ptr constant b to)) → lives u to.object ≡ true → c.eval p (Read (Var x)) u ≡ Ok (Ptr constant b to)
pointer_reads p u x constant b to has live =
    ap (λ found. on_ok (or_outer p.unit.structs found (file_place p.unit.structs 0 p.unit.objects x)) (places.read p.target u)) has
    ∙ ap (λ l. let r : Result CValue Trouble = if l then Ok (Ptr constant b to) else Err (Undefined reason.Dead) in r) live

-- a name that holds a pointer to a part leads there
pub pointer_stands : (g : Setting) (objects : Map) (s : State) (u : CState) → Related g objects s u → (x : ℕ) (constant : Bool) (k object : ℕ) (area : Area) (path : List ℕ) (content : Written) → LiveIn objects s.areas k object area → part area.ty path ≡ Some content
    → IsType g.naming g.program.unit.structs (base_of g.naming content) content
    → PlaceIs g objects s.areas (declare (local_name x) (Ptr constant (base_of g.naming content) (begins g.program.target g.naming object area.ty path)) u) constant (At (Read (Var (local_name x)))) k path
pointer_stands g objects s u related x constant k object area path content live leads tree_is =
    let to : values.Address = begins g.program.target g.naming object area.ty path in
    let held : CValue = Ptr constant (base_of g.naming content) to in
    let u2 : CState = declare (local_name x) held u in
    let has : named u2.frames.own (local_name x) ≡ Some (Holding held) = named_here (local_name x) (Holding held) u.frames.own in
    let lives : lives u object ≡ true = objects_live (metric_of g.program.target) (CanHold (table_of g.program.target)) (memory_of g.program.target) (lawful_in (table_of g.program.target)) g.naming objects s.areas u.objects k object area related.both live in
    let read : c.eval g.program (Read (Var (local_name x))) u2 ≡ Ok held = pointer_reads g.program u2 (local_name x) constant (base_of g.naming content) to has lives in
    record {
      pointer = record { object = object; area = area; lives = live; content = content; leads = leads; is = read };
      is = ap (λ v. on_ok v (pointee g.program.unit.structs)) read ∙ ap (λ a. let r : Result Lvalue Trouble = Ok (Located constant to a) in r) tree_is;
      type = ap (option_and_then (of_pointee g.program.unit.structs)) (name_type_is g.program u2 (local_name x) held (ap value_in has)) ∙ ap (λ a. let r : Option PlaceType = Some (Stored constant a) in r) tree_is;
    }

module _ (g : Setting) (set : Set g) (objects : Map) (s : State) (stage : Stage g s) (e : ExprCore) (typed : ExprTyped g.env g.scope e) (x : ℕ) (new : IsNewLocal g x (type_of e)) where
  -- ---- what the declaration holds

  -- a value of C that the name is given, and what it then stands for
  pub record Declares (u : CState) (d : Expr) (v : Value) : Type 0 where
    pub value : CValue
    pub gives : c.eval g.program d u ≡ Ok value
    pub held : CValue
    pub assigned : as_assigned g.program.target (type_in g.frame (type_of e)) value ≡ Ok held
    pub stands : NameStands g objects s.areas (declare (local_name x) held u) (type_of e) (Read (Var (local_name x))) (At (Read (Var (local_name x)))) v

  declares_number : (u : CState) (p : Piece) (n : ℤ) → Gives g.frame.core g.outcome s e (source.Num n) → StandsFor g objects s p (type_of e) u (source.Num n) → Declares u p.value (source.Num n)
  declares_number u p n gives stands =
      let kind : CScalar = scalar_for g.frame.table (type_of e) in
      let a = stands_assigned g u kind p.standing p.value n (given_holds g set s stage e n typed gives) stands.1 in
      record {
        value = a.0;
        gives = a.1;
        held = Num (Scalar kind) n;
        assigned = ap (λ ty. as_assigned g.program.target ty a.0) (number_type g.frame.core.structs g.frame.table (type_of e) n (stage.fits e (source.Num n) typed gives)) ∙ a.2;
        stands = name_stands g x kind n u (declare (local_name x) (Num (Scalar kind) n) u) (kept_same g.program (suc x) (declare (local_name x) (Num (Scalar kind) n) u));
      }

  -- a pointer to the part that the reference leads to, of the declared type
  declares_pointer : (u : CState) (d : Expr) (k : ℕ) (path : List ℕ) → Related g objects s u → (ty : ValueType) → type_of e ≡ ty → ValueFits g.frame.core stage.entry s.areas ty (source.Ref k path) → PointerIs g objects s.areas u (is_constant ty) d k path → Declares u d (source.Ref k path)
  declares_pointer u d k path related types.Truth is fits points = absurd fits
  declares_pointer u d k path related (types.Int kind) is fits points = absurd fits
  declares_pointer u d k path related (types.Ix n) is fits points = absurd fits
  declares_pointer u d k path related (types.Bits n) is fits points = absurd fits
  declares_pointer u d k path related (types.Ref constant region area) is fits points =
      let declared : HasCType g area = set.types e constant region area typed is in
      let live : Some (Live points.area) ≡ Some (Live fits.area) = sym points.lives.live ∙ fits.live in
      let same_area : points.area ≡ fits.area = cc in
      let part_is : Some points.content ≡ Some (written_out g.frame.core.structs area) = sym points.leads ∙ ap (λ a. part a.ty path) same_area ∙ fits.leads in
      let content : points.content ≡ written_out g.frame.core.structs area = cc in
      let to : values.Address = begins g.program.target g.naming points.object points.area.ty path in
      let b : CBase = base_of g.naming points.content in
      let base_is : base_for g.frame.table area ≡ b = declared.base ∙ sym (ap (base_of g.naming) content) in
      let held : CValue = Ptr constant b to in
      let tree_is : tree g.program.unit.structs b ≡ shape g.naming points.content = subst (λ c. IsType g.naming g.program.unit.structs (base_of g.naming c) c) (sym content) declared.type in
      record {
        value = held;
        gives = points.is;
        held = held;
        assigned =
            ap (λ t. as_assigned g.program.target (type_for g.frame.table t) held) is
            ∙ ap (λ base. as_assigned g.program.target (ctype.Pointer constant base) held) base_is
            ∙ ap (λ ok. let r : Result CValue Trouble = if ok then Ok held else Err Stuck in r) (pointer_fits b constant);
        stands = subst (λ t. PlaceIs g objects s.areas (declare (local_name x) held u) (is_constant t) (At (Read (Var (local_name x)))) k path) (sym is)
            (pointer_stands g objects s u related x constant k points.object points.area path points.content points.lives points.leads tree_is);
      }

  declares : (u : CState) (p : Piece) (v : Value) → Related g objects s u → Gives g.frame.core g.outcome s e v → StandsFor g objects s p (type_of e) u v → Declares u p.value v
  declares u p (source.Num n) related gives stands = declares_number u p n gives stands
  declares u p (source.Ref k path) related gives stands = declares_pointer u p.value k path related (type_of e) refl (stage.fits e (source.Ref k path) typed gives) stands

  -- ---- the state behind it

  module _ (u : CState) (held : CValue) (v : Value) (related : Related g objects s u)
      (stands : NameStands g objects s.areas (declare (local_name x) held u) (type_of e) (Read (Var (local_name x))) (At (Read (Var (local_name x)))) v) where
    abbrev behind : CState
    behind = declare (local_name x) held u

    kept : Kept g.program x u behind
    kept = kept_declared g.program x x held u (omega arith)

    -- the new name
    here : (y : ℕ) (ty : ValueType) (z : Value) → x ≡ y → slice_get g.env.locals y ≡ Some ty → value_of y (with_name x v s) ≡ Some z → NameStands g objects s.areas behind ty (local_value g.frame y) (local_place g.frame y) z
    here y ty z same type has =
        let ty_is : type_of e ≡ ty = (let both : Some (type_of e) ≡ Some ty = sym new.type ∙ ap (slice_get g.env.locals) same ∙ type in cc) in
        let z_is : v ≡ z = (let both : Some v ≡ Some z = sym (name_here s.frames.own.names x v) ∙ ap (λ i. value_of i (with_name x v s)) same ∙ has in cc) in
        subst (λ i. NameStands g objects s.areas behind ty (local_value g.frame i) (local_place g.frame i) z) same
        (subst (λ t. NameStands g objects s.areas behind t (local_value g.frame x) (local_place g.frame x) z) ty_is
        (subst (λ a. NameStands g objects s.areas behind (type_of e) (local_value g.frame x) (local_place g.frame x) a) z_is
        (subst (λ b. NameStands g objects s.areas behind (type_of e) (if b then Address (Var (name_of g.frame x)) else Read (Var (name_of g.frame x))) (if b then Var (name_of g.frame x) else At (Read (Var (name_of g.frame x)))) v) (sym new.holds_value)
        (subst (λ n. NameStands g objects s.areas behind (type_of e) (Read (Var n)) (At (Read (Var n))) v) (sym new.named) stands))))

    -- those before it
    past : (y : ℕ) (ty : ValueType) (z : Value) → Contains g.scope y → slice_get g.env.locals y ≡ Some ty → value_of y (with_name x v s) ≡ Some z → NameStands g objects s.areas behind ty (local_value g.frame y) (local_place g.frame y) z
    past y ty z among type has = by_test (x == y) refl where
      by_test : (b : Bool) → (x == y) ≡ b → NameStands g objects s.areas behind ty (local_value g.frame y) (local_place g.frame y) z
      by_test true e = here y ty z (eqb-true x y e) type has
      by_test false e =
          name_on g objects s.areas x u behind kept (name_of g.frame y) (new.before y ty among type) (is_object g.frame y) ty z
          (related.locals y ty z among type (sym (name_past s.frames.own.names x y v (λ same. let no : ⊥ = (let t = eq-eqb x y same in cc) in no)) ∙ has))

    related_behind : Related (with_local g x) objects (with_name x v s) behind
    related_behind = record {
      both = related.both;
      own = related.own;
      globals = λ n a e. place_with g x objects s.areas behind a.constant (lowered.area_place g.frame n) n [] (global_on g objects s x u behind kept related n a e);
      locals = λ y ty z among type has.
          stands_with g x objects s.areas behind ty (local_value g.frame y) (local_place g.frame y) z (⊎_elim (λ same. here y ty z same type has) (λ more. past y ty z more type has) (contains_cases x y g.scope among));
      result = λ ty z type has. (let no : ⊥ = (let a = new.in_body in cc) in absurd no);
    }

  pub let_follows : RawFollows g objects s e → (from : ℕ) → g.first ≤ from → (t : CState) → Related g objects s t → (n : ℕ) (w : World)
      → Follows g.frame.skip (LetDone g objects s x e t) 0 0 n (bind (eval g.frame.core g.outcome e) (λ v. tick (naming x v)) n w s) (λ j. running g (let_statements g x e from) j w t)
  let_follows follows from le t related n w =
      let p : Piece = raw g.frame e from in
      let declaration : Stmt = Const (local_name x) (type_in g.frame (type_of e)) p.value in
      subst (λ ss. Follows g.frame.skip (LetDone g objects s x e t) 0 0 n (bind (eval g.frame.core g.outcome e) (λ v. tick (naming x v)) n w s) (λ j. running g ss j w t)) (sym (append_assoc p.before (paid p.owed) (declaration ∷ [])))
      (follows (Control (Option Value)) (LetDone g objects s x e t) (λ v. tick (naming x v)) (paid p.owed ++ declaration ∷ []) 0 0 from le t related (record { by = λ v u gives comes m z. declared v u gives comes m z }) n w)
    where
      declared : (v : Value) (u : CState) → Gives g.frame.core g.outcome s e v → Comes g objects s from (raw g.frame e from) (type_of e) t v u → (m : ℕ) (z : World)
          → Follows g.frame.skip (LetDone g objects s x e t) (0 + spare (raw g.frame e from)) 0 m (ticks (owing (raw g.frame e from).owed) (tick (naming x v)) m z s) (λ j. running g (paid (raw g.frame e from).owed ++ Const (local_name x) (type_in g.frame (type_of e)) (raw g.frame e from).value ∷ []) j z u)
      declared v u gives comes m z =
          let p : Piece = raw g.frame e from in
          let statement : Stmt = Const (local_name x) (type_in g.frame (type_of e)) p.value in
          let related_u : Related g objects s u = related_on g set objects s from le t u comes.kept related in
          let d : Declares u p.value v = declares u p v related_u gives (comes.stands u (kept_same g.program p.next u)) in
          let u2 : CState = declare (local_name x) d.held u in
          let done : LetDone g objects s x e t Falls (with_name x v s) Falls u2 =
          (v, gives, refl, kept_twice g.program x x t u u2 (omega arith) (kept_less g.program x from t u (omega (arith, new.below, le)) comes.kept) (kept_declared g.program x x d.held u (omega arith)), related_behind u d.held v related_u d.stands, record { value = d.held; is = named_here (local_name x) (Holding d.held) u.frames.own }) in
          padded g s (LetDone g objects s x e t) (tick (naming x v)) (statement ∷ []) 0 0 (spare p) u z p.owed
          (λ i. pays_to g.frame.skip (LetDone g objects s x e t) 1 1 0 0 0 (naming x v) z s (omega arith) (omega arith) (λ j. running g (statement ∷ []) j z u) (λ j. running g [] j z u2)
          (runs_first g 1 statement [] z u u2 (takes_const g z u (local_name x) (type_in g.frame (type_of e)) p.value d.value d.held d.gives d.assigned))
          (λ k. record { value = Falls; state = u2; holds = done; leads = leads_refl 0 k (λ j. running g [] j z u2) }) i)
          m
