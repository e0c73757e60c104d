-- An expression where a value of another type may be wanted, as a result or an argument: C converts it as by assignment.
use Rattle.std.proofs.Common.{◌≡◌, ℕ, ℤ, Bool, true, false, List, Some, Ok, refl, sym, ◌∙◌, ap, subst}
use Rattle.std.specs.Prelude.{not, ◌&&◌, ◌||◌, if◌then◌else◌, IsTrue, Result, Err}
use Rattle.type_trees.specs.Trees.{part}
use Rattle.area_types.specs.Syntax as types
use Rattle.area_types.specs.Syntax.{ValueType}
use Rattle.area_types.specs.Tables.{written_out}
use Rattle.area_types.specs.Trees.{Written}
use Rattle.area_types.specs.declared.region.Region.{Region}
use Rattle.source_types.specs.Values.{is_reference}
use Rattle.core_tree.specs.Syntax.{ExprCore, type_of}
use Rattle.core_tree.specs.TypedExpressions.{ExprTyped}
use Rattle.core_tree.specs.Types.{Fits}
use Rattle.core_meaning.specs.Areas.{Area, Areas, Live}
use Rattle.core_meaning.specs.Gives.{Gives}
use Rattle.core_meaning.specs.State.{State}
use Rattle.core_meaning.specs.Values as source
use Rattle.core_meaning.specs.Values.{Value}
use Rattle.region_check.specs.Calls.{may_stand_for}
use Rattle.region_soundness.specs.Fitting.{ValueFits}
use Rattle.c_ast.specs.declared.CBase.{CBase}
use Rattle.c_ast.specs.declared.CKind.TheVariants.{Scalar}
use Rattle.c_ast.specs.declared.CType.TheVariants as ctype
use Rattle.c_ast.specs.StaticTypes.{same_base}
use Rattle.c_ast.specs.Syntax.{Expr, Read, Var, At}
use Rattle.c_meaning.specs.Expressions as c
use Rattle.c_meaning.specs.State.{CState, declare}
use Rattle.c_meaning.specs.Values.{CValue, Trouble, Stuck, Num, Ptr, as_assigned}
use Rattle.c_meaning.proofs.HeldNumbers.{held_as_assigned}
use Rattle.area_objects.specs.Both.{Map, LiveIn}
use Rattle.area_objects.specs.Located.{begins, IsType}
use Rattle.area_objects.specs.Shapes.{base_of}
use Rattle.lower_types.specs.Names.{local_name}
use Rattle.lower_types.specs.Types.{type_for, scalar_for, base_for}
use Rattle.lower_values.specs.Pieces.{Piece}
use Rattle.value_refinement.specs.Laws.{Stage}
use Rattle.value_refinement.specs.Related.{is_constant, PointerIs, NameStands, Related}
use Rattle.value_refinement.specs.Settings.{Setting, Set, HasCType}
use Rattle.value_refinement.specs.Values.{StandsFor}
use Rattle.value_refinement.proofs.Arms.{no_reference}
use Rattle.value_refinement.proofs.Keeping.{kept_same}
use Rattle.value_refinement.proofs.Lets.{pointer_fits, pointer_stands}
use Rattle.value_refinement.proofs.Operands.{stands_assigned, name_stands}
use Rattle.value_refinement.proofs.Types.{given_holds}

module _ (g : Setting) (objects : Map) (areas : Areas) where
  -- a pointer of the wanted type to the part of a live area
  pub record HoldsPointer (constant : Bool) (k : ℕ) (path : List ℕ) (held : CValue) : Type 0 where
    pub object : ℕ
    pub area : Area
    pub lives : LiveIn objects areas k object area
    pub content : Written
    pub leads : part area.ty path ≡ Some content
    pub type : IsType g.naming g.program.unit.structs (base_of g.naming content) content
    pub is : held ≡ Ptr constant (base_of g.naming content) (begins g.program.target g.naming object area.ty path)

  abbrev pub HoldsValue : ValueType → Value → CValue → Type 0
  HoldsValue ty (source.Num n) held = held ≡ Num (Scalar (scalar_for g.frame.table ty)) n
  HoldsValue ty (source.Ref k path) held = HoldsPointer (is_constant ty) k path held

-- what the expression evaluates to, and what it is in the wanted type
pub record GivenAs (g : Setting) (objects : Map) (areas : Areas) (wanted : ValueType) (e : Expr) (v : Value) (u : CState) : Type 0 where
  pub value : CValue
  pub gives : c.eval g.program e u ≡ Ok value
  pub held : CValue
  pub assigned : as_assigned g.program.target (type_for g.frame.table wanted) value ≡ Ok held
  -- which it stays
  pub again : as_assigned g.program.target (type_for g.frame.table wanted) held ≡ Ok held
  pub is : HoldsValue g objects areas wanted v held

-- the base is the same, and `const` may come
base_fits : (b : CBase) (ok : Bool) → ok ≡ true → (same_base b b && ok) ≡ true
base_fits b true e = pointer_fits b true
base_fits b false e = let no : ⊥ = cc in absurd no

const_stays : (c : Bool) → IsTrue (not c || c)
const_stays true = refl
const_stays false = refl

module _ (g : Setting) (set : Set g) (objects : Map) (s : State) (stage : Stage g s) (e : ExprCore) (typed : ExprTyped g.env g.scope e) (u : CState) (p : Piece) where
  number_as : (wanted : ValueType) → type_of e ≡ wanted → type_for g.frame.table wanted ≡ ctype.Value (scalar_for g.frame.table wanted) → (n : ℤ) → Gives g.frame.core g.outcome s e (source.Num n) → StandsFor g objects s p (type_of e) u (source.Num n)
      → GivenAs g objects s.areas wanted p.value (source.Num n) u
  number_as wanted same type n gives stands =
      let k = scalar_for g.frame.table (type_of e) in
      let holds = given_holds g set s stage e n typed gives in
      let a = stands_assigned g u k p.standing p.value n holds stands.1 in
      let kind = scalar_for g.frame.table wanted in
      let same_kind : k ≡ kind = ap (scalar_for g.frame.table) same in
      let assigned : as_assigned g.program.target (ctype.Value kind) a.0 ≡ Ok (Num (Scalar kind) n) = subst (λ z. as_assigned g.program.target (ctype.Value z) a.0 ≡ Ok (Num (Scalar z) n)) same_kind a.2 in
      let again : as_assigned g.program.target (ctype.Value kind) (Num (Scalar kind) n) ≡ Ok (Num (Scalar kind) n) =
      subst (λ z. as_assigned g.program.target (ctype.Value z) (Num (Scalar z) n) ≡ Ok (Num (Scalar z) n)) same_kind (held_as_assigned g.program.target k (Scalar k) n holds) in
      record {
        value = a.0;
        gives = a.1;
        held = Num (Scalar kind) n;
        assigned = ap (λ ty. as_assigned g.program.target ty a.0) type ∙ assigned;
        again = ap (λ ty. as_assigned g.program.target ty (Num (Scalar kind) n)) type ∙ again;
        is = refl;
      }

  pointer_as : (c d : Bool) (r : Region) (a : types.Area) (region : Region) (b : types.Area) → type_of e ≡ types.Ref d region b → b ≡ a → IsTrue (may_stand_for d c) → (k : ℕ) (path : List ℕ) → ValueFits g.frame.core stage.entry s.areas (types.Ref d region b) (source.Ref k path)
      → PointerIs g objects s.areas u d p.value k path → GivenAs g objects s.areas (types.Ref c r a) p.value (source.Ref k path) u
  pointer_as c d r a region b is same access k path fits points =
      let declared : HasCType g b = set.types e d region b typed is in
      let live : Some (Live points.area) ≡ Some (Live fits.area) = sym points.lives.live ∙ fits.live in
      let same_area : points.area ≡ fits.area = cc in
      let part_is : Some points.content ≡ Some (written_out g.frame.core.structs b) = sym points.leads ∙ ap (λ x. part x.ty path) same_area ∙ fits.leads in
      let content : points.content ≡ written_out g.frame.core.structs b = cc in
      let to = begins g.program.target g.naming points.object points.area.ty path in
      let base : CBase = base_of g.naming points.content in
      let base_is : base_for g.frame.table a ≡ base = ap (base_for g.frame.table) (sym same) ∙ declared.base ∙ sym (ap (base_of g.naming) content) in
      let held : CValue = Ptr c base to in
      let converts : (from : Bool) → IsTrue (not from || c) → as_assigned g.program.target (ctype.Pointer c (base_for g.frame.table a)) (Ptr from base to) ≡ Ok held =
      (λ from ok. ap (λ z. as_assigned g.program.target (ctype.Pointer c z) (Ptr from base to)) base_is ∙ ap (λ z. let q : Result CValue Trouble = if z then Ok held else Err Stuck in q) (base_fits base (not from || c) ok)) in
      record {
        value = Ptr d base to;
        gives = points.is;
        held = held;
        assigned = converts d access;
        again = converts c (const_stays c);
        is = record { object = points.object; area = points.area; lives = points.lives; content = points.content; leads = points.leads; type = subst (λ z. IsType g.naming g.program.unit.structs (base_of g.naming z) z) (sym content) declared.type; is = refl };
      }

  by_reference : (c : Bool) (r : Region) (a : types.Area) (ty : ValueType) → type_of e ≡ ty → Fits (types.Ref c r a) ty → (v : Value) → ValueFits g.frame.core stage.entry s.areas ty v → StandsFor g objects s p ty u v → GivenAs g objects s.areas (types.Ref c r a) p.value v u
  by_reference c r a types.Truth is fits v given stands = absurd fits
  by_reference c r a (types.Int kind) is fits v given stands = absurd fits
  by_reference c r a (types.Ix n) is fits v given stands = absurd fits
  by_reference c r a (types.Bits n) is fits v given stands = absurd fits
  by_reference c r a (types.Ref d region b) is fits (source.Num n) given stands = let no : ⊥ = cc in absurd no
  by_reference c r a (types.Ref d region b) is fits (source.Ref k path) given stands = pointer_as c d r a region b is fits.1 fits.2 k path given stands

  -- no number is a reference
  by_number : (wanted : ValueType) → IsTrue (not (is_reference wanted)) → type_of e ≡ wanted → type_for g.frame.table wanted ≡ ctype.Value (scalar_for g.frame.table wanted) → (v : Value) → Gives g.frame.core g.outcome s e v → StandsFor g objects s p (type_of e) u v
      → GivenAs g objects s.areas wanted p.value v u
  by_number wanted plain same type (source.Num n) gives stands = number_as wanted same type n gives stands
  by_number wanted plain same type (source.Ref k path) gives stands =
      absurd (no_reference g.frame.core stage.entry s.areas (type_of e) k path (subst (λ ty. IsTrue (not (is_reference ty))) (sym same) plain) (stage.fits e (source.Ref k path) typed gives))

  pub given_as : (wanted : ValueType) → Fits wanted (type_of e) → (v : Value) → Gives g.frame.core g.outcome s e v → StandsFor g objects s p (type_of e) u v → GivenAs g objects s.areas wanted p.value v u
  given_as types.Truth fits v gives stands = by_number types.Truth refl fits refl v gives stands
  given_as (types.Int kind) fits v gives stands = by_number (types.Int kind) refl fits refl v gives stands
  given_as (types.Ix n) fits v gives stands = by_number (types.Ix n) refl fits refl v gives stands
  given_as (types.Bits k) fits v gives stands = by_number (types.Bits k) refl fits refl v gives stands
  given_as (types.Ref c r a) fits v gives stands = by_reference c r a (type_of e) refl fits v (stage.fits e v typed gives) stands

-- ---- by a name

-- a name that holds the value stands for it
pub holding_stands : (g : Setting) (objects : Map) (s : State) (u : CState) → Related g objects s u → (x : ℕ) (ty : ValueType) (v : Value) (held : CValue) → HoldsValue g objects s.areas ty v held
    → NameStands g objects s.areas (declare (local_name x) held u) ty (Read (Var (local_name x))) (At (Read (Var (local_name x)))) v
holding_stands g objects s u related x ty (source.Num n) held is =
    subst (λ h. NameStands g objects s.areas (declare (local_name x) h u) ty (Read (Var (local_name x))) (At (Read (Var (local_name x)))) (source.Num n)) (sym is)
    (name_stands g x (scalar_for g.frame.table ty) n u (declare (local_name x) (Num (Scalar (scalar_for g.frame.table ty)) n) u) (kept_same g.program _ _))
holding_stands g objects s u related x ty (source.Ref k path) held h =
    subst (λ z. NameStands g objects s.areas (declare (local_name x) z u) ty (Read (Var (local_name x))) (At (Read (Var (local_name x)))) (source.Ref k path)) (sym h.is)
    (pointer_stands g objects s u related x (is_constant ty) k h.object h.area path h.content h.lives h.leads h.type)
