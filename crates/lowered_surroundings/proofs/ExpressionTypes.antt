-- What holds of the types of names, and passes on to what is stored in an area and to its parts, holds of the type of each typed expression.
use Rattle.std.proofs.Common.{◌≡◌, ⊎_elim, ℕ, Bool, true, false, ◌||◌, if◌then◌else◌, List, [], ◌∷◌, All, Contains, slice_get, Some, None, IsTrue, sym, subst, zero, suc}
use Rattle.std.proofs.lemmas.List.Elements.{All-head, All-tail}
use Rattle.ivory_tree.specs.declared.BinOp.{BinOp}
use Rattle.ivory_tree.specs.declared.PrefixOp.{PrefixOp}
use Rattle.ivory_tree.specs.declared.PrefixOp.TheVariants.{Neg, Not, Flip, Deref}
use Rattle.area_types.specs.Syntax as types
use Rattle.area_types.specs.Syntax.{ValueType, Truth, Int, Ix, Bits, Ref, Area}
use Rattle.area_types.specs.Tables.{is_length}
use Rattle.area_types.specs.declared.region.Region.{Region}
use Rattle.area_types.specs.declared.region.Region.TheVariants.{Global}
use Rattle.bit_data.specs.declared.FieldBits.{FieldBits}
use Rattle.iv_words.specs.declared.IntKind.{IntKind}
use Rattle.source_types.specs.Operators.{is_comparison}
use Rattle.source_types.specs.Values.{is_plain, is_index_type, least_unsigned}
use Rattle.core_tree.specs.Syntax.{Label, AreaCore, ExprCore, type_of}
use Rattle.core_tree.specs.Syntax.{Number, Outcome, Local, AreaName, Cast, ToIndex, WrapIndex, MakeBits, Raw, SetField, Prefix, Binary, Field, Element, Cond, Whole}
use Rattle.core_tree.specs.Environments.{Env, struct_field}
use Rattle.core_tree.specs.Operators.{field_type, result_type}
use Rattle.core_tree.specs.Types.{is_type}
use Rattle.core_tree.specs.TypedExpressions.{ExprTyped, CastTyped, ToIndexTyped, WrapIndexTyped, IsWordOf, SetFieldTyped, PrefixedTyped, BinaryTyped, BitFieldTyped, StructFieldTyped, ElementTyped, CondTyped, WholeTyped}

pub all_at : {A : Type 0} (P : A → Type 0) (xs : List A) (k : ℕ) (x : A) → All P xs → slice_get xs k ≡ Some x → P x
all_at P [] k x h e = let no : ⊥ = cc in absurd no
all_at P (y ∷ xs) zero x h e = let same : y ≡ x = cc in subst P same (All-head P y xs h)
all_at P (y ∷ xs) (suc k) x h e = all_at P xs k x (All-tail P y xs h) e

-- in a body there is no result
pub no_outcome : (ty : ValueType) → None ≡ Some ty → ⊥
no_outcome ty e = cc

-- a property of the types that are met in these surroundings
pub record Passes (env : Env) (scope : List ℕ) (P : ValueType → Type 0) : Type 0 where
  pub truth : P Truth
  pub int : (kind : IntKind) → P (Int kind)
  pub index : (n : ℕ) → IsTrue (is_length n) → P (Ix n)
  pub bits : (k : ℕ) → P (Bits k)
  pub area : (k : ℕ) (a : AreaCore) → slice_get env.core.areas k ≡ Some a → P (Ref a.constant Global a.area)
  pub local : (x : ℕ) (ty : ValueType) → Contains scope x → slice_get env.locals x ≡ Some ty → P ty
  pub outcome : (ty : ValueType) → env.outcome ≡ Some ty → P ty
  pub stored : (constant : Bool) (region : Region) (ty : ValueType) → P (Ref constant region (types.Stored ty)) → P ty
  pub field : (constant : Bool) (region : Region) (k f : ℕ) (area : Area) → struct_field env.core k f ≡ Some area → P (Ref constant region (types.Struct k)) → P (Ref constant region area)
  pub element : (constant : Bool) (region : Region) (n : ℕ) (area : Area) → P (Ref constant region (types.Array n area)) → P (Ref constant region area)

module _ (env : Env) (scope : List ℕ) (P : ValueType → Type 0) (passes : Passes env scope P) where
  plain_type : (ty : ValueType) → IsTrue (is_plain ty || is_index_type ty) → IsTrue (is_type env.core.structs 0 ty) → P ty
  plain_type Truth form is = passes.truth
  plain_type (Int kind) form is = passes.int kind
  plain_type (Ix n) form is = passes.index n is
  plain_type (Bits k) form is = passes.bits k
  plain_type (Ref constant region area) form is = let no : ⊥ = cc in absurd no

  field_type_holds : (f : FieldBits) → P (field_type f)
  field_type_holds f = go f.truth
    where
      go : (b : Bool) → P (if b then Truth else Int (least_unsigned f.width))
      go true = passes.truth
      go false = passes.int (least_unsigned f.width)

  result_type_holds : (op : BinOp) (ty : ValueType) → P ty → P (result_type op ty)
  result_type_holds op ty h = go (is_comparison op)
    where
      go : (b : Bool) → P (if b then Truth else ty)
      go true = passes.truth
      go false = h

  prefixed_holds : (l : Label) (op : PrefixOp) (from : ValueType) → PrefixedTyped l op from → P from → P l.ty
  prefixed_holds l Deref from t h = passes.stored t.constant t.region l.ty (subst P t.operand h)
  prefixed_holds l Neg from t h = subst P (sym t.type) h
  prefixed_holds l Not from t h = subst P (sym t.type) h
  prefixed_holds l Flip from t h = subst P (sym t.type) h

  bit_field_holds : (l : Label) (from : ValueType) (field : ℕ) → BitFieldTyped env l from field → P l.ty
  bit_field_holds l from field t = subst P (sym t.type) (field_type_holds t.bits)

  struct_field_holds : (l : Label) (from : ValueType) (field : ℕ) → P from → StructFieldTyped env l from field → P l.ty
  struct_field_holds l from field h t = subst P (sym t.type) (passes.field t.constant t.region t.number field t.area t.found (subst P t.operand h))

  pub types_hold : (e : ExprCore) → ExprTyped env scope e → P (type_of e)
  types_hold (Number l value) t = plain_type l.ty t.form t.type
  types_hold (Outcome l) t = passes.outcome l.ty t.outcome
  types_hold (Local l number) t = passes.local number l.ty t.in_scope t.type
  types_hold (AreaName l number) t = subst P (sym t.type) (passes.area number t.area t.found)
  types_hold (Cast l e) t = let c : CastTyped l (type_of e) = t.1 in subst P (sym c.type) (passes.int c.kind)
  types_hold (ToIndex l e) t = let c : ToIndexTyped l (type_of e) = t.1 in subst P (sym c.type) (passes.index c.length c.in_range)
  types_hold (WrapIndex l e) t = let c : WrapIndexTyped l (type_of e) = t.1 in subst P (sym c.type) (passes.index c.length c.in_range)
  types_hold (MakeBits l e) t = let c : IsWordOf env l.ty (type_of e) = t.1 in subst P (sym c.bits_are) (passes.bits c.number)
  types_hold (Raw l e) t = let c : IsWordOf env (type_of e) l.ty = t.1 in subst P (sym c.word_is) (passes.int c.layout.word)
  types_hold (SetField l e field value) t = let c : SetFieldTyped env l (type_of e) field (type_of value) = t.2 in subst P (sym c.type) (types_hold e t.0)
  types_hold (Prefix l op e) t = prefixed_holds l op (type_of e) t.1 (types_hold e t.0)
  types_hold (Binary l op left right) t =
      let c : BinaryTyped l op (type_of left) (type_of right) = t.2 in
      subst P (sym c.type) (result_type_holds op (type_of left) (types_hold left t.0))
  types_hold (Field l e field) t = ⊎_elim (bit_field_holds l (type_of e) field) (struct_field_holds l (type_of e) field (types_hold e t.0)) t.1
  types_hold (Element l e index) t =
      let c : ElementTyped l (type_of e) (type_of index) = t.2 in
      subst P (sym c.type) (passes.element c.constant c.region c.length c.element (subst P c.operand (types_hold e t.0)))
  types_hold (Cond l test first second) t = let c : CondTyped l (type_of test) (type_of first) (type_of second) = t.3 in subst P c.first_is (types_hold first t.1)
  types_hold (Whole l e) t = let c : WholeTyped l (type_of e) = t.1 in subst P (sym c.type) (types_hold e t.0)
