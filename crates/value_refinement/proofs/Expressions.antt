-- Every typed expression follows, and every reference leads to its place: by induction over the expression, one lemma a form.
use Rattle.std.proofs.Common.{◌≡◌, ℕ, ℤ, Bool, true, false, not, IsTrue, ◌++◌, refl, sym, ◌∙◌, ap, ⊎_elim}
use Rattle.std.specs.Prelude.{if◌then◌else◌, ◌||◌}
use Rattle.bit_data.specs.declared.FieldBits.{FieldBits}
use Rattle.ivory_tree.specs.declared.PrefixOp.{PrefixOp}
use Rattle.ivory_tree.specs.declared.PrefixOp.TheVariants.{Neg, Not, Flip, Deref}
use Rattle.ivory_tree.specs.declared.BinOp.{BinOp}
use Rattle.ivory_tree.specs.declared.BinOp.TheVariants.{OrElse, AndAlso, Or, Xor, And, Eq, Ne, Lt, Le, Gt, Ge, Shl, Shr, Add, Sub, WrapAdd, WrapSub, Mul, Div, Rem, WrapMul}
use Rattle.area_types.specs.Syntax as types
use Rattle.area_types.specs.Syntax.{ValueType}
use Rattle.area_types.specs.declared.region.Region.TheVariants.{Global}
use Rattle.source_types.specs.Operators.{is_for, prefix_is_for, is_comparison}
use Rattle.source_types.specs.Values.{is_reference, is_plain, is_index_type, least_unsigned}
use Rattle.core_tree.specs.Operators.{field_type, result_type}
use Rattle.core_tree.specs.Types.{is_value}
use Rattle.core_tree.specs.Checks.{expr_checks}
use Rattle.core_tree.specs.Syntax.{ExprCore, Label, Number, Outcome, Local, AreaName, Cast, ToIndex, WrapIndex, MakeBits, Raw, SetField, Prefix, Binary, Field, Element, Cond, Whole, type_of}
use Rattle.core_tree.specs.TypedExpressions.{ExprTyped, BitFieldTyped}
use Rattle.core_meaning.specs.Expressions.{eval}
use Rattle.core_meaning.specs.Gives.{Gives}
use Rattle.core_meaning.specs.State.{State}
use Rattle.core_meaning.specs.Values.{Num}
use Rattle.area_objects.specs.Both.{Map}
use Rattle.lower_values.specs.Choices.{is_logic, is_truth_chain}
use Rattle.lower_values.specs.Conversions.{bit_field}
use Rattle.lower_values.specs.Expressions.{raw, place, field_piece}
use Rattle.value_refinement.specs.Laws.{Numbered, Stage, RawFollows, PlaceFollows}
use Rattle.value_refinement.specs.Settings.{Setting, Set}
use Rattle.value_refinement.proofs.Arms.{ObjectFollows, object_raw}
use Rattle.value_refinement.proofs.BinaryForms.{binary_follows}
use Rattle.value_refinement.proofs.Choices.{cond_object}
use Rattle.value_refinement.proofs.Given.{first_checks, last_checks}
use Rattle.value_refinement.proofs.Literals.{literal_follows}
use Rattle.value_refinement.proofs.Logic.{logic_object, chain_follows}
use Rattle.value_refinement.proofs.Names.{local_follows, local_place_follows, outcome_follows, outcome_place_follows, area_place_follows, reference_follows, whole_follows, whole_place_follows}
use Rattle.value_refinement.proofs.NumberParts.{same_pieces}
use Rattle.value_refinement.proofs.Operands.{as_raw}
use Rattle.value_refinement.proofs.PrefixForms.{negative_follows, flipped_follows, negation_follows, bit_field_follows}
use Rattle.value_refinement.proofs.References.{no_number, field_place_follows, struct_field_follows, element_place_follows, element_follows, deref_follows}
use Rattle.value_refinement.proofs.SetForms.{set_follows}
use Rattle.value_refinement.proofs.UnaryForms.{cast_follows, to_index_follows, wrap_index_follows, make_bits_follows, raw_word_follows}

module _ (g : Setting) (set : Set g) (objects : Map) (s : State) (stage : Stage g s) where
  -- ---- forms that their types decide

  area_follows : (l : Label) (x : ℕ) → ExprTyped g.env g.scope (AreaName l x) → RawFollows g objects s (AreaName l x)
  area_follows l x typed =
      reference_follows g set objects s (AreaName l x) (area_place_follows g set objects s l x typed) (λ from. refl)
      (no_number g set objects s stage (AreaName l x) typed typed.area.constant Global typed.area.area typed.type)

  bits_follow : (l : Label) (e : ExprCore) (field : ℕ) → ExprTyped g.env g.scope e → BitFieldTyped g.env l (type_of e) field → RawFollows g objects s e → RawFollows g objects s (Field l e field)
  bits_follow l e field typed at follows =
      as_raw g set objects s (Field l e field)
      (same_pieces g set objects s (eval g.frame.core g.outcome (Field l e field)) (Gives g.frame.core g.outcome s (Field l e field)) l.ty (λ from. bit_field g.frame (type_of e) field (raw g.frame e from)) (raw g.frame (Field l e field))
      (λ from. ap (λ ty. bit_field g.frame ty field (raw g.frame e from)) at.operand ∙ sym (ap (λ ty. field_piece g.frame ty field (raw g.frame e from) (place g.frame e from)) at.operand))
      (bit_field_follows g set objects s stage l e follows field typed at))

  is_refers : (e : ExprCore) (ty : ValueType) → type_of e ≡ ty → is_reference ty ≡ true → IsTrue (is_reference (type_of e))
  is_refers e ty is refers = ap is_reference is ∙ refers

  field_follows : (l : Label) (e : ExprCore) (field : ℕ) → ExprTyped g.env g.scope (Field l e field) → RawFollows g objects s e → (IsTrue (is_reference (type_of e)) → PlaceFollows g objects s e) → RawFollows g objects s (Field l e field)
  field_follows l e field typed follows place_of =
      ⊎_elim (λ at. bits_follow l e field typed.0 at follows)
      (λ at. struct_field_follows g set objects s stage l e field typed.0 typed at (place_of (ap is_reference at.operand))) typed.1

  -- an operator on numbers, or else `&&` or `||`
  binary_by : (l : Label) (o : BinOp) (left right : ExprCore) → ExprTyped g.env g.scope (Binary l o left right) → Numbered (expr_checks (Binary l o left right)) → RawFollows g objects s left → RawFollows g objects s right
      → (IsTrue (is_truth_chain left) → ObjectFollows g objects s left) → (b : Bool) → is_logic o ≡ b → RawFollows g objects s (Binary l o left right)
  binary_by l o left right typed small left_follows right_follows chain true e =
      object_raw g set objects s stage (Binary l o left right) typed (logic_object g set objects s stage l o left right e typed left_follows chain right_follows)
  binary_by l o left right typed small left_follows right_follows chain false e = binary_follows g set objects s stage l o left right left_follows right_follows typed small e

  -- a value of a reference's type is no number
  number_never : (e : ExprCore) → ExprTyped g.env g.scope e → IsTrue (is_reference (type_of e)) → (n : ℤ) → Gives g.frame.core g.outcome s e (Num n) → ⊥
  number_never e typed refers n gives = by_type (type_of e) refers (stage.fits e (Num n) typed gives) where
    by_type : (ty : ValueType) → IsTrue (is_reference ty) → IsTrue (is_value g.frame.core.structs ty n) → ⊥
    by_type types.Truth h fits = let no : ⊥ = cc in no
    by_type (types.Int kind) h fits = let no : ⊥ = cc in no
    by_type (types.Ix k) h fits = let no : ⊥ = cc in no
    by_type (types.Bits k) h fits = let no : ⊥ = cc in no
    by_type (types.Ref constant region area) h fits = let no : ⊥ = cc in no

  -- ---- no references

  -- an expression of a type that is none
  no_place : {A : Type 1} (ty : ValueType) → IsTrue (not (is_reference ty)) → IsTrue (is_reference ty) → A
  no_place types.Truth plain refers = let no : ⊥ = cc in absurd no
  no_place (types.Int kind) plain refers = let no : ⊥ = cc in absurd no
  no_place (types.Ix n) plain refers = let no : ⊥ = cc in absurd no
  no_place (types.Bits k) plain refers = let no : ⊥ = cc in absurd no
  no_place (types.Ref constant region area) plain refers = let no : ⊥ = cc in absurd no

  plain_form : (ty : ValueType) → IsTrue (is_plain ty || is_index_type ty) → IsTrue (not (is_reference ty))
  plain_form types.Truth h = refl
  plain_form (types.Int kind) h = refl
  plain_form (types.Ix n) h = refl
  plain_form (types.Bits k) h = let no : ⊥ = cc in absurd no
  plain_form (types.Ref constant region area) h = let no : ⊥ = cc in absurd no

  plain_prefix : (o : PrefixOp) (ty : ValueType) → IsTrue (prefix_is_for o ty) → IsTrue (not (is_reference ty))
  plain_prefix Neg (types.Int kind) h = refl
  plain_prefix Flip (types.Int kind) h = refl
  plain_prefix Not types.Truth h = refl
  plain_prefix o ty h = let no : ⊥ = cc in absurd no

  plain_field : (b : FieldBits) → IsTrue (not (is_reference (field_type b)))
  plain_field b = go b.truth where
    go : (t : Bool) → IsTrue (not (is_reference (if t then types.Truth else types.Int (least_unsigned b.width))))
    go true = refl
    go false = refl

  plain_binary : (o : BinOp) (ty : ValueType) → IsTrue (is_for o ty) → IsTrue (not (is_reference (result_type o ty)))
  plain_binary o types.Truth h = by_kind (is_comparison o) where
    by_kind : (b : Bool) → IsTrue (not (is_reference (if b then types.Truth else types.Truth)))
    by_kind true = refl
    by_kind false = refl
  plain_binary o (types.Int kind) h = by_kind (is_comparison o) where
    by_kind : (b : Bool) → IsTrue (not (is_reference (if b then types.Truth else types.Int kind)))
    by_kind true = refl
    by_kind false = refl
  plain_binary o (types.Ix n) h = by_kind (is_comparison o) where
    by_kind : (b : Bool) → IsTrue (not (is_reference (if b then types.Truth else types.Ix n)))
    by_kind true = refl
    by_kind false = refl
  plain_binary o (types.Bits k) h = by_kind (is_comparison o) where
    by_kind : (b : Bool) → IsTrue (not (is_reference (if b then types.Truth else types.Bits k)))
    by_kind true = refl
    by_kind false = refl
  plain_binary o (types.Ref constant region area) h = for_none o h where
    for_none : (p : BinOp) → IsTrue (is_for p (types.Ref constant region area)) → IsTrue (not (is_reference (result_type o (types.Ref constant region area))))
    for_none OrElse e = let no : ⊥ = cc in absurd no
    for_none AndAlso e = let no : ⊥ = cc in absurd no
    for_none Or e = let no : ⊥ = cc in absurd no
    for_none Xor e = let no : ⊥ = cc in absurd no
    for_none And e = let no : ⊥ = cc in absurd no
    for_none Eq e = let no : ⊥ = cc in absurd no
    for_none Ne e = let no : ⊥ = cc in absurd no
    for_none Lt e = let no : ⊥ = cc in absurd no
    for_none Le e = let no : ⊥ = cc in absurd no
    for_none Gt e = let no : ⊥ = cc in absurd no
    for_none Ge e = let no : ⊥ = cc in absurd no
    for_none Shl e = let no : ⊥ = cc in absurd no
    for_none Shr e = let no : ⊥ = cc in absurd no
    for_none Add e = let no : ⊥ = cc in absurd no
    for_none Sub e = let no : ⊥ = cc in absurd no
    for_none WrapAdd e = let no : ⊥ = cc in absurd no
    for_none WrapSub e = let no : ⊥ = cc in absurd no
    for_none Mul e = let no : ⊥ = cc in absurd no
    for_none Div e = let no : ⊥ = cc in absurd no
    for_none Rem e = let no : ⊥ = cc in absurd no
    for_none WrapMul e = let no : ⊥ = cc in absurd no

  field_place_by : (l : Label) (e : ExprCore) (field : ℕ) → ExprTyped g.env g.scope (Field l e field) → IsTrue (is_reference l.ty) → (IsTrue (is_reference (type_of e)) → PlaceFollows g objects s e) → PlaceFollows g objects s (Field l e field)
  field_place_by l e field typed refers place_of =
      ⊎_elim (λ at. no_place l.ty (ap (λ ty. not (is_reference ty)) at.type ∙ plain_field at.bits) refers)
      (λ at. field_place_follows g set objects s stage l e field typed.0 typed at (place_of (ap is_reference at.operand))) typed.1

  -- ---- the induction

  mutual
    pub raw_all : (e : ExprCore) → ExprTyped g.env g.scope e → Numbered (expr_checks e) → RawFollows g objects s e
    raw_all (Number l v) typed small = literal_follows g set objects s l v typed stage
    raw_all (Outcome l) typed small = outcome_follows g set objects s l typed
    raw_all (Local l x) typed small = local_follows g set objects s l x typed
    raw_all (AreaName l x) typed small = area_follows l x typed
    raw_all (Cast l e) typed small = cast_follows g set objects s stage l e (raw_all e typed.0 (last_checks l.checks (expr_checks e) small)) typed small
    raw_all (ToIndex l e) typed small = to_index_follows g set objects s stage l e (raw_all e typed.0 (last_checks l.checks (expr_checks e) small)) typed small
    raw_all (WrapIndex l e) typed small = wrap_index_follows g set objects s stage l e (raw_all e typed.0 (last_checks l.checks (expr_checks e) small)) typed
    raw_all (MakeBits l e) typed small = make_bits_follows g set objects s stage l e (raw_all e typed.0 (last_checks l.checks (expr_checks e) small)) typed
    raw_all (Raw l e) typed small = raw_word_follows g set objects s stage l e (raw_all e typed.0 (last_checks l.checks (expr_checks e) small)) typed
    raw_all (SetField l e field x) typed small =
        let rest : Numbered (expr_checks e ++ expr_checks x) = last_checks l.checks (expr_checks e ++ expr_checks x) small in
        set_follows g set objects s stage l e field x (raw_all e typed.0 (first_checks (expr_checks e) (expr_checks x) rest)) (raw_all x typed.1 (last_checks (expr_checks e) (expr_checks x) rest)) typed small
    raw_all (Prefix l Neg e) typed small = negative_follows g set objects s stage l e (raw_all e typed.0 (last_checks l.checks (expr_checks e) small)) typed small
    raw_all (Prefix l Flip e) typed small = flipped_follows g set objects s stage l e (raw_all e typed.0 (last_checks l.checks (expr_checks e) small)) typed small
    raw_all (Prefix l Not e) typed small = negation_follows g set objects s stage l e (raw_all e typed.0 (last_checks l.checks (expr_checks e) small)) typed
    raw_all (Prefix l Deref e) typed small = deref_follows g set objects s stage l e typed.0 typed.1 (place_all e typed.0 (last_checks l.checks (expr_checks e) small) (ap is_reference typed.1.operand))
    raw_all (Binary l o left right) typed small =
        binary_by l o left right typed small (raw_all left typed.0 (first_checks (expr_checks left) (l.checks ++ expr_checks right) small))
        (raw_all right typed.1 (last_checks l.checks (expr_checks right) (last_checks (expr_checks left) (l.checks ++ expr_checks right) small)))
        (λ inner. object_all left typed.0 (first_checks (expr_checks left) (l.checks ++ expr_checks right) small) inner) (is_logic o) refl
    raw_all (Field l e field) typed small =
        field_follows l e field typed (raw_all e typed.0 (first_checks (expr_checks e) l.checks small)) (λ refers. place_all e typed.0 (first_checks (expr_checks e) l.checks small) refers)
    raw_all (Element l e index) typed small =
        element_follows g set objects s stage l e index typed.0 typed.1 typed typed.2 (place_all e typed.0 (first_checks (expr_checks e) (l.checks ++ expr_checks index) small) (ap is_reference typed.2.operand))
        (raw_all index typed.1 (last_checks l.checks (expr_checks index) (last_checks (expr_checks e) (l.checks ++ expr_checks index) small)))
    raw_all (Cond l test first second) typed small =
        object_raw g set objects s stage (Cond l test first second) typed
        (cond_object g set objects s stage l test first second typed (raw_all test typed.0 (first_checks (expr_checks test) (l.checks ++ (expr_checks first ++ expr_checks second)) small))
        (raw_all first typed.1 (first_checks (expr_checks first) (expr_checks second) (last_checks l.checks (expr_checks first ++ expr_checks second) (last_checks (expr_checks test) (l.checks ++ (expr_checks first ++ expr_checks second)) small))))
        (raw_all second typed.2 (last_checks (expr_checks first) (expr_checks second) (last_checks l.checks (expr_checks first ++ expr_checks second) (last_checks (expr_checks test) (l.checks ++ (expr_checks first ++ expr_checks second)) small)))))
    raw_all (Whole l e) typed small = whole_follows g set objects s l e typed (raw_all e typed.0 (first_checks (expr_checks e) l.checks small))

    -- of a chain of `&&` and `||`, whose value is in an object
    pub object_all : (e : ExprCore) → ExprTyped g.env g.scope e → Numbered (expr_checks e) → IsTrue (is_truth_chain e) → ObjectFollows g objects s e
    object_all (Binary l o left right) typed small chain =
        logic_object g set objects s stage l o left right chain typed (raw_all left typed.0 (first_checks (expr_checks left) (l.checks ++ expr_checks right) small))
        (λ inner. object_all left typed.0 (first_checks (expr_checks left) (l.checks ++ expr_checks right) small) inner)
        (raw_all right typed.1 (last_checks l.checks (expr_checks right) (last_checks (expr_checks left) (l.checks ++ expr_checks right) small)))
    object_all (Whole l e) typed small chain = chain_follows g set objects s stage l e typed (object_all e typed.0 (first_checks (expr_checks e) l.checks small) chain)
    object_all e typed small chain = let no : ⊥ = cc in absurd no

    pub place_all : (e : ExprCore) → ExprTyped g.env g.scope e → Numbered (expr_checks e) → IsTrue (is_reference (type_of e)) → PlaceFollows g objects s e
    place_all (Outcome l) typed small refers = outcome_place_follows g set objects s l typed (number_never (Outcome l) typed refers)
    place_all (Local l x) typed small refers = local_place_follows g set objects s l x typed (number_never (Local l x) typed refers)
    place_all (AreaName l x) typed small refers = area_place_follows g set objects s l x typed
    place_all (Field l e field) typed small refers = field_place_by l e field typed refers (λ inner. place_all e typed.0 (first_checks (expr_checks e) l.checks small) inner)
    place_all (Element l e index) typed small refers =
        element_place_follows g set objects s stage l e index typed.0 typed.1 typed typed.2 (place_all e typed.0 (first_checks (expr_checks e) (l.checks ++ expr_checks index) small) (ap is_reference typed.2.operand))
        (raw_all index typed.1 (last_checks l.checks (expr_checks index) (last_checks (expr_checks e) (l.checks ++ expr_checks index) small)))
    place_all (Whole l e) typed small refers = whole_place_follows g set objects s l e typed (place_all e typed.0 (first_checks (expr_checks e) l.checks small) (sym (ap is_reference typed.1.type) ∙ refers))
    place_all (Number l v) typed small refers = no_place l.ty (plain_form l.ty typed.form) refers
    place_all (Cast l e) typed small refers = no_place l.ty (ap (λ ty. not (is_reference ty)) typed.1.type) refers
    place_all (ToIndex l e) typed small refers = no_place l.ty (ap (λ ty. not (is_reference ty)) typed.1.type) refers
    place_all (WrapIndex l e) typed small refers = no_place l.ty (ap (λ ty. not (is_reference ty)) typed.1.type) refers
    place_all (MakeBits l e) typed small refers = no_place l.ty (ap (λ ty. not (is_reference ty)) typed.1.bits_are) refers
    place_all (Raw l e) typed small refers = no_place l.ty (ap (λ ty. not (is_reference ty)) typed.1.word_is) refers
    place_all (SetField l e field x) typed small refers = no_place l.ty (ap (λ ty. not (is_reference ty)) (typed.2.type ∙ typed.2.operand)) refers
    place_all (Prefix l Neg e) typed small refers = no_place l.ty (ap (λ ty. not (is_reference ty)) typed.1.type ∙ plain_prefix Neg (type_of e) typed.1.is_for) refers
    place_all (Prefix l Flip e) typed small refers = no_place l.ty (ap (λ ty. not (is_reference ty)) typed.1.type ∙ plain_prefix Flip (type_of e) typed.1.is_for) refers
    place_all (Prefix l Not e) typed small refers = no_place l.ty (ap (λ ty. not (is_reference ty)) typed.1.type ∙ plain_prefix Not (type_of e) typed.1.is_for) refers
    place_all (Prefix l Deref e) typed small refers = no_place l.ty (stage.stored e typed.1.constant typed.1.region l.ty typed.0 typed.1.operand) refers
    place_all (Binary l o left right) typed small refers = no_place l.ty (ap (λ ty. not (is_reference ty)) typed.2.type ∙ plain_binary o (type_of left) typed.2.is_for) refers
    place_all (Cond l test first second) typed small refers = no_place l.ty typed.3.value refers
