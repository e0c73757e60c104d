-- What a well typed expression is given fits its type, form by form.
use Rattle.std.proofs.Common.{◌≡◌, ⊎_elim, ℕ, ℤ, Bool, true, false, not, List, [], ◌∷◌, ◌++◌, Option, Some, Ok, IsTrue, refl, sym, ◌∙◌, ap, subst}
use Rattle.std.specs.Prelude.{pos, unsigned_abs}
use Rattle.std.specs.Option.{option_map, option_and_then}
use Rattle.std.proofs.lemmas.Option.{slice_get_within}
use Rattle.bit_data.specs.Fields.{field_of}
use Rattle.ivory_tree.specs.declared.BinOp.{BinOp}
use Rattle.ivory_tree.specs.declared.BinOp.TheVariants.{OrElse, AndAlso, Or, Xor, And, Eq, Ne, Lt, Le, Gt, Ge, Shl, Shr, Add, Sub, WrapAdd, WrapSub, Mul, Div, Rem, WrapMul}
use Rattle.ivory_tree.specs.declared.PrefixOp.{PrefixOp}
use Rattle.ivory_tree.specs.declared.PrefixOp.TheVariants.{Neg, Not, Flip, Deref}
use Rattle.area_types.specs.Syntax as types
use Rattle.area_types.specs.Syntax.{ValueType, Truth}
use Rattle.area_types.specs.declared.region.Region.TheVariants.{Global}
use Rattle.region_check.specs.Calls.{Reference, may_stand_for}
use Rattle.source_types.specs.Operators.{is_logic}
use Rattle.core_tree.specs.Syntax.{Label, ExprCore, type_of}
use Rattle.core_tree.specs.Syntax.{Number, Outcome, Local, AreaName, Cast, ToIndex, WrapIndex, MakeBits, Raw, SetField, Prefix, Binary, Field, Element, Cond, Whole}
use Rattle.core_tree.specs.Types.{is_value}
use Rattle.core_tree.specs.Environments.{Env}
use Rattle.core_tree.specs.TypedExpressions.{ExprTyped, AreaNameTyped, DerefTyped, BinaryTyped, PrefixedTyped, StructFieldTyped, BitFieldTyped, ElementTyped}
use Rattle.core_tree.specs.Valid.{ValidCore}
use Rattle.core_meaning.specs.Values.{Value, Num, Ref}
use Rattle.core_meaning.specs.Areas.{number_at, number_in}
use Rattle.core_meaning.specs.State.{State, value_of}
use Rattle.core_meaning.specs.Checks.{Answer}
use Rattle.core_meaning.specs.Answers.{operator_of, operation, prefix_operation, cast_to, index_to, wrapped_to, field_set}
use Rattle.core_meaning.specs.Gives.{Given, OfNumber, OfNumbers, is_true, Negated, CellGives, Chosen, Choice, FieldGives, ElementGives, PrefixGives, BinaryGives, field_value, Gives}
use Rattle.region_soundness.specs.Fitting.{Entry, Refers, ValueFits}
use Rattle.region_soundness.proofs.Answered.{AnswersOne, AnswersTwo}
use Rattle.region_soundness.proofs.Forms.{index_within, deeper}
use Rattle.region_soundness.proofs.Rows.{prefix_of, operator_answers, prefix_answers, logical_types, negated_types}
use Rattle.region_soundness.proofs.Conversions.{cast_answers, to_index_answers, wrap_index_answers}
use Rattle.region_soundness.proofs.Bits.{make_bits_answers, raw_answers, set_field_answers, bit_field_fits}
use Rattle.region_soundness.proofs.Structs.{field_part, element_part}
use Rattle.region_soundness.proofs.Trees.{leaf_number}
use Rattle.value_fitting.specs.Known.{Knows, KnowsOutcome}
use Rattle.value_fitting.specs.Laws.{GivenValuesFit}
use Rattle.value_fitting.proofs.Values.{referred_parts_fit, truth_fits}

some_same : {A : Type 0} (o : Option A) (x y : A) → o ≡ Some x → o ≡ Some y → x ≡ y
some_same o x y h g = let both : Some x ≡ Some y = sym h ∙ g in cc

number_same : (x y : ℤ) → Num x ≡ Num y → x ≡ y
number_same x y e = cc

module _ (env : Env) (valid : ValidCore env.core) (entry : Entry) (s : State) where
  abbrev Fitting : ValueType → Value → Type 0
  Fitting ty x = ValueFits env.core entry s.areas ty x

  -- each value that is given fits the type
  abbrev AllFit : ValueType → Given → Type 0
  AllFit ty given = (x : Value) → given x → Fitting ty x

  retype : (t u : ValueType) (given : Given) → u ≡ t → AllFit t given → AllFit u given
  retype t u given same h = subst (λ x. AllFit x given) (sym same) h

  -- ---- numbers

  one_fits : (l : Label) (from : ValueType) (form : Option (ℤ → Answer)) (given : Given) → AnswersOne env.core.structs from l form → AllFit from given → AllFit l.ty (OfNumber form given)
  one_fits l from form given a h x g =
      let same : a.answer ≡ g.answer = some_same form a.answer g.answer a.has g.has in
      let answers : a.answer g.operand ≡ Ok g.number = ap (λ (f : ℤ → Answer). f g.operand) same ∙ g.answers in
      subst (λ y. Fitting l.ty y) (sym g.is) ((a.each g.operand (h (Num g.operand) g.is_given)).fits g.number answers)

  two_fit : (l : Label) (t u : ValueType) (form : Option (ℤ → ℤ → Answer)) (left right : Given) → AnswersTwo env.core.structs t u l form → AllFit t left → AllFit u right → AllFit l.ty (OfNumbers form left right)
  two_fit l t u form left right a h k x g =
      let same : a.answer ≡ g.answer = some_same form a.answer g.answer a.has g.has in
      let answers : a.answer g.first g.second ≡ Ok g.number = ap (λ (f : ℤ → ℤ → Answer). f g.first g.second) same ∙ g.answers in
      subst (λ y. Fitting l.ty y) (sym g.is) ((a.each g.first g.second (h (Num g.first) g.first_given) (k (Num g.second) g.second_given)).fits g.number answers)

  negated_fits : (given : Given) → AllFit Truth (Negated given)
  negated_fits given x g = subst (λ y. Fitting Truth y) (sym g.is) (truth_fits env.core entry s.areas (not (is_true g.operand)))

  chosen_fits : (b : Bool) (first second fits : Type 0) → (first → fits) → (second → fits) → Chosen b first second → fits
  chosen_fits true first second fits h k g = h g
  chosen_fits false first second fits h k g = k g

  choice_fits : (ty : ValueType) (test first second : Given) → AllFit ty first → AllFit ty second → AllFit ty (Choice test first second)
  choice_fits ty test first second h k x g = chosen_fits (is_true g.operand) (first x) (second x) (Fitting ty x) (h x) (k x) g.chosen

  -- ---- operators

  numbers_fit : (l : Label) (o : BinOp) (t u : ValueType) (left right : Given) → IsTrue (not (is_logic o)) → BinaryTyped l o t u → AllFit t left → AllFit u right → AllFit l.ty (OfNumbers (operation (operator_of o) t) left right)
  numbers_fit l o t u left right plain typed h k = two_fit l t u (operation (operator_of o) t) left right (operator_answers env.core.structs l o t u typed plain) h k

  one_fits_truth : AllFit Truth (λ y. y ≡ Num (pos 1))
  one_fits_truth x e = subst (λ y. Fitting Truth y) (sym e) refl

  zero_fits_truth : AllFit Truth (λ y. y ≡ Num (pos 0))
  zero_fits_truth x e = subst (λ y. Fitting Truth y) (sym e) refl

  combined_fits : (l : Label) (o : BinOp) (t u : ValueType) (left right : Given) → BinaryTyped l o t u → AllFit t left → AllFit u right → AllFit l.ty (BinaryGives o t left right)
  combined_fits l OrElse t u left right typed h k =
      let a = logical_types l OrElse t u typed refl in
      retype Truth l.ty (BinaryGives OrElse t left right) a.type (choice_fits Truth left (λ y. y ≡ Num (pos 1)) right one_fits_truth (retype u Truth right (sym a.right_is) k))
  combined_fits l AndAlso t u left right typed h k =
      let a = logical_types l AndAlso t u typed refl in
      retype Truth l.ty (BinaryGives AndAlso t left right) a.type (choice_fits Truth left right (λ y. y ≡ Num (pos 0)) (retype u Truth right (sym a.right_is) k) zero_fits_truth)
  combined_fits l Or t u left right typed h k = numbers_fit l Or t u left right refl typed h k
  combined_fits l Xor t u left right typed h k = numbers_fit l Xor t u left right refl typed h k
  combined_fits l And t u left right typed h k = numbers_fit l And t u left right refl typed h k
  combined_fits l Eq t u left right typed h k = numbers_fit l Eq t u left right refl typed h k
  combined_fits l Ne t u left right typed h k = numbers_fit l Ne t u left right refl typed h k
  combined_fits l Lt t u left right typed h k = numbers_fit l Lt t u left right refl typed h k
  combined_fits l Le t u left right typed h k = numbers_fit l Le t u left right refl typed h k
  combined_fits l Gt t u left right typed h k = numbers_fit l Gt t u left right refl typed h k
  combined_fits l Ge t u left right typed h k = numbers_fit l Ge t u left right refl typed h k
  combined_fits l Shl t u left right typed h k = numbers_fit l Shl t u left right refl typed h k
  combined_fits l Shr t u left right typed h k = numbers_fit l Shr t u left right refl typed h k
  combined_fits l Add t u left right typed h k = numbers_fit l Add t u left right refl typed h k
  combined_fits l Sub t u left right typed h k = numbers_fit l Sub t u left right refl typed h k
  combined_fits l WrapAdd t u left right typed h k = numbers_fit l WrapAdd t u left right refl typed h k
  combined_fits l WrapSub t u left right typed h k = numbers_fit l WrapSub t u left right refl typed h k
  combined_fits l Mul t u left right typed h k = numbers_fit l Mul t u left right refl typed h k
  combined_fits l Div t u left right typed h k = numbers_fit l Div t u left right refl typed h k
  combined_fits l Rem t u left right typed h k = numbers_fit l Rem t u left right refl typed h k
  combined_fits l WrapMul t u left right typed h k = numbers_fit l WrapMul t u left right refl typed h k

  -- ---- references

  module _ (scope : List ℕ) (known : Knows env scope entry s) where
    -- `*r`
    cell_fits : (l : Label) (from : ValueType) (given : Given) → DerefTyped l from → AllFit from given → AllFit l.ty (CellGives s.areas given)
    cell_fits l from given d h x g =
        let r : Reference = record { constant = d.constant; region = d.region; area = types.Stored l.ty } in
        let refers : Refers env.core entry s.areas r g.area g.path = subst (λ t. Fitting t (Ref g.area g.path)) d.operand (h (Ref g.area g.path) g.is_given) in
        let p = referred_parts_fit env.core entry s.areas known.areas r g.area g.path refers in
        let q = leaf_number env.core.structs l.ty p.held p.fits in
        let number : number_at s.areas g.area g.path ≡ Some q.0 = ap (option_and_then number_in) p.is ∙ ap number_in q.1 in
        let same : q.0 ≡ g.number = some_same (number_at s.areas g.area g.path) q.0 g.number number g.holds in
        subst (λ y. Fitting l.ty y) (sym g.is) (subst (λ v. IsTrue (is_value env.core.structs l.ty v)) same q.2)

    prefixed_fits : (l : Label) (o : PrefixOp) (from : ValueType) (given : Given) → PrefixedTyped l o from → AllFit from given → AllFit l.ty (PrefixGives s.areas o from given)
    prefixed_fits l Neg from given typed h = one_fits l from (prefix_operation (prefix_of Neg) from) given (prefix_answers env.core.structs l Neg from typed refl) h
    prefixed_fits l Flip from given typed h = one_fits l from (prefix_operation (prefix_of Flip) from) given (prefix_answers env.core.structs l Flip from typed refl) h
    prefixed_fits l Not from given typed h = retype Truth l.ty (Negated given) (negated_types l from typed).1 (negated_fits given)
    prefixed_fits l Deref from given typed h = cell_fits l from given typed h

    -- an area of the module
    area_fits : (l : Label) (number : ℕ) → AreaNameTyped env l number → Fitting l.ty (Ref number [])
    area_fits l number typed =
        let g = known.globals number typed.area typed.found in
        let r : Refers env.core entry s.areas (record { constant = typed.area.constant; region = Global; area = typed.area.area }) number [] = record {
          area = g.area;
          live = g.live;
          leads = ap Some g.type;
          access = subst (λ c. IsTrue (may_stand_for c typed.area.constant)) (sym g.access) (stands_for_itself typed.area.constant);
          allowed = slice_get_within env.core.areas number typed.area typed.found;
        } in
        subst (λ t. Fitting t (Ref number [])) (sym typed.type) r
      where
        stands_for_itself : (c : Bool) → IsTrue (may_stand_for c c)
        stands_for_itself true = refl
        stands_for_itself false = refl

  -- ---- fields and elements

  bit_field_given : (l : Label) (from : ValueType) (field : ℕ) (given : Given) → BitFieldTyped env l from field → AllFit from given → AllFit l.ty (FieldGives env.core from field given)
  bit_field_given l from field given typed h x g = behind g.operand (h g.operand g.is_given) g.is
    where
      behind : (y : Value) → ValueFits env.core entry s.areas from y → field_value env.core from field y ≡ Some x → ValueFits env.core entry s.areas l.ty x
      behind (Num word) fits is =
          let f = bit_field_fits env valid l from field typed word fits in
          let value : field_value env.core from field (Num word) ≡ Some (Num (field_of f.layout field word)) = ap (option_map (λ layout. Num (field_of layout field word))) f.has in
          let same : Num (field_of f.layout field word) ≡ x = some_same (field_value env.core from field (Num word)) (Num (field_of f.layout field word)) x value is in
          subst (λ y. ValueFits env.core entry s.areas l.ty y) same f.fits
      behind (Ref k path) fits is = absurd (subst (λ t. ValueFits env.core entry s.areas t (Ref k path)) typed.operand fits)

  struct_field_given : (l : Label) (from : ValueType) (field : ℕ) (given : Given) → StructFieldTyped env l from field → AllFit from given → AllFit l.ty (FieldGives env.core from field given)
  struct_field_given l from field given typed h x g = behind g.operand (subst (λ t. ValueFits env.core entry s.areas t g.operand) typed.operand (h g.operand g.is_given)) g.is
    where
      behind : (y : Value) → ValueFits env.core entry s.areas (types.Ref typed.constant typed.region (types.Struct typed.number)) y → field_value env.core from field y ≡ Some x → ValueFits env.core entry s.areas l.ty x
      behind (Num word) fits is = let no : ⊥ = cc in absurd no
      behind (Ref k path) fits is =
          let same : Ref k (path ++ field ∷ []) ≡ x = some_same (field_value env.core from field (Ref k path)) (Ref k (path ++ field ∷ [])) x refl is in
          let whole : Reference = record { constant = typed.constant; region = typed.region; area = types.Struct typed.number } in
          let inner : Reference = record { constant = typed.constant; region = typed.region; area = typed.area } in
          subst (λ y. ValueFits env.core entry s.areas l.ty y) same
          (subst (λ t. ValueFits env.core entry s.areas t (Ref k (path ++ field ∷ []))) (sym typed.type)
          (deeper env.core entry s whole inner k field path fits refl refl (λ a leads. field_part env.core valid.table typed.number field typed.area typed.found a path leads)))

  element_given : (l : Label) (from index : ValueType) (array place : Given) → ElementTyped l from index → AllFit from array → AllFit index place → AllFit l.ty (ElementGives array place)
  element_given l from index array place typed h k x g =
      let whole : Reference = record { constant = typed.constant; region = typed.region; area = types.Array typed.length typed.element } in
      let inner : Reference = record { constant = typed.constant; region = typed.region; area = typed.element } in
      let i : ℕ = unsigned_abs g.element in
      let refers : Refers env.core entry s.areas whole g.area g.path = subst (λ t. Fitting t (Ref g.area g.path)) typed.operand (h (Ref g.area g.path) g.array_given) in
      let low = index_within typed.length g.element (subst (λ t. IsTrue (is_value env.core.structs t g.element)) typed.index_is (k (Num g.element) g.index_given)) in
      subst (λ y. Fitting l.ty y) (sym g.is)
      (subst (λ t. Fitting t (Ref g.area (g.path ++ i ∷ []))) (sym typed.type)
      (deeper env.core entry s whole inner g.area i g.path refers refl refl (λ w leads. element_part env.core.structs typed.length i typed.element low w g.path leads)))

  -- ---- expressions

  module _ (scope : List ℕ) (known : Knows env scope entry s) (outcome : Option Value) (known_outcome : KnowsOutcome env entry s.areas outcome) where
    abbrev Gave : ExprCore → Given
    Gave e = Gives env.core outcome s e

    pub given_fits : (e : ExprCore) → ExprTyped env scope e → (x : Value) → Gives env.core outcome s e x → ValueFits env.core entry s.areas (type_of e) x
    given_fits (Number l v) t x g = subst (λ y. Fitting l.ty y) (sym g) t.holds
    given_fits (Outcome l) t x g =
        let o = known_outcome l.ty t.outcome in
        subst (λ y. Fitting l.ty y) (some_same outcome o.value x o.has g) o.fits
    given_fits (Local l number) t x g =
        let f = known.names number l.ty t.in_scope t.type in
        subst (λ y. Fitting l.ty y) (some_same (value_of number s) f.value x f.has g.has) f.fits
    given_fits (AreaName l number) t x g = subst (λ y. Fitting l.ty y) (some_same (Some (Ref number [])) (Ref number []) x refl g.has) (area_fits scope known l number t)
    given_fits (Cast l e) t x g = one_fits l (type_of e) (cast_to l.ty) (Gave e) (cast_answers env.core.structs l (type_of e) t.1) (given_fits e t.0) x g
    given_fits (ToIndex l e) t x g = one_fits l (type_of e) (index_to l.ty) (Gave e) (to_index_answers env.core.structs l (type_of e) t.1) (given_fits e t.0) x g
    given_fits (WrapIndex l e) t x g = one_fits l (type_of e) (wrapped_to l.ty) (Gave e) (wrap_index_answers env.core.structs l (type_of e) t.1) (given_fits e t.0) x g
    given_fits (MakeBits l e) t x g = one_fits l (type_of e) (Some Ok) (Gave e) (make_bits_answers env valid l (type_of e) t.1 t.2) (given_fits e t.0) x g
    given_fits (Raw l e) t x g = one_fits l (type_of e) (Some Ok) (Gave e) (raw_answers env valid l (type_of e) t.1 t.2) (given_fits e t.0) x g
    given_fits (SetField l e field value) t x g =
        two_fit l (type_of e) (type_of value) (field_set env.core (type_of e) field) (Gave e) (Gave value) (set_field_answers env valid l (type_of e) field (type_of value) t.2) (given_fits e t.0) (given_fits value t.1) x g
    given_fits (Prefix l o e) t x g = prefixed_fits scope known l o (type_of e) (Gave e) t.1 (given_fits e t.0) x g
    given_fits (Binary l o left right) t x g = combined_fits l o (type_of left) (type_of right) (Gave left) (Gave right) t.2 (given_fits left t.0) (given_fits right t.1) x g
    given_fits (Field l e field) t x g = ⊎_elim (λ b. bit_field_given l (type_of e) field (Gave e) b (given_fits e t.0) x g) (λ f. struct_field_given l (type_of e) field (Gave e) f (given_fits e t.0) x g) t.1
    given_fits (Element l e index) t x g = element_given l (type_of e) (type_of index) (Gave e) (Gave index) t.2 (given_fits e t.0) (given_fits index t.1) x g
    given_fits (Cond l test first second) t x g =
        choice_fits l.ty (Gave test) (Gave first) (Gave second) (retype (type_of first) l.ty (Gave first) (sym t.3.first_is) (given_fits first t.1)) (retype (type_of second) l.ty (Gave second) (sym t.3.second_is) (given_fits second t.2)) x g
    given_fits (Whole l e) t x g = retype (type_of e) l.ty (Gave e) t.1.type (given_fits e t.0) x g

pub given_values_fit : GivenValuesFit
given_values_fit env valid scope entry s known outcome known_outcome e typed v g = given_fits env valid entry s scope known outcome known_outcome e typed v g
