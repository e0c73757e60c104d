-- A well typed expression comes to a value that fits its type, or stops at a check: it is never undefined, and it changes nothing.
use Rattle.std.proofs.Common.{◌≡◌, ⊎_elim, ℕ, Bool, true, false, not, List, [], ◌∷◌, ◌++◌, Option, Some, None, Ok, IsTrue, refl, sym, ap, subst}
use Rattle.std.specs.Prelude.{pos}
use Rattle.std.proofs.lemmas.Option.{slice_get_within}
use Rattle.step_semantics.specs.Steps.{World, Part, give, bind, tick}
use Rattle.step_semantics.specs.Safe.{HasMeaning, Safe}
use Rattle.step_semantics.proofs.Keeping.{keeps_tick}
use Rattle.ivory_tree.specs.declared.BinOp.{BinOp}
use Rattle.ivory_tree.specs.declared.BinOp.TheVariants.{OrElse, AndAlso, Or, Xor, And, Eq, Ne, Lt, Le, Gt, Ge, Shl, Shr, Add, Sub, WrapAdd, WrapSub, Mul, Div, Rem, WrapMul}
use Rattle.ivory_tree.specs.declared.PrefixOp.{PrefixOp}
use Rattle.ivory_tree.specs.declared.PrefixOp.TheVariants.{Neg, Not, Flip, Deref}
use Rattle.bit_data.specs.Fields.{field_of}
use Rattle.area_types.specs.Syntax as types
use Rattle.area_types.specs.Syntax.{ValueType, Truth}
use Rattle.region_check.specs.Calls.{reference_of, may_stand_for}
use Rattle.area_types.specs.declared.region.Region.TheVariants.{Global}
use Rattle.core_tree.specs.Syntax.{Label, ExprCore, type_of}
use Rattle.core_tree.specs.Syntax.{Number, Outcome, Local, AreaName, Cast, ToIndex, WrapIndex, MakeBits, Raw, SetField, Prefix, Binary, Field, Element, Cond, Whole}
use Rattle.core_tree.specs.Types.{is_value}
use Rattle.core_tree.specs.Environments.{Env}
use Rattle.core_tree.specs.TypedExpressions.{ExprTyped, AreaNameTyped, BinaryTyped, PrefixedTyped, StructFieldTyped, BitFieldTyped}
use Rattle.core_tree.specs.Valid.{ValidCore}
use Rattle.core_meaning.specs.Values.{Value, Num, Ref}
use Rattle.core_meaning.specs.State.{State, value_of}
use Rattle.core_meaning.specs.Answers.{operator_of, operation, prefix_operation, cast_to, index_to, wrapped_to, layout_of, field_set}
use Rattle.core_meaning.specs.Expressions.{of_numbers, prefixed, combined, field_behind, eval}
use Rattle.region_soundness.specs.Fitting.{Entry, Refers, ValueFits}
use Rattle.region_soundness.proofs.Known.{Knows, KnowsOutcome}
use Rattle.region_soundness.proofs.Forms.{Gave, gave_after, some_safe, of_number_safe, of_numbers_safe, negated_safe, choice_safe, name_safe, number_behind_safe, element_safe, deeper}
use Rattle.region_soundness.proofs.Plain.{number_plain, operation_plain, prefix_plain, same_plain, field_plain}
use Rattle.source_types.specs.Operators.{is_logic}
use Rattle.region_soundness.proofs.Rows.{prefix_of, operator_answers, prefix_answers, logical_types, negated_types}
use Rattle.region_soundness.proofs.Conversions.{cast_answers, to_index_answers, wrap_index_answers}
use Rattle.region_soundness.proofs.Bits.{make_bits_answers, raw_answers, set_field_answers, bit_field_fits}
use Rattle.region_soundness.proofs.Structs.{field_part}

module _ (env : Env) (valid : ValidCore env.core) (entry : Entry) (s : State) where
  abbrev G : ValueType → Value → State → Type 0
  G ty = Gave env.core entry s ty

  -- what an expression of the type is shown to do
  abbrev Comes : ValueType → Part State Value → Type 0
  Comes ty e = (n : ℕ) (w : World) → Safe (G ty) (e n w s)

  retype : (t u : ValueType) (e : Part State Value) → u ≡ t → Comes t e → Comes u e
  retype t u e same h = subst (λ x. Comes x e) (sym same) h

  -- ---- operators

  numbers_safe : (l : Label) (o : BinOp) (t u : ValueType) (left right : Part State Value) → IsTrue (not (is_logic o)) → BinaryTyped l o t u → Comes t left → Comes u right → Comes l.ty (of_numbers env.core l (operation (operator_of o) t) left right)
  numbers_safe l o t u left right plain typed h g =
      let a = operator_answers env.core.structs l o t u typed plain in
      let first : reference_of t ≡ None = operation_plain (operator_of o) t a.answer a.has in
      of_numbers_safe env.core entry s l t u (operation (operator_of o) t) left right first (same_plain u t typed.same first) a h g

  one_safe : Comes Truth (give (Num (pos 1)))
  one_safe n w = record { same = refl; fits = refl }

  zero_safe : Comes Truth (give (Num (pos 0)))
  zero_safe n w = record { same = refl; fits = refl }

  combined_safe : (l : Label) (o : BinOp) (t u : ValueType) (left right : Part State Value) → BinaryTyped l o t u → Comes t left → Comes u right → Comes l.ty (combined env.core l o t left right)
  combined_safe l OrElse t u left right typed h g =
      let a = logical_types l OrElse t u typed refl in
      retype Truth l.ty (combined env.core l OrElse t left right) a.type
      (choice_safe env.core entry s (G Truth) left (give (Num (pos 1))) right (retype t Truth left (sym a.left_is) h) one_safe (retype u Truth right (sym a.right_is) g))
  combined_safe l AndAlso t u left right typed h g =
      let a = logical_types l AndAlso t u typed refl in
      retype Truth l.ty (combined env.core l AndAlso t left right) a.type
      (choice_safe env.core entry s (G Truth) left right (give (Num (pos 0))) (retype t Truth left (sym a.left_is) h) (retype u Truth right (sym a.right_is) g) zero_safe)
  combined_safe l Or t u left right typed h g = numbers_safe l Or t u left right refl typed h g
  combined_safe l Xor t u left right typed h g = numbers_safe l Xor t u left right refl typed h g
  combined_safe l And t u left right typed h g = numbers_safe l And t u left right refl typed h g
  combined_safe l Eq t u left right typed h g = numbers_safe l Eq t u left right refl typed h g
  combined_safe l Ne t u left right typed h g = numbers_safe l Ne t u left right refl typed h g
  combined_safe l Lt t u left right typed h g = numbers_safe l Lt t u left right refl typed h g
  combined_safe l Le t u left right typed h g = numbers_safe l Le t u left right refl typed h g
  combined_safe l Gt t u left right typed h g = numbers_safe l Gt t u left right refl typed h g
  combined_safe l Ge t u left right typed h g = numbers_safe l Ge t u left right refl typed h g
  combined_safe l Shl t u left right typed h g = numbers_safe l Shl t u left right refl typed h g
  combined_safe l Shr t u left right typed h g = numbers_safe l Shr t u left right refl typed h g
  combined_safe l Add t u left right typed h g = numbers_safe l Add t u left right refl typed h g
  combined_safe l Sub t u left right typed h g = numbers_safe l Sub t u left right refl typed h g
  combined_safe l WrapAdd t u left right typed h g = numbers_safe l WrapAdd t u left right refl typed h g
  combined_safe l WrapSub t u left right typed h g = numbers_safe l WrapSub t u left right refl typed h g
  combined_safe l Mul t u left right typed h g = numbers_safe l Mul t u left right refl typed h g
  combined_safe l Div t u left right typed h g = numbers_safe l Div t u left right refl typed h g
  combined_safe l Rem t u left right typed h g = numbers_safe l Rem t u left right refl typed h g
  combined_safe l WrapMul t u left right typed h g = numbers_safe l WrapMul t u left right refl typed h g

  prefixed_safe : (scope : List ℕ) → Knows env scope entry s → (l : Label) (o : PrefixOp) (from : ValueType) (operand : Part State Value) → PrefixedTyped l o from → Comes from operand → Comes l.ty (prefixed env.core l o from operand)
  prefixed_safe scope known l Neg from operand typed h =
      let a = prefix_answers env.core.structs l Neg from typed refl in
      of_number_safe env.core entry s l from (prefix_operation (prefix_of Neg) from) operand (prefix_plain (prefix_of Neg) from a.answer a.has) a h
  prefixed_safe scope known l Flip from operand typed h =
      let a = prefix_answers env.core.structs l Flip from typed refl in
      of_number_safe env.core entry s l from (prefix_operation (prefix_of Flip) from) operand (prefix_plain (prefix_of Flip) from a.answer a.has) a h
  prefixed_safe scope known l Not from operand typed h =
      let a = negated_types l from typed in
      retype Truth l.ty (prefixed env.core l Not from operand) a.1 (negated_safe env.core entry s operand (retype from Truth operand (sym a.0) h))
  prefixed_safe scope known l Deref from operand typed h = number_behind_safe env.core entry s l from operand known.areas typed h

  -- ---- fields

  bit_field_safe : (l : Label) (from : ValueType) (field : ℕ) (operand : Part State Value) → BitFieldTyped env l from field → Comes from operand → Comes l.ty (bind operand (field_behind env.core from field))
  bit_field_safe l from field operand typed h n w =
      gave_after env.core entry s (G l.ty) from (operand n w s) (field_behind env.core from field) (h n w) behind
    where
      behind : (x : Value) → ValueFits env.core entry s.areas from x → (m : ℕ) (z : World) → Safe (Gave env.core entry s l.ty) (field_behind env.core from field x m z s)
      behind (Num word) fits m z =
          let f = bit_field_fits env valid l from field typed word fits in
          some_safe env.core entry s (Gave env.core entry s l.ty) (layout_of env.core from) f.layout (λ layout. tick (give (Num (field_of layout field word)))) m z f.has
          (keeps_tick HasMeaning (Gave env.core entry s l.ty) (give (Num (field_of f.layout field word))) m z s (λ j. record { same = refl; fits = f.fits }))
      behind (Ref k path) fits m z = absurd (subst (λ t. ValueFits env.core entry s.areas t (Ref k path)) typed.operand fits)

  struct_field_safe : (l : Label) (from : ValueType) (field : ℕ) (operand : Part State Value) → StructFieldTyped env l from field → Comes from operand → Comes l.ty (bind operand (field_behind env.core from field))
  struct_field_safe l from field operand typed h n w =
      gave_after env.core entry s (G l.ty) from (operand n w s) (field_behind env.core from field) (h n w) behind
    where
      behind : (x : Value) → ValueFits env.core entry s.areas from x → (m : ℕ) (z : World) → Safe (Gave env.core entry s l.ty) (field_behind env.core from field x m z s)
      behind (Num word) fits m z = let no : ⊥ = absurd_number (subst (λ t. IsTrue (is_value env.core.structs t word)) typed.operand fits) in absurd no
        where
          absurd_number : IsTrue (is_value env.core.structs (types.Ref typed.constant typed.region (types.Struct typed.number)) word) → ⊥
          absurd_number h = let no : ⊥ = cc in no
      behind (Ref k path) fits m z =
          let from_is = subst (λ t. ValueFits env.core entry s.areas t (Ref k path)) typed.operand fits in
          keeps_tick HasMeaning (Gave env.core entry s l.ty) (give (Ref k (path ++ field ∷ []))) m z s
          (λ j. record {
            same = refl;
            fits = subst (λ t. ValueFits env.core entry s.areas t (Ref k (path ++ field ∷ []))) (sym typed.type)
                (deeper env.core entry s (record { constant = typed.constant; region = typed.region; area = types.Struct typed.number }) (record { constant = typed.constant; region = typed.region; area = typed.area }) k field path from_is refl refl
                (λ a leads. field_part env.core valid.table typed.number field typed.area typed.found a path leads));
          })

  -- ---- areas of the module

  area_fits : (scope : List ℕ) → Knows env scope entry s → (l : Label) (number : ℕ) → AreaNameTyped env l number → ValueFits env.core entry s.areas l.ty (Ref number [])
  area_fits scope known l number typed =
      let g = known.globals number typed.area typed.found in
      let r : Refers env.core entry s.areas (record { constant = typed.area.constant; region = Global; area = typed.area.area }) number [] = record {
        area = g.area;
        live = g.live;
        leads = ap Some g.type;
        access = subst (λ c. IsTrue (may_stand_for c typed.area.constant)) (sym g.access) (stands_for_itself typed.area.constant);
        allowed = slice_get_within env.core.areas number typed.area typed.found;
      } in
      subst (λ t. ValueFits env.core entry s.areas t (Ref number [])) (sym typed.type) r
    where
      stands_for_itself : (c : Bool) → IsTrue (may_stand_for c c)
      stands_for_itself true = refl
      stands_for_itself false = refl

  -- ---- expressions

  module _ (scope : List ℕ) (known : Knows env scope entry s) (outcome : Option Value) (known_outcome : KnowsOutcome env entry s.areas outcome) where
    pub eval_safe : (e : ExprCore) → ExprTyped env scope e → (n : ℕ) (w : World) → Safe (Gave env.core entry s (type_of e)) (eval env.core outcome e n w s)
    eval_safe (Number l v) t n w = record { same = refl; fits = t.holds }
    eval_safe (Outcome l) t n w =
        let o = known_outcome l.ty t.outcome in
        some_safe env.core entry s (G l.ty) outcome o.value give n w o.has (record { same = refl; fits = o.fits })
    eval_safe (Local l number) t n w =
        let f = known.names number l.ty t.in_scope t.type in
        name_safe env.core entry s l.ty (value_of number) f.value f.has f.fits n w
    eval_safe (AreaName l number) t n w = name_safe env.core entry s l.ty (λ s. Some (Ref number [])) (Ref number []) refl (area_fits scope known l number t) n w
    eval_safe (Cast l e) t n w = of_number_safe env.core entry s l (type_of e) (cast_to l.ty) (eval env.core outcome e) (number_plain (type_of e) t.1.operand) (cast_answers env.core.structs l (type_of e) t.1) (eval_safe e t.0) n w
    eval_safe (ToIndex l e) t n w =
        of_number_safe env.core entry s l (type_of e) (index_to l.ty) (eval env.core outcome e) (same_plain (type_of e) (types.Int t.1.kind) t.1.operand refl) (to_index_answers env.core.structs l (type_of e) t.1) (eval_safe e t.0) n w
    eval_safe (WrapIndex l e) t n w =
        of_number_safe env.core entry s l (type_of e) (wrapped_to l.ty) (eval env.core outcome e) (same_plain (type_of e) (types.Int t.1.kind) t.1.operand refl) (wrap_index_answers env.core.structs l (type_of e) t.1) (eval_safe e t.0) n w
    eval_safe (MakeBits l e) t n w =
        of_number_safe env.core entry s l (type_of e) (Some Ok) (eval env.core outcome e) (same_plain (type_of e) (types.Int t.1.layout.word) t.1.word_is refl) (make_bits_answers env valid l (type_of e) t.1 t.2) (eval_safe e t.0) n w
    eval_safe (Raw l e) t n w =
        of_number_safe env.core entry s l (type_of e) (Some Ok) (eval env.core outcome e) (same_plain (type_of e) (types.Bits t.1.number) t.1.bits_are refl) (raw_answers env valid l (type_of e) t.1 t.2) (eval_safe e t.0) n w
    eval_safe (SetField l e field value) t n w =
        of_numbers_safe env.core entry s l (type_of e) (type_of value) (field_set env.core (type_of e) field) (eval env.core outcome e) (eval env.core outcome value)
        (same_plain (type_of e) (types.Bits t.2.number) t.2.operand refl) (same_plain (type_of value) _ t.2.value_is (field_plain t.2.bits)) (set_field_answers env valid l (type_of e) field (type_of value) t.2) (eval_safe e t.0) (eval_safe value t.1) n w
    eval_safe (Prefix l o e) t n w = prefixed_safe scope known l o (type_of e) (eval env.core outcome e) t.1 (eval_safe e t.0) n w
    eval_safe (Binary l o left right) t n w = combined_safe l o (type_of left) (type_of right) (eval env.core outcome left) (eval env.core outcome right) t.2 (eval_safe left t.0) (eval_safe right t.1) n w
    eval_safe (Field l e field) t n w = ⊎_elim (λ b. bit_field_safe l (type_of e) field (eval env.core outcome e) b (eval_safe e t.0) n w) (λ f. struct_field_safe l (type_of e) field (eval env.core outcome e) f (eval_safe e t.0) n w) t.1
    eval_safe (Element l e index) t n w = element_safe env.core entry s l (type_of e) (type_of index) (eval env.core outcome e) (eval env.core outcome index) t.2 (eval_safe e t.0) (eval_safe index t.1) n w
    eval_safe (Cond l test first second) t n w =
        choice_safe env.core entry s (G l.ty) (eval env.core outcome test) (eval env.core outcome first) (eval env.core outcome second)
        (retype (type_of test) Truth (eval env.core outcome test) (sym t.3.test_is) (eval_safe test t.0))
        (retype (type_of first) l.ty (eval env.core outcome first) (sym t.3.first_is) (eval_safe first t.1))
        (retype (type_of second) l.ty (eval env.core outcome second) (sym t.3.second_is) (eval_safe second t.2)) n w
    eval_safe (Whole l e) t n w = retype (type_of e) l.ty (eval env.core outcome e) t.1.type (eval_safe e t.0) n w
