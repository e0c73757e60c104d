-- Literals: a constant stands exactly for its number, and a negative one, as a value of its kind, for its own.
use Rattle.std.proofs.Common.{◌≡◌, ℕ, suc, ◌-◌, ◌^◌, ◌<◌, ◌≤◌, ℤ, pos, negsuc, Bool, true, false, IsTrue, Some, refl, sym, ◌∙◌, ap, subst, arith}
use Rattle.std.specs.Prelude.{if◌then◌else◌, ◌||◌, nat_lt}
use Rattle.std.specs.Option.{option_map, option_and_then}
use Rattle.std.proofs.lemmas.Bool.{ltb-false, ltb-true}
use Rattle.std.proofs.lemmas.Int.{ints}
use Rattle.std.proofs.lemmas.Nat.{pow_pos}
use Rattle.iv_words.specs.Kinds.{in_range_of, in_range, width, is_signed}
use Rattle.iv_words.specs.declared.IntKind.{IntKind}
use Rattle.iv_words.specs.declared.IntKind.TheVariants.{U8, U16, U32, U64, I8, I16, I32, I64}
use Rattle.iv_words.proofs.Ranges.{powers_grow}
use Rattle.area_types.specs.Syntax as types
use Rattle.area_types.specs.Syntax.{ValueType}
use Rattle.core_tree.specs.Syntax as core
use Rattle.core_tree.specs.Syntax.{Label}
use Rattle.core_tree.specs.TypedExpressions.{ExprTyped}
use Rattle.core_tree.specs.Types.{is_value}
use Rattle.core_meaning.specs.Expressions.{eval}
use Rattle.core_meaning.specs.Gives.{Gives}
use Rattle.core_meaning.specs.State.{State}
use Rattle.core_meaning.specs.Values.{Value, Num}
use Rattle.source_types.specs.Values.{is_plain, is_index_type}
use Rattle.c_ast.specs.declared.CScalar.{CScalar}
use Rattle.c_ast.specs.declared.CScalar.TheVariants as scalar
use Rattle.c_ast.specs.declared.CKind.{CKind}
use Rattle.c_ast.specs.declared.CKind.TheVariants.{Scalar, Arith as Computed}
use Rattle.c_ast.specs.declared.CType.TheVariants as ctype
use Rattle.c_ast.specs.declared.CUnary.TheVariants.{Neg}
use Rattle.c_ast.specs.declared.CBinary.TheVariants.{Sub}
use Rattle.c_ast.specs.declared.Suffix.TheVariants.{Plain, U}
use Rattle.c_ast.specs.Conversions.{can_hold, constant_type, constant_type_in}
use Rattle.c_ast.specs.StaticTypes as static
use Rattle.c_ast.specs.StaticTypes.{Arithmetic, of_cast, of_unary, of_binary, of_both}
use Rattle.c_ast.specs.Syntax.{Expr, Number, Unary, Binary}
use Rattle.c_ast.specs.Targets.{table_of, arith_bits}
use Rattle.c_meaning.specs.Expressions.{static_type}
use Rattle.c_meaning.specs.State.{Program, CState}
use Rattle.overflow_checks.proofs.Constants.{IsTyped, plain_typed, unsigned_typed, typed_is_some}
use Rattle.overflow_checks.proofs.Given.{cast_gives}
use Rattle.overflow_checks.proofs.SignedValues.{IsSigned, opposite_is, least_is}
use Rattle.c_ast.proofs.Conversions.{held_stays}
use Rattle.overflow_checks.proofs.Tables.{table_of_target}
use Rattle.overflow_checks.specs.Parts.{cast_to}
use Rattle.area_objects.specs.Both.{Map}
use Rattle.lower_types.specs.Constants.{constant, negative, signed_limit}
use Rattle.lower_types.specs.Types.{scalar_for}
use Rattle.lower_values.specs.Expressions.{literal, value_piece}
use Rattle.lower_values.specs.Frames.{kind_in}
use Rattle.lower_values.specs.Pieces.{is_atom}
use Rattle.value_refinement.specs.Laws.{Stage, RawFollows}
use Rattle.value_refinement.specs.Related.{Related}
use Rattle.value_refinement.specs.Settings.{Setting, Set}
use Rattle.form_answers.specs.Standing.{HasScalar, ExactlyIs}
use Rattle.value_refinement.specs.Values.{StandsFor}
use Rattle.value_refinement.proofs.Names.{Runs, ready}
use Rattle.value_refinement.proofs.Operands.{as_raw}
use Rattle.form_answers.proofs.RangeTests.{signed_constant, opposite_has}
use Rattle.value_refinement.proofs.Types.{scalar_holds}

-- ---- ranges

narrow_enough : (kind : IntKind) → width kind ≤ 64
narrow_enough U8 = omega arith
narrow_enough U16 = omega arith
narrow_enough U32 = omega arith
narrow_enough U64 = omega arith
narrow_enough I8 = omega arith
narrow_enough I16 = omega arith
narrow_enough I32 = omega arith
narrow_enough I64 = omega arith

small_number : (bits : ℕ) (signed : Bool) (n : ℕ) → bits ≤ 64 → IsTrue (in_range_of bits signed (pos n)) → n < 2 ^ 64
small_number bits true n le h = let p = powers_grow (bits - 1) 64 (omega (arith, le)) in let q = pow_pos (bits - 1) in grind (arith, ints)
small_number bits false n le h = let p = powers_grow bits 64 le in let q = pow_pos bits in grind (arith, ints)

negative_signed : (bits : ℕ) (signed : Bool) (n : ℕ) → IsTrue (in_range_of bits signed (negsuc n)) → signed ≡ true
negative_signed bits true n h = refl
negative_signed bits false n h = let no : ⊥ = cc in absurd no

small_negative : (bits n : ℕ) → bits ≤ 64 → IsTrue (in_range_of bits true (negsuc n)) → n < 2 ^ 63
small_negative bits n le h = let p = powers_grow (bits - 1) 63 (omega (arith, le)) in let q = pow_pos (bits - 1) in grind (arith, ints)

-- ---- constants

module _ (p : Program) (w : CState) where
  -- one that is not negative
  constant_stands : (k : CScalar) (n : ℕ) → n < 2 ^ 64 → (is_atom (constant n) ≡ true) × ExactlyIs p w k (constant n) (pos n)
  constant_stands k n lt = go (nat_lt n signed_limit) refl where
    go : (b : Bool) → nat_lt n signed_limit ≡ b → (is_atom (if b then Number n Plain else Number n U) ≡ true) × ExactlyIs p w k (if b then Number n Plain else Number n U) (pos n)
    go true e =
        (refl, (refl, typed_is_some (table_of p.target) (table_of_target p.target) true (pos n) (constant_type p.target Plain n) (plain_typed (table_of p.target) (table_of_target p.target) n (ltb-true n signed_limit e))))
    go false e =
        (refl, (refl, typed_is_some (table_of p.target) (table_of_target p.target) false (pos n) (constant_type p.target U n) (unsigned_typed (table_of p.target) (table_of_target p.target) n lt)))

  -- one that is, before its cast
  pub record IsNegative (n : ℕ) (e : Expr) : Type 0 where
    pub bits : ℕ
    pub signed_one : IsSigned p w (table_of_target p.target) bits e (negsuc n)
    pub type : CKind
    pub typed : static_type p w e ≡ Some (Arithmetic type)

  plain_type : (n : ℕ) (c : IsTyped (table_of p.target) (table_of_target p.target) true (pos n) (constant_type_in (table_of p.target) Plain n)) → static_type p w (Number n Plain) ≡ Some (Arithmetic (Computed c.type))
  plain_type n c = ap (option_map (λ a. Arithmetic (Computed a))) c.found_it

  opposite_of : (n : ℕ) → suc n < 2 ^ 63 → IsNegative n (Unary Neg (Number (suc n) Plain))
  opposite_of n lt =
      let c = plain_typed (table_of p.target) (table_of_target p.target) (suc n) lt in
      let bits : ℕ = arith_bits (table_of p.target) c.type in
      let holds : IsTrue (in_range_of bits true (pos (suc n))) = subst (λ signed. IsTrue (in_range_of bits signed (pos (suc n)))) c.sign c.holds in
      record {
        bits = bits;
        signed_one = opposite_is p w (table_of_target p.target) bits (Number (suc n) Plain) (pos (suc n)) (signed_constant p w (suc n) c) (opposite_has p w bits (suc n) holds);
        type = static.unary_type (table_of p.target) Neg (Computed c.type);
        typed = ap (option_and_then (of_unary (table_of p.target) Neg)) (plain_type (suc n) c);
      }

  -- the least number of 64 bits, whose opposite no constant is
  least_of_all : (n : ℕ) → n ≡ 9_223_372_036_854_775_807 → IsNegative n (Binary Sub (Unary Neg (Number (suc n - 1) Plain)) (Number 1 Plain))
  least_of_all n is =
      subst (λ m. IsNegative m (Binary Sub (Unary Neg (Number (suc m - 1) Plain)) (Number 1 Plain))) (sym is)
      (let c = plain_typed (table_of p.target) (table_of_target p.target) 9_223_372_036_854_775_807 (omega arith) in
      let one = plain_typed (table_of p.target) (table_of_target p.target) 1 (omega arith) in
      record {
        bits = 64;
        signed_one = least_is p w (table_of_target p.target) 64 (omega arith);
        type = static.binary_type (table_of p.target) Sub (static.unary_type (table_of p.target) Neg (Computed c.type)) (Computed one.type);
        typed =
            ap (λ a. of_both (of_binary (table_of p.target) Sub) a (static_type p w (Number 1 Plain))) (ap (option_and_then (of_unary (table_of p.target) Neg)) (plain_type 9_223_372_036_854_775_807 c))
            ∙ ap (of_both (of_binary (table_of p.target) Sub) (Some (Arithmetic (static.unary_type (table_of p.target) Neg (Computed c.type))))) (plain_type 1 one);
      })

  negative_is : (n : ℕ) → n < 2 ^ 63 → IsNegative n (negative (suc n))
  negative_is n lt = go (nat_lt (suc n) signed_limit) refl where
    go : (b : Bool) → nat_lt (suc n) signed_limit ≡ b → IsNegative n (if b then Unary Neg (Number (suc n) Plain) else Binary Sub (Unary Neg (Number (suc n - 1) Plain)) (Number 1 Plain))
    go true e = opposite_of n (ltb-true (suc n) signed_limit e)
    go false e = let most : signed_limit ≤ suc n = ltb-false (suc n) signed_limit e in least_of_all n (omega (arith, lt, most))

  negative_stands : (kind : IntKind) (n : ℕ) → IsTrue (in_range kind (negsuc n)) → HasScalar p w (scalar.Int kind) (cast_to kind (negative (suc n))) (negsuc n)
  negative_stands kind n h =
      let signed : is_signed kind ≡ true = negative_signed (width kind) (is_signed kind) n h in
      let small : n < 2 ^ 63 = small_negative (width kind) n (narrow_enough kind) (subst (λ b. IsTrue (in_range_of (width kind) b (negsuc n))) signed h) in
      let e = negative_is n small in
      record {
        gives = cast_gives p w kind (negative (suc n)) e.signed_one.kind (negsuc n) (negsuc n) e.signed_one.gives (held_stays (width kind) (is_signed kind) (negsuc n) h);
        type = ap (option_and_then (of_cast (ctype.Value (scalar.Int kind)))) e.typed;
      }

-- ---- literals

module _ (g : Setting) (set : Set g) (objects : Map) (s : State) (l : Label) (v : ℤ) (typed : ExprTyped g.env g.scope (core.Number l v)) where
  is_of_type : IsTrue (is_value g.frame.core.structs l.ty v)
  is_of_type = subst (λ m. IsTrue (is_value m.structs l.ty v)) set.core typed.holds

  -- by the type
  stands_by : (w : CState) (k : ℕ) (ty : ValueType) (n : ℤ) → IsTrue (is_plain ty || is_index_type ty) → IsTrue (is_value g.frame.core.structs ty n) → IsTrue (can_hold (table_of g.program.target) (Scalar (scalar_for g.frame.table ty)) n)
      → StandsFor g objects s (value_piece (literal (kind_in g.frame ty) n) k) ty w (Num n)
  stands_by w k types.Truth (pos n) form is holds = constant_stands g.program w scalar.Truth n (small_number 1 false n (omega arith) holds)
  stands_by w k types.Truth (negsuc n) form is holds = let no : ⊥ = cc in absurd no
  stands_by w k (types.Int kind) (pos n) form is holds = constant_stands g.program w (scalar.Int kind) n (small_number (width kind) (is_signed kind) n (narrow_enough kind) holds)
  stands_by w k (types.Int kind) (negsuc n) form is holds = (refl, negative_stands g.program w kind n is)
  stands_by w k (types.Ix m) (pos n) form is holds = constant_stands g.program w (scalar.Int U16) n (small_number 16 false n (omega arith) holds)
  stands_by w k (types.Ix m) (negsuc n) form is holds = let no : ⊥ = cc in absurd no
  stands_by w k (types.Bits m) n form is holds = let no : ⊥ = cc in absurd no
  stands_by w k (types.Ref constant region area) n form is holds = let no : ⊥ = cc in absurd no

  literal_runs : Runs g set objects s (eval g.frame.core g.outcome (core.Number l v)) (Gives g.frame.core g.outcome s (core.Number l v))
  literal_runs A post go x y f n w next = next (Num v) refl

  given_stands : (d : Value) → d ≡ Num v → (w : CState) (k : ℕ) → Related g objects s w → IsTrue (can_hold (table_of g.program.target) (Scalar (scalar_for g.frame.table l.ty)) v) → StandsFor g objects s (value_piece (literal (kind_in g.frame l.ty) v) k) l.ty w d
  given_stands d is w k related holds = subst (λ z. StandsFor g objects s (value_piece (literal (kind_in g.frame l.ty) v) k) l.ty w z) (sym is) (stands_by w k l.ty v typed.form is_of_type holds)

  pub literal_follows : Stage g s → RawFollows g objects s (core.Number l v)
  literal_follows stage =
      as_raw g set objects s (core.Number l v)
      (ready g set objects s (eval g.frame.core g.outcome (core.Number l v)) (Gives g.frame.core g.outcome s (core.Number l v)) l.ty (literal (kind_in g.frame l.ty) v) literal_runs
      (λ d is w k related. given_stands d is w k related (scalar_holds g set l.ty v (stage.indexed (core.Number l v) typed) is_of_type)))
