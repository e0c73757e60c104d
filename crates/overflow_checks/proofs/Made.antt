-- The forms are made of constants that have a type, casts to whole numbers, operators and their operands.
use Rattle.std.proofs.Common.{◌≡◌, ℕ, ◌-◌, ◌^◌, ◌<◌, ◌≤◌, inl, inr, pos, Bool, true, false, IsTrue, arith, refl}
use Rattle.std.specs.Prelude.{if◌then◌else◌, nat_lt, IsSome}
use Rattle.std.proofs.lemmas.Nat.{pow_pos}
use Rattle.iv_words.specs.Kinds.{width, is_signed}
use Rattle.iv_words.specs.declared.IntKind.{IntKind}
use Rattle.int_ops.specs.Operators.{is_binary}
use Rattle.int_ops.specs.declared.Op.{Op}
use Rattle.int_ops.specs.declared.Op.TheVariants as op
use Rattle.int_ops.specs.declared.Stop.{Stop}
use Rattle.int_ops.specs.declared.Stop.TheVariants.{Overflow, DivZero, Shift}
use Rattle.c_ast.specs.declared.Target.{Target}
use Rattle.c_ast.specs.declared.Suffix.TheVariants.{Plain, U}
use Rattle.c_ast.specs.declared.CBinary.{CBinary}
use Rattle.c_ast.specs.declared.CBinary.TheVariants.{Add, Sub, Mul, Xor, Eq, OrElse}
use Rattle.c_ast.specs.declared.CScalar.TheVariants.{Truth, Int as Exact}
use Rattle.c_ast.specs.declared.CType.TheVariants.{Void, Value, Pointer}
use Rattle.c_ast.specs.Syntax.{Expr, Number, Read, Address, Unary, Binary, Cast, Cond}
use Rattle.c_ast.specs.Targets.{table_of}
use Rattle.c_ast.specs.Conversions.{constant_type_in}
use Rattle.iv_words.proofs.Ranges.{powers_grow}
use Rattle.overflow_checks.specs.Contract.{IsOperand, IsOperandOf, IsMadeOf, guard_levels, computation_levels}
use Rattle.overflow_checks.specs.Parts.{plain, unsigned, greatest_constant, operand_of, is_constant, double_product}
use Rattle.overflow_checks.specs.UnsignedForms.{does_not_wrap, shift_fits}
use Rattle.overflow_checks.specs.SignedForms.{is_between_ends, unsigned_of, wide_sum_fits, wide_difference_fits, magnitude, product_limit, nonzero_product_fits, opposite_fits}
use Rattle.overflow_checks.specs.Forms.{sum_guard, difference_guard, product_guard, quotient_guard, guard_of, is_turned, turned_guard, guard_for, product_of, computation_of, computation_for}
use Rattle.overflow_checks.proofs.Tables.{CTable, table_of_target}
use Rattle.iv_words.proofs.Widths.{width_most}
use Rattle.overflow_checks.proofs.Constants.{typed_is_some, plain_typed, unsigned_typed}

module _ (t : Target) where
  table : CTable (table_of t)
  table = table_of_target t

  plain_has : (n : ℕ) → n < 2 ^ 63 → IsSome (constant_type_in (table_of t) Plain n)
  plain_has n l = typed_is_some (table_of t) table true (pos n) (constant_type_in (table_of t) Plain n) (plain_typed (table_of t) table n l)

  unsigned_has : (n : ℕ) → n < 2 ^ 64 → IsSome (constant_type_in (table_of t) U n)
  unsigned_has n l = typed_is_some (table_of t) table false (pos n) (constant_type_in (table_of t) U n) (unsigned_typed (table_of t) table n l)

  module _ (is_leaf : Expr → Type 0) where
    abbrev M : Expr → ℕ → Type 0
    M e n = IsMadeOf t is_leaf e n

    -- an operand takes two levels at most
    abbrev pub Operand : Expr → Type 0
    Operand e = (n : ℕ) → 2 ≤ n → M e n

    -- ---- operands

    pub operand_made : (kind : IntKind) (bits : ℕ) (signed_one : Bool) (e : Expr) → is_leaf e → IsOperand t kind e → Operand (operand_of bits signed_one e)
    operand_made kind bits signed_one (Number v suffix) leaf o n le = inr (inr (omega arith, o.0))
    operand_made kind bits signed_one (Read place) leaf o n le = (omega arith, leaf)
    operand_made kind bits signed_one (Address place) leaf o n le = (omega arith, leaf)
    operand_made kind bits signed_one (Unary u e) leaf o n le = inl (omega arith, leaf)
    operand_made kind bits signed_one (Binary u a b) leaf o n le = inl (omega arith, leaf)
    operand_made kind bits signed_one (Cast Void e) leaf o n le = (omega arith, leaf)
    operand_made kind bits signed_one (Cast (Pointer constant base) e) leaf o n le = (omega arith, leaf)
    operand_made kind bits signed_one (Cast (Value Truth) e) leaf o n le = (omega arith, leaf)
    operand_made kind bits signed_one (Cast (Value (Exact k)) e) leaf o n le = inl (omega arith, leaf)
    operand_made kind bits signed_one (Cond c a b) leaf o n le = inl (omega arith, leaf)

    -- ---- guards

    module _ (bits : ℕ) (most : bits ≤ 64) where
      zero_made : (n : ℕ) → 0 < n → M (plain 0) n
      zero_made n some = inr (some, plain_has 0 (omega arith))

      one_made : (n : ℕ) → 0 < n → M (plain 1) n
      one_made n some = inr (some, plain_has 1 (omega arith))

      width_made : (n : ℕ) → 0 < n → M (plain bits) n
      width_made n some = inr (some, plain_has bits (omega arith))

      top_made : (n : ℕ) → 0 < n → M (plain (bits - 1)) n
      top_made n some = inr (some, plain_has (bits - 1) (omega arith))

      greatest_made : (n : ℕ) → 0 < n → M (greatest_constant bits true) n
      greatest_made n some = inr (some, plain_has (2 ^ (bits - 1) - 1) (let g = powers_grow (bits - 1) 63 (omega arith) in let p = pow_pos (bits - 1) in omega arith))

      unsigned_greatest_made : (n : ℕ) → 0 < n → M (greatest_constant bits false) n
      unsigned_greatest_made n some = inr (some, unsigned_has (2 ^ bits - 1) (let g = powers_grow bits 64 most in let p = pow_pos bits in omega arith))

      half_made : (n : ℕ) → 0 < n → M (unsigned (2 ^ (bits - 1))) n
      half_made n some = inr (some, unsigned_has (2 ^ (bits - 1)) (let g = powers_grow (bits - 1) 63 (omega arith) in omega arith))

      limit_made : (n : ℕ) → 0 < n → M (unsigned (2 ^ (bits - 1) - 1)) n
      limit_made n some = inr (some, unsigned_has (2 ^ (bits - 1) - 1) (let g = powers_grow (bits - 1) 63 (omega arith) in omega arith))

      chosen : (n : ℕ) (test : Bool) (e f : Expr) → M e n → M f n → M (if test then e else f) n
      chosen n true e f h k = h
      chosen n false e f h k = k

      -- two operands, one under the other operator
      pair_made : (n : ℕ) (o : CBinary) (e f : Expr) → M e (n - 1) → M f (n - 1) → M (Binary o e f) n
      pair_made n o e f h k = inr (h, k)

      between_made : (n : ℕ) → 6 ≤ n → (e : Expr) → M e (n - 1 - 1) → M (is_between_ends bits e) n
      between_made n le e h =
          inr (inr (h, inr (inr (greatest_made (n - 1 - 1 - 1 - 1) (omega arith)), one_made (n - 1 - 1 - 1) (omega arith))), inr (h, greatest_made (n - 1 - 1) (omega arith)))

      module _ (a b : Expr) (h : Operand a) where
        module _ (k : Operand b) where
          -- any operator on both, in three levels
          both_made : (n : ℕ) → 3 ≤ n → (o : CBinary) → M (Binary o a b) n
          both_made n le o = inr (h (n - 1) (omega arith), k (n - 1) (omega arith))

          doubled_made : (n : ℕ) → 4 ≤ n → (signed_one : Bool) → M (double_product bits signed_one a b) n
          doubled_made n le signed_one = inr (inr (h (n - 1 - 1) (omega arith)), inr (k (n - 1 - 1) (omega arith)))

          unsigned_both_made : (n : ℕ) → 4 ≤ n → (o : CBinary) → M (Binary o (unsigned_of bits a) (unsigned_of bits b)) n
          unsigned_both_made n le o = inr (inr (h (n - 1 - 1) (omega arith)), inr (k (n - 1 - 1) (omega arith)))

          wide_sum_made : (n : ℕ) → 7 ≤ n → M (wide_sum_fits bits a b) n
          wide_sum_made n le =
              inr (inr (inr (inr (h (n - 1 - 1 - 1 - 1) (omega arith)), unsigned_both_made (n - 1 - 1 - 1) (omega arith) Add), inr (inr (k (n - 1 - 1 - 1 - 1) (omega arith)), unsigned_both_made (n - 1 - 1 - 1) (omega arith) Add)), half_made (n - 1) (omega arith))

          wide_difference_made : (n : ℕ) → 7 ≤ n → M (wide_difference_fits bits a b) n
          wide_difference_made n le =
              inr (inr (unsigned_both_made (n - 1 - 1) (omega arith) Xor, inr (inr (h (n - 1 - 1 - 1 - 1) (omega arith)), unsigned_both_made (n - 1 - 1 - 1) (omega arith) Sub)), half_made (n - 1) (omega arith))

          sum_made : (n : ℕ) → 7 ≤ n → (int_bits : ℕ) (signed_one : Bool) → M (sum_guard int_bits bits signed_one a b) n
          sum_made n le int_bits false = inr (inr (both_made (n - 1 - 1) (omega arith) Add), h (n - 1) (omega arith))
          sum_made n le int_bits true = chosen n (nat_lt bits int_bits) _ _ (between_made n (omega arith) (Binary Add a b) (both_made (n - 1 - 1) (omega arith) Add)) (wide_sum_made n le)

          difference_made : (n : ℕ) → 7 ≤ n → (int_bits : ℕ) (signed_one : Bool) → M (difference_guard int_bits bits signed_one a b) n
          difference_made n le int_bits false = inr (k (n - 1) (omega arith), h (n - 1) (omega arith))
          difference_made n le int_bits true = chosen n (nat_lt bits int_bits) _ _ (between_made n (omega arith) (Binary Sub a b) (both_made (n - 1 - 1) (omega arith) Sub)) (wide_difference_made n le)

          magnitude_made : (n : ℕ) → 5 ≤ n → (e : Expr) → Operand e → M (magnitude bits e) n
          magnitude_made n le e i =
              inr (inr (i (n - 1 - 1) (omega arith), zero_made (n - 1 - 1) (omega arith)), inr (zero_made (n - 1 - 1) (omega arith), inr (i (n - 1 - 1 - 1) (omega arith))), inr (i (n - 1 - 1) (omega arith)))

          limits_made : (n : ℕ) → 6 ≤ n → M (product_limit bits a b) n
          limits_made n le = inr (limit_made (n - 1) (omega arith), inr (unsigned_both_made (n - 1 - 1) (omega arith) Xor, top_made (n - 1 - 1) (omega arith)))

          magnitudes_made : (n : ℕ) → 8 ≤ n → M (nonzero_product_fits bits a b) n
          magnitudes_made n le = inr (
            inr (magnitude_made (n - 1 - 1) (omega arith) a h, inr (unsigned_greatest_made (n - 1 - 1 - 1) (omega arith), magnitude_made (n - 1 - 1 - 1) (omega arith) b k)),
            inr (inr (magnitude_made (n - 1 - 1 - 1) (omega arith) a h, magnitude_made (n - 1 - 1 - 1) (omega arith) b k), limits_made (n - 1 - 1) (omega arith)),
          )

          unless_zero_made : (n : ℕ) → 4 ≤ n → (e : Expr) → M e (n - 1) → M (Binary OrElse (Binary Eq b (plain 0)) e) n
          unless_zero_made n le e i = inr (inr (k (n - 1 - 1) (omega arith), zero_made (n - 1 - 1) (omega arith)), i)

          product_made : (n : ℕ) → 9 ≤ n → (signed_one : Bool) → M (product_guard bits signed_one a b) n
          product_made n le false =
              chosen n (nat_lt bits 64) _ _ (inr (doubled_made (n - 1) (omega arith) false, unsigned_greatest_made (n - 1) (omega arith)))
              (unless_zero_made n (omega arith) (does_not_wrap bits a b) (inr (h (n - 1 - 1) (omega arith), inr (unsigned_greatest_made (n - 1 - 1 - 1) (omega arith), k (n - 1 - 1 - 1) (omega arith)))))
          product_made n le true =
              chosen n (nat_lt bits 64) _ _ (between_made n (omega arith) (double_product bits true a b) (doubled_made (n - 1 - 1) (omega arith) true))
              (unless_zero_made n (omega arith) (nonzero_product_fits bits a b) (magnitudes_made (n - 1) (omega arith)))

        opposite_made : (n : ℕ) → 3 ≤ n → M (opposite_fits bits a) n
        opposite_made n le = inr (h (n - 1) (omega arith), inr (greatest_made (n - 1 - 1) (omega arith)))

        quotient_made : (n : ℕ) → 5 ≤ n → (which : Stop) → Operand b → M (quotient_guard bits which a b) n
        quotient_made n le DivZero k = inr (k (n - 1) (omega arith), zero_made (n - 1) (omega arith))
        quotient_made n le Overflow k = inr (inr (k (n - 1 - 1) (omega arith), inr (one_made (n - 1 - 1 - 1) (omega arith))), opposite_made (n - 1) (omega arith))
        quotient_made n le Shift k = one_made n (omega arith)

        shift_made : (n : ℕ) → 3 ≤ n → Operand b → M (shift_fits bits b) n
        shift_made n le k = inr (k (n - 1) (omega arith), width_made (n - 1) (omega arith))

        pub guard_made : (n : ℕ) → 9 ≤ n → (int_bits : ℕ) (signed_one : Bool) (o : Op) (which : Stop) → (IsTrue (is_binary o) → Operand b) → M (guard_of int_bits bits signed_one o which a b) n
        guard_made n le int_bits signed_one op.Add which k = sum_made (k refl) n (omega arith) int_bits signed_one
        guard_made n le int_bits signed_one op.Sub which k = difference_made (k refl) n (omega arith) int_bits signed_one
        guard_made n le int_bits signed_one op.Mul which k = product_made (k refl) n le signed_one
        guard_made n le int_bits signed_one op.Neg which k = opposite_made n (omega arith)
        guard_made n le int_bits signed_one op.Div which k = quotient_made n (omega arith) which (k refl)
        guard_made n le int_bits signed_one op.Rem which k = quotient_made n (omega arith) which (k refl)
        guard_made n le int_bits signed_one op.Shl which k = shift_made n (omega arith) (k refl)
        guard_made n le int_bits signed_one op.Shr which k = shift_made n (omega arith) (k refl)
        guard_made n le int_bits signed_one o which k = one_made n (omega arith)

        -- ---- computations

        product_of_made : (n : ℕ) → 4 ≤ n → (signed_one : Bool) → Operand b → M (product_of bits signed_one a b) n
        product_of_made n le signed_one k = chosen n (nat_lt bits 64) _ _ (doubled_made k n le signed_one) (both_made k n (omega arith) Mul)

        pub computation_made : (n : ℕ) → 4 ≤ n → (signed_one : Bool) (o : Op) → (IsTrue (is_binary o) → Operand b) → M (computation_of bits signed_one o a b) n
        computation_made n le signed_one op.Mul k = product_of_made n le signed_one (k refl)
        computation_made n le signed_one op.WrapMul k = product_of_made n le signed_one (k refl)
        computation_made n le signed_one op.Neg k = inr (h (n - 1) (omega arith))
        computation_made n le signed_one op.Not k = inr (h (n - 1) (omega arith))
        computation_made n le signed_one o k = inr (h (n - 1) (omega arith), k refl (n - 1) (omega arith))

      turned_made : (n : ℕ) → 9 ≤ n → (int_bits : ℕ) (signed_one : Bool) (o : Op) (which : Stop) (raw a b : Expr) → Operand a → (IsTrue (is_binary o) → Operand b) → M (turned_guard int_bits bits signed_one o which (is_turned o raw) a b) n
      turned_made n le int_bits signed_one op.Mul which raw a b h k = either (is_constant raw)
        where
          either : (turned : Bool) → M (turned_guard int_bits bits signed_one op.Mul which turned a b) n
          either true = guard_made b a (k refl) n le int_bits signed_one op.Mul which (λ two. h)
          either false = guard_made a b h n le int_bits signed_one op.Mul which k
      turned_made n le int_bits signed_one o which raw a b h k = guard_made a b h n le int_bits signed_one o which k

pub guards_are_made : (t : Target) (o : Op) (kind : IntKind) (which : Stop) (a b : Expr) → IsOperand t kind a → (IsTrue (is_binary o) → IsOperand t kind b)
    → IsMadeOf t (IsOperandOf o a b) (guard_for (table_of t).int_bits (width kind) (is_signed kind) o which a b) guard_levels
guards_are_made t o kind which a b left right =
    turned_made t (IsOperandOf o a b) (width kind) (width_most kind) guard_levels (omega arith) (table_of t).int_bits (is_signed kind) o which a (operand_of (width kind) (is_signed kind) a) (operand_of (width kind) (is_signed kind) b)
    (operand_made t (IsOperandOf o a b) kind (width kind) (is_signed kind) a (inl refl) left) (λ two. operand_made t (IsOperandOf o a b) kind (width kind) (is_signed kind) b (inr (two, refl)) (right two))

pub computations_are_made : (t : Target) (o : Op) (kind : IntKind) (a b : Expr) → IsOperand t kind a → (IsTrue (is_binary o) → IsOperand t kind b)
    → IsMadeOf t (IsOperandOf o a b) (computation_for (width kind) (is_signed kind) o a b) computation_levels
computations_are_made t o kind a b left right =
    computation_made t (IsOperandOf o a b) (width kind) (width_most kind) (operand_of (width kind) (is_signed kind) a) (operand_of (width kind) (is_signed kind) b)
    (operand_made t (IsOperandOf o a b) kind (width kind) (is_signed kind) a (inl refl) left) computation_levels (omega arith) (is_signed kind) o (λ two. operand_made t (IsOperandOf o a b) kind (width kind) (is_signed kind) b (inr (two, refl)) (right two))
