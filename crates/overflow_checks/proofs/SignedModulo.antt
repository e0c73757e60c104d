-- Expressions of an unsigned type of so many bits, whose values are numbers modulo 2 ^ bits, and what operators give on them there.
use Rattle.std.proofs.Common.{◌≡◌, ℕ, ◌-◌, ◌^◌, ◌<◌, ◌≤◌, min, ℤ, pos, negsuc, ◌+ℤ◌, ◌-ℤ◌, ◌*ℤ◌, false, IsTrue, Result, Ok, arith, refl, sym, subst, ap, ◌∙◌}
use Rattle.std.specs.Prelude.{nat_eq, nat_lt, int_lt, bit_and, bit_xor, unsigned_abs}
use Rattle.std.proofs.lemmas.Nat.{pow_pos, mod_below, and_le_l, xor_lt}
use Rattle.std.proofs.Math.Nat.{mod-eq_of_lt}
use Rattle.iv_words.specs.Kinds.{in_range_of}
use Rattle.run_records.specs.declared.Reason.{Reason}
use Rattle.c_ast.specs.declared.Arith.{Arith}
use Rattle.c_ast.specs.declared.CKind.{CKind}
use Rattle.c_ast.specs.declared.CKind.TheVariants.{Arith as Computed}
use Rattle.c_ast.specs.declared.Suffix.TheVariants.{U}
use Rattle.c_ast.specs.declared.CBinary.{CBinary}
use Rattle.c_ast.specs.declared.CBinary.TheVariants.{Add, Sub, Mul, And, Xor, Lt}
use Rattle.c_ast.specs.Syntax.{Expr, Binary}
use Rattle.c_ast.specs.Targets.{TargetTable, table_of, arith_bits, arith_signed, promoted, common_in, common_type}
use Rattle.iv_words.specs.Bits.{modulo}
use Rattle.c_meaning.specs.Values.{Trouble, CValue, Num}
use Rattle.c_meaning.specs.Operators.{Operator, sum, difference, product, bits_of, bitwise, computed, truth, usual, binary}
use Rattle.c_meaning.specs.State.{Program, CState}
use Rattle.iv_words.proofs.Ranges.{powers_grow}
use Rattle.iv_words.proofs.Modular.{modulo_in_range, modulo_of_held, modulo_sum_left, modulo_sum_right, modulo_difference_left, modulo_difference_right, modulo_product_left, modulo_product_right}
use Rattle.overflow_checks.specs.Parts.{unsigned}
use Rattle.overflow_checks.specs.SignedForms.{top_is_clear, differing}
use Rattle.overflow_checks.proofs.Tables.{CTable, common_with_itself}
use Rattle.overflow_checks.proofs.Given.{Gives, binary_gives, constant_gives}
use Rattle.overflow_checks.proofs.Rows.{Tests}
use Rattle.overflow_checks.proofs.Alike.{AreNatural, usual_kept, compared_natural}
use Rattle.overflow_checks.proofs.Constants.{unsigned_typed}
use Rattle.overflow_checks.proofs.Numbers.{natural}
use Rattle.overflow_checks.proofs.SignedTypes.{IsAlike}
use Rattle.overflow_checks.proofs.SignedNumbers.{from_zero}
use Rattle.overflow_checks.proofs.SignedBits.{top, clear_test}

pub bits_under : (bits : ℕ) (v : ℤ) → bits_of bits v < 2 ^ bits
bits_under bits (pos n) = mod_below n (2 ^ bits) (pow_pos bits)
bits_under bits (negsuc n) = let p = pow_pos bits in omega arith

pub bits_of_modulo : (bits : ℕ) (v : ℤ) → bits_of bits (modulo bits v) ≡ bits_of bits v
bits_of_modulo bits v = ap unsigned_abs (modulo_of_held bits (modulo bits v) (modulo_in_range bits v))

module _ (p : Program) (s : CState) (table : CTable (table_of p.target)) (bits : ℕ) (c : Arith) (alike : IsAlike (table_of p.target) bits c) where
  abbrev t : TargetTable
  t = table_of p.target

  -- the value is v modulo 2 ^ bits, in a type that is promoted to the type
  pub record IsModulo (e : Expr) (v : ℤ) : Type 0 where
    pub kind : CKind
    pub gives : Gives p s e (Num kind (modulo bits v))
    pub promotes : promoted t kind ≡ c

  pub in_type : (v : ℤ) → IsTrue (in_range_of bits false v) → IsTrue (in_range_of (arith_bits t c) (arith_signed c) v)
  in_type v h = subst (λ n. IsTrue (in_range_of n (arith_signed c) v)) (sym alike.1) (subst (λ signed. IsTrue (in_range_of bits signed v)) (sym alike.0) h)

  modulo_is : (e : Expr) (v w : ℤ) → w ≡ modulo bits v → Gives p s e (Num (Computed c) w) → IsModulo e v
  modulo_is e v w is gives = record { kind = Computed c; gives = subst (λ u. Gives p s e (Num (Computed c) u)) is gives; promotes = refl }

  module _ (a b : Expr) (x y : ℤ) (l : IsModulo a x) (r : IsModulo b y) where
    abbrev m : ℤ
    m = modulo bits x

    abbrev n : ℤ
    n = modulo bits y

    common : common_type t l.kind r.kind ≡ c
    common = ap (λ d. common_in t d (promoted t r.kind)) l.promotes ∙ ap (common_in t c) r.promotes ∙ common_with_itself t c

    in_common : (v : ℤ) → IsTrue (in_range_of (arith_bits t (common_type t l.kind r.kind)) (arith_signed (common_type t l.kind r.kind)) (modulo bits v))
    in_common v = subst (λ d. IsTrue (in_range_of (arith_bits t d) (arith_signed d) (modulo bits v))) (sym common) (in_type (modulo bits v) (modulo_in_range bits v))

    computes : (op : CBinary) (f : Operator) → ((u w : CValue) → binary t op u (Ok w) ≡ usual t f u w) → (v : ℤ) → f bits false m n ≡ Ok v → Gives p s (Binary op a b) (Num (Computed c) v)
    computes op f is v e =
        binary_gives p s op a b (Num l.kind m) (Num r.kind n) l.gives r.gives
        ∙ is (Num l.kind m) (Num r.kind n)
        ∙ usual_kept t table f l.kind r.kind m n (in_common x) (in_common y)
        ∙ ap (λ d. computed d (f (arith_bits t d) (arith_signed d) m n)) common
        ∙ ap (λ k. computed c (f k (arith_signed c) m n)) alike.1
        ∙ ap (λ signed. computed c (f bits signed m n)) alike.0
        ∙ ap (computed c) e

    pub sum_modulo : IsModulo (Binary Add a b) (x +ℤ y)
    sum_modulo =
        let e : modulo bits (m +ℤ n) ≡ modulo bits (x +ℤ y) = modulo_sum_left bits x n ∙ modulo_sum_right bits x y in
        modulo_is (Binary Add a b) (x +ℤ y) (modulo bits (m +ℤ n)) e (computes Add sum (λ u w. refl) (modulo bits (m +ℤ n)) refl)

    pub difference_modulo : IsModulo (Binary Sub a b) (x -ℤ y)
    difference_modulo =
        let e : modulo bits (m -ℤ n) ≡ modulo bits (x -ℤ y) = modulo_difference_left bits x n ∙ modulo_difference_right bits x y in
        modulo_is (Binary Sub a b) (x -ℤ y) (modulo bits (m -ℤ n)) e (computes Sub difference (λ u w. refl) (modulo bits (m -ℤ n)) refl)

    pub product_modulo : IsModulo (Binary Mul a b) (x *ℤ y)
    product_modulo =
        let e : modulo bits (m *ℤ n) ≡ modulo bits (x *ℤ y) = modulo_product_left bits x n ∙ modulo_product_right bits x y in
        modulo_is (Binary Mul a b) (x *ℤ y) (modulo bits (m *ℤ n)) e (computes Mul product (λ u w. refl) (modulo bits (m *ℤ n)) refl)

    -- bit by bit

    pub bitwise_gives : (op : CBinary) (f : ℕ → ℕ → ℕ) → ((u w : CValue) → binary t op u (Ok w) ≡ usual t (bitwise f) u w) → Gives p s (Binary op a b) (Num (Computed c) (pos (f (bits_of bits x) (bits_of bits y))))
    bitwise_gives op f is =
        let e : f (bits_of bits m) (bits_of bits n) ≡ f (bits_of bits x) (bits_of bits y) = ap (λ k. f k (bits_of bits n)) (bits_of_modulo bits x) ∙ ap (f (bits_of bits x)) (bits_of_modulo bits y) in
        computes op (bitwise f) is (pos (f (bits_of bits x) (bits_of bits y))) (ap (λ k. let q : Result ℤ Reason = Ok (pos k) in q) e)

    pub differing_modulo : IsModulo (differing a b) (pos (bit_xor (bits_of bits x) (bits_of bits y)))
    differing_modulo =
        let v = bit_xor (bits_of bits x) (bits_of bits y) in
        let l = xor_lt bits (bits_of bits x) (bits_of bits y) (bits_under bits x) (bits_under bits y) in
        modulo_is (differing a b) (pos v) (pos v) (sym (ap pos (mod-eq_of_lt l))) (bitwise_gives Xor bit_xor (λ u w. refl))

    -- the highest bits are not both set
    pub clear_tests : 1 ≤ bits → bits ≤ 64 → Tests p s (top_is_clear bits a b) (nat_eq (min (top bits x) (top bits y)) 0)
    clear_tests some few =
        let both = bit_and (bits_of bits x) (bits_of bits y) in
        let half = 2 ^ (bits - 1) in
        let less = bits_under bits x in
        let le = and_le_l (bits_of bits x) (bits_of bits y) in
        let grows = powers_grow (bits - 1) 63 (omega arith) in
        let u = unsigned_typed t table half (omega arith) in
        let k : AreNatural t table (Computed c) (Computed u.type) (pos both) (pos half) =
        record { left_from = from_zero both; right_from = from_zero half; left_held = in_type (pos both) (natural bits both (omega (arith, less, le))); right_held = u.holds } in
        let e : int_lt (pos both) (pos half) ≡ nat_lt both half = refl in
        binary_gives p s Lt (Binary And a b) (unsigned half) (Num (Computed c) (pos both)) (Num (Computed u.type) (pos half)) (bitwise_gives And bit_and (λ u w. refl)) (constant_gives p s half U u.type u.found_it)
        ∙ compared_natural t table (Computed c) (Computed u.type) (pos both) (pos half) k int_lt
        ∙ ap (λ test. let q : Result CValue Trouble = Ok (truth test) in q) (e ∙ clear_test bits some (bits_of bits x) (bits_of bits y) (bits_under bits x) (bits_under bits y))
