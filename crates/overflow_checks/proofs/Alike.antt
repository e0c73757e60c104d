-- What operators give on values that their common type keeps: on two values of one kind, on two numbers from 0, and on numbers of
-- signed kinds.
use Rattle.std.proofs.Common.{◌≡◌, ℕ, ◌-◌, ◌≤◌, ℤ, pos, Bool, true, false, IsTrue, Result, Ok, Err, arith, refl, sym, subst, ap, ◌∙◌}
use Rattle.std.specs.Prelude.{if◌then◌else◌, int_le, nat_lt, nat_le}
use Rattle.std.proofs.lemmas.Int.{ints}
use Rattle.std.proofs.lemmas.Nat.{pow_pos}
use Rattle.iv_words.specs.Kinds.{in_range_of}
use Rattle.run_records.specs.declared.Reason.TheVariants.{SignedOverflow}
use Rattle.c_ast.specs.declared.Arith.{Arith}
use Rattle.c_ast.specs.declared.Arith.TheVariants.{Int, UInt, Long, ULong, LongLong, ULongLong}
use Rattle.c_ast.specs.declared.CKind.{CKind}
use Rattle.c_ast.specs.Targets.{TargetTable, arith_bits, arith_signed, represents, rank, unsigned_of, promoted, common_signed, common_in, common_type}
use Rattle.c_ast.specs.Conversions.{can_hold}
use Rattle.c_meaning.specs.Values.{Trouble, Num}
use Rattle.c_meaning.specs.Operators.{Operator, fitted, with_number, computed, truth, converted_or, operand, in_common, usual, compared}
use Rattle.c_ast.proofs.Conversions.{held_stays}
use Rattle.iv_words.proofs.Ranges.{powers_grow}
use Rattle.iv_words.proofs.Modular.{modulo_of_held}
use Rattle.c_ast.proofs.Promotions.{promotion_keeps, signed_common_keeps, bits_by_rank}
use Rattle.overflow_checks.proofs.Tables.{CTable, common_with_itself}

-- a result that the type has
pub fitted_held : (bits : ℕ) (signed : Bool) (v : ℤ) → IsTrue (in_range_of bits signed v) → fitted bits signed v ≡ Ok v
fitted_held bits true v h = subst (λ test. (if test then Ok v else Err SignedOverflow) ≡ Ok v) (sym h) refl
fitted_held bits false v h = ap Ok (modulo_of_held bits v h)

-- ---- ranks of common types

abbrev Above : Arith → Arith → Arith → Type 0
Above a b c = (rank a ≤ rank c) × (rank b ≤ rank c)

alike_above : (a b : Arith) (test : Bool) → nat_lt (rank a) (rank b) ≡ test → Above a b (if test then b else a)
alike_above a b true e = (grind arith, omega arith)
alike_above a b false e = (omega arith, grind arith)

rank_of_unsigned : (a : Arith) → rank (unsigned_of a) ≡ rank a
rank_of_unsigned Int = refl
rank_of_unsigned UInt = refl
rank_of_unsigned Long = refl
rank_of_unsigned ULong = refl
rank_of_unsigned LongLong = refl
rank_of_unsigned ULongLong = refl

above_else : (u s : Arith) (test : Bool) → rank u ≤ rank s → Above u s (if test then s else unsigned_of s)
above_else u s true le = (le, omega arith)
above_else u s false le = let e = rank_of_unsigned s in (omega (arith, e, le), omega (arith, e))

mixed_above : (t : TargetTable) (u s : Arith) (test : Bool) → nat_le (rank s) (rank u) ≡ test
    → Above u s (if test then u else (if represents (arith_bits t s) true (arith_bits t u) false then s else unsigned_of s))
mixed_above t u s true e = (omega arith, grind arith)
mixed_above t u s false e = above_else u s (represents (arith_bits t s) true (arith_bits t u) false) (grind arith)

above_by : (t : TargetTable) (a b : Arith) (x y : Bool) → Above a b (common_signed t x y a b)
above_by t a b true true = alike_above a b (nat_lt (rank a) (rank b)) refl
above_by t a b false false = alike_above a b (nat_lt (rank a) (rank b)) refl
above_by t a b false true = mixed_above t a b (nat_le (rank b) (rank a)) refl
above_by t a b true false = let h = mixed_above t b a (nat_le (rank a) (rank b)) refl in (h.1, h.0)

common_above : (t : TargetTable) (a b : Arith) → Above a b (common_in t a b)
common_above t a b = above_by t a b (arith_signed a) (arith_signed b)

alike_signed : (a b : Arith) (test : Bool) → arith_signed a ≡ true → arith_signed b ≡ true → arith_signed (if test then b else a) ≡ true
alike_signed a b true ea eb = eb
alike_signed a b false ea eb = ea

-- the common type of two signed types is signed
common_of_signed : (t : TargetTable) (a b : Arith) → arith_signed a ≡ true → arith_signed b ≡ true → arith_signed (common_in t a b) ≡ true
common_of_signed t a b ea eb =
    subst (λ x. arith_signed (common_signed t x (arith_signed b) a b) ≡ true) (sym ea)
    (subst (λ y. arith_signed (common_signed t true y a b) ≡ true) (sym eb) (alike_signed a b (nat_lt (rank a) (rank b)) ea eb))

-- a number from 0 of one type is one of a wider type without sign
pub natural_wider : (m n : ℕ) (signed : Bool) (v : ℤ) → m ≤ n → IsTrue (int_le (pos 0) v) → IsTrue (in_range_of m signed v) → IsTrue (in_range_of n false v)
natural_wider m n true v le from h = let p = powers_grow (m - 1) n (omega arith) in let a = pow_pos (m - 1) in grind (arith, ints)
natural_wider m n false v le from h = let p = powers_grow m n le in let a = pow_pos m in grind (arith, ints)

module _ (t : TargetTable) (table : CTable t) where
  abbrev pub Holds : Arith → ℤ → Type 0
  Holds c v = IsTrue (in_range_of (arith_bits t c) (arith_signed c) v)

  -- ---- both operands are kept

  operand_is : (c : Arith) (v : ℤ) → Holds c v → operand t c v ≡ Ok v
  operand_is c v h = ap converted_or (held_stays (arith_bits t c) (arith_signed c) v h)

  pub in_common_kept : {A : Type 0} (next : Arith → ℤ → ℤ → Result A Trouble) (k l : CKind) (x y : ℤ) → Holds (common_type t k l) x → Holds (common_type t k l) y
      → in_common t next (Num k x) (Num l y) ≡ next (common_type t k l) x y
  in_common_kept {A} next k l x y h g =
      let c = common_type t k l in
      ap (λ r. let q : Result A Trouble = with_number r (λ u. with_number (operand t c y) (λ w. next c u w)) in q) (operand_is c x h)
      ∙ ap (λ r. let q : Result A Trouble = with_number r (λ w. next c x w) in q) (operand_is c y g)

  pub usual_kept : (f : Operator) (k l : CKind) (x y : ℤ) → Holds (common_type t k l) x → Holds (common_type t k l) y
      → usual t f (Num k x) (Num l y) ≡ computed (common_type t k l) (f (arith_bits t (common_type t k l)) (arith_signed (common_type t k l)) x y)
  usual_kept f k l x y h g = in_common_kept (λ c u w. computed c (f (arith_bits t c) (arith_signed c) u w)) k l x y h g

  pub compared_kept : (holds : ℤ → ℤ → Bool) (k l : CKind) (x y : ℤ) → Holds (common_type t k l) x → Holds (common_type t k l) y → compared t holds (Num k x) (Num l y) ≡ Ok (truth (holds x y))
  compared_kept holds k l x y h g = in_common_kept (λ c u w. Ok (truth (holds u w))) k l x y h g

  -- ---- two values of one kind

  module _ (k : CKind) (x y : ℤ) (h : IsTrue (can_hold t k x)) (g : IsTrue (can_hold t k y)) where
    alike : common_type t k k ≡ promoted t k
    alike = common_with_itself t (promoted t k)

    kept : (v : ℤ) → IsTrue (can_hold t k v) → Holds (common_type t k k) v
    kept v i = subst (λ c. Holds c v) (sym alike) (promotion_keeps t table.sound k v i)

    pub usual_alike : (f : Operator) → usual t f (Num k x) (Num k y) ≡ computed (promoted t k) (f (arith_bits t (promoted t k)) (arith_signed (promoted t k)) x y)
    usual_alike f = usual_kept f k k x y (kept x h) (kept y g) ∙ ap (λ c. computed c (f (arith_bits t c) (arith_signed c) x y)) alike

    pub compared_alike : (holds : ℤ → ℤ → Bool) → compared t holds (Num k x) (Num k y) ≡ Ok (truth (holds x y))
    compared_alike holds = compared_kept holds k k x y (kept x h) (kept y g)

  -- ---- two numbers from 0

  from_signed : (a b : Arith) (v : ℤ) (signed : Bool) → arith_signed (common_in t a b) ≡ signed → rank a ≤ rank (common_in t a b) → (signed ≡ true → Holds (common_in t a b) v)
      → IsTrue (int_le (pos 0) v) → Holds a v → Holds (common_in t a b) v
  from_signed a b v true e le k from h = k refl
  from_signed a b v false e le k from h =
      subst (λ signed. IsTrue (in_range_of (arith_bits t (common_in t a b)) signed v)) (sym e)
      (natural_wider (arith_bits t a) (arith_bits t (common_in t a b)) (arith_signed a) v (bits_by_rank t table.sound a (common_in t a b) le) from h)

  natural_left : (a b : Arith) (v : ℤ) → IsTrue (int_le (pos 0) v) → Holds a v → Holds (common_in t a b) v
  natural_left a b v from h =
      from_signed a b v (arith_signed (common_in t a b)) refl (common_above t a b).0 (λ e. (signed_common_keeps t table.sound a b v e).0 h) from h

  natural_right : (a b : Arith) (v : ℤ) → IsTrue (int_le (pos 0) v) → Holds b v → Holds (common_in t a b) v
  natural_right a b v from h = right_by (arith_signed (common_in t a b)) refl
    where
      right_by : (signed : Bool) → arith_signed (common_in t a b) ≡ signed → Holds (common_in t a b) v
      right_by true e = (signed_common_keeps t table.sound a b v e).1 h
      right_by false e =
          subst (λ signed. IsTrue (in_range_of (arith_bits t (common_in t a b)) signed v)) (sym e)
          (natural_wider (arith_bits t b) (arith_bits t (common_in t a b)) (arith_signed b) v (bits_by_rank t table.sound b (common_in t a b) (common_above t a b).1) from h)

  pub record AreNatural (k l : CKind) (x y : ℤ) : Type 0 where
    pub left_from : IsTrue (int_le (pos 0) x)
    pub right_from : IsTrue (int_le (pos 0) y)
    pub left_held : IsTrue (can_hold t k x)
    pub right_held : IsTrue (can_hold t l y)

  module _ (k l : CKind) (x y : ℤ) (n : AreNatural k l x y) where
    pub left_kept : Holds (common_type t k l) x
    left_kept = natural_left (promoted t k) (promoted t l) x n.left_from (promotion_keeps t table.sound k x n.left_held)

    pub right_kept : Holds (common_type t k l) y
    right_kept = natural_right (promoted t k) (promoted t l) y n.right_from (promotion_keeps t table.sound l y n.right_held)

    pub usual_natural : (f : Operator) → usual t f (Num k x) (Num l y) ≡ computed (common_type t k l) (f (arith_bits t (common_type t k l)) (arith_signed (common_type t k l)) x y)
    usual_natural f = usual_kept f k l x y left_kept right_kept

    pub compared_natural : (holds : ℤ → ℤ → Bool) → compared t holds (Num k x) (Num l y) ≡ Ok (truth (holds x y))
    compared_natural holds = compared_kept holds k l x y left_kept right_kept

  -- ---- two numbers of types that are signed once they are promoted

  pub record AreSigned (k l : CKind) (x y : ℤ) : Type 0 where
    pub left_signed : arith_signed (promoted t k) ≡ true
    pub right_signed : arith_signed (promoted t l) ≡ true
    pub left_has : IsTrue (can_hold t k x)
    pub right_has : IsTrue (can_hold t l y)

  module _ (k l : CKind) (x y : ℤ) (n : AreSigned k l x y) where
    pub common_is_signed : arith_signed (common_type t k l) ≡ true
    common_is_signed = common_of_signed t (promoted t k) (promoted t l) n.left_signed n.right_signed

    pub signed_left_kept : Holds (common_type t k l) x
    signed_left_kept = (signed_common_keeps t table.sound (promoted t k) (promoted t l) x common_is_signed).0 (promotion_keeps t table.sound k x n.left_has)

    pub signed_right_kept : Holds (common_type t k l) y
    signed_right_kept = (signed_common_keeps t table.sound (promoted t k) (promoted t l) y common_is_signed).1 (promotion_keeps t table.sound l y n.right_has)

    pub usual_signed : (f : Operator) → usual t f (Num k x) (Num l y) ≡ computed (common_type t k l) (f (arith_bits t (common_type t k l)) (arith_signed (common_type t k l)) x y)
    usual_signed f = usual_kept f k l x y signed_left_kept signed_right_kept

    pub compared_signed : (holds : ℤ → ℤ → Bool) → compared t holds (Num k x) (Num l y) ≡ Ok (truth (holds x y))
    compared_signed holds = compared_kept holds k l x y signed_left_kept signed_right_kept
