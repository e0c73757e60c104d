-- What an operator answers on a kind is a number of the kind.
use Rattle.std.proofs.Common.{◌≡◌, ℕ, suc, ◌/◌, ◌^◌, ◌<◌, ℤ, pos, negsuc, ◌*ℤ◌, Bool, true, false, if◌then◌else◌, IsTrue, arith, refl, Result, Ok, Err, IfOk, inl, inr}
use Rattle.std.specs.Prelude.{int_div, int_rem, int_lt, bit_and, bit_or, bit_xor, unsigned_abs}
use Rattle.std.specs.Ordering.{int_eq}
use Rattle.std.proofs.lemmas.Int.{ints}
use Rattle.std.proofs.lemmas.Nat.{and_le_l, or_lt, xor_lt, shr_le}
use Rattle.std.proofs.Math.Nat.{mod-le}
use Rattle.iv_words.specs.Kinds.{in_range_of, width, is_signed, in_range}
use Rattle.iv_words.specs.declared.kind.IntKind.{IntKind}
use Rattle.iv_words.specs.declared.kind.IntKind.TheVariants.{U8, U16, U32, U64, I8, I16, I32, I64}
use Rattle.iv_words.specs.Bits.{two_to}
use Rattle.iv_words.proofs.Modular.{modulo_in_range}
use Rattle.int_ops.specs.Operators.{IsKindWidth, truth, is_allowed_at, is_allowed, is_binary, exact_at, exact}
use Rattle.int_ops.specs.declared.operator.Op.{Op}
use Rattle.int_ops.specs.declared.operator.Op.TheVariants.{Add, Sub, Mul, Div, Rem, Shl, Shr, And, Or, Xor, Neg, Not, WrapAdd, WrapSub, WrapMul, Eq, Ne, Lt, Le, Gt, Ge}
use Rattle.int_ops.specs.declared.operator.Stop.{Stop}
use Rattle.int_ops.proofs.Division.{left_over}

-- the answer, where there is one, is a number of the range
abbrev pub AnswersInRange : ℕ → Bool → Result ℤ Stop → Type 0
AnswersInRange bits signed r = IfOk r (λ v. IsTrue (in_range_of bits signed v))

if_in_range : (bits : ℕ) (signed : Bool) (test : Bool) (v : ℤ) (e : Stop) → (IsTrue test → IsTrue (in_range_of bits signed v))
    → AnswersInRange bits signed (if test then Ok v else Err e)
if_in_range bits signed true v e h = h refl
if_in_range bits signed false v e h = tt

unless_in_range : (bits : ℕ) (signed : Bool) (test : Bool) (e : Stop) (r : Result ℤ Stop) → AnswersInRange bits signed r
    → AnswersInRange bits signed (if test then Err e else r)
unless_in_range bits signed true e r h = tt
unless_in_range bits signed false e r h = h

-- ---- numbers from 0

natural : (bits n : ℕ) → IsKindWidth bits → n < 2 ^ bits → IsTrue (in_range_of bits false (pos n))
natural bits n w h = grind (arith, ints)

below : (bits n : ℕ) → IsKindWidth bits → IsTrue (in_range_of bits false (pos n)) → n < 2 ^ bits
below bits n w h = grind (arith, ints)

truth_in_range : (bits : ℕ) (signed test : Bool) → IsKindWidth bits → IsTrue (in_range_of bits signed (truth test))
truth_in_range bits true true w = grind (arith, ints)
truth_in_range bits true false w = grind (arith, ints)
truth_in_range bits false true w = grind (arith, ints)
truth_in_range bits false false w = grind (arith, ints)

-- ---- division

remainder_in_range : (bits : ℕ) (signed : Bool) (a b : ℤ) → IsKindWidth bits → IsTrue (in_range_of bits signed a) → IsTrue (in_range_of bits signed (int_rem a b))
remainder_in_range bits true (pos a) b w h = let l = mod-le a (unsigned_abs b) in grind (arith, ints)
remainder_in_range bits true (negsuc a) b w h = let l = mod-le (suc a) (unsigned_abs b) in grind (arith, ints)
remainder_in_range bits false (pos a) b w h = let l = mod-le a (unsigned_abs b) in grind (arith, ints)
remainder_in_range bits false (negsuc a) b w h = cc

-- ---- each operator

pub exact_in_range : (op : Op) (bits : ℕ) (signed : Bool) (a b : ℤ) → IsKindWidth bits → IsTrue (is_allowed_at op signed)
    → IsTrue (in_range_of bits signed a) → (IsTrue (is_binary op) → IsTrue (in_range_of bits signed b))
    → IfOk (exact_at op bits signed a b) (λ v. IsTrue (in_range_of bits signed v))
exact_in_range Add bits signed a b w u h k = if_in_range bits signed (in_range_of bits signed _) _ _ (λ e. e)
exact_in_range Sub bits signed a b w u h k = if_in_range bits signed (in_range_of bits signed _) _ _ (λ e. e)
exact_in_range Mul bits signed a b w u h k = if_in_range bits signed (in_range_of bits signed _) _ _ (λ e. e)
exact_in_range Neg bits signed a b w u h k = if_in_range bits signed (in_range_of bits signed _) _ _ (λ e. e)
exact_in_range Div bits signed a b w u h k =
    unless_in_range bits signed (int_eq b (pos 0)) _ _ (if_in_range bits signed (in_range_of bits signed (int_div a b)) _ _ (λ e. e))
exact_in_range Rem bits signed a b w u h k =
    unless_in_range bits signed (int_eq b (pos 0)) _ _ (if_in_range bits signed (in_range_of bits signed (int_div a b)) _ _
    (λ e. rw (← left_over a b) (remainder_in_range bits signed a b w h)))
exact_in_range Eq bits signed a b w u h k = truth_in_range bits signed _ w
exact_in_range Ne bits signed a b w u h k = truth_in_range bits signed _ w
exact_in_range Lt bits signed a b w u h k = truth_in_range bits signed _ w
exact_in_range Le bits signed a b w u h k = truth_in_range bits signed _ w
exact_in_range Gt bits signed a b w u h k = truth_in_range bits signed _ w
exact_in_range Ge bits signed a b w u h k = truth_in_range bits signed _ w
exact_in_range WrapAdd bits false a b w u h k = modulo_in_range bits _
exact_in_range WrapSub bits false a b w u h k = modulo_in_range bits _
exact_in_range WrapMul bits false a b w u h k = modulo_in_range bits _
exact_in_range Shl bits false a b w u h k = if_in_range bits false (int_lt b (pos bits)) _ _ (λ e. modulo_in_range bits (a *ℤ two_to b))
exact_in_range Shr bits false (pos a) b w u h k =
    let l = below bits a w h in let m = shr_le a (unsigned_abs b) in
    if_in_range bits false (int_lt b (pos bits)) _ _ (λ e. natural bits (a / 2 ^ unsigned_abs b) w (omega arith))
exact_in_range And bits false (pos a) (pos b) w u h k =
    let l = below bits a w h in let m = and_le_l a b in natural bits (bit_and a b) w (omega arith)
exact_in_range Or bits false (pos a) (pos b) w u h k = natural bits (bit_or a b) w (or_lt bits a b (below bits a w h) (below bits b w (k refl)))
exact_in_range Xor bits false (pos a) (pos b) w u h k = natural bits (bit_xor a b) w (xor_lt bits a b (below bits a w h) (below bits b w (k refl)))
exact_in_range And bits false (pos a) (negsuc b) w u h k = let e = k refl in cc
exact_in_range Or bits false (pos a) (negsuc b) w u h k = let e = k refl in cc
exact_in_range Xor bits false (pos a) (negsuc b) w u h k = let e = k refl in cc
exact_in_range Not bits false (pos a) b w u h k = grind (arith, ints)
exact_in_range op bits signed a b w u h k = cc

kind_width : (kind : IntKind) → IsKindWidth (width kind)
kind_width U8 = inl refl
kind_width U16 = inr (inl refl)
kind_width U32 = inr (inr (inl refl))
kind_width U64 = inr (inr (inr refl))
kind_width I8 = inl refl
kind_width I16 = inr (inl refl)
kind_width I32 = inr (inr (inl refl))
kind_width I64 = inr (inr (inr refl))

pub answer_in_range : (op : Op) (kind : IntKind) (a b : ℤ) (r : Result ℤ Stop) → r ≡ exact op kind a b → IsTrue (is_allowed op kind)
    → IsTrue (in_range kind a) → (IsTrue (is_binary op) → IsTrue (in_range kind b))
    → IfOk r (λ v. IsTrue (in_range kind v))
answer_in_range op kind a b r e u h k = rw e (exact_in_range op (width kind) (is_signed kind) a b (kind_width kind) u h k)
