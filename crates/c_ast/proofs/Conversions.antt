-- Conversions keep what the type can hold, and give what it can hold.
use Rattle.std.proofs.Common.{◌≡◌, ℕ, ℤ, Bool, true, false, IsTrue, refl, ap, subst}
use Rattle.std.specs.Prelude.{Some, None, is_none, not, ◌&&◌, if◌then◌else◌}
use Rattle.iv_words.proofs.Modular.{modulo_in_range, modulo_of_held}
use Rattle.iv_words.specs.Bits.{modulo}
use Rattle.iv_words.specs.Kinds.{in_range_of, width, is_signed}
use Rattle.c_ast.specs.declared.types.Target.{Target}
use Rattle.c_ast.specs.declared.types.CScalar.TheVariants.{Truth, Int as Exact}
use Rattle.c_ast.specs.declared.types.CKind.{CKind}
use Rattle.c_ast.specs.declared.types.CKind.TheVariants.{Scalar, Arith as Computed}
use Rattle.c_ast.specs.Targets.{table_of, arith_bits, arith_signed}
use Rattle.c_ast.specs.Conversions.{converted, convert, is_lost}
use Rattle.c_ast.specs.ConversionLaws.{HeldNumbersStay, ConvertedNumbersAreHeld}

pub held_stays : (bits : ℕ) (signed : Bool) (v : ℤ) → IsTrue (in_range_of bits signed v) → converted bits signed v ≡ Some v
held_stays bits true v h = ap (λ b. if b then Some v else None) h
held_stays bits false v h = ap Some (modulo_of_held bits v h)

some_same : {A : Type 0} (P : A → Type 0) (a b : A) → P a → Some a ≡ Some b → P b
some_same P a b h e = let q : a ≡ b = cc in subst P q h

kept : (bits : ℕ) (v w : ℤ) (test : Bool) → in_range_of bits true v ≡ test → (if test then Some v else None) ≡ Some w → IsTrue (in_range_of bits true w)
kept bits v w true h e = some_same (λ u. IsTrue (in_range_of bits true u)) v w h e
kept bits v w false h e = cc

pub converted_held : (bits : ℕ) (signed : Bool) (v w : ℤ) → converted bits signed v ≡ Some w → IsTrue (in_range_of bits signed w)
converted_held bits true v w e = kept bits v w (in_range_of bits true v) refl e
converted_held bits false v w e = some_same (λ u. IsTrue (in_range_of bits false u)) (modulo bits v) w (modulo_in_range bits v) e

pub held_numbers_stay : HeldNumbersStay
held_numbers_stay t kind v h = held_stays (width kind) (is_signed kind) v h

pub converted_numbers_are_held : ConvertedNumbersAreHeld
converted_numbers_are_held t kind v w e = converted_held (width kind) (is_signed kind) v w e

-- ---- no number comes exactly where a signed type cannot hold it

none_of : (v : ℤ) (test : Bool) → is_none (if test then Some v else None) ≡ not test
none_of v true = refl
none_of v false = refl

pub converted_none : (bits : ℕ) (signed : Bool) (v : ℤ) → is_none (converted bits signed v) ≡ (signed && not (in_range_of bits signed v))
converted_none bits true v = none_of v (in_range_of bits true v)
converted_none bits false v = refl

pub convert_none : (t : Target) (kind : CKind) (v : ℤ) → is_none (convert t kind v) ≡ is_lost (table_of t) kind v
convert_none t (Scalar Truth) v = refl
convert_none t (Scalar (Exact kind)) v = converted_none (width kind) (is_signed kind) v
convert_none t (Computed a) v = converted_none (arith_bits (table_of t) a) (arith_signed a) v
