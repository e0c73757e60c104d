-- Conversions of values whose numbers the other type holds: they keep the number.
use Rattle.std.proofs.Common.{◌≡◌, ℕ, zero, suc, ℤ, pos, negsuc, false, IsTrue, Ok, arith, refl, ap}
use Rattle.std.specs.Prelude.{Some}
use Rattle.std.proofs.lemmas.Int.{ints}
use Rattle.iv_words.specs.Kinds.{in_range_of, width, is_signed}
use Rattle.c_ast.specs.declared.Target.{Target}
use Rattle.c_ast.specs.declared.CScalar.{CScalar}
use Rattle.c_ast.specs.declared.CScalar.TheVariants.{Truth, Int as Exact}
use Rattle.c_ast.specs.declared.CKind.{CKind}
use Rattle.c_ast.specs.declared.CKind.TheVariants.{Scalar, Arith as Computed}
use Rattle.c_ast.specs.declared.CType.TheVariants.{Value}
use Rattle.c_ast.specs.Targets.{TargetTable, table_of, arith_bits, arith_signed}
use Rattle.c_ast.specs.Conversions.{convert_in, can_hold}
use Rattle.c_ast.proofs.Conversions.{held_stays}
use Rattle.c_meaning.specs.Values.{Num, typed, as_kind, as_assigned}

not_one_bit : (n : ℕ) → IsTrue (in_range_of 1 false (pos (suc (suc n)))) → ⊥
not_one_bit n h = grind (arith, ints)

-- a number that the type holds stays, whatever the type
pub held_converts : (t : TargetTable) (kind : CKind) (v : ℤ) → IsTrue (can_hold t kind v) → convert_in t kind v ≡ Some v
held_converts t (Scalar Truth) (pos zero) h = refl
held_converts t (Scalar Truth) (pos (suc zero)) h = refl
held_converts t (Scalar Truth) (pos (suc (suc n))) h = absurd (not_one_bit n h)
held_converts t (Scalar Truth) (negsuc n) h = cc
held_converts t (Scalar (Exact kind)) v h = held_stays (width kind) (is_signed kind) v h
held_converts t (Computed a) v h = held_stays (arith_bits t a) (arith_signed a) v h

pub held_as_kind : (t : TargetTable) (to from : CKind) (v : ℤ) → IsTrue (can_hold t to v) → as_kind t to (Num from v) ≡ Ok (Num to v)
held_as_kind t to from v h = ap (typed to) (held_converts t to v h)

-- a cast to the type, or an assignment
pub held_as_assigned : (t : Target) (s : CScalar) (from : CKind) (v : ℤ) → IsTrue (can_hold (table_of t) (Scalar s) v) → as_assigned t (Value s) (Num from v) ≡ Ok (Num (Scalar s) v)
held_as_assigned t s from v h = held_as_kind (table_of t) (Scalar s) from v h
