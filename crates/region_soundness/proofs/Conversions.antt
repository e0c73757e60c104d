-- Conversions answer numbers of the wanted type, with a check where not each number of the operand's type is one of it.
use Rattle.std.proofs.Common.{◌≡◌, ℕ, ◌≤◌, ℤ, pos, negsuc, true, ◌&&◌, if◌then◌else◌, Ok, Err, IsTrue, arith, refl, sym, subst, ap}
use Rattle.std.specs.Prelude.{int_le, int_lt, ◌-ℤ◌}
use Rattle.std.proofs.lemmas.Int.{ints}
use Rattle.std.proofs.lemmas.Nat.{mod_below}
use Rattle.iv_words.specs.declared.IntKind.{IntKind}
use Rattle.iv_words.specs.declared.IntKind.TheVariants.{U8, U16, U32, U64, I8, I16, I32, I64}
use Rattle.iv_words.specs.Kinds.{least, greatest, in_range}
use Rattle.index_types.specs.Indices.{is_index, wrapped}
use Rattle.area_types.specs.Syntax.{ValueType, Int, Ix}
use Rattle.area_types.specs.Tables.{Table}
use Rattle.area_types.proofs.Truths.{both, is_at_most}
use Rattle.core_tree.specs.declared.SiteKind.TheVariants.{Index, Cast}
use Rattle.core_tree.specs.Syntax.{Label}
use Rattle.core_tree.specs.Types.{is_value, has_values_of, has_indices_of}
use Rattle.core_tree.specs.TypedExpressions.{CastTyped, ToIndexTyped, WrapIndexTyped}
use Rattle.core_meaning.specs.Answers.{cast_to, index_to, wrapped_to}
use Rattle.region_soundness.proofs.Answered.{AnswersOne, number, guarded}

-- the number is a value of the label's type
value_of : (table : Table) (l : Label) (ty : ValueType) (v : ℤ) → l.ty ≡ ty → IsTrue (is_value table ty v) → IsTrue (is_value table l.ty v)
value_of table l ty v e h = subst (λ t. IsTrue (is_value table t v)) (sym e) h

-- ---- `T(e)`

-- a number between two bounds lies between wider ones
between : (low high least greatest v : ℤ) → IsTrue (int_le low least && int_le greatest high) → IsTrue (int_le least v && int_le v greatest) → IsTrue (int_le low v && int_le v high)
between low high least greatest v h k = grind (arith, ints)

least_of_kind : (kind : IntKind) → IsTrue (int_le (least kind) (pos 0))
least_of_kind U8 = refl
least_of_kind U16 = refl
least_of_kind U32 = refl
least_of_kind U64 = refl
least_of_kind I8 = refl
least_of_kind I16 = refl
least_of_kind I32 = refl
least_of_kind I64 = refl

index_between : (n : ℕ) (low high v : ℤ) → IsTrue (int_le low (pos 0)) → IsTrue (int_le (pos n -ℤ pos 1) high) → IsTrue (int_le (pos 0) v && int_lt v (pos n)) → IsTrue (int_le low v && int_le v high)
index_between n low high v l h k = grind (arith, ints)

-- where each value of the type is one of the kind
sure_in_range : (table : Table) (kind : IntKind) (ty : ValueType) (v : ℤ) → IsTrue (is_value table ty v) → has_values_of kind ty ≡ true → in_range kind v ≡ true
sure_in_range table kind (Int given) v k h = between (least kind) (greatest kind) (least given) (greatest given) v h k
sure_in_range table kind (Ix n) v k h = index_between n (least kind) (greatest kind) v (least_of_kind kind) h k
sure_in_range table kind ty v k h = cc

pub cast_answers : (table : Table) (l : Label) (from : ValueType) → CastTyped l from → AnswersOne table from l (cast_to l.ty)
cast_answers table l from t = record {
  answer = λ v. if in_range t.kind v then Ok v else Err Cast;
  has = ap cast_to t.type;
  each = λ v h. guarded table l (in_range t.kind v) (has_values_of t.kind from) v Cast t.checked (sure_in_range table t.kind from v h) (value_of table l (Int t.kind) v t.type);
}

-- ---- `toix(N, e)` and `wrapix(N, e)`

index_within : (n : ℕ) (least greatest v : ℤ) → IsTrue (is_index n least && is_index n greatest) → IsTrue (int_le least v && int_le v greatest) → IsTrue (is_index n v)
index_within n least greatest v h k = grind (arith, ints)

-- where each number of the kind is an index
sure_index : (table : Table) (n : ℕ) (kind : IntKind) (ty : ValueType) (v : ℤ) → ty ≡ Int kind → IsTrue (is_value table ty v) → has_indices_of n kind ≡ true → is_index n v ≡ true
sure_index table n kind ty v e k h = index_within n (least kind) (greatest kind) v h (subst (λ t. IsTrue (is_value table t v)) e k)

pub to_index_answers : (table : Table) (l : Label) (from : ValueType) → ToIndexTyped l from → AnswersOne table from l (index_to l.ty)
to_index_answers table l from t = record {
  answer = λ v. if is_index t.length v then Ok v else Err Index;
  has = ap index_to t.type;
  each = λ v h. guarded table l (is_index t.length v) (has_indices_of t.length t.kind) v Index t.checked (sure_index table t.length t.kind from v t.operand h) (value_of table l (Ix t.length) v t.type);
}

wrapped_index : (n : ℕ) (v : ℤ) → 1 ≤ n → IsTrue (is_index n (pos (wrapped n v)))
wrapped_index n (pos m) h = let l = mod_below m n (omega arith) in grind (arith, ints)
wrapped_index n (negsuc m) h = let l = mod_below m n (omega arith) in grind (arith, ints)

pub wrap_index_answers : (table : Table) (l : Label) (from : ValueType) → WrapIndexTyped l from → AnswersOne table from l (wrapped_to l.ty)
wrap_index_answers table l from t = record {
  answer = λ v. Ok (pos (wrapped t.length v));
  has = ap wrapped_to t.type;
  each = λ v h. number table l (pos (wrapped t.length v)) (value_of table l (Ix t.length) (pos (wrapped t.length v)) t.type (wrapped_index t.length v (is_at_most 1 t.length (both _ _ t.in_range).0)));
}
