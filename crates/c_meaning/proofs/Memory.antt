-- The scalars of C are such as the memory asks for: each has a byte at least, they are told apart, and hold numbers of their bits and sign.
use Rattle.std.proofs.Common.{◌≡◌, ◌*◌, ℤ, true, false, IsTrue, refl, ap, subst, arith}
use Rattle.std.proofs.lemmas.Int.{ints}
use denote.Enum.Bare.{same_true}
use Rattle.iv_words.specs.Kinds.{width, kind_bytes, is_signed, in_range_of}
use Rattle.iv_words.specs.declared.IntKind.{IntKind}
use Rattle.iv_words.specs.declared.IntKind.TheVariants.{U8, U16, U32, U64, I8, I16, I32, I64}
use Rattle.iv_words.specs.contracts.kind.IntKind as kinds
use Rattle.c_memory.specs.Codecs.{SoundScalars, numbers, Held}
use Rattle.c_memory.proofs.Codecs.{faithful_numbers}
use Rattle.c_memory.proofs.Memories.{lawful}
use Rattle.c_memory.proofs.Values.{lawful_values}
use Rattle.c_ast.specs.declared.CScalar.{CScalar}
use Rattle.c_ast.specs.declared.CScalar.TheVariants.{Truth, Int}
use Rattle.c_ast.specs.declared.CKind.TheVariants.{Scalar}
use Rattle.c_ast.specs.Conversions.{kind_signed, can_hold}
use Rattle.c_ast.specs.Scalars.{scalar_bytes}
use Rattle.c_ast.specs.StaticTypes.{same_scalar}
use Rattle.c_ast.specs.Targets.{TargetTable, table_of}
use Rattle.c_ast.proofs.Scalars.{bytes_some}
use Rattle.c_meaning.specs.Values.{Address}
use Rattle.c_meaning.specs.Memory.{scalar_table, memory_of}
use Rattle.c_meaning.specs.Laws.{MemoryIsLawful, ObjectsHoldValues}

itself : (s : CScalar) → same_scalar s s ≡ true
itself Truth = refl
itself (Int U8) = refl
itself (Int U16) = refl
itself (Int U32) = refl
itself (Int U64) = refl
itself (Int I8) = refl
itself (Int I16) = refl
itself (Int I32) = refl
itself (Int I64) = refl

exact : (s u : CScalar) → same_scalar s u ≡ true → s ≡ u
exact Truth Truth e = refl
exact Truth (Int l) e = let no : ⊥ = cc in absurd no
exact (Int k) Truth e = let no : ⊥ = cc in absurd no
exact (Int k) (Int l) e = ap Int (same_true kinds.the_type tt k l e)

bits : (kind : IntKind) → width kind ≡ 8 * kind_bytes kind
bits U8 = refl
bits U16 = refl
bits U32 = refl
bits U64 = refl
bits I8 = refl
bits I16 = refl
bits I32 = refl
bits I64 = refl

truth_within : (v : ℤ) → IsTrue (in_range_of 1 false v) → IsTrue (in_range_of 8 false v)
truth_within v h = grind (arith, ints)

within : (t : TargetTable) (s : CScalar) (v : ℤ) → IsTrue (can_hold t (Scalar s) v) → IsTrue (in_range_of (8 * scalar_bytes s) (kind_signed (Scalar s)) v)
within t Truth v h = truth_within v h
within t (Int kind) v h = subst (λ n. IsTrue (in_range_of n (is_signed kind) v)) (bits kind) h

pub scalars_are_sound : (t : TargetTable) → SoundScalars (scalar_table t)
scalars_are_sound t = record { some = bytes_some; itself = itself; exact = exact; within = within t }

pub memory_is_lawful : MemoryIsLawful
memory_is_lawful t =
    let table = scalar_table (table_of t) in
    lawful (numbers {P = Address} table) (Held table) (faithful_numbers Address table (scalars_are_sound (table_of t)))

module _ (W : Type 0) where
  pub objects_hold_values : ObjectsHoldValues W
  objects_hold_values t f = let table = scalar_table (table_of t) in lawful_values table.metric (Held table) f (memory_of t) (memory_is_lawful t)
