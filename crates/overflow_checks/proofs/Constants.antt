-- The types of the constants that the forms have (C99 6.4.4.1): one that holds the number, with the sign of the suffix.
use Rattle.std.proofs.Common.{◌≡◌, ℕ, ◌-◌, ◌^◌, ◌<◌, ℤ, pos, Bool, true, false, IsTrue, Option, Some, None, arith, refl}
use Rattle.std.specs.Prelude.{if◌then◌else◌, IsSome, [], ◌∷◌}
use Rattle.std.proofs.lemmas.Int.{ints}
use Rattle.iv_words.specs.Kinds.{in_range_of}
use Rattle.c_ast.specs.declared.Arith.{Arith}
use Rattle.c_ast.specs.declared.Arith.TheVariants.{Int, UInt, Long, ULong, LongLong, ULongLong}
use Rattle.c_ast.specs.declared.Suffix.TheVariants.{Plain, U}
use Rattle.c_ast.specs.Targets.{TargetTable, arith_bits, arith_signed}
use Rattle.c_ast.specs.Conversions.{first_of_types, constant_type_in}
use Rattle.iv_words.proofs.Ranges.{powers_grow}
use Rattle.overflow_checks.proofs.Tables.{CTable}

module _ (t : TargetTable) (table : CTable t) where
  -- a type of this sign was found that holds the number
  pub record IsTyped (signed : Bool) (v : ℤ) (found : Option Arith) : Type 0 where
    pub type : Arith
    pub found_it : found ≡ Some type
    pub sign : arith_signed type ≡ signed
    pub holds : IsTrue (in_range_of (arith_bits t type) (arith_signed type) v)

  pick : (signed : Bool) (v : ℤ) (a : Arith) (rest : Option Arith) (test : Bool) → in_range_of (arith_bits t a) (arith_signed a) v ≡ test → arith_signed a ≡ signed
      → (test ≡ false → IsTyped signed v rest) → IsTyped signed v (if test then Some a else rest)
  pick signed v a rest true e s next = record { type = a; found_it = refl; sign = s; holds = e }
  pick signed v a rest false e s next = next refl

  last : (signed : Bool) (v : ℤ) (a : Arith) → arith_signed a ≡ signed → IsTrue (in_range_of (arith_bits t a) (arith_signed a) v) → IsTyped signed v (first_of_types t (a ∷ []) v)
  last signed v a s h = pick signed v a None (in_range_of (arith_bits t a) (arith_signed a) v) refl s (λ e. let no : ⊥ = cc in absurd no)

  -- a plain constant below 2 ^ 63
  pub plain_typed : (n : ℕ) → n < 2 ^ 63 → IsTyped true (pos n) (constant_type_in t Plain n)
  plain_typed n l =
      let v = pos n in
      let w = powers_grow 63 (t.long_long_bits - 1) (let b = table.sound.long_long_least in omega arith) in
      let h : IsTrue (in_range_of t.long_long_bits true v) = grind (arith, ints) in
      pick true v Int (first_of_types t (Long ∷ LongLong ∷ []) v) (in_range_of t.int_bits true v) refl refl
      (λ e. pick true v Long (first_of_types t (LongLong ∷ []) v) (in_range_of t.long_bits true v) refl refl (λ f. last true v LongLong refl h))

  -- one of the suffix u below 2 ^ 64
  pub unsigned_typed : (n : ℕ) → n < 2 ^ 64 → IsTyped false (pos n) (constant_type_in t U n)
  unsigned_typed n l =
      let v = pos n in
      let w = powers_grow 64 t.long_long_bits table.sound.long_long_least in
      let h : IsTrue (in_range_of t.long_long_bits false v) = grind (arith, ints) in
      pick false v UInt (first_of_types t (ULong ∷ ULongLong ∷ []) v) (in_range_of t.int_bits false v) refl refl
      (λ e. pick false v ULong (first_of_types t (ULongLong ∷ []) v) (in_range_of t.long_bits false v) refl refl (λ f. last false v ULongLong refl h))

  -- both have a type
  pub typed_is_some : (signed : Bool) (v : ℤ) (found : Option Arith) → IsTyped signed v found → IsSome found
  typed_is_some signed v found typed = rw typed.found_it refl
