-- `T(e)` and `toix(N, e)`: the guard of each is true just where the number is one of the wanted type, and the value keeps it.
use Rattle.std.proofs.Common.{◌≡◌, ℕ, zero, suc, ◌^◌, ◌<◌, ℤ, pos, negsuc, ◌-ℤ◌, Bool, true, false, IsTrue, Some, Ok, Err, arith, refl, sym, subst, ap, ◌∙◌}
use Rattle.std.specs.Prelude.{if◌then◌else◌, ◌&&◌, List, int_le, int_lt}
use Rattle.std.proofs.lemmas.Int.{ints}
use Rattle.iv_words.specs.Kinds.{in_range, width, is_signed, least_of, least, greatest}
use Rattle.iv_words.specs.declared.IntKind.{IntKind}
use Rattle.iv_words.specs.declared.IntKind.TheVariants.{U8, U16, U32, U64, I8, I16, I32, I64}
use Rattle.index_types.specs.Indices.{is_index}
use Rattle.area_types.specs.Syntax.{Truth, Int, Ix, Bits, Ref}
use Rattle.area_types.specs.Tables.{is_length}
use Rattle.area_types.proofs.Truths.{both}
use Rattle.core_tree.specs.Operators.{cast_sites, indexing_sites}
use Rattle.core_tree.specs.Types.{has_values_of, has_indices_of}
use Rattle.core_tree.specs.declared.Check.{Check}
use Rattle.core_tree.specs.declared.SiteKind.{SiteKind}
use Rattle.core_tree.specs.declared.SiteKind.TheVariants as site
use Rattle.core_meaning.specs.Checks.{Answer, holds}
use Rattle.c_ast.specs.Syntax.{Expr}
use Rattle.c_meaning.specs.State.{Program, CState}
use Rattle.overflow_checks.proofs.Numbers.{same_test}
use Rattle.lower_values.specs.Conversions.{range_guard, valued}
use Rattle.lower_values.specs.Frames.{Frame}
use Rattle.form_answers.specs.Answering.{GuardsTell}
use Rattle.form_answers.specs.FormLaws.{AreFor, never, Operand, CastsAnswer, IndicesAnswer}
use Rattle.form_answers.specs.Standing.{TestIs}
use Rattle.form_answers.proofs.ExactOperands.{is_given, has_number}
use Rattle.form_answers.proofs.Guards.{one_tells}
use Rattle.form_answers.proofs.RangeTests.{IsEnd, IsBetween, within_tests}

-- ---- the ends of the kinds

zero_is_end : (signed : Bool) → IsEnd signed (pos 0)
zero_is_end true = omega arith
zero_is_end false = omega arith

small_is_end : (signed : Bool) (n : ℕ) → n < 2 ^ 63 → IsEnd signed (pos n)
small_is_end true n l = l
small_is_end false n l = omega arith

-- no unsigned kind has numbers below 0
negative_is_end : (bits : ℕ) (signed : Bool) (n : ℕ) → suc n < 2 ^ 63 → int_lt (least_of bits signed) (negsuc n) ≡ true → IsEnd signed (negsuc n)
negative_is_end bits true n l e = l
negative_is_end bits false n l e = cc

none_is_lower : (kind : IntKind) → int_lt (least kind) (least I64) ≡ true → ⊥
none_is_lower U8 e = cc
none_is_lower U16 e = cc
none_is_lower U32 e = cc
none_is_lower U64 e = cc
none_is_lower I8 e = cc
none_is_lower I16 e = cc
none_is_lower I32 e = cc
none_is_lower I64 e = cc

none_is_higher : (kind : IntKind) → int_lt (greatest U64) (greatest kind) ≡ true → ⊥
none_is_higher U8 e = cc
none_is_higher U16 e = cc
none_is_higher U32 e = cc
none_is_higher U64 e = cc
none_is_higher I8 e = cc
none_is_higher I16 e = cc
none_is_higher I32 e = cc
none_is_higher I64 e = cc

-- the least number of a kind, where another kind has lower ones
low_end : (other kind : IntKind) → int_lt (least other) (least kind) ≡ true → IsEnd (is_signed other) (least kind)
low_end other U8 e = zero_is_end (is_signed other)
low_end other U16 e = zero_is_end (is_signed other)
low_end other U32 e = zero_is_end (is_signed other)
low_end other U64 e = zero_is_end (is_signed other)
low_end other I8 e = negative_is_end (width other) (is_signed other) 127 (omega arith) e
low_end other I16 e = negative_is_end (width other) (is_signed other) 32_767 (omega arith) e
low_end other I32 e = negative_is_end (width other) (is_signed other) 2_147_483_647 (omega arith) e
low_end other I64 e = absurd (none_is_lower other e)

-- the greatest, where another kind has higher ones
high_end : (other kind : IntKind) → int_lt (greatest kind) (greatest other) ≡ true → IsEnd (is_signed other) (greatest kind)
high_end other U8 e = small_is_end (is_signed other) 255 (omega arith)
high_end other U16 e = small_is_end (is_signed other) 65_535 (omega arith)
high_end other U32 e = small_is_end (is_signed other) 4_294_967_295 (omega arith)
high_end other U64 e = absurd (none_is_higher other e)
high_end other I8 e = small_is_end (is_signed other) 127 (omega arith)
high_end other I16 e = small_is_end (is_signed other) 32_767 (omega arith)
high_end other I32 e = small_is_end (is_signed other) 2_147_483_647 (omega arith)
high_end other I64 e = small_is_end (is_signed other) 9_223_372_036_854_775_807 (omega arith)

-- beside an unsigned number
unsigned_high_end : (kind : IntKind) → IsEnd false (greatest kind)
unsigned_high_end U8 = omega arith
unsigned_high_end U16 = omega arith
unsigned_high_end U32 = omega arith
unsigned_high_end U64 = omega arith
unsigned_high_end I8 = omega arith
unsigned_high_end I16 = omega arith
unsigned_high_end I32 = omega arith
unsigned_high_end I64 = omega arith

last_index_is_end : (signed : Bool) (n : ℕ) → IsTrue (is_length n) → IsEnd signed (pos n -ℤ pos 1)
last_index_is_end signed zero h = cc
last_index_is_end signed (suc n) h = let is : pos (suc n) -ℤ pos 1 ≡ pos n = omega (arith, ints) in subst (IsEnd signed) (sym is) (small_is_end signed n (grind arith))

-- ---- the numbers of a type

kind_between : (kind : IntKind) (x : ℤ) → IsTrue (in_range kind x) → IsBetween (least kind) (greatest kind) x
kind_between kind x h = let b = both (int_le (least kind) x) (int_le x (greatest kind)) h in record { from_low = b.0; to_high = b.1 }

below_is_most : (n : ℕ) (x : ℤ) → int_lt x (pos n) ≡ int_le x (pos n -ℤ pos 1)
below_is_most n x = same_test (int_lt x (pos n)) (int_le x (pos n -ℤ pos 1)) (λ l. grind (arith, ints)) (λ l. grind (arith, ints))

index_between : (n : ℕ) (x : ℤ) → IsTrue (is_index n x) → IsBetween (pos 0) (pos n -ℤ pos 1) x
index_between n x h = let b = both (int_le (pos 0) x) (int_lt x (pos n)) h in record { from_low = b.0; to_high = sym (below_is_most n x) ∙ b.1 }

-- ---- guards

abbrev answer : SiteKind → Bool → ℤ → Answer
answer which test x = if test then Ok x else Err which

cast_holds : (test : Bool) (x : ℤ) → holds (answer site.Cast test x) site.Cast ≡ test
cast_holds true x = refl
cast_holds false x = refl

index_holds : (test : Bool) (x : ℤ) → holds (answer site.Index test x) site.Index ≡ test
index_holds true x = refl
index_holds false x = refl

module _ (f : Frame) (p : Program) (u : CState) (kind : IntKind) (e : Expr) (x : ℤ) (o : Operand p u kind e x) where
  abbrev value : Expr
  value = valued (Some kind) e

  of_kind_tests : (to : IntKind) → TestIs p u (range_guard f (Int kind) (Int to) (valued (Some kind) e)) (in_range to x)
  of_kind_tests to =
      within_tests p u kind value x (is_given p u kind e x o) (least kind) (greatest kind) (least to) (greatest to) (kind_between kind x o.is_in) (low_end kind to) (high_end kind to)

  pub of_kind_guarded : (to : IntKind) (cs : List Check) → AreFor cs (cast_sites to (Int kind))
      → GuardsTell p u (λ which. range_guard f (Int kind) (Int to) (valued (Some kind) e)) never (answer site.Cast (in_range to x) x) cs
  of_kind_guarded to cs kinds =
      one_tells p u (λ which. range_guard f (Int kind) (Int to) value) (answer site.Cast (in_range to x) x) cs (has_values_of to (Int kind)) site.Cast kinds
      (subst (TestIs p u (range_guard f (Int kind) (Int to) value)) (sym (cast_holds (in_range to x) x)) (of_kind_tests to))

  to_index_tests : (n : ℕ) → IsTrue (is_length n) → TestIs p u (range_guard f (Int kind) (Ix n) (valued (Some kind) e)) (is_index n x)
  to_index_tests n h =
      subst (TestIs p u (range_guard f (Int kind) (Ix n) value)) (ap (λ b. int_le (pos 0) x && b) (sym (below_is_most n x)))
      (within_tests p u kind value x (is_given p u kind e x o) (least kind) (greatest kind) (pos 0) (pos n -ℤ pos 1) (kind_between kind x o.is_in)
      (λ l. zero_is_end (is_signed kind)) (λ l. last_index_is_end (is_signed kind) n h))

  pub to_index_guarded : (n : ℕ) → IsTrue (is_length n) → (cs : List Check) → AreFor cs (indexing_sites n kind)
      → GuardsTell p u (λ which. range_guard f (Int kind) (Ix n) (valued (Some kind) e)) never (answer site.Index (is_index n x) x) cs
  to_index_guarded n h cs kinds =
      one_tells p u (λ which. range_guard f (Int kind) (Ix n) value) (answer site.Index (is_index n x) x) cs (has_indices_of n kind) site.Index kinds
      (subst (TestIs p u (range_guard f (Int kind) (Ix n) value)) (sym (index_holds (is_index n x) x)) (to_index_tests n h))

module _ (f : Frame) (p : Program) (u : CState) (e : Expr) (x : ℤ) (o : Operand p u U16 e x) (n : ℕ) (i : IsTrue (is_index n x)) (to : IntKind) where
  abbrev index : Expr
  index = valued (Some U16) e

  of_index_tests : TestIs p u (range_guard f (Ix n) (Int to) (valued (Some U16) e)) (in_range to x)
  of_index_tests =
      within_tests p u U16 index x (is_given p u U16 e x o) (pos 0) (pos n -ℤ pos 1) (least to) (greatest to) (index_between n x i) (low_end U16 to) (λ l. unsigned_high_end to)

  pub of_index_guarded : (cs : List Check) → AreFor cs (cast_sites to (Ix n))
      → GuardsTell p u (λ which. range_guard f (Ix n) (Int to) (valued (Some U16) e)) never (answer site.Cast (in_range to x) x) cs
  of_index_guarded cs kinds =
      one_tells p u (λ which. range_guard f (Ix n) (Int to) index) (answer site.Cast (in_range to x) x) cs (has_values_of to (Ix n)) site.Cast kinds
      (subst (TestIs p u (range_guard f (Ix n) (Int to) index)) (sym (cast_holds (in_range to x) x)) of_index_tests)

-- ---- the laws

pub casts_answer : CastsAnswer
casts_answer f p same u (Int from) kind to e x cs form is o value kinds =
    let q : kind ≡ from = cc in (
      subst (λ k. AreFor cs (cast_sites to (Int k)) → GuardsTell p u (λ which. range_guard f (Int k) (Int to) (valued (Some kind) e)) never (answer site.Cast (in_range to x) x) cs) q
          (of_kind_guarded f p u kind e x o to cs) kinds,
      has_number p u kind e x o,
    )
casts_answer f p same u (Ix n) kind to e x cs form is o value kinds =
    let q : U16 ≡ kind = cc in (
      subst (λ k. Operand p u k e x → GuardsTell p u (λ which. range_guard f (Ix n) (Int to) (valued (Some k) e)) never (answer site.Cast (in_range to x) x) cs) q
          (λ h. of_index_guarded f p u e x h n value to cs kinds) o,
      has_number p u kind e x o,
    )
casts_answer f p same u Truth kind to e x cs form is o value kinds = let no : ⊥ = cc in absurd no
casts_answer f p same u (Bits k) kind to e x cs form is o value kinds = let no : ⊥ = cc in absurd no
casts_answer f p same u (Ref constant region target) kind to e x cs form is o value kinds = let no : ⊥ = cc in absurd no

pub indices_answer : IndicesAnswer
indices_answer f p same u n kind e x cs h o kinds = (to_index_guarded f p u kind e x o n h cs kinds, has_number p u kind e x o)
