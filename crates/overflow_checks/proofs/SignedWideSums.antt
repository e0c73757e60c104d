-- Sums and differences of the signed kinds that are no narrower than int: what their guards on bits test.
use Rattle.std.proofs.Common.{◌≡◌, ℕ, ◌+◌, ◌%◌, ◌≤◌, min, ℤ, pos, ◌+ℤ◌, ◌-ℤ◌, true, false, IsTrue, arith, refl, ap, ◌∙◌}
use Rattle.std.specs.Prelude.{Option, Some, nat_eq, bit_xor}
use Rattle.iv_words.specs.Kinds.{in_range_of, width, is_signed, kind_at}
use Rattle.iv_words.specs.declared.IntKind.{IntKind}
use Rattle.iv_words.specs.declared.IntKind.TheVariants.{U8, U16, U32, U64, I8, I16, I32, I64}
use Rattle.c_ast.specs.declared.Arith.{Arith}
use Rattle.c_ast.specs.declared.CBinary.TheVariants.{Add, Sub}
use Rattle.c_ast.specs.Syntax.{Expr, Binary}
use Rattle.c_ast.specs.Targets.{table_of, promoted}
use Rattle.iv_words.specs.Bits.{modulo}
use Rattle.c_ast.specs.Conversions.{converted}
use Rattle.c_meaning.specs.Operators.{bits_of}
use Rattle.c_meaning.specs.State.{Program, CState}
use Rattle.overflow_checks.specs.SignedForms.{unsigned_of, differing, top_is_clear, wide_sum_fits, wide_difference_fits}
use Rattle.overflow_checks.proofs.Tables.{CTable}
use Rattle.overflow_checks.proofs.Given.{of_kind, cast_gives}
use Rattle.overflow_checks.specs.Contract.{IsGiven}
use Rattle.overflow_checks.proofs.Rows.{AreGiven, Tests}
use Rattle.iv_words.proofs.Widths.{width_least, width_most, range_of_sign}
use Rattle.overflow_checks.proofs.SignedTypes.{IsAlike, promoted_alike}
use Rattle.overflow_checks.proofs.SignedGuards.{tests_same}
use Rattle.overflow_checks.proofs.SignedBits as bits
use Rattle.overflow_checks.proofs.SignedModulo.{IsModulo, bits_under, sum_modulo, difference_modulo, differing_modulo, clear_tests}

-- the unsigned kind of as many bits

abbrev pub unsigned_kind : IntKind → IntKind
unsigned_kind kind = kind_at (width kind) false

pub unsigned_sign : (kind : IntKind) → is_signed (unsigned_kind kind) ≡ false
unsigned_sign U8 = refl
unsigned_sign U16 = refl
unsigned_sign U32 = refl
unsigned_sign U64 = refl
unsigned_sign I8 = refl
unsigned_sign I16 = refl
unsigned_sign I32 = refl
unsigned_sign I64 = refl

pub unsigned_width : (kind : IntKind) → width (unsigned_kind kind) ≡ width kind
unsigned_width U8 = refl
unsigned_width U16 = refl
unsigned_width U32 = refl
unsigned_width U64 = refl
unsigned_width I8 = refl
unsigned_width I16 = refl
unsigned_width I32 = refl
unsigned_width I64 = refl

module _ (p : Program) (s : CState) (kind : IntKind) (table : CTable (table_of p.target)) (wide : (table_of p.target).int_bits ≤ width kind) where
  -- the type in which it computes
  abbrev pub unsigned_type : Arith
  unsigned_type = promoted (table_of p.target) (of_kind (unsigned_kind kind))

  pub alike : IsAlike (table_of p.target) (width kind) unsigned_type
  alike =
      let e = unsigned_width kind in
      let a = promoted_alike (table_of p.target) table (unsigned_kind kind) (unsigned_sign kind) (omega (arith, wide, e)) in (a.0, a.1 ∙ e)

  -- an operand as a number of that kind
  pub cast_modulo : (a : Expr) (x : ℤ) → IsGiven p s kind a x → IsModulo p s table (width kind) unsigned_type alike (unsigned_of (width kind) a) x
  cast_modulo a x given =
      let u = unsigned_kind kind in
      record {
        kind = of_kind u;
        gives = cast_gives p s u a (of_kind kind) x (modulo (width kind) x) given.gives
            (ap (λ signed. converted (width u) signed x) (unsigned_sign kind) ∙ ap (λ n. let q : Option ℤ = Some (modulo n x) in q) (unsigned_width kind));
        promotes = refl;
      }

module _ (p : Program) (s : CState) (kind : IntKind) (signed : is_signed kind ≡ true) (a b : Expr) (x y : ℤ) (given : AreGiven p s kind a b x y)
    (wide : (table_of p.target).int_bits ≤ width kind) where
  abbrev w : ℕ
  w = width kind

  abbrev c : Arith
  c = unsigned_type p s kind given.table wide

  abbrev Modulo : Expr → ℤ → Type 0
  Modulo e v = IsModulo p s given.table w c (alike p s kind given.table wide) e v

  some : 1 ≤ width kind
  some = let l = width_least kind in omega arith

  left : Modulo (unsigned_of w a) x
  left = cast_modulo p s kind given.table wide a x given.left

  right : Modulo (unsigned_of w b) y
  right = cast_modulo p s kind given.table wide b y given.right

  h : IsTrue (in_range_of (width kind) true x)
  h = range_of_sign kind true signed x given.left.is_in

  k : IsTrue (in_range_of (width kind) true y)
  k = range_of_sign kind true signed y given.right.is_in

  -- the bits in which two numbers differ
  abbrev apart : ℤ → ℤ → ℤ
  apart v u = pos (bit_xor (bits_of w v) (bits_of w u))

  top_apart : (v u : ℤ) → bits.top w (apart v u) ≡ (bits.top w v + bits.top w u) % 2
  top_apart v u = bits.top_of_differing w some (bits_of w v) (bits_of w u) (bits_under w v) (bits_under w u)

  differ : (e f : Expr) (v u : ℤ) → Modulo e v → Modulo f u → Modulo (differing e f) (apart v u)
  differ e f v u l r = differing_modulo p s given.table w c (alike p s kind given.table wide) e f v u l r

  -- the highest bits of both do not differ together
  apart_test : (v u z q : ℤ) → nat_eq (min (bits.top w (apart v u)) (bits.top w (apart z q))) 0 ≡ nat_eq (min ((bits.top w v + bits.top w u) % 2) ((bits.top w z + bits.top w q) % 2)) 0
  apart_test v u z q = ap (λ n. nat_eq (min n (bits.top w (apart z q))) 0) (top_apart v u) ∙ ap (λ n. nat_eq (min ((bits.top w v + bits.top w u) % 2) n) 0) (top_apart z q)

  clear : (e f : Expr) (v u : ℤ) → Modulo e v → Modulo f u → Tests p s (top_is_clear w e f) (nat_eq (min (bits.top w v) (bits.top w u)) 0)
  clear e f v u l r = clear_tests p s given.table w c (alike p s kind given.table wide) e f v u l r some (width_most kind)

  pub wide_sum_tests : Tests p s (wide_sum_fits (width kind) a b) (in_range_of (width kind) true (x +ℤ y))
  wide_sum_tests =
      let e = unsigned_of w a in
      let f = unsigned_of w b in
      let g = Binary Add e f in
      let r = sum_modulo p s given.table w c (alike p s kind given.table wide) e f x y left right in
      let v = x +ℤ y in
      tests_same p s given.table (wide_sum_fits w a b) (nat_eq (min (bits.top w (apart x v)) (bits.top w (apart y v))) 0) (in_range_of w true v)
      (apart_test x v y v ∙ bits.sum_test w some x y h k)
      (clear (differing e g) (differing f g) (apart x v) (apart y v) (differ e g x v left r) (differ f g y v right r))

  pub wide_difference_tests : Tests p s (wide_difference_fits (width kind) a b) (in_range_of (width kind) true (x -ℤ y))
  wide_difference_tests =
      let e = unsigned_of w a in
      let f = unsigned_of w b in
      let g = Binary Sub e f in
      let r = difference_modulo p s given.table w c (alike p s kind given.table wide) e f x y left right in
      let v = x -ℤ y in
      tests_same p s given.table (wide_difference_fits w a b) (nat_eq (min (bits.top w (apart x y)) (bits.top w (apart x v))) 0) (in_range_of w true v)
      (apart_test x y x v ∙ bits.difference_test w some x y h k)
      (clear (differing e f) (differing e g) (apart x y) (apart x v) (differ e f x y left right) (differ e g x v left r))
