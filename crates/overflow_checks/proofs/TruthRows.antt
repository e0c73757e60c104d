-- The rows that all kinds share: comparisons, and the guard of a divisor.
use Rattle.std.proofs.Common.{◌≡◌, ℤ, pos, Bool, true, false, not, Ok, arith, refl, ◌∙◌}
use Rattle.std.specs.Prelude.{int_lt, int_le}
use Rattle.std.specs.Ordering.{int_eq}
use Rattle.iv_words.specs.Kinds.{is_signed}
use Rattle.iv_words.specs.declared.IntKind.{IntKind}
use Rattle.c_ast.specs.declared.CKind.TheVariants.{Arith as Computed}
use Rattle.c_ast.specs.declared.Suffix.TheVariants.{Plain}
use Rattle.c_ast.specs.declared.CBinary.{CBinary}
use Rattle.c_ast.specs.declared.CBinary.TheVariants.{Eq, Ne, Lt, Le, Gt, Ge}
use Rattle.c_ast.specs.Syntax.{Expr, Binary}
use Rattle.c_ast.specs.Targets.{table_of}
use Rattle.c_meaning.specs.Values.{CValue, Num}
use Rattle.c_meaning.specs.Operators.{compared, binary}
use Rattle.c_meaning.specs.State.{Program, CState}
use Rattle.overflow_checks.specs.Parts.{plain}
use Rattle.overflow_checks.specs.UnsignedForms.{divisor_is_some}
use Rattle.overflow_checks.proofs.Tables.{CTable, promoted_signed}
use Rattle.overflow_checks.proofs.Given.{of_kind, binary_gives, constant_gives}
use Rattle.overflow_checks.specs.Contract.{IsGiven}
use Rattle.overflow_checks.proofs.Rows.{AreGiven, Tests}
use Rattle.overflow_checks.proofs.Alike.{compared_alike, AreSigned, compared_signed}
use Rattle.overflow_checks.proofs.Constants.{plain_typed}
use Rattle.overflow_checks.proofs.UnsignedRows as unsigned

module _ (p : Program) (s : CState) (kind : IntKind) (a b : Expr) (x y : ℤ) (given : AreGiven p s kind a b x y) where
  compare : (op : CBinary) (holds : ℤ → ℤ → Bool) → ((v u : CValue) → binary (table_of p.target) op v (Ok u) ≡ compared (table_of p.target) holds v u) → Tests p s (Binary op a b) (holds x y)
  compare op holds is =
      let k = of_kind kind in
      binary_gives p s op a b (Num k x) (Num k y) given.left.gives given.right.gives ∙ is (Num k x) (Num k y)
      ∙ compared_alike (table_of p.target) given.table k x y given.left.is_in given.right.is_in holds

  pub eq_tests : Tests p s (Binary Eq a b) (int_eq x y)
  eq_tests = compare Eq int_eq (λ v u. refl)

  pub ne_tests : Tests p s (Binary Ne a b) (not (int_eq x y))
  ne_tests = compare Ne (λ v u. not (int_eq v u)) (λ v u. refl)

  pub lt_tests : Tests p s (Binary Lt a b) (int_lt x y)
  lt_tests = compare Lt int_lt (λ v u. refl)

  pub le_tests : Tests p s (Binary Le a b) (int_le x y)
  le_tests = compare Le int_le (λ v u. refl)

  pub gt_tests : Tests p s (Binary Gt a b) (int_lt y x)
  gt_tests = compare Gt (λ v u. int_lt u v) (λ v u. refl)

  pub ge_tests : Tests p s (Binary Ge a b) (int_le y x)
  ge_tests = compare Ge (λ v u. int_le u v) (λ v u. refl)

module _ (p : Program) (s : CState) (table : CTable (table_of p.target)) (kind : IntKind) (b : Expr) (y : ℤ) (given : IsGiven p s kind b y) where
  signed_divisor : is_signed kind ≡ true → Tests p s (divisor_is_some b) (not (int_eq y (pos 0)))
  signed_divisor e =
      let t = table_of p.target in
      let c = plain_typed t table 0 (omega arith) in
      let n : AreSigned t table (of_kind kind) (Computed c.type) y (pos 0) = record { left_signed = promoted_signed t table kind e; right_signed = c.sign; left_has = given.is_in; right_has = c.holds } in
      binary_gives p s Ne b (plain 0) (Num (of_kind kind) y) (Num (Computed c.type) (pos 0)) given.gives (constant_gives p s 0 Plain c.type c.found_it)
      ∙ compared_signed t table (of_kind kind) (Computed c.type) y (pos 0) n (λ v u. not (int_eq v u))

  by_sign : (signed : Bool) → is_signed kind ≡ signed → Tests p s (divisor_is_some b) (not (int_eq y (pos 0)))
  by_sign true e = signed_divisor e
  by_sign false e = unsigned.divisor_tested p s table kind e b y given

  pub divisor_tested : Tests p s (divisor_is_some b) (not (int_eq y (pos 0)))
  divisor_tested = by_sign (is_signed kind) refl
