-- Products in the kind of twice as many bits.
use Rattle.std.proofs.Common.{◌≡◌, ◌*◌, ◌≤◌, ℤ, ◌*ℤ◌, Bool, true, IsTrue, arith, refl, sym, subst, ap, ◌∙◌}
use Rattle.std.specs.Prelude.{nat_lt}
use Rattle.iv_words.specs.Kinds.{in_range_of, in_range, width, is_signed, kind_at}
use Rattle.iv_words.specs.declared.IntKind.{IntKind}
use Rattle.c_ast.specs.declared.Arith.{Arith}
use Rattle.c_ast.specs.declared.CKind.TheVariants.{Arith as Computed}
use Rattle.c_ast.specs.declared.CBinary.TheVariants.{Mul}
use Rattle.c_ast.specs.Syntax.{Expr, Binary}
use Rattle.c_ast.specs.Targets.{TargetTable, table_of, arith_bits, arith_signed, promoted}
use Rattle.c_meaning.specs.Values.{Num}
use Rattle.c_meaning.specs.Operators.{product, computed}
use Rattle.c_meaning.specs.State.{Program, CState}
use Rattle.c_ast.proofs.Conversions.{held_stays}
use Rattle.iv_words.proofs.Ranges.{wider}
use Rattle.c_ast.proofs.Promotions.{promotion_keeps}
use Rattle.overflow_checks.specs.Parts.{cast_to}
use Rattle.iv_words.proofs.Widths.{IsDouble}
use Rattle.overflow_checks.proofs.Given.{Gives, of_kind, binary_gives, cast_gives}
use Rattle.overflow_checks.proofs.Rows.{AreGiven}
use Rattle.overflow_checks.proofs.Alike.{fitted_held, usual_alike}

module _ (p : Program) (s : CState) (kind double : IntKind) (d : IsDouble kind double) (a b : Expr) (x y : ℤ) (given : AreGiven p s kind a b x y) where
  abbrev t : TargetTable
  t = table_of p.target

  abbrev pub product_type : Arith
  product_type = promoted t (of_kind double)

  widened : (v : ℤ) → IsTrue (in_range kind v) → IsTrue (in_range double v)
  widened v h =
      subst (λ n. IsTrue (in_range_of n (is_signed double) v)) (sym d.bits)
      (subst (λ b. IsTrue (in_range_of (2 * width kind) b v)) (sym d.sign) (wider (width kind) (2 * width kind) (is_signed kind) v (omega arith) h))

  cast_operand : (e : Expr) (v : ℤ) → Gives p s e (Num (of_kind kind) v) → IsTrue (in_range kind v) → Gives p s (cast_to double e) (Num (of_kind double) v)
  cast_operand e v g h = cast_gives p s double e (of_kind kind) v v g (held_stays (width double) (is_signed double) v (widened v h))

  -- the product is exact in the type to which that kind is promoted
  pub product_gives : IsTrue (in_range double (x *ℤ y)) → Gives p s (Binary Mul (cast_to double a) (cast_to double b)) (Num (Computed product_type) (x *ℤ y))
  product_gives h =
      let k = of_kind double in
      let c = promoted t k in
      binary_gives p s Mul (cast_to double a) (cast_to double b) (Num k x) (Num k y)
      (cast_operand a x given.left.gives given.left.is_in) (cast_operand b y given.right.gives given.right.is_in)
      ∙ usual_alike t given.table k x y (widened x given.left.is_in) (widened y given.right.is_in) product
      ∙ ap (computed c) (fitted_held (arith_bits t c) (arith_signed c) (x *ℤ y) (promotion_keeps t given.table.sound k (x *ℤ y) h))
