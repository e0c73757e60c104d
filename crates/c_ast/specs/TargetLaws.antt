-- What holds of every target, and what follows for promotions and the usual conversions: they lose no value that they keep.
use Rattle.std.specs.Prelude.{◌≡◌, ◌≤◌, ℤ, true, Some, None, IsTrue}
use Rattle.iv_words.specs.Kinds.{width, is_signed}
use Rattle.iv_words.specs.declared.IntKind.{IntKind}
use Rattle.c_ast.specs.declared.types.Target.{Target}
use Rattle.c_ast.specs.declared.types.Arith.{Arith}
use Rattle.c_ast.specs.declared.types.CKind.{CKind}
use Rattle.c_ast.specs.declared.types.CKind.TheVariants.{Arith as Computed}
use Rattle.c_ast.specs.Targets.{TargetTable, table_of, arith_bits, arith_signed, promoted, common_in}
use Rattle.c_ast.specs.Conversions.{can_hold}

-- The least widths (5.2.4.2.1); a type of less rank is no wider (6.2.5); an exact-width type is one of its width and sign (7.18.1.1),
-- and one below int is no wider than int. There is an alignment (6.2.6.1).
pub record SoundTable (t : TargetTable) : Type 0 where
  pub int_least : 16 ≤ t.int_bits
  pub long_least : 32 ≤ t.long_bits
  pub long_long_least : 64 ≤ t.long_long_bits
  pub int_in_long : t.int_bits ≤ t.long_bits
  pub long_in_long_long : t.long_bits ≤ t.long_long_bits
  pub below_int : (kind : IntKind) → t.exact kind ≡ None → width kind ≤ t.int_bits
  pub exact_bits : (kind : IntKind) (a : Arith) → t.exact kind ≡ Some a → arith_bits t a ≡ width kind
  pub exact_sign : (kind : IntKind) (a : Arith) → t.exact kind ≡ Some a → arith_signed a ≡ is_signed kind
  pub some_alignment : 1 ≤ t.greatest_alignment

abbrev pub TargetsAreSound : Type 0
TargetsAreSound = (t : Target) → SoundTable (table_of t)

-- the promoted type has the value (6.3.1.1)
abbrev pub PromotionKeepsValues : Type 0
PromotionKeepsValues = (t : TargetTable) → SoundTable t → (k : CKind) (v : ℤ) → IsTrue (can_hold t k v) → IsTrue (can_hold t (Computed (promoted t k)) v)

-- a signed common type has all values of both types (6.3.1.8)
abbrev pub SignedCommonKeepsValues : Type 0
SignedCommonKeepsValues =
    (t : TargetTable) → SoundTable t → (a b : Arith) (v : ℤ) → arith_signed (common_in t a b) ≡ true
    → (IsTrue (can_hold t (Computed a) v) → IsTrue (can_hold t (Computed (common_in t a b)) v))
    × (IsTrue (can_hold t (Computed b) v) → IsTrue (can_hold t (Computed (common_in t a b)) v))
