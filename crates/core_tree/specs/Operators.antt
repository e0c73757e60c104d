-- What operators give, and their checks in order. For which types each is stands in the table of source_types.
use Rattle.std.specs.Prelude.{ℕ, nat_eq, Bool, true, false, ◌||◌, if◌then◌else◌, List, [], ◌∷◌}
use Rattle.iv_words.specs.declared.kind.IntKind.{IntKind}
use Rattle.iv_words.specs.Kinds.{width}
use Rattle.ivory_tree.specs.declared.expr.PrefixOp.{PrefixOp}
use Rattle.ivory_tree.specs.declared.expr.PrefixOp.TheVariants.{Neg, Not, Flip, Deref}
use Rattle.ivory_tree.specs.declared.expr.BinOp.{BinOp}
use Rattle.ivory_tree.specs.declared.expr.BinOp.TheVariants.{OrElse, AndAlso, Or, Xor, And, Eq, Ne, Lt, Le, Gt, Ge, Shl, Shr, Add, Sub, WrapAdd, WrapSub, Mul, Div, Rem, WrapMul}
use Rattle.area_types.specs.Syntax.{ValueType, Truth, Int}
use Rattle.bit_data.specs.declared.layout.FieldBits.{FieldBits}
use Rattle.core_tree.specs.declared.check.SiteKind.{SiteKind}
use Rattle.core_tree.specs.declared.check.SiteKind.TheVariants.{Overflow, DivZero, Shift, Index, Cast}
use Rattle.core_tree.specs.Types.{has_values_of, has_indices_of}
use Rattle.source_types.specs.Operators.{is_comparison}
use Rattle.source_types.specs.Values.{is_signed_integer, least_unsigned}

-- ---- prefixes other than `*`

abbrev pub prefix_sites : PrefixOp → List SiteKind
prefix_sites Neg = Overflow ∷ []
prefix_sites Not = []
prefix_sites Flip = []
prefix_sites Deref = []

-- ---- operators between two operands of one type

-- a comparison gives a truth; so do `||` and `&&`, whose operands are truths
abbrev pub result_type : BinOp → ValueType → ValueType
result_type op ty = if is_comparison op then Truth else ty

-- the quotient of the least number by -1 does not fit
abbrev pub divisions : (signed : Bool) → List SiteKind
divisions true = DivZero ∷ Overflow ∷ []
divisions false = DivZero ∷ []

abbrev pub operator_sites : BinOp → ValueType → List SiteKind
operator_sites Add ty = Overflow ∷ []
operator_sites Sub ty = Overflow ∷ []
operator_sites Mul ty = Overflow ∷ []
operator_sites Div ty = divisions (is_signed_integer ty)
operator_sites Rem ty = divisions (is_signed_integer ty)
operator_sites Shl ty = Shift ∷ []
operator_sites Shr ty = Shift ∷ []
operator_sites OrElse ty = []
operator_sites AndAlso ty = []
operator_sites Or ty = []
operator_sites Xor ty = []
operator_sites And ty = []
operator_sites Eq ty = []
operator_sites Ne ty = []
operator_sites Lt ty = []
operator_sites Le ty = []
operator_sites Gt ty = []
operator_sites Ge ty = []
operator_sites WrapAdd ty = []
operator_sites WrapSub ty = []
operator_sites WrapMul ty = []

-- ---- conversions and bit data

abbrev pub unless : Bool → SiteKind → List SiteKind
unless true kind = []
unless false kind = kind ∷ []

-- of `T(e)`
abbrev pub cast_sites : IntKind → ValueType → List SiteKind
cast_sites kind from = unless (has_values_of kind from) Cast

-- of `toix(N, e)`
abbrev pub indexing_sites : ℕ → IntKind → List SiteKind
indexing_sites n from = unless (has_indices_of n from) Index

abbrev pub field_type : FieldBits → ValueType
field_type f = if f.truth then Truth else Int (least_unsigned f.width)

-- of `set(e, f, value)`
abbrev pub set_sites : FieldBits → List SiteKind
set_sites f = unless (f.truth || nat_eq f.width (width (least_unsigned f.width))) Cast
