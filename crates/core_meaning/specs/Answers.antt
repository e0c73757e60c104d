-- What the forms on numbers answer, by the types of their operands; no answer where a valid module has no such form.
use Rattle.std.specs.Prelude.{ℕ, ℤ, pos, Bool, true, false, ◌||◌, slice_get, if◌then◌else◌, Option, Some, None, Result, Ok, Err}
use Rattle.std.specs.Option.{option_map}
use Rattle.iv_words.specs.Kinds.{in_range}
use Rattle.iv_words.specs.declared.IntKind.{IntKind}
use Rattle.iv_words.specs.declared.IntKind.TheVariants.{U16}
use Rattle.int_ops.specs.Operators.{exact}
use Rattle.int_ops.specs.declared.Op.{Op}
use Rattle.int_ops.specs.declared.Op.TheVariants as op
use Rattle.int_ops.specs.declared.Stop.{Stop}
use Rattle.int_ops.specs.declared.Stop.TheVariants as stop
use Rattle.ivory_tree.specs.declared.BinOp.{BinOp}
use Rattle.ivory_tree.specs.declared.BinOp.TheVariants.{OrElse, AndAlso, Or, Xor, And, Eq, Ne, Lt, Le, Gt, Ge, Shl, Shr, Add, Sub, WrapAdd, WrapSub, Mul, Div, Rem, WrapMul}
use Rattle.index_types.specs.Indices.{is_index, wrapped}
use Rattle.bit_data.specs.Fields.{changed}
use Rattle.bit_data.specs.declared.BitLayout.{BitLayout}
use Rattle.bit_data.specs.declared.TooWide.{TooWide}
use Rattle.area_types.specs.Syntax.{ValueType, Truth, Int, Ix, Bits}
use Rattle.core_tree.specs.declared.SiteKind.{SiteKind}
use Rattle.core_tree.specs.declared.SiteKind.TheVariants.{Overflow, DivZero, Shift, Index, Cast}
use Rattle.core_tree.specs.Syntax.{ModuleCore}
use Rattle.core_meaning.specs.Checks.{Answer}

-- ---- operators

-- `&&` and `||` are no operators on numbers
abbrev pub operator_of : BinOp → Op
operator_of OrElse = op.Or
operator_of AndAlso = op.And
operator_of Or = op.Or
operator_of Xor = op.Xor
operator_of And = op.And
operator_of Eq = op.Eq
operator_of Ne = op.Ne
operator_of Lt = op.Lt
operator_of Le = op.Le
operator_of Gt = op.Gt
operator_of Ge = op.Ge
operator_of Shl = op.Shl
operator_of Shr = op.Shr
operator_of Add = op.Add
operator_of Sub = op.Sub
operator_of WrapAdd = op.WrapAdd
operator_of WrapSub = op.WrapSub
operator_of Mul = op.Mul
operator_of Div = op.Div
operator_of Rem = op.Rem
operator_of WrapMul = op.WrapMul

abbrev pub site_of : Stop → SiteKind
site_of stop.Overflow = Overflow
site_of stop.DivZero = DivZero
site_of stop.Shift = Shift

abbrev pub stopping : Result ℤ Stop → Answer
stopping (Ok v) = Ok v
stopping (Err at) = Err (site_of at)

abbrev pub in_kind : Op → IntKind → ℤ → ℤ → Answer
in_kind o kind a b = stopping (exact o kind a b)

abbrev pub equates : Op → Bool
equates op.Eq = true
equates op.Ne = true
equates _ = false

abbrev pub orders : Op → Bool
orders op.Lt = true
orders op.Le = true
orders op.Gt = true
orders op.Ge = true
orders _ = false

-- What an operator answers on operands of a type. Indices and truths are compared alone, and in that no kind differs from another.
abbrev pub operation : Op → ValueType → Option (ℤ → ℤ → Answer)
operation o (Int kind) = Some (in_kind o kind)
operation o (Ix n) = if equates o || orders o then Some (in_kind o U16) else None
operation o Truth = if equates o then Some (in_kind o U16) else None
operation o _ = None

-- what a prefix operator answers: it leaves a second operand aside
abbrev pub prefix_operation : Op → ValueType → Option (ℤ → Answer)
prefix_operation o (Int kind) = Some (λ a. in_kind o kind a a)
prefix_operation o _ = None

-- ---- conversions

-- `T(e)`
abbrev pub cast_to : ValueType → Option (ℤ → Answer)
cast_to (Int kind) = Some (λ v. if in_range kind v then Ok v else Err Cast)
cast_to _ = None

-- `toix(N, e)`
abbrev pub index_to : ValueType → Option (ℤ → Answer)
index_to (Ix n) = Some (λ v. if is_index n v then Ok v else Err Index)
index_to _ = None

-- `wrapix(N, e)`
abbrev pub wrapped_to : ValueType → Option (ℤ → Answer)
wrapped_to (Ix n) = Some (λ v. Ok (pos (wrapped n v)))
wrapped_to _ = None

-- ---- bit data

-- the layout of a type of bit data
abbrev pub layout_of : ModuleCore → ValueType → Option BitLayout
layout_of core (Bits k) = slice_get core.layouts k
layout_of core _ = None

abbrev pub changing : Result ℤ TooWide → Answer
changing (Ok v) = Ok v
changing (Err too_wide) = Err Cast

-- `set(b, f, x)`
abbrev pub field_set : ModuleCore → ValueType → ℕ → Option ((word x : ℤ) → Answer)
field_set core ty field = option_map (λ layout word x. changing (changed layout field word x)) (layout_of core ty)
