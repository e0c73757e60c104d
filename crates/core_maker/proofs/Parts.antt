-- Numbers are given to the checks of a prefix as to those of the whole, and types stay.
use Rattle.std.proofs.Common.{◌≡◌, ℕ, Bool, true, false, refl}
use Rattle.area_types.specs.Syntax.{ValueType}
use Rattle.core_tree.specs.Syntax as core
use Rattle.core_tree.specs.Syntax.{ExprCore, type_of}
use Rattle.typing_rules.specs.Sites.{unchecked}
use Rattle.typing_rules.specs.Wholes.{part}
use Rattle.check_numbers.specs.Numbered.{expr_from, expr_after}

pub type_from : (n : ℕ) (c : ExprCore) → type_of (expr_from n c) ≡ type_of c
type_from n (core.Number l value) = refl
type_from n (core.Outcome l) = refl
type_from n (core.Local l number) = refl
type_from n (core.AreaName l number) = refl
type_from n (core.Cast l e) = refl
type_from n (core.ToIndex l e) = refl
type_from n (core.WrapIndex l e) = refl
type_from n (core.MakeBits l e) = refl
type_from n (core.Raw l e) = refl
type_from n (core.SetField l e field value) = refl
type_from n (core.Prefix l op e) = refl
type_from n (core.Binary l op left right) = refl
type_from n (core.Field l e field) = refl
type_from n (core.Element l e index) = refl
type_from n (core.Cond l test first second) = refl
type_from n (core.Whole l e) = refl

pub part_from : (n : ℕ) (prefix : Bool) (c : ExprCore) → expr_from n (part prefix c) ≡ part prefix (expr_from n c)
part_from n false c = refl
part_from n true (core.Number l value) = refl
part_from n true (core.Outcome l) = refl
part_from n true (core.Local l number) = refl
part_from n true (core.AreaName l number) = refl
part_from n true (core.Cast l e) = refl
part_from n true (core.ToIndex l e) = refl
part_from n true (core.WrapIndex l e) = refl
part_from n true (core.MakeBits l e) = refl
part_from n true (core.Raw l e) = refl
part_from n true (core.SetField l e field value) = refl
part_from n true (core.Prefix l op e) = refl
part_from n true (core.Binary l op left right) = refl
part_from n true (core.Field l e field) = refl
part_from n true (core.Element l e index) = refl
part_from n true (core.Cond l test first second) = refl
part_from n true (core.Whole l e) = refl

-- a whole has no check of its own
pub whole_after : (n : ℕ) (prefix : Bool) (t : ValueType) (c : ExprCore) → expr_after n (part prefix (core.Whole (unchecked t) c)) ≡ expr_after n (core.Whole (unchecked t) c)
whole_after n true t c = refl
whole_after n false t c = refl
