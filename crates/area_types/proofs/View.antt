-- What each form of a tree says in the abstract syntax: one equation for each variant.
use Rattle.std.proofs.Common.{◌≡◌, ℕ, ap, sym, ◌∙◌}
use Rattle.iv_words.specs.declared.IntKind.{IntKind}
use Rattle.area_types.specs.Syntax as syntax
use Rattle.area_types.specs.Syntax.{Name, ValueType, Area}
use Rattle.area_types.specs.Shapes as shape
use Rattle.area_types.specs.Shapes.{Shape}
use Rattle.area_types.specs.View.{type_of, area_of, shape_of, type_step, ref_step, area_step, shape_step}
use Rattle.area_types.specs.declared.area.Area.{Area as AreaTree}
use Rattle.area_types.specs.declared.area.Area.TheOpen.{Area-F, ValueType-F}
use Rattle.area_types.specs.declared.area.Area.TheFolds.{fold-roll-Area, fold-roll-ValueType}
use Rattle.area_types.specs.declared.area.Area.TheVariants as area
use Rattle.area_types.specs.declared.area.ValueType.{ValueType as TypeTree}
use Rattle.area_types.specs.declared.area.ValueType.TheVariants as held
use Rattle.area_types.specs.declared.shape.AreaShape.{AreaShape}
use Rattle.area_types.specs.declared.shape.AreaShape.TheOpen.{AreaShape-F}
use Rattle.area_types.specs.declared.shape.AreaShape.TheFolds.{fold-roll-AreaShape}
use Rattle.area_types.specs.declared.shape.AreaShape.TheVariants as form

-- areas

pub stored_is : (t : TypeTree) → area_of (area.Stored t) ≡ syntax.Stored (type_of t)
stored_is t = ap area_of (sym (area.rolls-Stored t)) ∙ fold-roll-Area Area ValueType ValueType area_step type_step ref_step (Area-F.Stored t)

pub array_is : (n : ℕ) (a : AreaTree) → area_of (area.Array n a) ≡ syntax.Array n (area_of a)
array_is n a = ap area_of (sym (area.rolls-Array n a)) ∙ fold-roll-Area Area ValueType ValueType area_step type_step ref_step (Area-F.Array n a)

pub struct_is : (k : ℕ) → area_of (area.Struct k) ≡ syntax.Struct k
struct_is k = ap area_of (sym (area.rolls-Struct k)) ∙ fold-roll-Area Area ValueType ValueType area_step type_step ref_step (Area-F.Struct k)

-- types

pub truth_is : type_of held.Bool ≡ syntax.Truth
truth_is = ap type_of (sym held.rolls-Bool) ∙ fold-roll-ValueType Area ValueType ValueType area_step type_step ref_step ValueType-F.Bool

pub int_is : (kind : IntKind) → type_of (held.Int kind) ≡ syntax.Int kind
int_is kind = ap type_of (sym (held.rolls-Int kind)) ∙ fold-roll-ValueType Area ValueType ValueType area_step type_step ref_step (ValueType-F.Int kind)

pub ix_is : (n : ℕ) → type_of (held.Ix n) ≡ syntax.Ix n
ix_is n = ap type_of (sym (held.rolls-Ix n)) ∙ fold-roll-ValueType Area ValueType ValueType area_step type_step ref_step (ValueType-F.Ix n)

pub bits_is : (k : ℕ) → type_of (held.Bits k) ≡ syntax.Bits k
bits_is k = ap type_of (sym (held.rolls-Bits k)) ∙ fold-roll-ValueType Area ValueType ValueType area_step type_step ref_step (ValueType-F.Bits k)

-- shapes

pub stored_shape_is : (t : TypeTree) → shape_of (form.Stored t) ≡ shape.Stored (type_of t)
stored_shape_is t = ap shape_of (sym (form.rolls-Stored t)) ∙ fold-roll-AreaShape Shape shape_step (AreaShape-F.Stored t)

pub array_shape_is : (n : ℕ) (s : AreaShape) → shape_of (form.Array n s) ≡ shape.Array n (shape_of s)
array_shape_is n s = ap shape_of (sym (form.rolls-Array n s)) ∙ fold-roll-AreaShape Shape shape_step (AreaShape-F.Array n s)

pub struct_shape_is : (name : Name) → shape_of (form.Struct name) ≡ shape.Struct name
struct_shape_is name = ap shape_of (sym (form.rolls-Struct name)) ∙ fold-roll-AreaShape Shape shape_step (AreaShape-F.Struct name)
