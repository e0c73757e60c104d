-- What areas say tells them apart.
use Rattle.std.proofs.Common.{◌≡◌, sym, ap, ◌∙◌, subst}
use Rattle.area_types.specs.Syntax as syntax
use Rattle.area_types.specs.Syntax.{ValueType, Area}
use Rattle.area_types.specs.View.{type_of, area_of, area_step, type_step, ref_step}
use Rattle.area_types.specs.declared.area.Area.{Area as AreaTree, map-Area}
use Rattle.area_types.specs.declared.area.Area.TheFolds.{ind-Area, fold-roll-ValueType, fold_out-RefType}
use Rattle.area_types.specs.declared.area.Area.TheOpen.{Area-F, ValueType-F}
use Rattle.area_types.specs.declared.area.Area.TheViews.{roll-Area, roll-ValueType, roll-RefType}
use Rattle.area_types.proofs.View.{stored_is, array_is, struct_is, truth_is, int_is, ix_is, bits_is}
use Rattle.area_types.specs.declared.area.Area.TheVariants as area
use Rattle.area_types.specs.declared.area.ValueType.{ValueType as TypeTree, map-ValueType}
use Rattle.area_types.specs.declared.area.ValueType.TheVariants as held
use Rattle.area_types.specs.declared.area.RefType.{RefType}

-- the tree that says it
abbrev mutual
  type_back : ValueType → TypeTree
  type_back syntax.Truth = held.Bool
  type_back (syntax.Int kind) = held.Int kind
  type_back (syntax.Ix n) = held.Ix n
  type_back (syntax.Bits k) = held.Bits k
  type_back (syntax.Ref constant region target) = held.Ref (record { constant = constant; region = region; area = area_back target })

  area_back : Area → AreaTree
  area_back (syntax.Stored v) = area.Stored (type_back v)
  area_back (syntax.Array n a) = area.Array n (area_back a)
  area_back (syntax.Struct k) = area.Struct k

abbrev AreaComesBack : AreaTree → Type 0
AreaComesBack a = area_back (area_of a) ≡ a

abbrev TypeComesBack : TypeTree → Type 0
TypeComesBack t = type_back (type_of t) ≡ t

abbrev RefComesBack : RefType → Type 0
RefComesBack r = area_back (area_of r.area) ≡ r.area

pub ref_is : (r : RefType) → type_of (held.Ref r) ≡ syntax.Ref r.constant r.region (area_of r.area)
ref_is r =
    ap type_of (sym (held.rolls-Ref r)) ∙ fold-roll-ValueType Area ValueType ValueType area_step type_step ref_step (ValueType-F.Ref r)
    ∙ fold_out-RefType Area ValueType ValueType area_step type_step ref_step r

area_layer : (y : Area-F ((a : AreaTree) × AreaComesBack a) ((t : TypeTree) × TypeComesBack t) ((r : RefType) × RefComesBack r)) → AreaComesBack (roll-Area (map-Area ((a : AreaTree) × AreaComesBack a) ((t : TypeTree) × TypeComesBack t) ((r : RefType) × RefComesBack r) AreaTree TypeTree RefType (λ e. e.0) (λ e. e.0) (λ e. e.0) y))
area_layer (Area-F.Stored v) = subst AreaComesBack (sym (area.rolls-Stored v.0)) (ap area_back (stored_is v.0) ∙ ap area.Stored v.1)
area_layer (Area-F.Array n a) = subst AreaComesBack (sym (area.rolls-Array n a.0)) (ap area_back (array_is n a.0) ∙ ap (area.Array n) a.1)
area_layer (Area-F.Struct k) = subst AreaComesBack (sym (area.rolls-Struct k)) (ap area_back (struct_is k))

type_layer : (y : ValueType-F ((a : AreaTree) × AreaComesBack a) ((t : TypeTree) × TypeComesBack t) ((r : RefType) × RefComesBack r)) → TypeComesBack (roll-ValueType (map-ValueType ((a : AreaTree) × AreaComesBack a) ((t : TypeTree) × TypeComesBack t) ((r : RefType) × RefComesBack r) AreaTree TypeTree RefType (λ e. e.0) (λ e. e.0) (λ e. e.0) y))
type_layer ValueType-F.Bool = subst TypeComesBack (sym held.rolls-Bool) (ap type_back truth_is)
type_layer (ValueType-F.Int kind) = subst TypeComesBack (sym (held.rolls-Int kind)) (ap type_back (int_is kind))
type_layer (ValueType-F.Ix n) = subst TypeComesBack (sym (held.rolls-Ix n)) (ap type_back (ix_is n))
type_layer (ValueType-F.Bits k) = subst TypeComesBack (sym (held.rolls-Bits k)) (ap type_back (bits_is k))
type_layer (ValueType-F.Ref r) = subst TypeComesBack (sym (held.rolls-Ref r.0)) (ap type_back (ref_is r.0) ∙ ap (λ (a : AreaTree). held.Ref (record { constant = r.0.constant; region = r.0.region; area = a })) r.1)

area_comes_back : (a : AreaTree) → AreaComesBack a
area_comes_back = ind-Area AreaComesBack TypeComesBack RefComesBack
    (λ x y is. subst (λ z. AreaComesBack (roll-Area z)) is (area_layer y))
    (λ x y is. subst (λ z. TypeComesBack (roll-ValueType z)) is (type_layer y))
    (λ x y is. subst (λ z. RefComesBack (roll-RefType z)) is y.area.1)

pub same_areas : (a b : AreaTree) → area_of a ≡ area_of b → a ≡ b
same_areas a b e = sym (area_comes_back a) ∙ ap area_back e ∙ area_comes_back b
