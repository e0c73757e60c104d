-- Small calls.
use Rattle.std.proofs.Common.{◌≡◌, refl, sym, ◌∙◌}
use Rattle.area_types.specs.declared.region.Region.TheVariants.{Global, Own}
use Rattle.region_check.specs.Examples.{TwoRegionsClash, ConstIsNotMutable, MutableIsConst}

pub two_regions_clash : TwoRegionsClash
two_regions_clash a regions h = let same : Global ≡ Own = h.0.region ∙ sym h.1.0.region in absurd cc

pub const_is_not_mutable : ConstIsNotMutable
const_is_not_mutable a r regions h = let no = h.0.access in absurd cc

pub mutable_is_const : MutableIsConst
mutable_is_const a r = (record { region = refl; access = refl; area = refl }, tt)
