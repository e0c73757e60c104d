-- What the code's types say.
use Rattle.std.specs.Prelude.{Option, option_map}
use Rattle.area_types.specs.Syntax as syntax
use Rattle.area_types.specs.Syntax.{ValueType, Area}
use Rattle.area_types.specs.declared.area.Area.{Area as AreaTree}
use Rattle.std.specs.Borrow.{Bor}
use Rattle.std.specs.Option.{option_copied}
use Rattle.area_types.specs.View.{area_of}
use Rattle.region_check.specs.Calls as calls
use Rattle.rule_checker.specs.declared.types.TypeRef.{TypeRef}
use Rattle.rule_checker.specs.declared.types.TypeRef.TheVariants as seen
use Rattle.rule_checker.specs.declared.types.Reference.{Reference}

abbrev pub type_at : TypeRef → ValueType
type_at seen.Bool = syntax.Truth
type_at (seen.Int kind) = syntax.Int kind
type_at (seen.Ix n) = syntax.Ix n
type_at (seen.Bits k) = syntax.Bits k
type_at (seen.Ref r) = syntax.Ref r.constant r.region (area_of r.area.now)

abbrev pub reference_at : Reference → calls.Reference
reference_at r = record { constant = r.constant; region = r.region; area = area_of r.area.now }

abbrev pub type_seen : Option TypeRef → Option ValueType
type_seen t = option_map type_at t

abbrev pub reference_seen : Option Reference → Option calls.Reference
reference_seen r = option_map reference_at r

abbrev pub area_seen : Option (Bor AreaTree) → Option Area
area_seen area = option_map area_of (option_copied area)
