use Rattle.std.proofs.Common.{◌+◌, ◌*◌, length}
use Rattle.area_types.proofs.part.+parts.Given as goal

abbrev pub decreases-part : goal.decreases-part
decreases-part l = 4 * length l.path.now

abbrev pub decreases-part_within : goal.decreases-part_within
decreases-part_within l = 4 * length l.rest.now + 3

abbrev pub decreases-part_of_struct : goal.decreases-part_of_struct
decreases-part_of_struct l = 4 * length l.rest.now + 2

abbrev pub decreases-part_of_fields : goal.decreases-part_of_fields
decreases-part_of_fields l = 4 * length l.rest.now + 1
