-- The rest is placed behind the fields so far.
use Rattle.std.proofs.Common.{◌≡◌, ◌++◌, take, drop}
use Rattle.bit_data.specs.Layouts.{bits_of, placed_from}
use Rattle.bit_data.proofs.layouts.placed.Given as goal

abbrev pub invariant-loop-field : goal.invariant-loop-field
invariant-loop-field l = (l.placed ++ placed_from l.low (drop l.field-index l.fields) ≡ placed_from 0 l.fields) × (l.low ≡ bits_of (take l.field-index l.fields))
