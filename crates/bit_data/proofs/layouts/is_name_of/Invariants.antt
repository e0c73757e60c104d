-- Only a later field can have the name.
use Rattle.std.proofs.Common.{◌≡◌, drop}
use Rattle.bit_data.specs.Layouts.{is_name_of}
use Rattle.bit_data.proofs.layouts.is_name_of.Given as goal

abbrev pub invariant-loop-field : goal.invariant-loop-field
invariant-loop-field l = is_name_of (drop l.field-index l.fields) l.name ≡ is_name_of l.fields l.name
