-- The first fault is that of the rest, and each field so far has a bit.
use Rattle.std.proofs.Common.{◌≡◌, ◌≤◌, [], take, drop}
use Rattle.bit_data.specs.Layouts.{bits_of, first_fault}
use Rattle.bit_data.proofs.layouts.first_fault.Given as goal

abbrev pub invariant-loop-at : goal.invariant-loop-at
invariant-loop-at l = (first_fault (take l.at l.fields) (drop l.at l.fields) ≡ first_fault [] l.fields) × (l.at ≤ bits_of (take l.at l.fields))
