-- The sum of the widths so far, where 64 bits hold it.
use Rattle.std.proofs.Common.{◌≡◌, min, take}
use Rattle.std.specs.List.{sum_by}
use Rattle.ivory_tree.specs.declared.BitField.{BitField}
use Rattle.item_rules.proofs.rules.bits_of.Given as goal

abbrev pub invariant-loop-field : goal.invariant-loop-field
invariant-loop-field l = l.bits ≡ min (sum_by (λ (f : BitField). f.width) (take l.field-index l.fields)) 18_446_744_073_709_551_615
