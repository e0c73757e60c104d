use Rattle.std.proofs.Common.{◌≡◌, length}
use Rattle.c_memory.specs.Blocks as blocks
use Rattle.c_objects.specs.Store.{objects_of}
use Rattle.c_objects.proofs.objects.Objects.leave.Given as goal

abbrev pub invariant-loop-i : goal.invariant-loop-i
invariant-loop-i l = (blocks.leave l.i (objects_of l.self) ≡ blocks.leave l.k (objects_of l.initial.self)) × (length l.self.items.items ≡ length l.initial.self.items.items)
