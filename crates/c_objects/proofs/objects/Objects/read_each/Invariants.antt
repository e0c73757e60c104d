use Rattle.std.proofs.Common.{◌≡◌, ◌++◌, drop}
use Rattle.std.specs.Prelude.{Ok}
use Rattle.c_memory.specs.Access.{and_then}
use Rattle.c_memory.specs.Copies.{read_each}
use Rattle.c_meaning.specs.Memory.{memory_of}
use Rattle.c_objects.specs.Store.{objects_of}
use Rattle.c_objects.proofs.objects.Objects.read_each.Given as goal

abbrev pub invariant-loop-place : goal.invariant-loop-place
invariant-loop-place l =
    and_then (read_each (memory_of l.t).read (objects_of l.self) l.o (drop l.place-index l.places)) (λ vs. Ok (l.out ++ vs)) ≡ and_then (read_each (memory_of l.t).read (objects_of l.self) l.o l.places) (λ vs. Ok (l.initial.out ++ vs))
