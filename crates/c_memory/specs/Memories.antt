-- The memory of objects and bytes, as the operations that the layers above know.
use Rattle.std.specs.Prelude.{ℤ, length}
use Rattle.c_memory.specs.Representations.{Representation}
use Rattle.c_memory.specs.Codecs.{ScalarTable, numbers}
use Rattle.c_memory.specs.Objects.{Objects, is_live}
use Rattle.c_memory.specs.Access.{read, refuses, write}
use Rattle.c_memory.specs.Blocks.{create, leave}
use Rattle.c_memory.specs.Initializers.{initialize}
use Rattle.c_memory.specs.Holds.{ShowsAt}
use Rattle.c_memory.specs.Abstract.{Operations}

abbrev pub memory : {S N V B : Type 0} → Representation S V B → Operations S N V
memory {S} {N} {V} {B} r = record {
  Memory = Objects S N B;
  count = length;
  live = is_live;
  read = read r;
  refuses = refuses r;
  write = write r;
  create = create r;
  initialize = initialize r;
  leave = leave;
  Shows = ShowsAt r;
}

-- where objects hold numbers alone; P is what pointers would be
abbrev pub memory_of_numbers : {S N : Type 0} → (P : Type 0) → ScalarTable S → Operations S N ℤ
memory_of_numbers P t = memory (numbers {P = P} t)
