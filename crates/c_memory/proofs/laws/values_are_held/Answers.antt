use Rattle.c_memory.specs.Codecs.{numbers, Held}
use Rattle.c_memory.specs.Memories.{memory_of_numbers}
use Rattle.c_memory.proofs.Codecs.{faithful_numbers}
use Rattle.c_memory.proofs.Memories.{lawful}
use Rattle.c_memory.proofs.Values.{lawful_values}
use Rattle.c_memory.proofs.laws.values_are_held.Goals as goal

pub returns : goal.returns
returns g c = λ t sound f. lawful_values t.metric (Held t) f (memory_of_numbers _ t) (lawful (numbers {P = _} t) (Held t) (faithful_numbers _ t sound))
