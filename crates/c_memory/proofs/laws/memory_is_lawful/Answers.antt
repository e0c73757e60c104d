use Rattle.c_memory.specs.Codecs.{numbers, Held}
use Rattle.c_memory.proofs.Codecs.{faithful_numbers}
use Rattle.c_memory.proofs.Memories.{lawful}
use Rattle.c_memory.proofs.laws.memory_is_lawful.Goals as goal

pub returns : goal.returns
returns g c = λ t sound. lawful (numbers {P = _} t) (Held t) (faithful_numbers _ t sound)
