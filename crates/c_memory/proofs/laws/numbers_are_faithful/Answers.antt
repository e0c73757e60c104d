use Rattle.c_memory.proofs.Codecs.{faithful_numbers}
use Rattle.c_memory.proofs.laws.numbers_are_faithful.Goals as goal

pub returns : goal.returns
returns g c = λ t sound. faithful_numbers _ t sound
