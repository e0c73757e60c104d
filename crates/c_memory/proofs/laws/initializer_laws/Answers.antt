use Rattle.c_memory.specs.Codecs.{Held}
use Rattle.c_memory.proofs.Initializers.{zeros_fit, initial_fits, initial_spelled_out}
use Rattle.c_memory.proofs.laws.initializer_laws.Goals as goal

pub returns-clause-zeros : goal.returns-clause-zeros
returns-clause-zeros g c = λ t nought can a. zeros_fit (Held t) nought can a

pub returns-clause-fit : goal.returns-clause-fit
returns-clause-fit g c = λ t nought can a i h. initial_fits (Held t) nought can a i h

pub returns-clause-every : goal.returns-clause-every
returns-clause-every g c = λ nought a v h. initial_spelled_out nought a v h
