use Rattle.c_memory.proofs.Laid.{first_ends}
use Rattle.c_memory.proofs.Standing.{stands_path, path_stands}
use Rattle.c_memory.proofs.laws.parts_stand.Goals as goal

pub returns-clause-exactly : goal.returns-clause-exactly
returns-clause-exactly g c = λ m wanted o a. (stands_path m wanted o a 0, path_stands m wanted o a 0)

pub returns-clause-apart : goal.returns-clause-apart
returns-clause-apart g c = λ m a x y left mid right h. first_ends m a x y left mid right h
