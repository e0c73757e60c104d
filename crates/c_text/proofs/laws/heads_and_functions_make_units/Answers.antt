use Rattle.std.proofs.Common.{refl}
use Rattle.std.proofs.lemmas.List.{append-nil}
use Rattle.c_text.specs.Spelling.{head_text}
use Rattle.c_text.proofs.laws.heads_and_functions_make_units.Goals as goal

pub returns : goal.returns
returns c u = (append-nil (head_text u), refl)
