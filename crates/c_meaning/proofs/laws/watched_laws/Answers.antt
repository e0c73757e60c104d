use Rattle.c_meaning.proofs.Watched as watched
use Rattle.c_meaning.proofs.laws.watched_laws.Goals as goal

pub returns : goal.returns
returns c = watched.watched_runs_are_runs
