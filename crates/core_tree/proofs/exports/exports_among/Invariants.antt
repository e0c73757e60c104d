use Rattle.std.proofs.Common.{◌≡◌, ◌++◌, map, drop}
use Rattle.core_tree.specs.Exports.{exports_among}
use Rattle.core_tree.specs.View.{proc_of}
use Rattle.core_tree.proofs.exports.exports_among.Given as goal

abbrev pub invariant-loop-p : goal.invariant-loop-p
invariant-loop-p l = l.found ++ exports_among (map proc_of (drop l.p-index l.procs)) ≡ exports_among (map proc_of l.procs)
