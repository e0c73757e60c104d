use Rattle.std.proofs.Common.{◌≡◌, drop}
use Rattle.run_records.specs.Scripts.{export_of}
use Rattle.iv_script.proofs.fit.export_of.Given as goal

abbrev pub invariant-loop-export : goal.invariant-loop-export
invariant-loop-export l = export_of l.name (drop l.export-index l.exports) ≡ export_of l.name l.exports
