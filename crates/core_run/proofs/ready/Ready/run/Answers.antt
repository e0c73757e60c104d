use Rattle.std.proofs.Common.{◌∙◌, ap, subst, sym}
use Rattle.run_records.specs.Scripts.{Fits}
use Rattle.core_tree.specs.Cores.{core_of}
use Rattle.core_tree.specs.Exports.{exports_of}
use Rattle.core_run.proofs.ready.Ready.run.Goals as goal

-- src/ready.rt:138:5
pub returns-clause-defined : goal.returns-clause-defined
returns-clause-defined g c = λ fits reason e.
    let script_fits = subst (λ p. Fits c.args.script.now (exports_of (core_of p))) (sym c.self.view_is) fits in
    c.runs_are_defined.ensures (core_of c.self.inside.program) c.self.invariant c.args.script.now script_fits c.args.n reason (ap (λ o. o.end) (sym c.in_ok-outcome.ensures) ∙ e)
