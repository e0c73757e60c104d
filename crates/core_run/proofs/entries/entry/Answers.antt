use Rattle.std.proofs.Common.{map, sym, ap, ◌∙◌, subst, ℤ, List}
use Rattle.std.specs.Prelude.{Option}
use Rattle.step_semantics.specs.Steps.{Part}
use Rattle.core_tree.specs.Cores.{core_of}
use Rattle.core_tree.specs.View.{proc_of}
use Rattle.core_meaning.specs.Calls.{no_procedures}
use Rattle.core_meaning.specs.Run.{entry_among}
use Rattle.core_meaning.specs.State as meaning
use Rattle.run_world.specs.Comes.{itself}
use Rattle.core_statements.specs.Parts.{Does}
use Rattle.core_run.specs.Calls.{calls_of}
use Rattle.core_run.specs.Entries.{entered}
use Rattle.core_run.proofs.entries.entry.Goals as goal

pub returns-in-Some : goal.returns-in-Some
returns-in-Some c =
    let p = c.args.program.now in
    let core = core_of p in
    let call = c.args.call.now in
    let found = c.in-Some.found in
    let same = ap (λ ps. entry_among core (no_procedures core) 0 (map proc_of ps) call.name call.values) (sym c.procs.ensures) ∙ c.in-Some.ensures.entered_by core call.values
    ∙ ap (λ (vs : List ℤ). entered core (calls_of core found.earlier.now) (proc_of found.proc.now) vs) (sym c.as_slice-numbers.ensures) in
    subst (λ (part : Part meaning.State (Option ℤ)). Does p itself part c.args.run.now c.entered.new.run c.entered.result) (sym same) c.entered.ensures
