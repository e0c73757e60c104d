use Rattle.std.proofs.Common.{map, sym, ap, ◌∙◌, Err, subst}
use Rattle.std.specs.Option.{option_map}
use Rattle.area_types.specs.View.{type_of}
use Rattle.core_tree.specs.Cores.{core_of}
use Rattle.core_tree.specs.View.{import_of}
use Rattle.core_meaning.specs.Checks.{on_some}
use Rattle.core_meaning.specs.Imports as imports
use Rattle.core_meaning.specs.Imports.{writable}
use Rattle.core_meaning.specs.State.{seen}
use Rattle.core_state.specs.State.{value_of, state_of}
use Rattle.run_world.specs.Comes.{Comes, world_of}
use Rattle.core_statements.specs.Replies.{asking_by, targets_of}
use Rattle.core_statements.proofs.Written.{shape_is, asking_is}
use Rattle.core_statements.proofs.imports.asking_by.Goals as goal

pub returns-in-None : goal.returns-in-None
returns-in-None c =
    let core = core_of c.args.program.now in
    let i = import_of c.args.import.now in
    let run = c.args.run.now in
    let args = map value_of c.args.args.now in
    let targets = targets_of c.as_slice-writes.result.now in
    let e = ap targets_of c.as_slice-writes.ensures ∙ c.in_ok-targets.ensures ∙ ap (λ ps. map (writable core) (map type_of ps)) c.as_slice.ensures in
    let none = sym (shape_is core i targets e) ∙ sym c.in_ok-shape_of.ensures ∙ c.in-None.is in
    subst (λ why. Comes (seen core) (option_map value_of) (asking_by core i args c.args.pieces run.world.steps (world_of run.world) (state_of run.state)) (Err why) run.world (state_of run.state)) (sym c.formless.ensures)
    (ap (λ o. on_some core o (imports.asking core i args c.args.pieces) run.world.steps (world_of run.world) (state_of run.state)) none)

pub returns-in-Some : goal.returns-in-Some
returns-in-Some c =
    let core = core_of c.args.program.now in
    let i = import_of c.args.import.now in
    let run = c.args.run.now in
    let new = c.asking.new.run in
    let args = map value_of c.args.args.now in
    let targets = targets_of c.as_slice-writes.result.now in
    let e = ap targets_of c.as_slice-writes.ensures ∙ c.in_ok-targets.ensures ∙ ap (λ ps. map (writable core) (map type_of ps)) c.as_slice.ensures in
    let some = sym (shape_is core i targets e) ∙ sym c.in_ok-shape_of.ensures ∙ c.in-Some.is in
    let same = ap (λ o. on_some core o (imports.asking core i args c.args.pieces) run.world.steps (world_of run.world) (state_of run.state)) some
    ∙ asking_is core i targets args c.args.pieces c.in-Some.shape run.world.steps (world_of run.world) (state_of run.state) e in
    subst (λ r. Comes (seen core) (option_map value_of) r c.asking.result new.world (state_of new.state)) (sym same) c.asking.ensures
