use Rattle.std.proofs.Common.{refl, sym, ap, ◌∙◌, subst, Err}
use Rattle.std.specs.Option.{option_map}
use Rattle.c_meaning.specs.Memory as memory
use Rattle.c_meaning.specs.Values as meaning
use Rattle.c_objects.specs.Faults.{fault_of}
use Rattle.c_objects.specs.Store.{objects_of}
use Rattle.c_expressions.specs.State.{state_of}
use Rattle.c_statements.specs.Cells.{written}
use Rattle.c_statements.specs.Parts.{Alters}
use Rattle.c_statements.proofs.WrittenAll.{refused_all, written_all}
use Rattle.c_statements.proofs.cells.write_cells.Goals as goal

pub returns-in-Ok-Some : goal.returns-in-Ok-Some
returns-in-Ok-Some c = (
  refused_all c.args.t c.args.cells.now c.args.values.now (objects_of c.args.state.now.objects) c.in-Ok-Some.fault (ap (option_map fault_of) (sym c.in-Ok-Some.field-0-is) ∙ c.in-Ok-Some.ensures)
      ∙ ap (λ r. Err (meaning.Undefined r)) (sym c.reason_of.ensures),
  refl,
)

pub returns : goal.returns
returns c =
    let old = state_of c.args.state.now in
    let new = state_of (record c.args.state.now { objects = c.put_each.new.objects }) in
    subst (λ r. Alters (memory.answered (written c.args.t c.args.cells.now c.args.values.now old.objects)) old new r) (sym c.answered.ensures)
    (written_all c.args.t c.args.cells.now c.args.values.now old new c.put_each.result (ap (option_map fault_of) (sym c.in-Ok-None.field-0-is) ∙ c.in-Ok-None.ensures) c.put_each.ensures refl)
