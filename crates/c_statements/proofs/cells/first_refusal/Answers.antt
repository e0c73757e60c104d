use Rattle.std.proofs.Common.{sym, ap, ◌∙◌, arith, ◌<◌, length}
use Rattle.std.specs.Option.{option_map}
use Rattle.c_memory.specs.Access.{first_of}
use Rattle.c_ast.specs.declared.CScalar.TheVariants.{Truth}
use Rattle.c_objects.specs.Faults.{fault_of}
use Rattle.c_objects.specs.Store.{objects_of}
use Rattle.c_statements.specs.Cells.{first_refusal}
use Rattle.std.specs.Prelude.{drop, ◌+◌}
use Rattle.c_statements.proofs.CellLoops.{refusal_at, refusal_end}
use Rattle.c_statements.proofs.cells.first_refusal.Goals as goal

pub loop-i-preserved : goal.loop-i-preserved
loop-i-preserved c =
    let cs = c.args.cells.now in
    let vs = c.args.values.now in
    let i = c.loop-i.i in
    let mem = objects_of c.args.objects.now in
    let low : i < length cs = omega (arith, c.loop-i-test.true, c.min-i-end.ensures) in
    let high : i < length vs = omega (arith, c.loop-i-test.true, c.min-i-end.ensures) in
    ap (λ f. first_of f (first_refusal c.args.t mem (drop (i + 1) cs) (drop (i + 1) vs))) (ap (option_map fault_of) (sym c.in-Ok-None.field-0-is) ∙ c.in-Ok-None.ensures)
    ∙ sym (refusal_at c.args.t cs vs i mem (record { object = 0; at = 0; scalar = Truth }) low high) ∙ c.loop-i.invariant

pub returns-in-Ok-Some : goal.returns-in-Ok-Some
returns-in-Ok-Some c =
    let cs = c.args.cells.now in
    let vs = c.args.values.now in
    let i = c.loop-i.i in
    let mem = objects_of c.args.objects.now in
    let low : i < length cs = omega (arith, c.loop-i-test.true, c.min-i-end.ensures) in
    let high : i < length vs = omega (arith, c.loop-i-test.true, c.min-i-end.ensures) in
    ap (λ f. first_of f (first_refusal c.args.t mem (drop (i + 1) cs) (drop (i + 1) vs))) (ap (option_map fault_of) (sym c.in-Ok-Some.field-0-is) ∙ c.in-Ok-Some.ensures)
    ∙ sym (refusal_at c.args.t cs vs i mem (record { object = 0; at = 0; scalar = Truth }) low high) ∙ c.loop-i.invariant

pub returns : goal.returns
returns c = sym (refusal_end c.args.t c.args.cells.now c.args.values.now c.loop-i.i (objects_of c.args.objects.now) (omega arith)) ∙ c.loop-i.invariant
