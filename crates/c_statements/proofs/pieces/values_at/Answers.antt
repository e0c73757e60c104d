use Rattle.std.proofs.lemmas.Result.{err_from_is_err_and}
use Rattle.std.proofs.Common.{subst, ◌≡◌, List, ℤ, Ok, Err}
use Rattle.c_memory.specs.Copies.{read_each}
use Rattle.c_meaning.specs.Memory.{memory_of, answered}
use Rattle.c_operators.specs.Values.{Gives, itself}
use Rattle.c_expressions.specs.Places.{Excused}
use Rattle.c_objects.specs.Faults.{AddsAll}
use Rattle.c_objects.specs.Store.{objects_of}
use Rattle.c_statements.proofs.ReadValues.{values_read, values_refused}
use Rattle.c_statements.proofs.pieces.values_at.Goals as goal

pub returns-in_err-answered : goal.returns-in_err-answered
returns-in_err-answered c =
    let q = err_from_is_err_and c.from_residual.result c.from_residual.ensures.1 in
    let said = read_each (memory_of c.target.result).read (objects_of c.args.objects.now) c.args.object c.args.places.now in
    rw (q.1, q.2) (subst (λ t. Gives Excused (itself {A = List ℤ}) (answered (read_each (memory_of t).read (objects_of c.args.objects.now) c.args.object c.args.places.now)) (Err c.in_err-answered.field-0.0)) c.target.ensures (values_refused said c.read_each.new.out c.read_each.result c.in_err-answered.field-0.0
    (subst (λ (old : List ℤ). AddsAll said old c.read_each.new.out c.read_each.result) c.new-values.ensures c.read_each.ensures) c.in_err-answered.ensures))

pub returns : goal.returns
returns c =
    let said = read_each (memory_of c.target.result).read (objects_of c.args.objects.now) c.args.object c.args.places.now in
    subst (λ t. answered (read_each (memory_of t).read (objects_of c.args.objects.now) c.args.object c.args.places.now) ≡ Ok c.read_each.new.out) c.target.ensures (values_read said c.read_each.new.out c.read_each.result c.in_ok-answered.field-0 (subst (λ (old : List ℤ). AddsAll said old c.read_each.new.out c.read_each.result) c.new-values.ensures c.read_each.ensures) c.in_ok-answered.ensures)
