use Rattle.std.proofs.Common.{◌≡◌, List, ◌∙◌, subst}
use Rattle.c_memory.specs.Copies.{read_each}
use Rattle.c_ast.specs.declared.CScalar.{CScalar}
use Rattle.std.specs.Prelude.{ℕ}
use Rattle.c_meaning.specs.Calls.{pointed}
use Rattle.c_meaning.specs.Memory.{answered, memory_of}
use Rattle.c_objects.specs.Shapes.{base_of}
use Rattle.c_objects.specs.Store.{objects_of}
use Rattle.c_operators.specs.Values.{address_of, Gives, itself}
use Rattle.c_expressions.specs.Places.{Excused}
use Rattle.c_statements.proofs.WrittenAll.{room_gives}
use Rattle.c_statements.proofs.pieces.values_behind.Goals as goal

pub returns : goal.returns
returns c =
    let p = c.args.program.now in
    let all = pointed p.target p.unit.structs (base_of c.args.base) (address_of c.args.to) in
    let q = room_gives c.pointed.result (λ places. places ≡ all) c.in_ok-places.places c.in_ok-places.ensures c.pointed.ensures in
    subst (λ (xs : List (ℕ × CScalar)). Gives Excused itself (answered (read_each (memory_of p.target).read (objects_of c.args.objects.now) c.args.to.object xs)) c.values_at.result) (c.as_slice.ensures ∙ q) c.values_at.ensures
