use Rattle.std.proofs.Common.{◌∙◌, ◌≡◌, ap, sym}
use Rattle.std.specs.Prelude.{Ok}
use Rattle.std.proofs.Common.{to_z-of_z}
use Rattle.c_memory.specs.Access.{written}
use Rattle.c_objects.specs.Store.{representation, objects_of, at_place}
use Rattle.c_objects.proofs.Rows.{write_step}
use Rattle.c_objects.proofs.objects.Objects.write.Goals as goal

pub returns-in-Ok-None : goal.returns-in-Ok-None
returns-in-Ok-None c =
    let free = rw c.in-Ok-None.field-0-is at c.in-Ok-None.ensures in
    let fits = c.ranges.v in
    let done : objects_of c.put_at.new.self ≡ at_place c.args.o (λ ob. written (representation c.args.t) ob (c.args.at, c.args.s) c.args.v) (objects_of c.args.self.now) = simp to_z-of_z at c.put_at.ensures in
    write_step c.args.t (objects_of c.args.self.now) c.args.o (c.args.at, c.args.s) c.args.v free ∙ sym (ap Ok done)
