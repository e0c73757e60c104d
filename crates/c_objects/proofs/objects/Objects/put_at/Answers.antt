use Rattle.std.proofs.Common.{rules, arith}
use Rattle.c_memory.specs.Access.{written}
use Rattle.c_objects.specs.Store.{representation}
use Rattle.c_objects.proofs.Rows.{place_changed, place_past}
use Rattle.c_objects.proofs.objects.Objects.put_at.Goals as goal

pub returns-then-o-len : goal.returns-then-o-len
returns-then-o-len c =
    place_changed c.args.self.now.items.items c.args.o c.index_mut.result.now c.put.new.self (λ ob. written (representation c.args.t) ob (c.args.at, c.args.s) c.args.v) c.index_mut.ensures.value (search rules) (omega arith)

pub returns-else-o-len : goal.returns-else-o-len
returns-else-o-len c = place_past c.args.self.now.items.items c.args.o (λ ob. written (representation c.args.t) ob (c.args.at, c.args.s) c.args.v) (omega arith)
