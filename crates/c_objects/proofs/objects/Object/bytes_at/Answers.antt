use Rattle.std.proofs.Common.{◌∙◌, sym, ap, arith, take, drop, ◌-◌, ◌+◌}
use Rattle.std.specs.Prelude.{map}
use Rattle.std.proofs.lemmas.List.{take-map, drop-map}
use Rattle.c_objects.specs.Bytes.{byte_of}
use Rattle.c_objects.proofs.Rows.{window}
use Rattle.c_objects.proofs.objects.Object.bytes_at.Goals as goal

pub returns-clause-bytes : goal.returns-clause-bytes
returns-clause-bytes c =
    ap (λ l. map byte_of l) (ap (λ xs. take (c.min-from.result + c.min.result - c.min-from.result) (drop c.min-from.result xs)) c.deref.ensures.value
    ∙ window c.args.self.now.bytes.items c.args.at c.args.many c.min-from.result (c.min-from.result + c.min.result) (omega arith) (omega arith))
    ∙ sym (take-map byte_of c.args.many (drop c.args.at c.args.self.now.bytes.items)) ∙ ap (take c.args.many) (sym (drop-map byte_of c.args.at c.args.self.now.bytes.items))
