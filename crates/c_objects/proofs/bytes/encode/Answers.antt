use Rattle.std.proofs.Common.{sym, arith, length, ◌≤◌}
use Rattle.std.specs.Prelude.{map}
use Rattle.std.proofs.lemmas.Grind.{common_steps}
use Rattle.c_ast.specs.Targets.{table_of}
use Rattle.c_meaning.specs.Memory.{scalar_table}
use Rattle.c_meaning.specs.Values.{Address}
use Rattle.c_memory.specs.Codecs.{numbers}
use Rattle.c_objects.specs.Bytes.{byte_of}
use Rattle.c_objects.proofs.Digits.{over_past}
use Rattle.c_objects.proofs.bytes.encode.Goals as goal

pub returns-else-at-bytes : goal.returns-else-at-bytes
returns-else-at-bytes c =
    let le : length (map byte_of c.args.bytes.now) ≤ c.args.at = grind (arith, common_steps) in
    sym (over_past c.args.at ((numbers {P = Address} (scalar_table (table_of c.args.t))).codec.encode c.args.s c.args.v) (map byte_of c.args.bytes.now) le)
