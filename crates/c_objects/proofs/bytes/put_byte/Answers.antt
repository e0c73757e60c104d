use Rattle.std.proofs.lemmas.List.{map-set}
use Rattle.c_objects.specs.declared.bytes.Byte.TheVariants.{Number}
use Rattle.c_objects.specs.Bytes.{byte_of}
use Rattle.c_objects.proofs.bytes.put_byte.Goals as goal

pub returns-then-at-bytes : goal.returns-then-at-bytes
returns-then-at-bytes c = map-set byte_of c.args.bytes.now c.args.at (Number c.args.n)
