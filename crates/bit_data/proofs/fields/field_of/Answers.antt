use Rattle.std.proofs.Common.{◌+◌, ◌≤◌, sym, subst}
use Rattle.bit_data.specs.declared.layout.FieldBits.{FieldBits}
use Rattle.bit_data.proofs.Words.{place_64}
use Rattle.bit_data.proofs.fields.field_of.Goals as goal

pub part-requires : goal.part-requires
part-requires c = subst (λ (f : FieldBits). f.low + f.width ≤ 64) (sym c.field_at-bits.ensures) (place_64 c.args.layout.now c.requires.layout c.args.field c.requires.field)
