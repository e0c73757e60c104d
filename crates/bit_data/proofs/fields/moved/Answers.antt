use Rattle.std.proofs.Common.{IsTrue, false, sym, subst}
use Rattle.iv_words.specs.Kinds.{in_range_of}
use Rattle.bit_data.proofs.Parts.{moved_is, moved_small}
use Rattle.bit_data.proofs.fields.moved.Goals as goal

pub returns-clause-value : goal.returns-clause-value
returns-clause-value c = moved_is c.args.low c.args.bits c.args.x c.requires.place c.requires.number

pub returns-clause-small : goal.returns-clause-small
returns-clause-small c =
    subst (λ r. IsTrue (in_range_of 64 false r)) (sym (moved_is c.args.low c.args.bits c.args.x c.requires.place c.requires.number))
    (moved_small c.args.low c.args.bits c.args.x c.requires.place c.requires.number)
