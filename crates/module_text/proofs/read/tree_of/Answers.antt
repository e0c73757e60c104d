use Rattle.std.proofs.Common.{◌≡◌, refl}
use Rattle.module_text.specs.Verdicts.{reads, too_deep}
use Rattle.module_text.proofs.Told.{unexpected_there}
use Rattle.module_text.proofs.read.tree_of.Goals as goal

pub returns-in-Ok : goal.returns-in-Ok
returns-in-Ok c = reads c.requires.short c.requires.cut c.in-Ok.ensures.found

pub returns-in-Err-Unexpected : goal.returns-in-Err-Unexpected
returns-in-Err-Unexpected c =
    rw c.fault_at.ensures
    (rw c.start_of.ensures.start
    (unexpected_there c.args.text.now c.args.tokens.now c.in-Err-Unexpected.i c.requires.short c.requires.cut
    (rw c.in-Err-Unexpected.field-0-is at c.in-Err-Unexpected.ensures.unexpected)
    (rw c.in-Err-Unexpected.field-0-is at c.in-Err-Unexpected.ensures.only_deep)))

pub returns-in-Err-TooDeep : goal.returns-in-Err-TooDeep
returns-in-Err-TooDeep c =
    rw c.fault_at-in-Err-TooDeep.ensures
    (rw c.start_of-in-Err-TooDeep.ensures.start
    (too_deep c.requires.short c.requires.cut (rw c.in-Err-TooDeep.field-0-is at c.in-Err-TooDeep.ensures.deep)))
