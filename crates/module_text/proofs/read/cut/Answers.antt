use Rattle.std.proofs.Common.{◌≡◌, refl}
use Rattle.module_text.specs.Verdicts.{not_cut}
use Rattle.module_text.proofs.Places.{fault_is_within}
use Rattle.module_text.proofs.read.cut.Goals as goal

pub fault_at-requires-clause-within : goal.fault_at-requires-clause-within
fault_at-requires-clause-within c = fault_is_within c.args.text.now _ (rw c.in-Err-BadByte.field-0-is at c.in-Err-BadByte.ensures.fault)

pub returns-in-Err-BadByte : goal.returns-in-Err-BadByte
returns-in-Err-BadByte c = rw c.fault_at.ensures (not_cut c.requires (rw c.in-Err-BadByte.field-0-is at c.in-Err-BadByte.ensures.fault) refl)

pub fault_at-requires-in-Err-LongName-clause-within : goal.fault_at-requires-in-Err-LongName-clause-within
fault_at-requires-in-Err-LongName-clause-within c = fault_is_within c.args.text.now _ (rw c.in-Err-LongName.field-0-is at c.in-Err-LongName.ensures.fault)

pub returns-in-Err-LongName : goal.returns-in-Err-LongName
returns-in-Err-LongName c = rw c.fault_at-in-Err-LongName.ensures (not_cut c.requires (rw c.in-Err-LongName.field-0-is at c.in-Err-LongName.ensures.fault) refl)

pub fault_at-requires-in-Err-BigLiteral-clause-within : goal.fault_at-requires-in-Err-BigLiteral-clause-within
fault_at-requires-in-Err-BigLiteral-clause-within c = fault_is_within c.args.text.now _ (rw c.in-Err-BigLiteral.field-0-is at c.in-Err-BigLiteral.ensures.fault)

pub returns-in-Err-BigLiteral : goal.returns-in-Err-BigLiteral
returns-in-Err-BigLiteral c = rw c.fault_at-in-Err-BigLiteral.ensures (not_cut c.requires (rw c.in-Err-BigLiteral.field-0-is at c.in-Err-BigLiteral.ensures.fault) refl)

pub fault_at-requires-in-Err-OpenComment-clause-within : goal.fault_at-requires-in-Err-OpenComment-clause-within
fault_at-requires-in-Err-OpenComment-clause-within c = fault_is_within c.args.text.now _ (rw c.in-Err-OpenComment.field-0-is at c.in-Err-OpenComment.ensures.fault)

pub returns-in-Err-OpenComment : goal.returns-in-Err-OpenComment
returns-in-Err-OpenComment c = rw c.fault_at-in-Err-OpenComment.ensures (not_cut c.requires (rw c.in-Err-OpenComment.field-0-is at c.in-Err-OpenComment.ensures.fault) refl)
