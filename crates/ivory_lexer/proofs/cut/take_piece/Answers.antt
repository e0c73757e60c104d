use Rattle.std.proofs.Common.{◌∙◌, sym}
use Rattle.ivory_lexer.proofs.Cutting.{bad_byte, piece_fault, piece_taken}
use Rattle.ivory_lexer.proofs.cut.take_piece.Goals as goal

pub returns-in_default-clause-fault : goal.returns-in_default-clause-fault
returns-in_default-clause-fault c = bad_byte c.args.at c.args.text.now c.requires.some (sym c.in_default.is ∙ c.longest_piece.ensures.value)

pub returns-in-Err-clause-fault : goal.returns-in-Err-clause-fault
returns-in-Err-clause-fault c = piece_fault c.args.at c.in-Some.len c.args.text.now c.in-Some.piece c.in-Err.why c.in-Some.ensures.value c.in-Err.ensures

pub returns-clause-taken : goal.returns-clause-taken
returns-clause-taken c = piece_taken c.args.at c.in-Some.len c.args.text.now c.in-Some.piece c.in-Ok.found c.args.tokens.now c.add_token.new.tokens c.in-Some.ensures.value c.in-Ok.ensures c.in_ok-add_token.ensures
