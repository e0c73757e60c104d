use Rattle.ivory_lexer.proofs.Longest.{scan_within}
use Rattle.ivory_lexer.proofs.scan.longest_piece.Goals as goal

pub returns-clause-within : goal.returns-clause-within
returns-clause-within c = scan_within c.args.text.now _ c.scan.ensures
