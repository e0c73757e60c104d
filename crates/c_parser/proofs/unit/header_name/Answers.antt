use Rattle.std.proofs.Common.{subst}
use Rattle.grammars.specs.Grammar.{token}
use Rattle.c_grammar.specs.Kinds.{exactly}
use Rattle.c_grammar.specs.Pieces.{Word, pieces}
use Rattle.c_lexemes.specs.Gives.{Passes}
use Rattle.c_lexemes.specs.Levels.{reads_at}
use Rattle.c_lexemes.specs.Words.{fixed_text}
use Rattle.c_parser.proofs.unit.header_name.Goals as goal

pub returns : goal.returns
returns c =
    let word = Word (fixed_text c.args.name) in
    subst (λ k. Passes word c.fixed.result (reads_at c.args.depth (token k (exactly word)) (pieces c.args.bytes.now))) c.requires c.fixed.ensures
