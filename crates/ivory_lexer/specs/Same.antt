-- When two keywords or two symbols are the same, as a test.
use Rattle.std.specs.Prelude.{Bool}
use denote.Enum.Bare.{sameb}
use Rattle.ivory_lexer.specs.declared.key.Key.{Key}
use Rattle.ivory_lexer.specs.declared.mark.Mark.{Mark}
use Rattle.ivory_lexer.specs.contracts.key.Key as keys
use Rattle.ivory_lexer.specs.contracts.mark.Mark as marks

abbrev pub same_key : Key → Key → Bool
same_key a b = sameb keys.the_type a b

abbrev pub same_mark : Mark → Mark → Bool
same_mark a b = sameb marks.the_type a b
