-- The C subset as one grammar over pieces, and how a text of it is read with at most 300 brackets open.
use Rattle.std.specs.Prelude.{ℕ, ◌+◌, List, codes}
use Rattle.reading.specs.Language.{Language}
use Rattle.reading.specs.Reader.{Reader, below, whole}
use Rattle.reading.specs.Exact.{Answer, answer}
use Rattle.c_ast.specs.Syntax.{TranslationUnit}
use Rattle.grammars.specs.Grammar.{Grammar, token}
use Rattle.grammars.specs.Spelled.{Spells}
use Rattle.grammars.specs.Reader.{read_with, read}
use Rattle.c_grammar.specs.Pieces.{Piece, Word}
use Rattle.c_grammar.specs.Kinds.{lexicon, exactly, scalar_word}
use Rattle.c_grammar.specs.Symbols.{Symbol, an_expression, a_pointer, an_inner, an_inside, arguments, initializers, a_length, forever, a_block, a_body, the_members, the_types, the_params, stop_params, a_unit, Tree, Rule}
use Rattle.c_grammar.specs.ExpressionRules.{expression, pointer_rule, inner_rule, inside_rule, arguments_rule, initializers_rule}
use Rattle.c_grammar.specs.StatementRules.{lines, block_rule, forever_rule}
use Rattle.c_grammar.specs.UnitRules.{length_rule, members_rule, types_rule, params_rule, unit_rule}

abbrev pub grammar : Grammar Piece Symbol Tree
grammar an_expression = expression
grammar a_pointer = pointer_rule
grammar an_inner = inner_rule
grammar an_inside = inside_rule
grammar arguments = arguments_rule
grammar initializers = initializers_rule
grammar a_length = length_rule
grammar forever = forever_rule
grammar a_block = block_rule
grammar a_body = lines
grammar the_members = members_rule
grammar the_types = types_rule
grammar the_params = params_rule
grammar stop_params = token scalar_word (exactly (Word (codes "uint32_t")))
grammar a_unit = unit_rule

-- a rule at this depth, where so many levels more may nest
abbrev pub reads : {A : Type 0} → ℕ → ℕ → Rule A → Reader Piece A
reads d k r = read_with lexicon d (below (read lexicon grammar (d + 1)) k) r

-- which rows of pieces spell a unit
abbrev pub Text : Language Piece TranslationUnit
Text = Spells lexicon grammar 0 a_unit

-- a unit, or the place of the first piece that no unit has there or that opens a bracket too many
abbrev pub parse : ℕ → List Piece → Answer TranslationUnit
parse limit ts = answer ts (whole (read lexicon grammar 0 limit a_unit) ts)
