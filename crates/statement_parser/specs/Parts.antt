-- Readers of parts of statements, as functions of their own read them. The number is that of the levels that are left to nest.
use Rattle.std.specs.Prelude.{ℕ, Option}
use Rattle.std.specs.Option.{option_map}
use Rattle.iv_words.specs.declared.Name.{Name}
use Rattle.ivory_lexer.specs.declared.Token.{Token}
use Rattle.ivory_lexer.specs.declared.Mark.{Mark}
use Rattle.ivory_lexer.specs.declared.Mark.TheVariants as mark
use Rattle.ivory_lexer.specs.declared.Key.{Key}
use Rattle.ivory_lexer.specs.declared.Key.TheVariants as key
use Rattle.ivory_tree.specs.declared.AreaText.{AreaText}
use Rattle.ivory_tree.specs.declared.TypeKind.{TypeKind}
use Rattle.ivory_tree.specs.declared.TypeKind.TheVariants as type_form
use Rattle.ivory_tree.specs.declared.InitText.{InitText}
use Rattle.ivory_tree.specs.declared.Expr.{Expr}
use Rattle.ivory_tree.specs.declared.StmtKind.{StmtKind}
use Rattle.ivory_tree.specs.declared.StmtKind.TheVariants as form
use Rattle.ivory_tree.specs.declared.Block.{Block}
use Rattle.reading.specs.Reader.{Reader, ◌>>=◌, ◌<$>◌, accept, after, before, below, dispatch, give, nested, optional}
use Rattle.expression_grammar.specs.Tokens.{symbol, is_key, word_of}
use Rattle.expression_grammar.specs.Reader.{mark_reader, key_reader, expression}
use Rattle.module_grammar.specs.Forms.{statement_form_of}
use Rattle.module_grammar.specs.TypeReader.{placed, value_reader, area}
use Rattle.module_grammar.specs.Trees as tree
use Rattle.module_grammar.specs.InitReader.{first_value}
use Rattle.module_grammar.specs.StatementReader.{semicolon, call, let_value, call_reader, form_reader, alternative_reader, block, if_rest}

-- a bracket, and how many levels are left behind it
abbrev pub opening : Mark → ℕ → Reader Token ℕ
opening m k = nested (symbol m) (option_map (λ j _. give j) (below (λ j. j) k))

-- call ";" and expression ";", bound to a name

abbrev pub bound_call : ℕ → Name → Reader Token StmtKind
bound_call k name = before (form.LetCall name <$> call k) semicolon

abbrev pub bound_expression : ℕ → Name → Reader Token StmtKind
bound_expression k name = before (form.Let name <$> expression k) semicolon

-- a name, as a type of bit data
abbrev pub bits : Reader Token TypeKind
bits = type_form.Bits <$> accept word_of

-- a stored type as an area, with its place
abbrev pub stored_area : ℕ → Reader Token AreaText
stored_area k = placed (tree.stored <$> value_reader k)

-- "=" ( expression | call ) ";"
abbrev pub bound_value : ℕ → Name → Reader Token StmtKind
bound_value k name = after (mark_reader mark.Assign) (before (let_value k name) semicolon)

-- ":" area [ "=" init ] ";"
abbrev pub area_and_value : ℕ → Reader Token (AreaText × Option InitText)
area_and_value k = after (mark_reader mark.Colon) (area k >>= λ a. before ((λ v. (a, v)) <$> first_value k) semicolon)

-- behind a mark, up to a ";"
abbrev pub last_value : Mark → Reader Token Expr → Reader Token Expr
last_value m p = after (mark_reader m) (before p semicolon)

abbrev pub keyword_and_block : ℕ → Key → Reader Token Block
keyword_and_block k wanted = after (key_reader wanted) (block k)

abbrev pub bound_and_block : ℕ → Key → Reader Token (Expr × Block)
bound_and_block k wanted = after (key_reader wanted) (expression k >>= λ x. (λ b. (x, b)) <$> block k)

-- [ "else" ( block | if ) ]
abbrev pub otherwise : ℕ → Reader Token (Option Block)
otherwise k = optional (is_key key.KwElse) (after (key_reader key.KwElse) (alternative_reader (block k) (below if_rest k)))

abbrev pub kind_of_statement : ℕ → Reader Token StmtKind
kind_of_statement k = dispatch statement_form_of (form_reader k (block k) (if_rest k)) (call_reader k)
