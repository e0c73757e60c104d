-- What stands between brackets in the C subset, the start, and the values of these.
use Rattle.std.specs.Prelude.{ℕ, ◌+◌, List, codes}
use Rattle.c_ast.specs.declared.types.CType.{CType}
use Rattle.c_ast.specs.declared.unit.CMember.{CMember}
use Rattle.c_ast.specs.declared.unit.CParam.{CParam}
use Rattle.c_ast.specs.Syntax.{Expr, Init, Stmts, TranslationUnit}
use Rattle.grammars.specs.Grammar as rules
use Rattle.grammars.specs.Grammar.{token, brackets, after}
use Rattle.c_grammar.specs.Pieces.{Piece, Word, Blanks, Byte}
use Rattle.c_grammar.specs.Kinds.{exactly, kw_if, kw_else, kw_for, kw_break, kw_return, kw_static, kw_extern, kw_void, kw_struct, kw_const, name_word, one_blank}

pub data Symbol : Type 0 where
  -- `[E]` and `if (E)`; `(*E)` where a statement begins; `(..)` where an expression begins, and where a second `(` stands there
  an_expression a_pointer an_inner an_inside : Symbol
  -- `(E, E)` of a call, `{I, I}`, `[N]`, `(;;)`
  arguments initializers a_length forever : Symbol
  -- `{¶ .. }` of a statement, of a function, of a struct
  a_block a_body the_members : Symbol
  -- `(T, T)` of an extern, `(P, P)` of a function, `(uint32_t)` of the third line
  the_types the_params stop_params : Symbol
  a_unit : Symbol

-- one of two
pub data Side (A B : Type 0) : Type 0 where
  left : A → Side A B
  right : B → Side A B

-- what stands in two parentheses: a type, `*E`, or the rest of a value
pub data Inside : Type 0 where
  type_inside : CType → Inside
  pointer_inside : Expr → Inside
  value_inside_it : Expr → Inside

abbrev pub Tree : Symbol → Type 0
Tree an_expression = Expr
Tree a_pointer = Expr
Tree an_inner = Side Expr Expr
Tree an_inside = Inside
Tree arguments = List Expr
Tree initializers = Init
Tree a_length = ℕ
Tree forever = Piece
Tree a_block = Stmts
Tree a_body = Stmts
Tree the_members = List CMember
Tree the_types = List CType
Tree the_params = List CParam
Tree stop_params = Piece
Tree a_unit = TranslationUnit

abbrev pub Rule : Type 0 → Type 1
Rule A = rules.Rule Piece Symbol Tree A

-- ---- pieces that are written out

-- a byte that is no letter, digit, underscore or blank
abbrev pub mark : ℕ → Rule Piece
mark b = token (256 + b) (exactly (Byte b))

abbrev pub blank : Rule Piece
blank = token one_blank (exactly (Blanks 1))

abbrev pub keyword : ℕ → List ℕ → Rule Piece
keyword k w = token k (exactly (Word w))

-- an identifier that is written out
abbrev pub word : List ℕ → Rule Piece
word w = token name_word (exactly (Word w))

abbrev pub word_if : Rule Piece
word_if = keyword kw_if (codes "if")

abbrev pub word_else : Rule Piece
word_else = keyword kw_else (codes "else")

abbrev pub word_for : Rule Piece
word_for = keyword kw_for (codes "for")

abbrev pub word_break : Rule Piece
word_break = keyword kw_break (codes "break")

abbrev pub word_return : Rule Piece
word_return = keyword kw_return (codes "return")

abbrev pub word_static : Rule Piece
word_static = keyword kw_static (codes "static")

abbrev pub word_extern : Rule Piece
word_extern = keyword kw_extern (codes "extern")

abbrev pub word_void : Rule Piece
word_void = keyword kw_void (codes "void")

abbrev pub word_struct : Rule Piece
word_struct = keyword kw_struct (codes "struct")

abbrev pub word_const : Rule Piece
word_const = keyword kw_const (codes "const")

abbrev pub new_line : Rule Piece
new_line = mark 10

abbrev pub comma : Rule Piece
comma = after (mark 44) blank

abbrev pub semicolon : Rule Piece
semicolon = mark 59

abbrev pub star : Rule Piece
star = mark 42

-- ( .. ), [ .. ], { .. }
abbrev pub parens : (n : Symbol) → Rule (Tree n)
parens n = brackets 296 297 n

abbrev pub squares : (n : Symbol) → Rule (Tree n)
squares n = brackets 347 349 n

abbrev pub braces : (n : Symbol) → Rule (Tree n)
braces n = brackets 379 381 n

abbrev pub pair : {A B : Type 0} → A → B → A × B
pair a b = (a, b)
