-- Small texts, and what is answered of them.
use Rattle.std.specs.Prelude.{ℕ, true, List, [], ◌∷◌, ◌++◌, codes, Some}
use Rattle.c_ast.specs.declared.types.CScalar.TheVariants.{Truth}
use Rattle.c_ast.specs.declared.types.CType.TheVariants.{Value}
use Rattle.c_ast.specs.declared.expr.Suffix.TheVariants.{Plain, U}
use Rattle.c_ast.specs.declared.expr.CBinary.TheVariants.{Lt}
use Rattle.c_ast.specs.Syntax.{Number, Binary, Return, Nil, Cons, TranslationUnit}
use Rattle.c_text.specs.Spelling.{fixed_text}
use Rattle.c_grammar.specs.Pieces.{Piece, pieces}

abbrev pub text_of : List ℕ → List Piece
text_of declarations = pieces (fixed_text ++ declarations)

-- a function that compares two numbers
abbrev pub compares : List Piece
compares = text_of (codes "static bool iv_f(void) {\n  return (1 < 2u);\n}\n")

abbrev pub comparing : TranslationUnit
comparing = record {
  structs = [];
  externs = [];
  objects = [];
  functions = record { hidden = true; name = codes "iv_f"; params = []; result = Value Truth; body = Cons (Return (Some (Binary Lt (Number 1 Plain) (Number 2 U)))) Nil } ∷ [];
}

-- no blank behind `for`, and one too many behind `static`; an extern behind a function; the end of the text within a line
abbrev pub for_without_blank : List Piece
for_without_blank = text_of (codes "void iv_f(void) {\n  for(;;) {\n  }\n}\n")

abbrev pub two_blanks : List Piece
two_blanks = text_of (codes "static  bool iv_x = 1;\n")

abbrev pub extern_too_late : List Piece
extern_too_late = text_of (codes "void iv_f(void) {\n}\nextern void iv_g(void);\n")

abbrev pub ends_early : List Piece
ends_early = text_of (codes "extern void")
