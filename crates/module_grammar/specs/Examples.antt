-- Small texts and their trees.
use Rattle.std.specs.Prelude.{◌≡◌, ℕ, ◌+◌, pos, true, false, List, [], ◌∷◌, Some, None}
use Rattle.iv_words.specs.declared.Span.{Span}
use Rattle.iv_words.specs.declared.Name.{Name}
use Rattle.iv_words.specs.declared.IntKind.TheVariants as int
use Rattle.ivory_lexer.specs.declared.Token.{Token}
use Rattle.ivory_lexer.specs.declared.TokenKind.{TokenKind}
use Rattle.ivory_lexer.specs.declared.TokenKind.TheVariants as kind
use Rattle.ivory_lexer.specs.declared.Mark.{Mark}
use Rattle.ivory_lexer.specs.declared.Mark.TheVariants as mark
use Rattle.ivory_lexer.specs.declared.Key.{Key}
use Rattle.ivory_lexer.specs.declared.Key.TheVariants as key
use Rattle.ivory_tree.specs.declared.RegionText.TheVariants as region
use Rattle.ivory_tree.specs.declared.TypeText.{TypeText}
use Rattle.ivory_tree.specs.declared.TypeKind.TheVariants as type_form
use Rattle.ivory_tree.specs.declared.AreaText.{AreaText}
use Rattle.ivory_tree.specs.declared.AreaKind.TheVariants as area_form
use Rattle.ivory_tree.specs.declared.Expr.{Expr}
use Rattle.ivory_tree.specs.declared.InitText.TheVariants as init_form
use Rattle.ivory_tree.specs.declared.Stmt.{Stmt}
use Rattle.ivory_tree.specs.declared.StmtKind.{StmtKind}
use Rattle.ivory_tree.specs.declared.StmtKind.TheVariants as form
use Rattle.ivory_tree.specs.declared.Block.{Block}
use Rattle.ivory_tree.specs.declared.Header.{Header}
use Rattle.ivory_tree.specs.declared.Item.{Item}
use Rattle.ivory_tree.specs.declared.Item.TheVariants as item_form
use Rattle.reading.specs.Reader.{Reader, whole}
use Rattle.reading.specs.Exact.{Answer, Tree, UnexpectedToken, DeepToken, answer}
use Rattle.expression_grammar.specs.Trees as expression
use Rattle.module_grammar.specs.Trees as tree
use Rattle.module_grammar.specs.TypeReader as types
use Rattle.module_grammar.specs.InitReader as inits
use Rattle.module_grammar.specs.StatementReader as statements
use Rattle.module_grammar.specs.ItemReader as items
use Rattle.module_grammar.specs.Parse.{parse}

-- ---- tokens of one byte each, from byte 0 on

abbrev from : ℕ → ℕ → Span
from start end = record { start = start; end = end }

abbrev side_by_side : ℕ → List TokenKind → List Token
side_by_side n [] = []
side_by_side n (k ∷ ks) = record { kind = k; span = from n (n + 1) } ∷ side_by_side (n + 1) ks

abbrev read : {A : Type 0} → Reader Token A → List TokenKind → Answer A
read p ks = let ts = side_by_side 0 ks in answer ts (whole p ts)

abbrev letter : ℕ → TokenKind
letter c = kind.Name (c ∷ [])

abbrev number : ℕ → TokenKind
number n = kind.Number n

abbrev sign : Mark → TokenKind
sign m = kind.Mark m

abbrev word : Key → TokenKind
word k = kind.Key k

-- a letter as a name and as an expression, at a place

abbrev named : ℕ → ℕ → Name
named c n = record { text = c ∷ []; span = from n (n + 1) }

abbrev variable : ℕ → ℕ → Expr
variable c n = expression.variable (c ∷ []) (from n (n + 1))

abbrev truth : ℕ → TypeText
truth n = tree.typed type_form.Bool (from n (n + 1))

abbrev stored_truth : ℕ → AreaText
stored_truth n = record { kind = area_form.Stored (truth n); span = from n (n + 1) }

abbrev empty_block : ℕ → Block
empty_block n = tree.block [] (from n (n + 2))

-- ---- types and areas

-- const ref global bool, and ref r struct s
abbrev pub References : Type 0
References =
    (read (types.type_ 0) (word key.KwConst ∷ word key.KwRef ∷ word key.KwGlobal ∷ word key.KwBool ∷ [])
    ≡ Tree (tree.typed (type_form.Ref (record { constant = true; region = region.Global; area = stored_truth 3 })) (from 0 4)))
    × (read (types.type_ 0) (word key.KwRef ∷ letter 114 ∷ word key.KwStruct ∷ letter 115 ∷ [])
    ≡ Tree (tree.typed (type_form.Ref (record { constant = false; region = region.Named (114 ∷ []); area = tree.area (area_form.Struct (115 ∷ [])) (from 2 4) })) (from 0 4)))

-- ix ( 5 ), uint8_t, b
abbrev pub StoredTypes : Type 0
StoredTypes =
    (read (types.type_ 1) (word key.KwIx ∷ sign mark.OpenParen ∷ number 5 ∷ sign mark.CloseParen ∷ []) ≡ Tree (tree.typed (type_form.Ix 5) (from 0 4)))
    × (read (types.type_ 0) (word key.KwUint8t ∷ []) ≡ Tree (tree.typed (type_form.Int int.U8) (from 0 1)))
    × (read (types.type_ 0) (letter 98 ∷ []) ≡ Tree (tree.typed (type_form.Bits (98 ∷ [])) (from 0 1)))

-- [ 3 ] [ 4 ] bool
abbrev pub ArraysOfArrays : Type 0
ArraysOfArrays =
    read (types.area 2) (sign mark.OpenBracket ∷ number 3 ∷ sign mark.CloseBracket ∷ sign mark.OpenBracket ∷ number 4 ∷ sign mark.CloseBracket ∷ word key.KwBool ∷ [])
    ≡ Tree (tree.area (area_form.Array 3 (tree.area (area_form.Array 4 (stored_truth 6)) (from 3 7))) (from 0 7))

-- the first `[` is open as far as the end
abbrev pub ElementsNest : Type 0
ElementsNest =
    read (types.area 1) (sign mark.OpenBracket ∷ number 3 ∷ sign mark.CloseBracket ∷ sign mark.OpenBracket ∷ number 4 ∷ sign mark.CloseBracket ∷ word key.KwBool ∷ []) ≡ DeepToken 3

-- ---- initializers

-- { 1 , { } }
abbrev pub InitsInBraces : Type 0
InitsInBraces =
    read (inits.init 2) (sign mark.OpenBrace ∷ number 1 ∷ sign mark.Comma ∷ sign mark.OpenBrace ∷ sign mark.CloseBrace ∷ sign mark.CloseBrace ∷ [])
    ≡ Tree (init_form.Many (init_form.One (expression.literal (pos 1) (from 1 2)) ∷ init_form.Many [] (from 3 5) ∷ []) (from 0 6))

-- ---- statements

abbrev statement : ℕ → List TokenKind → Answer Stmt
statement k ks = read (statements.statement k) ks

-- let x = f ( a ) ; and let x = f ;
abbrev pub Lets : Type 0
Lets =
    (statement 1 (word key.KwLet ∷ letter 120 ∷ sign mark.Assign ∷ letter 102 ∷ sign mark.OpenParen ∷ letter 97 ∷ sign mark.CloseParen ∷ sign mark.Semicolon ∷ [])
    ≡ Tree (tree.statement (form.LetCall (named 120 1) (record { name = named 102 3; args = variable 97 5 ∷ []; span = from 3 7 })) (from 0 8)))
    × (statement 0 (word key.KwLet ∷ letter 120 ∷ sign mark.Assign ∷ letter 102 ∷ sign mark.Semicolon ∷ []) ≡ Tree (tree.statement (form.Let (named 120 1) (variable 102 3)) (from 0 5)))

-- alloc x : bool = a ;
abbrev pub Alloc : Type 0
Alloc =
    statement 0 (word key.KwAlloc ∷ letter 120 ∷ sign mark.Colon ∷ word key.KwBool ∷ sign mark.Assign ∷ letter 97 ∷ sign mark.Semicolon ∷ [])
    ≡ Tree (tree.statement (form.Alloc (named 120 1) (stored_truth 3) (Some (init_form.One (variable 97 5)))) (from 0 7))

-- * a = b ; nests nothing
abbrev pub StoreIsFlat : Type 0
StoreIsFlat =
    statement 0 (sign mark.Star ∷ letter 97 ∷ sign mark.Assign ∷ letter 98 ∷ sign mark.Semicolon ∷ []) ≡ Tree (tree.statement (form.Store (variable 97 1) (variable 98 3)) (from 0 5))

-- copy a , b ; and f ( ) ;
abbrev pub CopyAndCall : Type 0
CopyAndCall =
    (statement 0 (word key.KwCopy ∷ letter 97 ∷ sign mark.Comma ∷ letter 98 ∷ sign mark.Semicolon ∷ []) ≡ Tree (tree.statement (form.Copy (variable 97 1) (variable 98 3)) (from 0 5)))
    × (statement 1 (letter 102 ∷ sign mark.OpenParen ∷ sign mark.CloseParen ∷ sign mark.Semicolon ∷ []) ≡ Tree (tree.statement (form.Call (record { name = named 102 0; args = []; span = from 0 3 })) (from 0 4)))

-- return ; and return a ; and break ; and assert ( a ) ;
abbrev pub Simple : Type 0
Simple =
    (statement 0 (word key.KwReturn ∷ sign mark.Semicolon ∷ []) ≡ Tree (tree.statement (form.Return None) (from 0 2)))
    × (statement 0 (word key.KwReturn ∷ letter 97 ∷ sign mark.Semicolon ∷ []) ≡ Tree (tree.statement (form.Return (Some (variable 97 1))) (from 0 3)))
    × (statement 0 (word key.KwBreak ∷ sign mark.Semicolon ∷ []) ≡ Tree (tree.statement form.Break (from 0 2)))
    × (statement 1 (word key.KwAssert ∷ sign mark.OpenParen ∷ letter 97 ∷ sign mark.CloseParen ∷ sign mark.Semicolon ∷ []) ≡ Tree (tree.statement (form.Assert (variable 97 2)) (from 0 5)))

-- a keyword and an empty block
abbrev narrowed : Key → (Block → StmtKind) → Type 0
narrowed k make = statement 1 (word k ∷ sign mark.OpenBrace ∷ sign mark.CloseBrace ∷ []) ≡ Tree (tree.statement (make (empty_block 1)) (from 0 3))

abbrev pub Narrowed : Type 0
Narrowed = narrowed key.KwForever form.Forever × narrowed key.KwNoalloc form.NoAlloc × narrowed key.KwNobreak form.NoBreak × narrowed key.KwNoreturn form.NoReturn

-- map i : ix ( 3 ) { }
abbrev pub Maps : Type 0
Maps =
    statement 1 (word key.KwMap ∷ letter 105 ∷ sign mark.Colon ∷ word key.KwIx ∷ sign mark.OpenParen ∷ number 3 ∷ sign mark.CloseParen ∷ sign mark.OpenBrace ∷ sign mark.CloseBrace ∷ [])
    ≡ Tree (tree.statement (form.Map (named 105 1) 3 (empty_block 7)) (from 0 9))

-- a keyword, i : ix ( 3 ), a keyword, a { }
abbrev bounded : Key → Key → (Name → ℕ → Expr → Block → StmtKind) → Type 0
bounded head bound make =
    statement 1 (word head ∷ letter 105 ∷ sign mark.Colon ∷ word key.KwIx ∷ sign mark.OpenParen ∷ number 3 ∷ sign mark.CloseParen ∷ word bound ∷ letter 97 ∷ sign mark.OpenBrace
    ∷ sign mark.CloseBrace ∷ [])
    ≡ Tree (tree.statement (make (named 105 1) 3 (variable 97 8) (empty_block 9)) (from 0 11))

abbrev pub Loops : Type 0
Loops = bounded key.KwUpto key.KwLast form.Upto × bounded key.KwDownto key.KwFirst form.Downto

-- if a { } else if b { }
abbrev else_if : List TokenKind
else_if =
    word key.KwIf ∷ letter 97 ∷ sign mark.OpenBrace ∷ sign mark.CloseBrace ∷ word key.KwElse ∷ word key.KwIf ∷ letter 98 ∷ sign mark.OpenBrace ∷ sign mark.CloseBrace ∷ []

-- its block is the second `if`, with its place
abbrev pub ElseIfIsBlock : Type 0
ElseIfIsBlock =
    statement 2 else_if
    ≡ Tree (tree.statement (form.If (variable 97 1) (empty_block 2) (Some (tree.block (tree.statement (form.If (variable 98 6) (empty_block 7) None) (from 5 9) ∷ []) (from 5 9)))) (from 0 9))

-- which nests its own block
abbrev pub ElseIfNests : Type 0
ElseIfNests = statement 1 else_if ≡ DeepToken 7

-- { break ; break ; }
abbrev pub BlockOfTwo : Type 0
BlockOfTwo =
    read (statements.block 1) (sign mark.OpenBrace ∷ word key.KwBreak ∷ sign mark.Semicolon ∷ word key.KwBreak ∷ sign mark.Semicolon ∷ sign mark.CloseBrace ∷ [])
    ≡ Tree (tree.block (tree.statement form.Break (from 1 3) ∷ tree.statement form.Break (from 3 5) ∷ []) (from 0 6))

-- ---- items

-- of a letter, `(` and `)`
abbrev header : ℕ → ℕ → Header
header c n = record { name = named c n; params = []; result = None; span = from n (n + 3) }

abbrev item : ℕ → List TokenKind → Answer Item
item k ks = read (items.item k) ks

-- bitdata b : uint8_t { f : bool , g : 7 }
abbrev pub BitData : Type 0
BitData =
    item 1 (word key.KwBitdata ∷ letter 98 ∷ sign mark.Colon ∷ word key.KwUint8t ∷ sign mark.OpenBrace ∷ letter 102 ∷ sign mark.Colon ∷ word key.KwBool ∷ sign mark.Comma ∷ letter 103
    ∷ sign mark.Colon ∷ number 7 ∷ sign mark.CloseBrace ∷ [])
    ≡ Tree (item_form.Bits (record {
      name = named 98 1;
      word = int.U8;
      fields = record { name = named 102 5; width = 1; truth = true; span = from 5 8 } ∷ record { name = named 103 9; width = 7; truth = false; span = from 9 12 } ∷ [];
      span = from 0 13;
    }))

-- struct s { f : bool ; }
abbrev pub Struct : Type 0
Struct =
    item 1 (word key.KwStruct ∷ letter 115 ∷ sign mark.OpenBrace ∷ letter 102 ∷ sign mark.Colon ∷ word key.KwBool ∷ sign mark.Semicolon ∷ sign mark.CloseBrace ∷ [])
    ≡ Tree (item_form.Struct (record { name = named 115 1; fields = record { name = named 102 3; area = stored_truth 5; span = from 3 7 } ∷ []; span = from 0 8 }))

-- struct s { }
abbrev pub StructsHaveFields : Type 0
StructsHaveFields = item 1 (word key.KwStruct ∷ letter 115 ∷ sign mark.OpenBrace ∷ sign mark.CloseBrace ∷ []) ≡ UnexpectedToken 3

-- const area x : bool ; and area x : bool = a ;
abbrev pub Areas : Type 0
Areas =
    (item 0 (word key.KwConst ∷ word key.KwArea ∷ letter 120 ∷ sign mark.Colon ∷ word key.KwBool ∷ sign mark.Semicolon ∷ [])
    ≡ Tree (item_form.Area (record { name = named 120 2; constant = true; area = stored_truth 4; init = None; span = from 0 6 })))
    × (item 0 (word key.KwArea ∷ letter 120 ∷ sign mark.Colon ∷ word key.KwBool ∷ sign mark.Assign ∷ letter 97 ∷ sign mark.Semicolon ∷ [])
    ≡ Tree (item_form.Area (record { name = named 120 1; constant = false; area = stored_truth 3; init = Some (init_form.One (variable 97 5)); span = from 0 7 })))

-- import f ( a : bool ) -> bool ; has a header with its place
abbrev pub ImportPlace : Type 0
ImportPlace =
    item 1 (word key.KwImport ∷ letter 102 ∷ sign mark.OpenParen ∷ letter 97 ∷ sign mark.Colon ∷ word key.KwBool ∷ sign mark.CloseParen ∷ sign mark.Arrow ∷ word key.KwBool ∷ sign mark.Semicolon ∷ [])
    ≡ Tree (item_form.Import (record { name = named 102 1; params = record { name = named 97 3; ty = truth 5; span = from 3 6 } ∷ []; result = Some (truth 8); span = from 0 10 }))

-- export proc f ( ) requires ( a ) ensures ( b ) { } has a header that ends with the `)`
abbrev pub Procedure : Type 0
Procedure =
    item 1 (word key.KwExport ∷ word key.KwProc ∷ letter 102 ∷ sign mark.OpenParen ∷ sign mark.CloseParen ∷ word key.KwRequires ∷ sign mark.OpenParen ∷ letter 97 ∷ sign mark.CloseParen
    ∷ word key.KwEnsures ∷ sign mark.OpenParen ∷ letter 98 ∷ sign mark.CloseParen ∷ sign mark.OpenBrace ∷ sign mark.CloseBrace ∷ [])
    ≡ Tree (item_form.Proc (record {
      exported = true;
      header = header 102 2;
      contracts = record { before = true; cond = variable 97 7; span = from 5 9 } ∷ record { before = false; cond = variable 98 11; span = from 9 13 } ∷ [];
      body = empty_block 13;
      span = from 0 15;
    }))

-- ---- modules

-- module m ; import f ( ) ; proc g ( ) { }
abbrev pub Items : Type 0
Items =
    parse 1 (side_by_side 0 (word key.KwModule ∷ letter 109 ∷ sign mark.Semicolon ∷ word key.KwImport ∷ letter 102 ∷ sign mark.OpenParen ∷ sign mark.CloseParen ∷ sign mark.Semicolon ∷ word key.KwProc
    ∷ letter 103 ∷ sign mark.OpenParen ∷ sign mark.CloseParen ∷ sign mark.OpenBrace ∷ sign mark.CloseBrace ∷ []))
    ≡ Tree (record {
      name = named 109 1;
      items = item_form.Import (record { name = named 102 4; params = []; result = None; span = from 3 8 })
          ∷ item_form.Proc (record { exported = false; header = header 103 9; contracts = []; body = empty_block 12; span = from 8 14 }) ∷ [];
      span = from 0 14;
    })

-- an item that is none, and a text that ends early
abbrev pub Faults : Type 0
Faults =
    (parse 1 (side_by_side 0 (word key.KwModule ∷ letter 109 ∷ sign mark.Semicolon ∷ sign mark.Semicolon ∷ [])) ≡ UnexpectedToken 3)
    × (parse 1 (side_by_side 0 (word key.KwModule ∷ letter 109 ∷ [])) ≡ UnexpectedToken 2)
