-- Short words for the trees of small examples, each with its place.
use Rattle.std.specs.Prelude.{ℕ, Bool, false, List, [], Option, pos, codes}
use Rattle.iv_words.specs.declared.IntKind.TheVariants.{U8}
use Rattle.iv_words.specs.declared.Name.{Name}
use Rattle.iv_words.specs.declared.Span.{Span}
use Rattle.ivory_tree.specs.Syntax.{Word, TypeSyntax, IntType, RefType, AreaSyntax, StoredArea, ExprSyntax, Literal, Variable, CallSyntax, StmtSyntax, BlockSyntax, Braces, ParamSyntax, HeaderSyntax, ItemSyntax, Procedure, ModuleSyntax}
use Rattle.ivory_tree.specs.View.{stmts_from}
use Rattle.ivory_tree.specs.declared.types.RegionText.TheVariants as region

abbrev pub span : ℕ → ℕ → Span
span start end = record { start = start; end = end }

abbrev pub name : Word → (start end : ℕ) → Name
name text start end = record { text = text; span = span start end }

-- `uint8_t`, as a type and as an area
abbrev pub byte : (start end : ℕ) → TypeSyntax
byte start end = IntType (span start end) U8

abbrev pub cell : (start end : ℕ) → AreaSyntax
cell start end = StoredArea (span start end) (byte start end)

-- `ref r uint8_t`
abbrev pub byte_in_r : (start end at : ℕ) → TypeSyntax
byte_in_r start end at = RefType (span start end) false (region.Named (codes "r")) (cell at end)

abbrev pub variable : Word → (start end : ℕ) → ExprSyntax
variable text start end = Variable (span start end) text

abbrev pub number : (value start end : ℕ) → ExprSyntax
number value start end = Literal (span start end) (pos value)

abbrev pub block : (start end : ℕ) → List StmtSyntax → BlockSyntax
block start end stmts = Braces (span start end) (stmts_from stmts)

abbrev pub param : Name → TypeSyntax → (start end : ℕ) → ParamSyntax
param name ty start end = record { name = name; ty = ty; span = span start end }

abbrev pub call : Name → List ExprSyntax → (start end : ℕ) → CallSyntax
call name args start end = record { name = name; args = args; span = span start end }

abbrev pub header : Name → List ParamSyntax → Option TypeSyntax → (start end : ℕ) → HeaderSyntax
header name params result start end = record { name = name; params = params; result = result; span = span start end }

-- a procedure without contracts
abbrev pub procedure : (exported : Bool) → HeaderSyntax → BlockSyntax → (start end : ℕ) → ItemSyntax
procedure exported header body start end = Procedure (record { exported = exported; header = header; contracts = []; body = body; span = span start end })

-- the module `m` of these items
abbrev pub module_m : List ItemSyntax → (end : ℕ) → ModuleSyntax
module_m items end = record { name = name (codes "m") 7 8; items = items; span = span 0 end }
