-- The trees above expressions, built from their parts and their places.
use Rattle.std.specs.Prelude.{ℕ, Bool, List, [], ◌∷◌, Option}
use Rattle.iv_words.specs.declared.Span.{Span}
use Rattle.iv_words.specs.declared.Name.{Name}
use Rattle.iv_words.specs.declared.IntKind.{IntKind}
use Rattle.ivory_tree.specs.declared.RegionText.{RegionText}
use Rattle.ivory_tree.specs.declared.TypeText.{TypeText}
use Rattle.ivory_tree.specs.declared.TypeKind.{TypeKind}
use Rattle.ivory_tree.specs.declared.TypeKind.TheVariants as type_form
use Rattle.ivory_tree.specs.declared.AreaText.{AreaText}
use Rattle.ivory_tree.specs.declared.AreaKind.{AreaKind}
use Rattle.ivory_tree.specs.declared.AreaKind.TheVariants as area_form
use Rattle.ivory_tree.specs.declared.Expr.{Expr}
use Rattle.ivory_tree.specs.declared.InitText.{InitText}
use Rattle.ivory_tree.specs.declared.InitText.TheVariants as init_form
use Rattle.ivory_tree.specs.declared.CallText.{CallText}
use Rattle.ivory_tree.specs.declared.Stmt.{Stmt}
use Rattle.ivory_tree.specs.declared.StmtKind.{StmtKind}
use Rattle.ivory_tree.specs.declared.Block.{Block, roll-Block}
use Rattle.ivory_tree.specs.declared.BitField.{BitField}
use Rattle.ivory_tree.specs.declared.AreaField.{AreaField}
use Rattle.ivory_tree.specs.declared.Param.{Param}
use Rattle.ivory_tree.specs.declared.Header.{Header}
use Rattle.ivory_tree.specs.declared.Contract.{Contract}
use Rattle.ivory_tree.specs.declared.Item.{Item}
use Rattle.ivory_tree.specs.declared.Item.TheVariants as item_form
use Rattle.ivory_tree.specs.declared.Module.{Module}

-- ---- types and areas

abbrev pub typed : TypeKind → Span → TypeText
typed kind s = record { kind = kind; span = s }

abbrev pub reference : Bool → RegionText → AreaText → TypeKind
reference constant region area = type_form.Ref (record { constant = constant; region = region; area = area })

abbrev pub area : AreaKind → Span → AreaText
area kind s = record { kind = kind; span = s }

-- with the place of its type
abbrev pub stored : TypeKind → Span → AreaText
stored kind s = area (area_form.Stored (typed kind s)) s

-- ---- initializers and calls

abbrev pub braced : List InitText → Span → InitText
braced inits s = init_form.Many inits s

abbrev pub call : Name → List Expr → Span → CallText
call name args s = record { name = name; args = args; span = s }

-- ---- statements

abbrev pub statement : StmtKind → Span → Stmt
statement kind s = record { kind = kind; span = s }

abbrev pub block : List Stmt → Span → Block
block stmts s = roll-Block (record { stmts = stmts; span = s })

-- the block of an `else if`: that one statement, with its place
abbrev pub only : StmtKind → Span → Block
only kind s = block (statement kind s ∷ []) s

-- ---- items

abbrev pub bit_field : Name → ℕ × Bool → Span → BitField
bit_field name width s = record { name = name; width = width.0; truth = width.1; span = s }

abbrev pub bits : Name → IntKind → List BitField → Span → Item
bits name word fields s = item_form.Bits (record { name = name; word = word; fields = fields; span = s })

abbrev pub struct_field : Name → AreaText → Span → AreaField
struct_field name area s = record { name = name; area = area; span = s }

abbrev pub structure : Name → List AreaField → Span → Item
structure name fields s = item_form.Struct (record { name = name; fields = fields; span = s })

abbrev pub global : Bool → Name → AreaText → Option InitText → Span → Item
global constant name area init s = item_form.Area (record { name = name; constant = constant; area = area; init = init; span = s })

abbrev pub parameter : Name → TypeText → Span → Param
parameter name ty s = record { name = name; ty = ty; span = s }

abbrev pub header : Name → List Param → Option TypeText → Span → Header
header name params result s = record { name = name; params = params; result = result; span = s }

-- the header of an import has the place of its item
abbrev pub import : Header → Span → Item
import h s = item_form.Import (header h.name h.params h.result s)

abbrev pub contract : Bool → Expr → Span → Contract
contract before cond s = record { before = before; cond = cond; span = s }

abbrev pub procedure : Bool → Header → List Contract → Block → Span → Item
procedure exported h contracts body s = item_form.Proc (record { exported = exported; header = h; contracts = contracts; body = body; span = s })

abbrev pub module_of : Name → List Item → Span → Module
module_of name items s = record { name = name; items = items; span = s }
