-- A tree stands in the abstract syntax at its own place.
use Rattle.std.specs.Prelude.{◌≡◌}
use Rattle.ivory_tree.specs.Places.{type_span, area_span, expr_span, stmt_span, block_span}
use Rattle.ivory_tree.specs.View.{type_of, area_of, expr_of, stmt_of, block_of}
use Rattle.ivory_tree.specs.declared.types.TypeText.{TypeText}
use Rattle.ivory_tree.specs.declared.types.AreaText.{AreaText}
use Rattle.ivory_tree.specs.declared.expr.Expr.{Expr}
use Rattle.ivory_tree.specs.declared.stmt.Stmt.{Stmt}
use Rattle.ivory_tree.specs.declared.stmt.Block.{Block, out-Block}

abbrev pub TypesStay : Type 0
TypesStay = (t : TypeText) → type_span (type_of t) ≡ t.span

abbrev pub AreasStay : Type 0
AreasStay = (a : AreaText) → area_span (area_of a) ≡ a.span

abbrev pub ExprsStay : Type 0
ExprsStay = (e : Expr) → expr_span (expr_of e) ≡ e.span

abbrev pub StmtsStay : Type 0
StmtsStay = (s : Stmt) → stmt_span (stmt_of s) ≡ s.span

abbrev pub BlocksStay : Type 0
BlocksStay = (b : Block) → block_span (block_of b) ≡ (out-Block b).span
