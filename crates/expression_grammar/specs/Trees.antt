-- The trees of expressions, built from their parts.
use Rattle.std.specs.Prelude.{ℕ, ℤ, Bool, List, [], ◌∷◌, Option, Some, None}
use Rattle.iv_words.specs.declared.Span.{Span}
use Rattle.iv_words.specs.declared.Name.{Name}
use Rattle.iv_words.specs.declared.IntKind.{IntKind}
use Rattle.ivory_tree.specs.Syntax.{Word}
use Rattle.ivory_tree.specs.declared.PrefixOp.{PrefixOp}
use Rattle.ivory_tree.specs.declared.BinOp.{BinOp}
use Rattle.ivory_tree.specs.declared.Expr.{Expr}
use Rattle.ivory_tree.specs.declared.ExprKind.{ExprKind}
use Rattle.ivory_tree.specs.declared.ExprKind.TheVariants as form
use Rattle.ivory_tree.specs.declared.Link.{Link}
use Rattle.ivory_tree.specs.declared.Step.{Step}
use Rattle.ivory_tree.specs.declared.Step.TheVariants as part

abbrev pub node : ExprKind → Span → Expr
node kind s = record { kind = kind; span = s }

abbrev pub literal : ℤ → Span → Expr
literal value s = node (form.Lit value) s

abbrev pub truth : Bool → Span → Expr
truth value s = node (form.Truth value) s

abbrev pub outcome : Span → Expr
outcome s = node form.Outcome s

abbrev pub variable : Word → Span → Expr
variable name s = node (form.Var name) s

abbrev pub cast : IntKind → Expr → Span → Expr
cast kind x s = node (form.Cast kind x) s

abbrev pub to_index : ℕ → Expr → Span → Expr
to_index length x s = node (form.ToIx length x) s

abbrev pub wrap_index : ℕ → Expr → Span → Expr
wrap_index length x s = node (form.WrapIx length x) s

abbrev pub make_bits : Word → Expr → Span → Expr
make_bits name x s = node (form.MakeBits name x) s

abbrev pub raw : Expr → Span → Expr
raw x s = node (form.Raw x) s

abbrev pub set_field : Expr → Name → Expr → Span → Expr
set_field x field value s = node (form.Set x field value) s

abbrev pub prefixed_by : PrefixOp → Expr → Span → Expr
prefixed_by op x s = node (form.Prefix op x) s

abbrev pub link : BinOp × Span → Expr → Link
link o right = record { op = o.0; at = o.1; right = right }

abbrev pub index : Expr → Span → Step
index x brackets = part.Index x brackets

abbrev pub field : Name → Step
field name = part.Field name

-- an operand with nothing behind it stays itself

abbrev pub with_steps : Expr → List Step → Span → Expr
with_steps x [] s = x
with_steps x (t ∷ ts) s = node (form.Postfix x (t ∷ ts)) s

abbrev pub with_links : Expr → List Link → Span → Expr
with_links x [] s = x
with_links x (l ∷ ls) s = node (form.Chain x (l ∷ ls)) s

abbrev pub with_arms : Expr → Option (Expr × Expr) → Span → Expr
with_arms x None s = x
with_arms x (Some arms) s = node (form.Cond x arms.0 arms.1) s
