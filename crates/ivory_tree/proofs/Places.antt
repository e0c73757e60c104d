-- A tree stands in the abstract syntax at its own place.
use Rattle.std.proofs.Common.{◌≡◌, List, [], ◌∷◌, ap, refl, ◌∙◌}
use Rattle.std.specs.Prelude.{Option, Some, None}
use Rattle.iv_words.specs.declared.Span.{Span}
use Rattle.ivory_tree.specs.Syntax as syntax
use Rattle.ivory_tree.specs.Syntax.{TypeSyntax, AreaSyntax, ExprSyntax, StmtSyntax, BlockSyntax}
use Rattle.ivory_tree.specs.Places.{type_span, area_span, expr_span, stmt_span, block_span}
use Rattle.ivory_tree.specs.View.{RefSyntax, type_step, area_step, type_kind_of, area_kind_of, ref_of, type_of, area_of, LinkSyntax, StepSyntax, FieldStep, IndexStep, prefix_span, linked, chain_from, step_span, part_of, stepped, postfix_from, expr_step, step_step, expr_kind_of, expr_of, link_of, step_of, stmts_from, if_from, stmt_step, stmt_kind_of, stmt_of, block_of}
use Rattle.ivory_tree.specs.declared.types.TypeText.{TypeText, fold_out-TypeText}
use Rattle.ivory_tree.specs.declared.types.TypeKind.{TypeKind, map-TypeKind, out-TypeKind, fold_out-TypeKind}
use Rattle.ivory_tree.specs.declared.types.AreaKind.TheOpen.{TypeKind-F, AreaKind-F}
use Rattle.ivory_tree.specs.declared.types.RefText.{RefText}
use Rattle.ivory_tree.specs.declared.types.AreaText.{AreaText, fold_out-AreaText}
use Rattle.ivory_tree.specs.declared.types.AreaKind.{AreaKind, map-AreaKind, out-AreaKind, fold_out-AreaKind}
use Rattle.ivory_tree.specs.declared.expr.Expr.{Expr, fold_out-Expr}
use Rattle.ivory_tree.specs.declared.expr.ExprKind.{ExprKind, map-ExprKind, out-ExprKind, fold_out-ExprKind}
use Rattle.ivory_tree.specs.declared.expr.ExprKind.TheOpen.{ExprKind-F}
use Rattle.ivory_tree.specs.declared.expr.Link.{Link}
use Rattle.ivory_tree.specs.declared.expr.Step.{Step}
use Rattle.ivory_tree.specs.declared.stmt.Stmt.{Stmt, fold_out-Stmt}
use Rattle.ivory_tree.specs.declared.stmt.Block.{Block, out-Block, fold_out-Block}
use Rattle.ivory_tree.specs.declared.stmt.StmtKind.{StmtKind, map-StmtKind, out-StmtKind, fold_out-StmtKind}
use Rattle.ivory_tree.specs.declared.stmt.StmtKind.TheOpen.{StmtKind-F}

-- types and areas

type_form : (z : TypeKind-F (Span → AreaSyntax) (Span → TypeSyntax) AreaSyntax RefSyntax TypeSyntax) (s : Span) → type_span (type_step z s) ≡ s
type_form TypeKind-F.Bool s = refl
type_form (TypeKind-F.Int kind) s = refl
type_form (TypeKind-F.Ix length) s = refl
type_form (TypeKind-F.Bits name) s = refl
type_form (TypeKind-F.Ref r) s = refl

area_form : (z : AreaKind-F (Span → AreaSyntax) (Span → TypeSyntax) AreaSyntax RefSyntax TypeSyntax) (s : Span) → area_span (area_step z s) ≡ s
area_form (AreaKind-F.Stored ty) s = refl
area_form (AreaKind-F.Array length element) s = refl
area_form (AreaKind-F.Struct name) s = refl

pub type_place : (t : TypeText) → type_span (type_of t) ≡ t.span
type_place t =
    ap type_span (fold_out-TypeText (Span → AreaSyntax) (Span → TypeSyntax) AreaSyntax RefSyntax TypeSyntax area_step type_step (λ a. a.kind a.span) (λ r. record { constant = r.constant; region = r.region; area = r.area }) (λ t. t.kind t.span) t)
    ∙ ap (λ (f : Span → TypeSyntax). type_span (f t.span)) (fold_out-TypeKind (Span → AreaSyntax) (Span → TypeSyntax) AreaSyntax RefSyntax TypeSyntax area_step type_step (λ a. a.kind a.span) (λ r. record { constant = r.constant; region = r.region; area = r.area }) (λ t. t.kind t.span) t.kind)
    ∙ type_form (map-TypeKind AreaKind TypeKind AreaText RefText TypeText (Span → AreaSyntax) (Span → TypeSyntax) AreaSyntax RefSyntax TypeSyntax area_kind_of type_kind_of area_of ref_of type_of (out-TypeKind t.kind)) t.span

pub area_place : (a : AreaText) → area_span (area_of a) ≡ a.span
area_place a =
    ap area_span (fold_out-AreaText (Span → AreaSyntax) (Span → TypeSyntax) AreaSyntax RefSyntax TypeSyntax area_step type_step (λ a. a.kind a.span) (λ r. record { constant = r.constant; region = r.region; area = r.area }) (λ t. t.kind t.span) a)
    ∙ ap (λ (f : Span → AreaSyntax). area_span (f a.span)) (fold_out-AreaKind (Span → AreaSyntax) (Span → TypeSyntax) AreaSyntax RefSyntax TypeSyntax area_step type_step (λ a. a.kind a.span) (λ r. record { constant = r.constant; region = r.region; area = r.area }) (λ t. t.kind t.span) a.kind)
    ∙ area_form (map-AreaKind AreaKind TypeKind AreaText RefText TypeText (Span → AreaSyntax) (Span → TypeSyntax) AreaSyntax RefSyntax TypeSyntax area_kind_of type_kind_of area_of ref_of type_of (out-AreaKind a.kind)) a.span

-- expressions; the last link of a chain and the last step of a postfix stand at the place of the whole

linked_place : (s : Span) (left : ExprSyntax) (l : LinkSyntax) (ls : List LinkSyntax) → expr_span (linked s left (l ∷ ls)) ≡ s
linked_place s left l [] = refl
linked_place s left l (m ∷ ls) = linked_place s (syntax.Binary (prefix_span s (expr_span l.right) (m ∷ ls)) l.op l.at left l.right) m ls

part_place : (s : Span) (base : ExprSyntax) (t : StepSyntax) → expr_span (part_of s base t) ≡ s
part_place s base (FieldStep field) = refl
part_place s base (IndexStep index brackets) = refl

stepped_place : (s : Span) (base : ExprSyntax) (t : StepSyntax) (ts : List StepSyntax) → expr_span (stepped s base (t ∷ ts)) ≡ s
stepped_place s base t [] = part_place s base t
stepped_place s base t (u ∷ ts) = stepped_place s (part_of (prefix_span s (step_span t) (u ∷ ts)) base t) u ts

chain_place : (s : Span) (first : ExprSyntax) (links : List LinkSyntax) → expr_span (chain_from s first links) ≡ s
chain_place s first [] = refl
chain_place s first (l ∷ ls) = linked_place s first l ls

postfix_place : (s : Span) (base : ExprSyntax) (steps : List StepSyntax) → expr_span (postfix_from s base steps) ≡ s
postfix_place s base [] = refl
postfix_place s base (t ∷ ts) = stepped_place s base t ts

expr_form : (z : ExprKind-F (Span → ExprSyntax) StepSyntax ExprSyntax LinkSyntax) (s : Span) → expr_span (expr_step z s) ≡ s
expr_form (ExprKind-F.Lit value) s = refl
expr_form (ExprKind-F.Truth value) s = refl
expr_form ExprKind-F.Outcome s = refl
expr_form (ExprKind-F.Var name) s = refl
expr_form (ExprKind-F.Cast kind e) s = refl
expr_form (ExprKind-F.ToIx length e) s = refl
expr_form (ExprKind-F.WrapIx length e) s = refl
expr_form (ExprKind-F.MakeBits name e) s = refl
expr_form (ExprKind-F.Raw e) s = refl
expr_form (ExprKind-F.Set e field value) s = refl
expr_form (ExprKind-F.Prefix op e) s = refl
expr_form (ExprKind-F.Chain first links) s = chain_place s first links
expr_form (ExprKind-F.Postfix base steps) s = postfix_place s base steps
expr_form (ExprKind-F.Cond test first second) s = refl

pub expr_place : (e : Expr) → expr_span (expr_of e) ≡ e.span
expr_place e =
    ap expr_span (fold_out-Expr (Span → ExprSyntax) StepSyntax ExprSyntax LinkSyntax expr_step step_step (λ e. e.kind e.span) (λ l. record { op = l.op; at = l.at; right = l.right }) e)
    ∙ ap (λ (f : Span → ExprSyntax). expr_span (f e.span)) (fold_out-ExprKind (Span → ExprSyntax) StepSyntax ExprSyntax LinkSyntax expr_step step_step (λ e. e.kind e.span) (λ l. record { op = l.op; at = l.at; right = l.right }) e.kind)
    ∙ expr_form (map-ExprKind ExprKind Step Expr Link (Span → ExprSyntax) StepSyntax ExprSyntax LinkSyntax expr_kind_of step_of expr_of link_of (out-ExprKind e.kind)) e.span

-- statements and blocks

if_place : (s : Span) (test : ExprSyntax) (first : BlockSyntax) (second : Option BlockSyntax) → stmt_span (if_from s test first second) ≡ s
if_place s test first None = refl
if_place s test first (Some second) = refl

stmt_form : (z : StmtKind-F (Span → StmtSyntax) BlockSyntax StmtSyntax) (s : Span) → stmt_span (stmt_step z s) ≡ s
stmt_form (StmtKind-F.Let name value) s = refl
stmt_form (StmtKind-F.LetCall name call) s = refl
stmt_form (StmtKind-F.Alloc name area init) s = refl
stmt_form (StmtKind-F.Store target value) s = refl
stmt_form (StmtKind-F.Copy target source) s = refl
stmt_form (StmtKind-F.Call call) s = refl
stmt_form (StmtKind-F.If test first second) s = if_place s (expr_of test) first second
stmt_form (StmtKind-F.Map name length body) s = refl
stmt_form (StmtKind-F.Upto name length last body) s = refl
stmt_form (StmtKind-F.Downto name length first body) s = refl
stmt_form (StmtKind-F.Forever body) s = refl
stmt_form StmtKind-F.Break s = refl
stmt_form (StmtKind-F.Return value) s = refl
stmt_form (StmtKind-F.Assert cond) s = refl
stmt_form (StmtKind-F.NoAlloc body) s = refl
stmt_form (StmtKind-F.NoBreak body) s = refl
stmt_form (StmtKind-F.NoReturn body) s = refl

pub stmt_place : (s : Stmt) → stmt_span (stmt_of s) ≡ s.span
stmt_place s =
    ap stmt_span (fold_out-Stmt (Span → StmtSyntax) BlockSyntax StmtSyntax stmt_step (λ b. syntax.Braces b.span (stmts_from b.stmts)) (λ s. s.kind s.span) s)
    ∙ ap (λ (f : Span → StmtSyntax). stmt_span (f s.span)) (fold_out-StmtKind (Span → StmtSyntax) BlockSyntax StmtSyntax stmt_step (λ b. syntax.Braces b.span (stmts_from b.stmts)) (λ s. s.kind s.span) s.kind)
    ∙ stmt_form (map-StmtKind StmtKind Block Stmt (Span → StmtSyntax) BlockSyntax StmtSyntax stmt_kind_of block_of stmt_of (out-StmtKind s.kind)) s.span

pub block_place : (b : Block) → block_span (block_of b) ≡ (out-Block b).span
block_place b = ap block_span (fold_out-Block (Span → StmtSyntax) BlockSyntax StmtSyntax stmt_step (λ b. syntax.Braces b.span (stmts_from b.stmts)) (λ s. s.kind s.span) b)

pub ruleset places = (type_place, area_place, expr_place, stmt_place, block_place)
