-- What each form of a tree says in the abstract syntax: one equation for each variant.
use Rattle.std.proofs.Common.{◌≡◌, ℕ, ℤ, Bool, List, map, ap, sym, ◌∙◌}
use Rattle.std.specs.Prelude.{Option, Some, None}
use Rattle.std.specs.Option.{option_map}
use Rattle.iv_words.specs.declared.IntKind.{IntKind}
use Rattle.iv_words.specs.declared.Name.{Name}
use Rattle.iv_words.specs.declared.Span.{Span}
use Rattle.ivory_tree.specs.Syntax as syntax
use Rattle.ivory_tree.specs.Syntax.{Word, TypeSyntax, AreaSyntax, ExprSyntax, InitSyntax, StmtSyntax, BlockSyntax}
use Rattle.ivory_tree.specs.View.{RefSyntax, type_kind_of, area_kind_of, ref_of, type_of, area_of, type_step, area_step, expr_kind_of, expr_of, link_of, step_of, expr_step, step_step, chain_from, postfix_from, LinkSyntax, StepSyntax, FieldStep, IndexStep, init_of, inits_of, init_step, call_of, stmt_kind_of, stmt_of, block_of, stmts_of, stmts_from, stmt_step}
use Rattle.ivory_tree.specs.declared.types.RegionText.{RegionText}
use Rattle.ivory_tree.specs.declared.types.TypeText.{TypeText, fold_out-TypeText}
use Rattle.ivory_tree.specs.declared.types.TypeKind.{TypeKind, fold-roll-TypeKind, roll-TypeKind, map-TypeKind}
use Rattle.ivory_tree.specs.declared.types.AreaKind.TheOpen.{TypeKind-F, AreaKind-F}
use Rattle.ivory_tree.specs.declared.types.TypeKind.TheVariants as type
use Rattle.ivory_tree.specs.declared.types.RefText.{RefText, fold_out-RefText}
use Rattle.ivory_tree.specs.declared.types.AreaText.{AreaText, fold_out-AreaText}
use Rattle.ivory_tree.specs.declared.types.AreaKind.{AreaKind, fold-roll-AreaKind, roll-AreaKind, map-AreaKind}
use Rattle.ivory_tree.specs.declared.types.AreaKind.TheVariants as area
use Rattle.ivory_tree.specs.declared.expr.PrefixOp.{PrefixOp}
use Rattle.ivory_tree.specs.declared.expr.BinOp.{BinOp}
use Rattle.ivory_tree.specs.declared.expr.Expr.{Expr, fold_out-Expr}
use Rattle.ivory_tree.specs.declared.expr.ExprKind.{ExprKind, fold-roll-ExprKind, roll-ExprKind, map-ExprKind}
use Rattle.ivory_tree.specs.declared.expr.ExprKind.TheOpen.{ExprKind-F, Step-F}
use Rattle.ivory_tree.specs.declared.expr.ExprKind.TheVariants as expr
use Rattle.ivory_tree.specs.declared.expr.Link.{Link, fold_out-Link}
use Rattle.ivory_tree.specs.declared.expr.Step.{Step, fold-roll-Step}
use Rattle.ivory_tree.specs.declared.expr.Step.TheVariants as step
use Rattle.ivory_tree.specs.declared.inits.InitText.{InitText}
use Rattle.ivory_tree.specs.declared.inits.InitText.TheOpen.{InitText-F}
use Rattle.ivory_tree.specs.declared.inits.InitText.TheFolds.{fold-roll-InitText}
use Rattle.ivory_tree.specs.declared.inits.InitText.TheVariants as init
use Rattle.ivory_tree.specs.declared.stmt.CallText.{CallText}
use Rattle.ivory_tree.specs.declared.stmt.Stmt.{Stmt, fold_out-Stmt}
use Rattle.ivory_tree.specs.declared.stmt.Block.{Block, roll-Block, fold-roll-Block}
use Rattle.ivory_tree.specs.declared.stmt.StmtKind.{StmtKind, fold-roll-StmtKind, roll-StmtKind, map-StmtKind}
use Rattle.ivory_tree.specs.declared.stmt.StmtKind.TheOpen.{StmtKind-F}
use Rattle.ivory_tree.specs.declared.stmt.StmtKind.TheVariants as stmt

-- types and areas

-- a type of this form at this place
abbrev pub type_at : TypeKind → Span → TypeSyntax
type_at k s = type_of (record { kind = k; span = s })

type_rolled : (z : TypeKind-F AreaKind TypeKind AreaText RefText TypeText) (s : Span) → type_at (roll-TypeKind z) s ≡ type_step (map-TypeKind AreaKind TypeKind AreaText RefText TypeText (Span → AreaSyntax) (Span → TypeSyntax) AreaSyntax RefSyntax TypeSyntax area_kind_of type_kind_of area_of ref_of type_of z) s
type_rolled z s = fold_out-TypeText (Span → AreaSyntax) (Span → TypeSyntax) AreaSyntax RefSyntax TypeSyntax area_step type_step (λ a. a.kind a.span) (λ r. record { constant = r.constant; region = r.region; area = r.area }) (λ t. t.kind t.span) (record { kind = roll-TypeKind z; span = s }) ∙ ap (λ (f : Span → TypeSyntax). f s) (fold-roll-TypeKind (Span → AreaSyntax) (Span → TypeSyntax) AreaSyntax RefSyntax TypeSyntax area_step type_step (λ a. a.kind a.span) (λ r. record { constant = r.constant; region = r.region; area = r.area }) (λ t. t.kind t.span) z)

-- an area of this form at this place
abbrev pub area_at : AreaKind → Span → AreaSyntax
area_at k s = area_of (record { kind = k; span = s })

area_rolled : (z : AreaKind-F AreaKind TypeKind AreaText RefText TypeText) (s : Span) → area_at (roll-AreaKind z) s ≡ area_step (map-AreaKind AreaKind TypeKind AreaText RefText TypeText (Span → AreaSyntax) (Span → TypeSyntax) AreaSyntax RefSyntax TypeSyntax area_kind_of type_kind_of area_of ref_of type_of z) s
area_rolled z s = fold_out-AreaText (Span → AreaSyntax) (Span → TypeSyntax) AreaSyntax RefSyntax TypeSyntax area_step type_step (λ a. a.kind a.span) (λ r. record { constant = r.constant; region = r.region; area = r.area }) (λ t. t.kind t.span) (record { kind = roll-AreaKind z; span = s }) ∙ ap (λ (f : Span → AreaSyntax). f s) (fold-roll-AreaKind (Span → AreaSyntax) (Span → TypeSyntax) AreaSyntax RefSyntax TypeSyntax area_step type_step (λ a. a.kind a.span) (λ r. record { constant = r.constant; region = r.region; area = r.area }) (λ t. t.kind t.span) z)

pub truth_type_is : (s : Span) → type_at type.Bool s ≡ syntax.TruthType s
truth_type_is s = ap (λ k. type_at k s) (sym type.rolls-Bool) ∙ type_rolled TypeKind-F.Bool s

pub int_type_is : (kind : IntKind) (s : Span) → type_at (type.Int kind) s ≡ syntax.IntType s kind
int_type_is kind s = ap (λ k. type_at k s) (sym (type.rolls-Int kind)) ∙ type_rolled (TypeKind-F.Int kind) s

pub index_type_is : (length : ℕ) (s : Span) → type_at (type.Ix length) s ≡ syntax.IndexType s length
index_type_is length s = ap (λ k. type_at k s) (sym (type.rolls-Ix length)) ∙ type_rolled (TypeKind-F.Ix length) s

pub bits_type_is : (name : Word) (s : Span) → type_at (type.Bits name) s ≡ syntax.BitsType s name
bits_type_is name s = ap (λ k. type_at k s) (sym (type.rolls-Bits name)) ∙ type_rolled (TypeKind-F.Bits name) s

pub ref_type_is : (constant : Bool) (region : RegionText) (a : AreaText) (s : Span) → type_at (type.Ref (record { constant = constant; region = region; area = a })) s ≡ syntax.RefType s constant region (area_of a)
ref_type_is constant region a s =
    let r : RefText = record { constant = constant; region = region; area = a } in
    ap (λ k. type_at k s) (sym (type.rolls-Ref r)) ∙ type_rolled (TypeKind-F.Ref r) s ∙ ap (λ (x : RefSyntax). syntax.RefType s x.constant x.region x.area) (fold_out-RefText (Span → AreaSyntax) (Span → TypeSyntax) AreaSyntax RefSyntax TypeSyntax area_step type_step (λ a. a.kind a.span) (λ r. record { constant = r.constant; region = r.region; area = r.area }) (λ t. t.kind t.span) r)

pub stored_area_is : (t : TypeText) (s : Span) → area_at (area.Stored t) s ≡ syntax.StoredArea s (type_of t)
stored_area_is t s = ap (λ k. area_at k s) (sym (area.rolls-Stored t)) ∙ area_rolled (AreaKind-F.Stored t) s

pub array_area_is : (length : ℕ) (element : AreaText) (s : Span) → area_at (area.Array length element) s ≡ syntax.ArrayArea s length (area_of element)
array_area_is length element s = ap (λ k. area_at k s) (sym (area.rolls-Array length element)) ∙ area_rolled (AreaKind-F.Array length element) s

pub struct_area_is : (name : Word) (s : Span) → area_at (area.Struct name) s ≡ syntax.StructArea s name
struct_area_is name s = ap (λ k. area_at k s) (sym (area.rolls-Struct name)) ∙ area_rolled (AreaKind-F.Struct name) s

-- expressions

-- an expression of this form at this place
abbrev pub expr_at : ExprKind → Span → ExprSyntax
expr_at k s = expr_of (record { kind = k; span = s })

expr_rolled : (z : ExprKind-F ExprKind Step Expr Link) (s : Span) → expr_at (roll-ExprKind z) s ≡ expr_step (map-ExprKind ExprKind Step Expr Link (Span → ExprSyntax) StepSyntax ExprSyntax LinkSyntax expr_kind_of step_of expr_of link_of z) s
expr_rolled z s = fold_out-Expr (Span → ExprSyntax) StepSyntax ExprSyntax LinkSyntax expr_step step_step (λ e. e.kind e.span) (λ l. record { op = l.op; at = l.at; right = l.right }) (record { kind = roll-ExprKind z; span = s }) ∙ ap (λ (f : Span → ExprSyntax). f s) (fold-roll-ExprKind (Span → ExprSyntax) StepSyntax ExprSyntax LinkSyntax expr_step step_step (λ e. e.kind e.span) (λ l. record { op = l.op; at = l.at; right = l.right }) z)

pub literal_is : (value : ℤ) (s : Span) → expr_at (expr.Lit value) s ≡ syntax.Literal s value
literal_is value s = ap (λ k. expr_at k s) (sym (expr.rolls-Lit value)) ∙ expr_rolled (ExprKind-F.Lit value) s

pub truth_is : (value : Bool) (s : Span) → expr_at (expr.Truth value) s ≡ syntax.Truth s value
truth_is value s = ap (λ k. expr_at k s) (sym (expr.rolls-Truth value)) ∙ expr_rolled (ExprKind-F.Truth value) s

pub outcome_is : (s : Span) → expr_at expr.Outcome s ≡ syntax.Outcome s
outcome_is s = ap (λ k. expr_at k s) (sym expr.rolls-Outcome) ∙ expr_rolled ExprKind-F.Outcome s

pub variable_is : (name : Word) (s : Span) → expr_at (expr.Var name) s ≡ syntax.Variable s name
variable_is name s = ap (λ k. expr_at k s) (sym (expr.rolls-Var name)) ∙ expr_rolled (ExprKind-F.Var name) s

pub cast_is : (kind : IntKind) (e : Expr) (s : Span) → expr_at (expr.Cast kind e) s ≡ syntax.Cast s kind (expr_of e)
cast_is kind e s = ap (λ k. expr_at k s) (sym (expr.rolls-Cast kind e)) ∙ expr_rolled (ExprKind-F.Cast kind e) s

pub to_index_is : (length : ℕ) (e : Expr) (s : Span) → expr_at (expr.ToIx length e) s ≡ syntax.ToIndex s length (expr_of e)
to_index_is length e s = ap (λ k. expr_at k s) (sym (expr.rolls-ToIx length e)) ∙ expr_rolled (ExprKind-F.ToIx length e) s

pub wrap_index_is : (length : ℕ) (e : Expr) (s : Span) → expr_at (expr.WrapIx length e) s ≡ syntax.WrapIndex s length (expr_of e)
wrap_index_is length e s = ap (λ k. expr_at k s) (sym (expr.rolls-WrapIx length e)) ∙ expr_rolled (ExprKind-F.WrapIx length e) s

pub make_bits_is : (name : Word) (e : Expr) (s : Span) → expr_at (expr.MakeBits name e) s ≡ syntax.MakeBits s name (expr_of e)
make_bits_is name e s = ap (λ k. expr_at k s) (sym (expr.rolls-MakeBits name e)) ∙ expr_rolled (ExprKind-F.MakeBits name e) s

pub raw_is : (e : Expr) (s : Span) → expr_at (expr.Raw e) s ≡ syntax.Raw s (expr_of e)
raw_is e s = ap (λ k. expr_at k s) (sym (expr.rolls-Raw e)) ∙ expr_rolled (ExprKind-F.Raw e) s

pub set_field_is : (e : Expr) (field : Name) (value : Expr) (s : Span) → expr_at (expr.Set e field value) s ≡ syntax.SetField s (expr_of e) field (expr_of value)
set_field_is e field value s = ap (λ k. expr_at k s) (sym (expr.rolls-Set e field value)) ∙ expr_rolled (ExprKind-F.Set e field value) s

pub prefix_is : (op : PrefixOp) (e : Expr) (s : Span) → expr_at (expr.Prefix op e) s ≡ syntax.Prefix s op (expr_of e)
prefix_is op e s = ap (λ k. expr_at k s) (sym (expr.rolls-Prefix op e)) ∙ expr_rolled (ExprKind-F.Prefix op e) s

pub chain_is : (first : Expr) (links : List Link) (s : Span) → expr_at (expr.Chain first links) s ≡ chain_from s (expr_of first) (map link_of links)
chain_is first links s = ap (λ k. expr_at k s) (sym (expr.rolls-Chain first links)) ∙ expr_rolled (ExprKind-F.Chain first links) s

pub postfix_is : (base : Expr) (steps : List Step) (s : Span) → expr_at (expr.Postfix base steps) s ≡ postfix_from s (expr_of base) (map step_of steps)
postfix_is base steps s = ap (λ k. expr_at k s) (sym (expr.rolls-Postfix base steps)) ∙ expr_rolled (ExprKind-F.Postfix base steps) s

pub cond_is : (test first second : Expr) (s : Span) → expr_at (expr.Cond test first second) s ≡ syntax.Cond s (expr_of test) (expr_of first) (expr_of second)
cond_is test first second s = ap (λ k. expr_at k s) (sym (expr.rolls-Cond test first second)) ∙ expr_rolled (ExprKind-F.Cond test first second) s

pub link_is : (op : BinOp) (at : Span) (right : Expr) → link_of (record { op = op; at = at; right = right }) ≡ record { op = op; at = at; right = expr_of right }
link_is op at right = fold_out-Link (Span → ExprSyntax) StepSyntax ExprSyntax LinkSyntax expr_step step_step (λ e. e.kind e.span) (λ l. record { op = l.op; at = l.at; right = l.right }) (record { op = op; at = at; right = right })

pub field_step_is : (field : Name) → step_of (step.Field field) ≡ FieldStep field
field_step_is field = ap step_of (sym (step.rolls-Field field)) ∙ fold-roll-Step (Span → ExprSyntax) StepSyntax ExprSyntax LinkSyntax expr_step step_step (λ e. e.kind e.span) (λ l. record { op = l.op; at = l.at; right = l.right }) (Step-F.Field field)

pub index_step_is : (index : Expr) (brackets : Span) → step_of (step.Index index brackets) ≡ IndexStep (expr_of index) brackets
index_step_is index brackets = ap step_of (sym (step.rolls-Index index brackets)) ∙ fold-roll-Step (Span → ExprSyntax) StepSyntax ExprSyntax LinkSyntax expr_step step_step (λ e. e.kind e.span) (λ l. record { op = l.op; at = l.at; right = l.right }) (Step-F.Index index brackets)

-- initializers

pub one_is : (e : Expr) → init_of (init.One e) ≡ syntax.One (expr_of e)
one_is e = ap init_of (sym (init.rolls-One e)) ∙ fold-roll-InitText InitSyntax init_step (InitText-F.One e)

pub many_is : (inits : List InitText) (s : Span) → init_of (init.Many inits s) ≡ syntax.Many s (inits_of inits)
many_is inits s = ap init_of (sym (init.rolls-Many inits s)) ∙ fold-roll-InitText InitSyntax init_step (InitText-F.Many inits s)

-- statements

-- a statement of this form at this place
abbrev pub stmt_at : StmtKind → Span → StmtSyntax
stmt_at k s = stmt_of (record { kind = k; span = s })

stmt_rolled : (z : StmtKind-F StmtKind Block Stmt) (s : Span) → stmt_at (roll-StmtKind z) s ≡ stmt_step (map-StmtKind StmtKind Block Stmt (Span → StmtSyntax) BlockSyntax StmtSyntax stmt_kind_of block_of stmt_of z) s
stmt_rolled z s = fold_out-Stmt (Span → StmtSyntax) BlockSyntax StmtSyntax stmt_step (λ b. syntax.Braces b.span (stmts_from b.stmts)) (λ s. s.kind s.span) (record { kind = roll-StmtKind z; span = s }) ∙ ap (λ (f : Span → StmtSyntax). f s) (fold-roll-StmtKind (Span → StmtSyntax) BlockSyntax StmtSyntax stmt_step (λ b. syntax.Braces b.span (stmts_from b.stmts)) (λ s. s.kind s.span) z)

pub block_is : (stmts : List Stmt) (s : Span) → block_of (roll-Block (record { stmts = stmts; span = s })) ≡ syntax.Braces s (stmts_of stmts)
block_is stmts s = fold-roll-Block (Span → StmtSyntax) BlockSyntax StmtSyntax stmt_step (λ b. syntax.Braces b.span (stmts_from b.stmts)) (λ s. s.kind s.span) (record { stmts = stmts; span = s })

pub let_is : (name : Name) (value : Expr) (s : Span) → stmt_at (stmt.Let name value) s ≡ syntax.Let s name (expr_of value)
let_is name value s = ap (λ k. stmt_at k s) (sym (stmt.rolls-Let name value)) ∙ stmt_rolled (StmtKind-F.Let name value) s

pub let_call_is : (name : Name) (call : CallText) (s : Span) → stmt_at (stmt.LetCall name call) s ≡ syntax.LetCall s name (call_of call)
let_call_is name call s = ap (λ k. stmt_at k s) (sym (stmt.rolls-LetCall name call)) ∙ stmt_rolled (StmtKind-F.LetCall name call) s

pub alloc_is : (name : Name) (a : AreaText) (i : Option InitText) (s : Span) → stmt_at (stmt.Alloc name a i) s ≡ syntax.Alloc s name (area_of a) (option_map init_of i)
alloc_is name a i s = ap (λ k. stmt_at k s) (sym (stmt.rolls-Alloc name a i)) ∙ stmt_rolled (StmtKind-F.Alloc name a i) s

pub store_is : (target value : Expr) (s : Span) → stmt_at (stmt.Store target value) s ≡ syntax.Store s (expr_of target) (expr_of value)
store_is target value s = ap (λ k. stmt_at k s) (sym (stmt.rolls-Store target value)) ∙ stmt_rolled (StmtKind-F.Store target value) s

pub copy_is : (target source : Expr) (s : Span) → stmt_at (stmt.Copy target source) s ≡ syntax.Copy s (expr_of target) (expr_of source)
copy_is target source s = ap (λ k. stmt_at k s) (sym (stmt.rolls-Copy target source)) ∙ stmt_rolled (StmtKind-F.Copy target source) s

pub call_is : (call : CallText) (s : Span) → stmt_at (stmt.Call call) s ≡ syntax.Call s (call_of call)
call_is call s = ap (λ k. stmt_at k s) (sym (stmt.rolls-Call call)) ∙ stmt_rolled (StmtKind-F.Call call) s

pub if_is : (test : Expr) (first : Block) (s : Span) → stmt_at (stmt.If test first None) s ≡ syntax.If s (expr_of test) (block_of first)
if_is test first s = ap (λ k. stmt_at k s) (sym (stmt.rolls-If test first None)) ∙ stmt_rolled (StmtKind-F.If test first None) s

pub if_else_is : (test : Expr) (first second : Block) (s : Span) → stmt_at (stmt.If test first (Some second)) s ≡ syntax.IfElse s (expr_of test) (block_of first) (block_of second)
if_else_is test first second s = ap (λ k. stmt_at k s) (sym (stmt.rolls-If test first (Some second))) ∙ stmt_rolled (StmtKind-F.If test first (Some second)) s

pub map_is : (name : Name) (length : ℕ) (body : Block) (s : Span) → stmt_at (stmt.Map name length body) s ≡ syntax.Map s name length (block_of body)
map_is name length body s = ap (λ k. stmt_at k s) (sym (stmt.rolls-Map name length body)) ∙ stmt_rolled (StmtKind-F.Map name length body) s

pub upto_is : (name : Name) (length : ℕ) (last : Expr) (body : Block) (s : Span) → stmt_at (stmt.Upto name length last body) s ≡ syntax.Upto s name length (expr_of last) (block_of body)
upto_is name length last body s = ap (λ k. stmt_at k s) (sym (stmt.rolls-Upto name length last body)) ∙ stmt_rolled (StmtKind-F.Upto name length last body) s

pub downto_is : (name : Name) (length : ℕ) (first : Expr) (body : Block) (s : Span) → stmt_at (stmt.Downto name length first body) s ≡ syntax.Downto s name length (expr_of first) (block_of body)
downto_is name length first body s = ap (λ k. stmt_at k s) (sym (stmt.rolls-Downto name length first body)) ∙ stmt_rolled (StmtKind-F.Downto name length first body) s

pub forever_is : (body : Block) (s : Span) → stmt_at (stmt.Forever body) s ≡ syntax.Forever s (block_of body)
forever_is body s = ap (λ k. stmt_at k s) (sym (stmt.rolls-Forever body)) ∙ stmt_rolled (StmtKind-F.Forever body) s

pub break_is : (s : Span) → stmt_at stmt.Break s ≡ syntax.Break s
break_is s = ap (λ k. stmt_at k s) (sym stmt.rolls-Break) ∙ stmt_rolled StmtKind-F.Break s

pub return_is : (value : Option Expr) (s : Span) → stmt_at (stmt.Return value) s ≡ syntax.Return s (option_map expr_of value)
return_is value s = ap (λ k. stmt_at k s) (sym (stmt.rolls-Return value)) ∙ stmt_rolled (StmtKind-F.Return value) s

pub assert_is : (cond : Expr) (s : Span) → stmt_at (stmt.Assert cond) s ≡ syntax.Assert s (expr_of cond)
assert_is cond s = ap (λ k. stmt_at k s) (sym (stmt.rolls-Assert cond)) ∙ stmt_rolled (StmtKind-F.Assert cond) s

pub no_alloc_is : (body : Block) (s : Span) → stmt_at (stmt.NoAlloc body) s ≡ syntax.NoAlloc s (block_of body)
no_alloc_is body s = ap (λ k. stmt_at k s) (sym (stmt.rolls-NoAlloc body)) ∙ stmt_rolled (StmtKind-F.NoAlloc body) s

pub no_break_is : (body : Block) (s : Span) → stmt_at (stmt.NoBreak body) s ≡ syntax.NoBreak s (block_of body)
no_break_is body s = ap (λ k. stmt_at k s) (sym (stmt.rolls-NoBreak body)) ∙ stmt_rolled (StmtKind-F.NoBreak body) s

pub no_return_is : (body : Block) (s : Span) → stmt_at (stmt.NoReturn body) s ≡ syntax.NoReturn s (block_of body)
no_return_is body s = ap (λ k. stmt_at k s) (sym (stmt.rolls-NoReturn body)) ∙ stmt_rolled (StmtKind-F.NoReturn body) s
