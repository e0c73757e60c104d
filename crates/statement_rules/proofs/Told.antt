-- The first fault of an area, a stored type, a statement and a block, from its rule and the fault within it.
use Rattle.std.proofs.Common.{◌≡◌, ℕ, ◌+◌, ◌<◌, Bool, true, false, List, [], ◌∷◌, ◌++◌, length, get_or, drop, drop-cons, add-one, cond, refl, ap, sym, ◌∙◌}
use Rattle.std.specs.Prelude.{Option, Some, None, ◌&&◌}
use Rattle.iv_words.specs.declared.Span.{Span}
use Rattle.ivory_tree.specs.Syntax.{TypeSyntax, TruthType, IntType, IndexType, BitsType, RefType, AreaSyntax, StoredArea, ArrayArea, StructArea, StmtSyntax, Let, LetCall, Alloc, Store, Copy, Call, If, IfElse, Map, Upto, Downto, Forever, Break, Return, Assert, NoAlloc, NoBreak, NoReturn, BlockSyntax, Braces, StmtsSyntax, MoreStmts}
use Rattle.ivory_tree.specs.Places.{type_span, area_span, stmt_span, block_span}
use Rattle.ivory_tree.specs.View.{type_of, area_of, stmt_step, stmt_of, block_of, stmts_from, stmts_of}
use Rattle.ivory_tree.specs.declared.stmt.Block.{Block, out-Block, fold_out-Block}
use Rattle.ivory_tree.specs.declared.stmt.Stmt.{Stmt}
use Rattle.ivory_tree.specs.declared.types.AreaText.{AreaText}
use Rattle.ivory_tree.specs.declared.types.TypeText.{TypeText}
use Rattle.ivory_tree.proofs.Places.{type_place, area_place, stmt_place, block_place}
use Rattle.area_types.specs.Syntax as types
use Rattle.alloc_effects.specs.declared.allowed.Narrowing.TheVariants as narrowing
use Rattle.control_effects.specs.Falling.{stmt_falls, block_falls}
use Rattle.source_types.specs.Environments.{Earlier}
use Rattle.source_types.specs.Written.{index_type, area_in}
use Rattle.rule_faults.specs.Contexts.{Context}
use Rattle.rule_faults.specs.Wants.{Nothing, Wants, wants, of_stored}
use Rattle.rule_faults.specs.Nodes.{Node, Within, AType, AnArea, AStatement, ABlock}
use Rattle.rule_faults.specs.ExpressionRows.{type_row, area_row, expr_row, call_row}
use Rattle.rule_faults.specs.StatementRows.{in_loop, in_counted, without, after_stmt, alloc_row, value_row, stmt_row, block_row, stmts_row}
use Rattle.rule_faults.specs.FirstFault.{first_of}
use Rattle.rule_checker.specs.Faults.{either, at_place}
use Rattle.rule_checker.specs.Rows.{least, one_row}
use Rattle.rule_checker.proofs.Patterns.{told, first_joined, least_joined}
use Rattle.statement_rules.specs.Areas.{area_rows, held_rows, within_area, within_type}
use Rattle.statement_rules.specs.Rules.{form_rows, reached_rows, stmt_rows}
use Rattle.statement_rules.specs.Within as within
use Rattle.statement_rules.proofs.Rows.{area_breaks, held_breaks, stmt_breaks, block_breaks}

pub area_told : (e : Earlier) (a : AreaSyntax) → first_of (area_row e a) ≡ at_place (least (area_rows e a)) (area_span a) (first_of (within_area e a))
area_told e (StoredArea s ty) = told (AnArea e (StoredArea s ty)) (type_row e [] Within ty) (least (area_rows e (StoredArea s ty))) (first_of (type_row e [] Within ty)) (area_breaks e (StoredArea s ty)) refl
area_told e (ArrayArea s n element) = told (AnArea e (ArrayArea s n element)) (area_row e element) (least (area_rows e (ArrayArea s n element))) (first_of (area_row e element)) (area_breaks e (ArrayArea s n element)) refl
area_told e (StructArea s name) = told (AnArea e (StructArea s name)) [] (least (area_rows e (StructArea s name))) None (area_breaks e (StructArea s name)) refl

pub held_told : (e : Earlier) (t : TypeSyntax) → first_of (type_row e [] Within t) ≡ at_place (least (held_rows e t)) (type_span t) (first_of (within_type e t))
held_told e (TruthType s) = told (AType e [] Within (TruthType s)) [] (least (held_rows e (TruthType s))) None (held_breaks e (TruthType s)) refl
held_told e (IntType s kind) = told (AType e [] Within (IntType s kind)) [] (least (held_rows e (IntType s kind))) None (held_breaks e (IntType s kind)) refl
held_told e (IndexType s n) = told (AType e [] Within (IndexType s n)) [] (least (held_rows e (IndexType s n))) None (held_breaks e (IndexType s n)) refl
held_told e (BitsType s name) = told (AType e [] Within (BitsType s name)) [] (least (held_rows e (BitsType s name))) None (held_breaks e (BitsType s name)) refl
held_told e (RefType s constant region area) =
    told (AType e [] Within (RefType s constant region area)) (area_row e area) (least (held_rows e (RefType s constant region area))) (first_of (area_row e area)) (held_breaks e (RefType s constant region area)) refl

-- of a statement whose parts have these nodes and this fault
stmt_with : (c : Context) (reached : Bool) (s : StmtSyntax) (parts : List Node) (fault : Option (ℕ × Span)) → first_of parts ≡ fault → first_of (AStatement c reached s ∷ parts) ≡ at_place (least (stmt_rows c reached s)) (stmt_span s) fault
stmt_with c reached s parts fault h = told (AStatement c reached s) parts (least (stmt_rows c reached s)) fault (stmt_breaks c reached s) h

no_more : (o : Option (ℕ × Span)) → o ≡ either o None
no_more None = refl
no_more (Some x) = refl

pub stmt_told : (c : Context) (reached : Bool) (s : StmtSyntax) → first_of (stmt_row c reached s) ≡ at_place (least (stmt_rows c reached s)) (stmt_span s) (within.within_stmt c s)
stmt_told c reached (Let s name value) = stmt_with c reached (Let s name value) (expr_row c Nothing value) (first_of (expr_row c Nothing value)) refl
stmt_told c reached (LetCall s name call) = stmt_with c reached (LetCall s name call) (call_row c call) (first_of (call_row c call)) refl
stmt_told c reached (Alloc s name area init) =
    stmt_with c reached (Alloc s name area init) (area_row c.earlier area ++ alloc_row c (area_in c.earlier area) init) (within.alloc_fault c area init) (first_joined (area_row c.earlier area) (alloc_row c (area_in c.earlier area) init))
stmt_told c reached (Store s target value) =
    stmt_with c reached (Store s target value) (expr_row c Nothing target ++ expr_row c (of_stored c target) value) (within.store_fault c target value) (first_joined (expr_row c Nothing target) (expr_row c (of_stored c target) value))
stmt_told c reached (Copy s target source) =
    stmt_with c reached (Copy s target source) (expr_row c Nothing target ++ expr_row c Nothing source) (within.copy_fault c target source) (first_joined (expr_row c Nothing target) (expr_row c Nothing source))
stmt_told c reached (Call s call) = stmt_with c reached (Call s call) (call_row c call) (first_of (call_row c call)) refl
stmt_told c reached (If s test first) =
    stmt_with c reached (If s test first) (expr_row c (Wants types.Truth) test ++ block_row c false first) (either (within.test_fault c test) (either (within.inner_fault c first) None))
    (first_joined (expr_row c (Wants types.Truth) test) (block_row c false first) ∙ ap (either (within.test_fault c test)) (no_more (within.inner_fault c first)))
stmt_told c reached (IfElse s test first second) =
    stmt_with c reached (IfElse s test first second) (expr_row c (Wants types.Truth) test ++ (block_row c false first ++ block_row c false second))
    (either (within.test_fault c test) (either (within.inner_fault c first) (within.inner_fault c second)))
    (first_joined (expr_row c (Wants types.Truth) test) (block_row c false first ++ block_row c false second) ∙ ap (either (within.test_fault c test)) (first_joined (block_row c false first) (block_row c false second)))
stmt_told c reached (Map s name n body) = stmt_with c reached (Map s name n body) (block_row (in_counted c name n) false body) (within.inner_fault (in_counted c name n) body) refl
stmt_told c reached (Upto s name n bound body) =
    stmt_with c reached (Upto s name n bound body) (expr_row c (wants (index_type n)) bound ++ block_row (in_counted c name n) false body) (either (within.bound_fault c n bound) (within.inner_fault (in_counted c name n) body))
    (first_joined (expr_row c (wants (index_type n)) bound) (block_row (in_counted c name n) false body))
stmt_told c reached (Downto s name n bound body) =
    stmt_with c reached (Downto s name n bound body) (expr_row c (wants (index_type n)) bound ++ block_row (in_counted c name n) false body) (either (within.bound_fault c n bound) (within.inner_fault (in_counted c name n) body))
    (first_joined (expr_row c (wants (index_type n)) bound) (block_row (in_counted c name n) false body))
stmt_told c reached (Forever s body) = stmt_with c reached (Forever s body) (block_row (in_loop c) false body) (within.inner_fault (in_loop c) body) refl
stmt_told c reached (Break s) = stmt_with c reached (Break s) [] None refl
stmt_told c reached (Return s value) = stmt_with c reached (Return s value) (value_row c value) (first_of (value_row c value)) refl
stmt_told c reached (Assert s cond) = stmt_with c reached (Assert s cond) (expr_row c (Wants types.Truth) cond) (within.test_fault c cond) refl
stmt_told c reached (NoAlloc s body) = stmt_with c reached (NoAlloc s body) (block_row (without c narrowing.NoAlloc) false body) (within.inner_fault (without c narrowing.NoAlloc) body) refl
stmt_told c reached (NoBreak s body) = stmt_with c reached (NoBreak s body) (block_row (without c narrowing.NoBreak) false body) (within.inner_fault (without c narrowing.NoBreak) body) refl
stmt_told c reached (NoReturn s body) = stmt_with c reached (NoReturn s body) (block_row (without c narrowing.NoReturn) false body) (within.inner_fault (without c narrowing.NoReturn) body) refl

-- a block within a statement breaks no rule itself
inner_braces : (c : Context) (s : Span) (stmts : StmtsSyntax) → within.inner_fault c (Braces s stmts) ≡ first_of (stmts_row c true stmts)
inner_braces c s stmts = told (ABlock false (Braces s stmts)) (stmts_row c true stmts) None (first_of (stmts_row c true stmts)) (block_breaks false (Braces s stmts)) refl

pub block_told : (c : Context) (with_result : Bool) (b : BlockSyntax) → first_of (block_row c with_result b) ≡ at_place (least (one_row 44 (with_result && block_falls b))) (block_span b) (within.inner_fault c b)
block_told c with_result (Braces s stmts) =
    told (ABlock with_result (Braces s stmts)) (stmts_row c true stmts) (least (one_row 44 (with_result && block_falls (Braces s stmts)))) (within.inner_fault c (Braces s stmts)) (block_breaks with_result (Braces s stmts)) (sym (inner_braces c s stmts))

-- the form's rule, else that of an unreached statement
pub form_then : (c : Context) (reached : Bool) (s : StmtSyntax) → least (stmt_rows c reached s) ≡ either (least (form_rows c s)) (least (reached_rows reached))
form_then c reached s = least_joined (form_rows c s) (reached_rows reached)

-- ---- rows of statements

next_of : (stmts : List Stmt) (i : ℕ) (s : Stmt) → i < length stmts → s ≡ get_or stmts i s → stmts_of (drop i stmts) ≡ MoreStmts (stmt_of s) (stmts_of (drop (i + 1) stmts))
next_of stmts i s h e =
    let cut : drop i stmts ≡ get_or stmts i s ∷ drop (i + 1) stmts = rw add-one (drop-cons stmts i s h) in
    ap stmts_of cut ∙ ap (λ x. MoreStmts (stmt_of x) (stmts_of (drop (i + 1) stmts))) (sym e)

-- the statement at i, and those after it
pub next_stmt : (c : Context) (reached : Bool) (stmts : List Stmt) (i : ℕ) (s : Stmt) → i < length stmts → s ≡ get_or stmts i s
    → first_of (stmts_row c reached (stmts_of (drop i stmts))) ≡ either (first_of (stmt_row c reached (stmt_of s))) (first_of (stmts_row (after_stmt c (stmt_of s)) (reached && stmt_falls (stmt_of s)) (stmts_of (drop (i + 1) stmts))))
next_stmt c reached stmts i s h e =
    ap (λ (r : StmtsSyntax). first_of (stmts_row c reached r)) (next_of stmts i s h e)
    ∙ first_joined (stmt_row c reached (stmt_of s)) (stmts_row (after_stmt c (stmt_of s)) (reached && stmt_falls (stmt_of s)) (stmts_of (drop (i + 1) stmts)))

-- ---- the trees of the code, at their places

pub area_at : (e : Earlier) (a : AreaText) → first_of (area_row e (area_of a)) ≡ at_place (least (area_rows e (area_of a))) a.span (first_of (within_area e (area_of a)))
area_at e a = area_told e (area_of a) ∙ ap (λ (s : Span). at_place (least (area_rows e (area_of a))) s (first_of (within_area e (area_of a)))) (area_place a)

pub held_at : (e : Earlier) (t : TypeText) → first_of (type_row e [] Within (type_of t)) ≡ at_place (least (held_rows e (type_of t))) t.span (first_of (within_type e (type_of t)))
held_at e t = held_told e (type_of t) ∙ ap (λ (s : Span). at_place (least (held_rows e (type_of t))) s (first_of (within_type e (type_of t)))) (type_place t)

pub stmt_at : (c : Context) (reached : Bool) (s : Stmt) → first_of (stmt_row c reached (stmt_of s)) ≡ at_place (least (stmt_rows c reached (stmt_of s))) s.span (within.within_stmt c (stmt_of s))
stmt_at c reached s = stmt_told c reached (stmt_of s) ∙ ap (λ (p : Span). at_place (least (stmt_rows c reached (stmt_of s))) p (within.within_stmt c (stmt_of s))) (stmt_place s)

pub block_at : (c : Context) (with_result : Bool) (b : Block) → first_of (block_row c with_result (block_of b)) ≡ at_place (least (one_row 44 (with_result && block_falls (block_of b)))) (out-Block b).span (within.inner_fault c (block_of b))
block_at c with_result b = block_told c with_result (block_of b) ∙ ap (λ (p : Span). at_place (least (one_row 44 (with_result && block_falls (block_of b)))) p (within.inner_fault c (block_of b))) (block_place b)

block_view : (b : Block) → block_of b ≡ Braces (out-Block b).span (stmts_of (out-Block b).stmts)
block_view b = fold_out-Block (Span → StmtSyntax) BlockSyntax StmtSyntax stmt_step (λ b. Braces b.span (stmts_from b.stmts)) (λ s. s.kind s.span) b

pub inner_at : (c : Context) (b : Block) → within.inner_fault c (block_of b) ≡ first_of (stmts_row c true (stmts_of (out-Block b).stmts))
inner_at c b = ap (within.inner_fault c) (block_view b) ∙ inner_braces c (out-Block b).span (stmts_of (out-Block b).stmts)
