-- What an area, a stored type and a statement break: one equation for each form.
use Rattle.std.proofs.Common.{◌≡◌, ℕ, Bool, [], ◌++◌, List, refl, ap, sym, ◌∙◌}
use Rattle.std.specs.Prelude.{Option, Some, None}
use Rattle.ivory_tree.specs.Syntax.{TypeSyntax, TruthType, IntType, IndexType, BitsType, RefType, AreaSyntax, StoredArea, ArrayArea, StructArea, StmtSyntax, Let, LetCall, Alloc, Store, Copy, Call, If, IfElse, Map, Upto, Downto, Forever, Break, Return, Assert, NoAlloc, NoBreak, NoReturn, BlockSyntax}
use Rattle.source_types.specs.Environments.{Earlier}
use Rattle.rule_faults.specs.Contexts.{Context}
use Rattle.rule_faults.specs.Nodes.{Within, AType, AnArea, AStatement, ABlock}
use Rattle.rule_faults.specs.FirstFault.{least_broken}
use Rattle.rule_checker.specs.Rows.{least, all_rows, one_row}
use Rattle.rule_checker.specs.Faults.{either}
use Rattle.rule_checker.proofs.Patterns.{least_rows, least_joined}
use Rattle.control_effects.specs.Falling.{block_falls}
use Rattle.std.specs.Prelude.{◌&&◌}
use Rattle.statement_rules.specs.Areas.{area_rows, held_rows}
use Rattle.statement_rules.specs.Rules.{stmt_rows}

area_rows_are : (e : Earlier) (a : AreaSyntax) → least (all_rows (AnArea e a)) ≡ least (area_rows e a)
area_rows_are e (StoredArea s ty) = refl
area_rows_are e (ArrayArea s n element) = refl
area_rows_are e (StructArea s name) = refl

pub area_breaks : (e : Earlier) (a : AreaSyntax) → least_broken (AnArea e a) ≡ least (area_rows e a)
area_breaks e a = least_rows (AnArea e a) ∙ area_rows_are e a

held_rows_are : (e : Earlier) (t : TypeSyntax) → least (all_rows (AType e [] Within t)) ≡ least (held_rows e t)
held_rows_are e (TruthType s) = refl
held_rows_are e (IntType s kind) = refl
held_rows_are e (IndexType s n) = refl
held_rows_are e (BitsType s name) = refl
held_rows_are e (RefType s constant region area) = refl

pub held_breaks : (e : Earlier) (t : TypeSyntax) → least_broken (AType e [] Within t) ≡ least (held_rows e t)
held_breaks e t = least_rows (AType e [] Within t) ∙ held_rows_are e t

stmt_rows_are : (c : Context) (reached : Bool) (s : StmtSyntax) → least (all_rows (AStatement c reached s)) ≡ least (stmt_rows c reached s)
stmt_rows_are c reached (Let s name value) = refl
stmt_rows_are c reached (LetCall s name call) = refl
stmt_rows_are c reached (Alloc s name area init) = refl
stmt_rows_are c reached (Store s target value) = refl
stmt_rows_are c reached (Copy s target source) = refl
stmt_rows_are c reached (Call s call) = refl
stmt_rows_are c reached (If s test first) = refl
stmt_rows_are c reached (IfElse s test first second) = refl
stmt_rows_are c reached (Map s name n body) = refl
stmt_rows_are c reached (Upto s name n bound body) = refl
stmt_rows_are c reached (Downto s name n bound body) = refl
stmt_rows_are c reached (Forever s body) = refl
stmt_rows_are c reached (Break s) = refl
stmt_rows_are c reached (Return s None) = refl
stmt_rows_are c reached (Return s (Some value)) = refl
stmt_rows_are c reached (Assert s cond) = refl
stmt_rows_are c reached (NoAlloc s body) = refl
stmt_rows_are c reached (NoBreak s body) = refl
stmt_rows_are c reached (NoReturn s body) = refl

pub stmt_breaks : (c : Context) (reached : Bool) (s : StmtSyntax) → least_broken (AStatement c reached s) ≡ least (stmt_rows c reached s)
stmt_breaks c reached s = least_rows (AStatement c reached s) ∙ stmt_rows_are c reached s

pub block_breaks : (with_result : Bool) (b : BlockSyntax) → least_broken (ABlock with_result b) ≡ least (one_row 44 (with_result && block_falls b))
block_breaks with_result b = least_rows (ABlock with_result b)

-- ---- the least of two rows of rules

pub first_rule : (xs ys : List (ℕ × Bool)) (r : ℕ) → Some r ≡ least xs → Some r ≡ least (xs ++ ys)
first_rule xs ys r h = sym (least_joined xs ys ∙ ap (λ (o : Option ℕ). either o (least ys)) (sym h))

pub later_rule : (xs ys : List (ℕ × Bool)) (o : Option ℕ) → None ≡ least xs → o ≡ least ys → o ≡ least (xs ++ ys)
later_rule xs ys o h g = g ∙ sym (least_joined xs ys ∙ ap (λ (p : Option ℕ). either p (least ys)) (sym h))
