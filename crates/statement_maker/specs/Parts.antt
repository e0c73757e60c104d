-- Parts of statements as the text has them: an `alloc`, a store, and statements before others.
use Rattle.std.specs.Prelude.{ℕ, List, [], ◌∷◌, Option}
use Rattle.iv_words.specs.declared.Span.{Span}
use Rattle.ivory_tree.specs.Syntax.{ExprSyntax, AreaSyntax, InitSyntax, StmtSyntax, BlockSyntax}
use Rattle.area_types.specs.Syntax as types
use Rattle.area_types.specs.Syntax.{Area}
use Rattle.alloc_effects.specs.declared.allowed.Allowed.{Allowed}
use Rattle.core_tree.specs.Syntax as core
use Rattle.core_tree.specs.Syntax.{StmtCore, StmtsCore, type_of}
use Rattle.source_types.specs.Parts.{stored_type}
use Rattle.source_types.specs.Written.{area_in}
use Rattle.typing_rules.specs.Environments.{Env, next, after_block}
use Rattle.typing_rules.specs.ExpressionCores.{any_type, type_or, core_of}
use Rattle.typing_rules.specs.StatementCores.{area_or, maybe_init_core, stmt_core, stmt_after, block_last}
use Rattle.check_numbers.specs.Numbered.{expr_after}
use Rattle.check_numbers.specs.NumberedParts.{maybe_init_from, maybe_init_after}

abbrev pub area_named : Env → AreaSyntax → Area
area_named env text = area_or (area_in env.earlier text)

-- `alloc` of that area, with its checks numbered from n on
abbrev pub alloc_from : ℕ → Env → Area → Option InitSyntax → StmtCore
alloc_from n env area init = core.Alloc (next env) area (maybe_init_from n (maybe_init_core env area init))

abbrev pub alloc_after : ℕ → Env → Area → Option InitSyntax → ℕ
alloc_after n env area init = maybe_init_after n (maybe_init_core env area init)

-- the value is wanted as what the target holds
abbrev pub store_core : Env → (target value : ExprSyntax) → StmtCore
store_core env target value = core.Store (core_of env any_type target) (core_of env (type_or (stored_type (type_of (core_of env any_type target)))) value)

-- the number behind a test
abbrev pub test_after : ℕ → Env → ExprSyntax → ℕ
test_after n env test = expr_after n (core_of env types.Truth test)

-- in a block in which this is allowed
abbrev pub allowing : Env → Allowed → Env
allowing env allowed = record env { allowed = allowed }

-- behind a block, at whose begin this is known
abbrev pub behind_block : (env begin : Env) → BlockSyntax → Env
behind_block env begin body = after_block env (block_last begin body)

-- the core of a form and what is known behind it, wherever it stands
abbrev nowhere : Span
nowhere = record { start = 0; end = 0 }

abbrev pub form_core : Env → (Span → StmtSyntax) → StmtCore
form_core env form = stmt_core env (form nowhere)

abbrev pub form_behind : Env → (Span → StmtSyntax) → Env
form_behind env form = stmt_after env (form nowhere)

-- these statements, and then the rest
abbrev pub followed : List StmtCore → StmtsCore → StmtsCore
followed [] rest = rest
followed (s ∷ ss) rest = core.MoreStmts s (followed ss rest)
