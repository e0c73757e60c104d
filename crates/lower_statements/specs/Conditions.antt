-- What a procedure requires and ensures, as tests in order; and how it is left.
use Rattle.std.specs.Prelude.{ℕ, Bool, not, if◌then◌else◌, List, [], ◌∷◌, ◌++◌, Some, None}
use Rattle.core_tree.specs.declared.Check.{Check}
use Rattle.core_tree.specs.Syntax.{ExprCore, ContractCore}
use Rattle.c_ast.specs.declared.CType.{CType}
use Rattle.c_ast.specs.Syntax.{Expr, Stmt, Return}
use Rattle.lower_values.specs.Frames.{Frame}
use Rattle.lower_values.specs.Pieces.{Piece, pad, named, inline}
use Rattle.lower_values.specs.Tests.{test}
use Rattle.lower_values.specs.Expressions.{value_of}
use Rattle.lower_statements.specs.Bodies.{Body, nothing, followed_by, with_value}

-- the condition, and the test that it holds
abbrev pub tested : Frame → ExprCore → Check → ℕ → Body
tested f cond check k = with_value (value_of f cond k) (λ e. test f e check ∷ [])

abbrev pub contract_tests : Frame → List ContractCore → ℕ → Body
contract_tests f [] k = nothing k
contract_tests f (c ∷ cs) k = followed_by (tested f c.cond c.check k) (contract_tests f cs)

abbrev pub is_ensured : ContractCore → Bool
is_ensured c = not c.before

abbrev pub selected : (ContractCore → Bool) → List ContractCore → List ContractCore
selected which [] = []
selected which (c ∷ cs) = if which c then c ∷ selected which cs else selected which cs

abbrev pub required : List ContractCore → List ContractCore
required cs = selected (λ c. c.before) cs

abbrev pub ensured : List ContractCore → List ContractCore
ensured cs = selected is_ensured cs

-- ---- returns

-- the tests of what is ensured of this result
abbrev pub ensured_tests : Frame → List ContractCore → (outcome : Expr) → ℕ → Body
ensured_tests f cs outcome k = contract_tests (record f { outcome = outcome }) cs k

-- the result is kept by a name while it is tested
abbrev pub return_tested : Frame → List ContractCore → Piece → Body
return_tested f cs p =
    let b = ensured_tests f cs p.value p.next in
    record { stmts = p.before ++ (b.stmts ++ Return (Some p.value) ∷ []); next = b.next }

abbrev pub return_value : Frame → List ContractCore → CType → Piece → Body
return_value f [] ty p = with_value (inline p) (λ e. Return (Some e) ∷ [])
return_value f (c ∷ cs) ty p = return_tested f (c ∷ cs) (named ty (inline p))

abbrev pub return_nothing : Frame → List ContractCore → ℕ → Body
return_nothing f [] k = record { stmts = Return None ∷ []; next = k }
return_nothing f (c ∷ cs) k =
    let b = contract_tests f (c ∷ cs) k in
    record { stmts = pad ∷ (b.stmts ++ Return None ∷ []); next = b.next }
