-- What the links of a chain and the steps of a postfix make of what stands before them, from the first on.
use Rattle.std.specs.Prelude.{Bool, true, false, not, ◌||◌, if◌then◌else◌, List, [], ◌∷◌, Option, Some, None, option_and_then}
use Rattle.ivory_tree.specs.Syntax.{ExprSyntax}
use Rattle.ivory_tree.specs.View.{LinkSyntax, StepSyntax, FieldStep, IndexStep}
use Rattle.area_types.specs.Syntax as types
use Rattle.area_types.specs.Syntax.{ValueType}
use Rattle.source_types.specs.Operators.{gives_truth}
use Rattle.source_types.specs.Parts.{element_type, field_type}
use Rattle.source_types.specs.Settled.{settled}
use Rattle.rule_faults.specs.Contexts.{Context}
use Rattle.rule_faults.specs.Types.{type_of}

-- whether a chain is settled, where what stands before these links is or is not
abbrev pub chain_settled : Bool → List LinkSyntax → Bool
chain_settled first [] = first
chain_settled first (l ∷ ls) = chain_settled (gives_truth l.op || first || settled l.right) ls

abbrev pub has_steps : List StepSyntax → Bool
has_steps [] = false
has_steps (t ∷ ts) = true

-- an operand with a step is settled
abbrev pub postfix_settled : Bool → List StepSyntax → Bool
postfix_settled base ts = has_steps ts || base

-- the type of an operator, where its left operand is settled or not and has that type
abbrev pub link_type : Context → Option ValueType → Bool → Option ValueType → LinkSyntax → Option ValueType
link_type context wanted first t l = if gives_truth l.op then Some types.Truth else (if first || not (settled l.right) then t else type_of context wanted l.right)

abbrev pub chain_type : Context → Option ValueType → Bool → Option ValueType → List LinkSyntax → Option ValueType
chain_type context wanted first t [] = t
chain_type context wanted first t (l ∷ ls) = chain_type context wanted (gives_truth l.op || first || settled l.right) (link_type context wanted first t l) ls

-- the type of a part of what has that type
abbrev pub step_type : Context → Option ValueType → StepSyntax → Option ValueType
step_type context t (FieldStep field) = option_and_then (λ u. field_type context.earlier u field.text) t
step_type context t (IndexStep index brackets) = option_and_then element_type t

abbrev pub steps_type : Context → Option ValueType → List StepSyntax → Option ValueType
steps_type context t [] = t
steps_type context t (x ∷ xs) = steps_type context (step_type context t x) xs

-- nothing is wanted of an operand with a step
abbrev pub postfix_type : Context → Option ValueType → ExprSyntax → List StepSyntax → Option ValueType
postfix_type context wanted base ts = if has_steps ts then steps_type context (type_of context None base) ts else type_of context wanted base
