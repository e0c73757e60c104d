-- The first fault of a chain and of a postfix, from the first link or step on. A fault of a later operator comes first, since it is the outer one.
use Rattle.std.specs.Prelude.{ℕ, Bool, true, false, not, ◌||◌, if◌then◌else◌, List, [], ◌∷◌, Option, None, option_and_then, option_map}
use Rattle.iv_words.specs.declared.Name.{Name}
use Rattle.iv_words.specs.declared.Span.{Span}
use Rattle.ivory_tree.specs.Places.{expr_span}
use Rattle.ivory_tree.specs.View.{LinkSyntax, StepSyntax, FieldStep, IndexStep, prefix_span, step_span}
use Rattle.area_types.specs.Syntax as types
use Rattle.area_types.specs.Syntax.{ValueType}
use Rattle.source_types.specs.Operators.{is_logic, is_comparison, gives_truth}
use Rattle.source_types.specs.Parts.{length_behind, element_type, field_type}
use Rattle.source_types.specs.Settled.{settled}
use Rattle.rule_faults.specs.Contexts.{Context}
use Rattle.rule_faults.specs.Types.{own_type}
use Rattle.rule_faults.specs.Wants.{Want, Nothing, Wants, wants, part}
use Rattle.rule_faults.specs.ExpressionRows.{expr_row}
use Rattle.rule_faults.specs.FirstFault.{first_of}
use Rattle.rule_checker.specs.Chains.{link_type, step_type}
use Rattle.rule_checker.specs.Faults.{either, at_place}
use Rattle.rule_checker.specs.Rows.{least, node_rule, binary_rows, field_rows, element_rows}

-- ---- postfixes

-- of what these steps follow: what the whole is wanted as, or nothing
abbrev pub step_want : Want → List StepSyntax → Want
step_want want [] = want
step_want want (t ∷ ts) = Nothing

-- at this place, of a field and of an element of what has this type, with the fault within
abbrev pub field_at : Context → Want → (own : Option ValueType) → Name → Span → Option (ℕ × Span) → Option (ℕ × Span)
field_at context want own field s within = at_place (node_rule None want true (option_and_then (λ u. field_type context.earlier u field.text) own) (least (field_rows context.earlier own field.text))) s within

abbrev pub element_at : Want → (own : Option ValueType) → Span → Option (ℕ × Span) → Option (ℕ × Span)
element_at want own s within = at_place (node_rule None want true (option_and_then element_type own) (least (element_rows own))) s within

-- of a step behind what has this type and this fault
abbrev pub step_fault : Context → Want → (own : Option ValueType) → StepSyntax → Span → Option (ℕ × Span) → Option (ℕ × Span)
step_fault context want own (FieldStep field) s fault = field_at context want own field s fault
step_fault context want own (IndexStep index brackets) s fault = element_at want own s (either fault (first_of (expr_row context (wants (option_map types.Ix (option_and_then length_behind own))) index)))

abbrev pub steps_fault : Context → Want → Span → (own : Option ValueType) → Option (ℕ × Span) → List StepSyntax → Option (ℕ × Span)
steps_fault context want s own fault [] = fault
steps_fault context want s own fault (t ∷ ts) = steps_fault context want s (step_type context own t) (step_fault context (step_want want ts) own t (prefix_span s (step_span t) ts) fault) ts

-- ---- chains; `settled` says whether what stands before a link is, and `lead` is what it is wanted as, where the next link does not say

abbrev pub has_links : List LinkSyntax → Bool
has_links [] = false
has_links (l ∷ ls) = true

-- what the links say of an unsettled operand before them
abbrev pub said : Context → Want → List LinkSyntax → Want
said context want [] = want
said context want (l ∷ ls) =
    if is_logic l.op then Wants types.Truth
    else (if settled l.right then wants (own_type context l.right) else (if is_comparison l.op then Nothing else said context want ls))

abbrev pub left_want : Context → (lead : Want) → (done : Bool) → LinkSyntax → Want
left_want context lead done l =
    if is_logic l.op then Wants types.Truth
    else (
    if is_comparison l.op then (if done then Nothing else (if settled l.right then wants (own_type context l.right) else Nothing))
    else (if done then Nothing else (if settled l.right then wants (own_type context l.right) else lead)))

abbrev pub link_settled : Bool → LinkSyntax → Bool
link_settled done l = gives_truth l.op || done || settled l.right

-- of what stands before these links
abbrev pub next_want : Context → Want → (lead : Want) → (done : Bool) → List LinkSyntax → Want
next_want context want lead done [] = want
next_want context want lead done (l ∷ ls) = left_want context lead done l

-- of the right operand, where the operator is wanted as that
abbrev pub right_want : Want → (done : Bool) → (own : Option ValueType) → LinkSyntax → Want
right_want want done own l =
    if is_logic l.op then Wants types.Truth
    else (
    if is_comparison l.op then (if settled l.right then Nothing else (if done then wants own else Nothing))
    else (if settled l.right then Nothing else (if done then wants own else part want)))

-- the type from which an operator takes its own
abbrev pub operand : Context → (lead_type : Option ValueType) → (done : Bool) → (own : Option ValueType) → LinkSyntax → Option ValueType
operand context lead_type done own l = if done || not (settled l.right) then (if done || is_comparison l.op then own else lead_type) else own_type context l.right

-- at this place, of a link behind what has this type, with the fault within
abbrev pub link_at : Context → Want → (lead_type : Option ValueType) → (done : Bool) → (own : Option ValueType) → LinkSyntax → Span → Option (ℕ × Span) → Option (ℕ × Span)
link_at context want lead_type done own l s within =
    at_place (node_rule None want (link_settled done l) (link_type context None done own l)
    (least (binary_rows l.op done (settled l.right) own (own_type context l.right) (operand context lead_type done own l)))) s within

abbrev pub link_fault : Context → Want → (lead_type : Option ValueType) → (done : Bool) → (own : Option ValueType) → LinkSyntax → Span → Option (ℕ × Span) → Option (ℕ × Span)
link_fault context want lead_type done own l s fault = link_at context want lead_type done own l s (either fault (first_of (expr_row context (right_want want done own l) l.right)))

abbrev pub chain_fault : Context → Want → (lead : Want) → (lead_type : Option ValueType) → Span → (done : Bool) → (own : Option ValueType) → Option (ℕ × Span) → List LinkSyntax → Option (ℕ × Span)
chain_fault context want lead lead_type s done own fault [] = fault
chain_fault context want lead lead_type s done own fault (l ∷ ls) =
    chain_fault context want lead lead_type s (link_settled done l) (link_type context None done own l)
    (link_fault context (next_want context want lead (link_settled done l) ls) lead_type done own l (prefix_span s (expr_span l.right) ls) fault) ls
